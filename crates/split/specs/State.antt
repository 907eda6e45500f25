-- How the structs of `split` represent the places and groups of document 01. A reader of
-- `quadratic_groups` needs none of this: the contract of `split_nine` speaks of the groups
-- themselves.
use Rattle.std.specs.Prelude.{◌≡◌, Bool, true, false, List, map, ℕ, ◌+◌, ◌≤◌, ◌<◌, length, take, get_or, pos}
use Rattle.std.proofs.Math.IntN.{sub_ℕ}
use Rattle.rules.specs.declared.Rect.{Rect}
use Rattle.rules.specs.Geometry.{valid, enlargement}
use Rattle.rules.specs.Choose.{rect_from}
use Rattle.rules.specs.Split as S
use Rattle.rules_laws.proofs.Places.{Each}
use Rattle.split.specs.declared.measured.Measured.{Measured}
use Rattle.split.specs.declared.left.Left.{Left}
use Rattle.split.specs.declared.seeds.Seeds.{Seeds}
use Rattle.split.specs.declared.growing.Group.{Group}
use Rattle.split.specs.declared.growing.Growing.{Growing}
use Rattle.split.specs.declared.Joining.{Joining}
use Rattle.split.specs.declared.Joining.TheVariants.{One, Two}
use Rattle.split.specs.declared.Grouping.{Grouping}

-- nine valid rectangles
pub record AllValid (rs : List Rect) : Type 0 where
  pub nine : length rs ≡ 9
  pub ok : (i : ℕ) → i < 9 → valid (rect_from rs i) ≡ true

abbrev pub rects_of : List Measured → List Rect
rects_of ms = map (λ m. m.rect) ms

-- ---- seeds

abbrev pub seeds_of : Seeds → S.Seeds
seeds_of p = S.seeds p.first p.second

-- two of the nine in order, and the key is their d
pub record Wasting (rs : List Rect) (p : Seeds) (k : ℕ) : Type 0 where
  pub order : p.first < p.second
  pub inside : p.second < 9
  pub key : sub_ℕ k 8000000000000000000 ≡ S.waste_of rs (seeds_of p)

-- PS2 of two pairs
abbrev pub wastes_more : List Rect → Seeds → Seeds → Bool
wastes_more rs p q = S.wastes_more rs (seeds_of p) (seeds_of q)

-- ---- the places left

abbrev pub standing : Left → List ℕ
standing l = take l.count l.places

-- the enlargements of a cover for some places, each kept at its place
abbrev pub Grows : List Rect → Rect → List ℕ → List ℕ → Type 0
Grows rs cover places grows = Each (λ k. pos (get_or grows k 0) ≡ enlargement cover (rect_from rs k)) places

-- the key is the preference between the covers a and b of the place at position i
pub record Preferring (rs : List Rect) (a b : Rect) (left : Left) (i k : ℕ) : Type 0 where
  pub there : i < left.count
  pub key : pos k ≡ S.preference a b (rect_from rs (get_or (standing left) i 0))

-- PN2 of the places at two positions
abbrev pub prefers : List Rect → Rect → Rect → List ℕ → ℕ → ℕ → Bool
prefers rs a b places i j = S.prefers_more a b (rect_from rs (get_or places i 0)) (rect_from rs (get_or places j 0))

-- a position among the places left, and what is kept of both groups is right
pub record Choosing (rs : List Rect) (one two : Growing) (left : Left) (i : ℕ) : Type 0 where
  pub there : i < left.count
  pub grows_one : Grows rs one.cover.rect (standing left) one.grows
  pub grows_two : Grows rs two.cover.rect (standing left) two.grows

-- ---- groups

abbrev pub joined : Group → List ℕ
joined g = take g.count g.places

-- the first places of the array are the group, all of the nine, with zeros after them; and r is its
-- cover
pub record GroupOk (rs : List Rect) (g : Group) (r : Rect) : Type 0 where
  pub some : 1 ≤ g.count
  pub inside : (k : ℕ) → k < g.count → get_or g.places k 0 < 9
  pub after : (k : ℕ) → g.count ≤ k → get_or g.places k 0 ≡ 0
  pub cover : r ≡ S.cover_group rs (joined g)

abbrev pub groups_of : Growing → Growing → Left → S.Groups
groups_of one two left = record { one = joined one.group; two = joined two.group; left = standing left }

-- all nine are in a group or left, each group can still reach three, and what is measured is right
pub record Assigned (rs : List Rect) (one two : Growing) (left : Left) : Type 0 where
  pub all : one.group.count + two.group.count + left.count ≡ 9
  pub fill_one : 3 ≤ one.group.count + left.count
  pub fill_two : 3 ≤ two.group.count + left.count
  pub first : GroupOk rs one.group one.cover.rect
  pub second : GroupOk rs two.group two.cover.rect
  pub grows_one : Grows rs one.cover.rect (standing left) one.grows
  pub grows_two : Grows rs two.cover.rect (standing left) two.grows

abbrev pub position : Joining → ℕ
position (One at) = at
position (Two at) = at

abbrev pub joins_two : Joining → Bool
joins_two (One at) = false
joins_two (Two at) = true

-- the rules for the next joining
pub record Next (rs : List Rect) (x y : Growing) (left : Left) (r : Joining) : Type 0 where
  pub there : position r < left.count
  pub one : x.group.count + left.count ≡ 3 → r ≡ One 0
  pub two : (x.group.count + left.count ≡ 3 → ⊥) → y.group.count + left.count ≡ 3 → r ≡ Two 0
  pub place : (x.group.count + left.count ≡ 3 → ⊥) → (y.group.count + left.count ≡ 3 → ⊥)
      → get_or (standing left) (position r) 0 ≡ S.most_preferring rs x.cover.rect y.cover.rect (standing left)
  pub group : (x.group.count + left.count ≡ 3 → ⊥) → (y.group.count + left.count ≡ 3 → ⊥)
      → joins_two r ≡ S.second_first x.cover.rect y.cover.rect x.group.count y.group.count (rect_from rs (get_or (standing left) (position r) 0))

-- what the groups are when all have joined
unfoldable pub ends : List Rect → ℕ → S.Groups → S.Groups
ends rs n g = S.distribute (S.pick_next rs) (S.joins_two rs) n g

-- what a caller may rely on beside the groups: every place has joined one, there are 3 to 6 in
-- each, all of them places of the nine, zeros after them, and the cover of group 2
pub record GroupsWhole (rs : List Rect) (t : Grouping) : Type 0 where
  pub all : t.one.count + t.two.count ≡ 9
  pub ones : 3 ≤ t.one.count
  pub twos : 3 ≤ t.two.count
  pub one9 : length t.one.places ≡ 9
  pub two9 : length t.two.places ≡ 9
  pub in_one : (k : ℕ) → k < t.one.count → get_or t.one.places k 0 < 9
  pub in_two : (k : ℕ) → k < t.two.count → get_or t.two.places k 0 < 9
  pub after_one : (k : ℕ) → t.one.count ≤ k → get_or t.one.places k 0 ≡ 0
  pub after_two : (k : ℕ) → t.two.count ≤ k → get_or t.two.places k 0 ≡ 0
  pub coverTwo : t.coverTwo ≡ S.cover_group rs (joined t.two)
