-- A node's words, written one entry after the other: the entries, then zeros in the places after them.
use mathlib.Core.Path.{◌≡◌, refl, sym, ap, ap₂, ◌∙◌}
use mathlib.Core.List.{List, [], ◌∷◌, ◌++◌, map, map-append}
use Prim.Native.Nat.{ℕ, suc, ◌+◌, ◌*◌, ◌-◌, ◌≤◌, ◌<◌}
use native.Mathlib.Numerals.{add-one}
use native.Mathlib.Omega.{arith}
use lib.ListN.{length, get_or, set, take}
use Rattle.std.proofs.lemmas.List.{take_all}
use lib.Seq.{sets, take-suc, length-take-le}
use lib.IntN.{ℤ, pos}
use Rattle.rules.specs.declared.Edition.{Edition}
use Rattle.rules.specs.declared.Edition.TheVariants.{One, Two}
use Rattle.rules.specs.declared.Entry.{Entry}
use Rattle.rules.specs.Lists.{joined}
use Rattle.rules.specs.Pool.{node, no_entry}
use Rattle.rules.specs.Numbers.{most}
use Rattle.rules.specs.Layout.{entry_size, slot_head, slot_size, entry_words, node_words}
use Rattle.layout_laws.proofs.Runs.{zeros, joined_snoc, length_parts, sets_more}
use Rattle.layout_laws.proofs.Written.{entry_size_lem, place_words, padded_is}

-- where the words of the next entry begin, and how many words no entry has
pub place_next : (e : Edition) (i : ℕ) → entry_size e * i + entry_size e ≡ entry_size e * (i + 1)
place_next One i = omega arith
place_next Two i = omega arith

pub places_left : (e : Edition) (n : ℕ) → n ≤ most → slot_size e - (slot_head + entry_size e * n) ≡ entry_size e * (most - n)
places_left One n h = omega arith
places_left Two n h = omega arith

module _ (e : Edition) (es : List Entry) where
  -- the words of the first i entries
  abbrev pub front : ℕ → List ℤ
  front i = joined (map (entry_words e) (take i es))

  pub front_size : (i : ℕ) → i ≤ length es → length (front i) ≡ entry_size e * i
  front_size i h =
      length_parts (entry_size e) (entry_words e) (entry_size_lem e) (take i es)
      ∙ ap (λ (n : ℕ). entry_size e * n) (length-take-le i es h)

  pub front_none : (w : List ℤ) (a : ℕ) → w ≡ sets w a (front 0)
  unfolding joined
  front_none w a = refl

  front_next : (i : ℕ) → i < length es → front i ++ entry_words e (get_or es i no_entry) ≡ front (i + 1)
  front_next i h =
      let x = get_or es i no_entry in
      sym (joined_snoc (map (entry_words e) (take i es)) (entry_words e x))
      ∙ ap joined (sym (map-append (entry_words e) (take i es) (x ∷ [])))
      ∙ ap (λ (xs : List Entry). joined (map (entry_words e) xs)) (sym (take-suc es i no_entry h))
      ∙ ap front (sym (add-one i))

  -- one entry more
  pub front_more : (w : List ℤ) (a i : ℕ) → i < length es
      → sets (sets w a (front i)) (a + entry_size e * i) (entry_words e (get_or es i no_entry)) ≡ sets w a (front (i + 1))
  front_more w a i h =
      let x = entry_words e (get_or es i no_entry) in
      ap (λ (k : ℕ). sets (sets w a (front i)) (a + k) x) (sym (front_size i (omega arith)))
      ∙ sets_more (front i) x w a
      ∙ ap (sets w a) (front_next i h)

  -- all of them, and zeros
  module _ (few : length es ≤ most) where
    abbrev rest : List ℤ
    rest = zeros (entry_size e * (most - length es))

    front_all : front (length es) ++ rest ≡ place_words e es
    front_all =
        ap (λ (xs : List Entry). joined (map (entry_words e) xs) ++ rest) (take_all (length es) es (omega arith))
        ∙ sym (padded_is e es few)

    -- .. after the level and the count
    pub whole : (w : List ℤ) (a level : ℕ)
        → sets (sets (set (set w a (pos level)) (a + 1) (pos (length es))) (a + slot_head) (front (length es)))
        (a + slot_head + entry_size e * length es) rest ≡ sets w a (node_words e (node level es))
    unfolding node_words
    whole w a level =
        let head = set (set w a (pos level)) (a + 1) (pos (length es)) in
        let n = length es in
        ap (λ (k : ℕ). sets (sets head (a + slot_head) (front n)) (a + slot_head + k) rest) (sym (front_size n (omega arith)))
        ∙ sets_more (front n) rest head (a + slot_head)
        ∙ ap (sets head (a + slot_head)) front_all
        ∙ ap₂ (λ (x y : ℕ). sets (set (set w a (pos level)) x (pos n)) y (place_words e es)) (add-one a) (two a)
      where
        two : (b : ℕ) → b + slot_head ≡ suc (suc b)
        two b = omega arith
