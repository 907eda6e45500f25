-- The words of a blank pool: zeros, with 1 for the edition, the root, the height and the level of slot 1.
use mathlib.Core.Path.{◌≡◌, refl, sym, ap, ap₂, ◌∙◌}
use mathlib.Core.Bool.{true, false}
use mathlib.Core.List.{List, [], ◌++◌, map}
use Prim.Native.Nat.{ℕ, zero, suc, ◌+◌, ◌*◌, ◌-◌}
use native.Mathlib.Nat.{mul-zero, mul-suc}
use native.Mathlib.Omega.{arith}
use lib.ListN.{length, set, replicate, replicate-append-replicate}
use lib.IntN.{ℤ, pos}
use Rattle.rules.specs.declared.Edition.{Edition}
use Rattle.rules.specs.declared.Edition.TheVariants.{One, Two}
use Rattle.rules.specs.Lists.{joined}
use Rattle.rules.specs.Owners.{edition_number}
use Rattle.rules.specs.Pool.{node, free_node, blank_pool}
use Rattle.rules.specs.Layout.{head_size, edition_place, root_place, height_place, slot_size, slots_fitting, valid_size, padded, node_words, head_words, words, Blanked, blank}
use Rattle.layout_laws.proofs.Parts.{sized}
use Rattle.layout_laws.proofs.Runs.{zeros}

-- a free slot's words are zero
pub free_words : (e : Edition) → node_words e free_node ≡ zeros (slot_size e)
unfolding node_words padded joined
free_words One = refl
free_words Two = refl

all_free : (e : Edition) (k : ℕ) → joined (map (node_words e) (replicate k free_node)) ≡ zeros (slot_size e * k)
unfolding joined
all_free e zero = ap zeros (sym (mul-zero (slot_size e)))
all_free e (suc k) =
    let q : slot_size e + slot_size e * k ≡ slot_size e * suc k = omega (arith, mul-suc (slot_size e) k) in
    ap₂ ◌++◌ (free_words e) (all_free e k) ∙ replicate-append-replicate (slot_size e) (slot_size e * k) (pos 0) ∙ ap zeros q

-- the edition, and three words that are 1: the root, the height, and the level of slot 1
abbrev pub mark : Edition → List ℤ → List ℤ
mark e l = set (set (set (set l edition_place (pos (edition_number e))) root_place (pos 1)) height_place (pos 1)) head_size (pos 1)

abbrev pub marked : Edition → ℕ → List ℤ
marked e n = mark e (zeros n)

-- in zeros
mark_slot : (e : Edition) (l : List ℤ) → mark e (zeros head_size ++ (zeros (slot_size e) ++ l)) ≡ head_words (blank_pool e 0) ++ (node_words e (node 1 []) ++ l)
unfolding head_words node_words padded joined blank_pool
mark_slot One l = refl
mark_slot Two l = refl

blank_words_lem : (e : Edition) (k : ℕ) → marked e (head_size + slot_size e * suc k) ≡ words (blank_pool e k)
unfolding words head_words joined blank_pool
blank_words_lem e k =
    let more = slot_size e + slot_size e * k in
    let q : head_size + slot_size e * suc k ≡ head_size + more = omega (arith, mul-suc (slot_size e) k) in
    ap (mark e)
    (ap zeros q ∙ sym (replicate-append-replicate head_size more (pos 0))
    ∙ ap (λ (l : List ℤ). zeros head_size ++ l)
    (sym (replicate-append-replicate (slot_size e) (slot_size e * k) (pos 0)) ∙ ap (λ (l : List ℤ). zeros (slot_size e) ++ l) (sym (all_free e k))))
    ∙ mark_slot e (joined (map (node_words e) (replicate k free_node)))

abbrev blanked : ℤ → List ℤ → Blanked
blanked n w = record { number = n; pool = w }

pub blank_valid : (e : Edition) (w : List ℤ) → valid_size e (length w) ≡ true → blank e w ≡ record { number = pos 0; pool = marked e (length w) }
unfolding blank
blank_valid e w r =
    let n = slots_fitting e (length w) in
    let q : head_size + slot_size e * suc (n - 1) ≡ length w = blank_long e (length w) r in
    rw (blank, r) (ap (λ (l : List ℤ). blanked (pos 0) l) (sym (blank_words_lem e (n - 1)) ∙ ap (marked e) q))
  where
    blank_long : (e : Edition) (n : ℕ) → valid_size e n ≡ true → head_size + slot_size e * suc (slots_fitting e n - 1) ≡ n
    blank_long e n r =
        let s = sized e n r in
        let again : suc (slots_fitting e n - 1) ≡ slots_fitting e n = omega (arith, s.1) in
        ap (λ (k : ℕ). head_size + slot_size e * k) again ∙ sym s.0

pub blank_wrong : (e : Edition) (w : List ℤ) → valid_size e (length w) ≡ false → blank e w ≡ record { number = pos 1; pool = w }
unfolding blank
blank_wrong e w r = rw (blank, r)
