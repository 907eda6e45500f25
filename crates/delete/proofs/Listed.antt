-- The entries set aside, one after another: one more, and those of a node.
use mathlib.Core.Path.{◌≡◌, sym, ap, ap₂, ◌∙◌}
use mathlib.Core.List.{List, [], ◌∷◌, ◌++◌, map, map-append, append_assoc}
use Prim.Native.Nat.{ℕ, ◌+◌, ◌<◌}
use native.Mathlib.Numerals.{add-one}
use native.Mathlib.Omega.{arith}
use lib.ListN.{length, get_or, take, length-map}
use lib.Seq.{length-take-le, take-suc, take-length}
use Rattle.rules.specs.declared.SlotNumber.{SlotNumber}
use Rattle.rules.specs.declared.Entry.{Entry}
use Rattle.rules.specs.Pool.{Pool, no_entry, node_at, entries_at}
use Rattle.rules.specs.Delete.{Aside, asides}
use Rattle.delete.specs.declared.asides.Asides.{Asides}
use Rattle.delete.specs.Aside.{aside, held, asides_of}

pub asides_length : (a : Asides) → length (asides_of a) ≡ a.count
asides_length a = length-map (take a.count a.list) held ∙ length-take-le a.count a.list (omega (arith, a.long, a.few))

-- one more of a node's entries, after those before
pub node_more : (before : List Aside) (level : ℕ) (all : List Entry) (k : ℕ) (now : List Aside) (e : Entry) → k < length all
    → now ≡ before ++ map (aside level) (take k all) → e ≡ get_or all k no_entry
    → now ++ aside level e ∷ [] ≡ before ++ map (aside level) (take (k + 1) all)
node_more before level all k now e h is q =
    ap₂ (λ (xs : List Aside) (y : Entry). xs ++ aside level y ∷ []) is q
    ∙ append_assoc before (map (aside level) (take k all)) (aside level (get_or all k no_entry) ∷ [])
    ∙ ap (λ (xs : List Aside). before ++ xs)
    (sym (map-append (aside level) (take k all) (get_or all k no_entry ∷ []))
    ∙ ap (map (aside level)) (sym (take-suc all k no_entry h) ∙ ap (λ (i : ℕ). take i all) (sym (add-one k))))

-- all of them
pub node_all : (p : Pool) (t : SlotNumber) (level k : ℕ) → level ≡ (node_at p t).level → k ≡ length (entries_at p t)
    → map (aside level) (take k (entries_at p t)) ≡ asides p t
unfolding asides
node_all p t level k e n =
    ap₂ (λ (l i : ℕ). map (aside l) (take i (entries_at p t))) e n
    ∙ ap (map (aside (node_at p t).level)) (take-length (entries_at p t))
