-- What FindLeaf shows as found is what the pool holds, since the model's FindLeaf finds exactly that.
use mathlib.Core.Path.{◌≡◌, refl, sym, ap, ap₂, subst, ◌∙◌}
use mathlib.Core.Logic.{◌↔◌}
use mathlib.Core.Bool.{Bool, true, false, not}
use mathlib.Core.List.{List}
use Rattle.std.specs.Prelude.{Option, None, Some}
use Prim.Native.Nat.{ℕ, ◌≤◌}
use native.Mathlib.Omega.{arith}
use lib.Dec.{eqb}
use lib.IntN.{ℤ}
use borrow.Author.Tests.{eq-eqb, ne_eqb}
use Rattle.rules.specs.declared.SlotNumber.{SlotNumber}
use Rattle.rules.specs.declared.Record.{Record}
use Rattle.rules.specs.Pool.{Pool, held}
use Rattle.rules.specs.Delete.{Path, find_leaf, path_to}
use Rattle.rules.specs.Layout.{valid_length, read}
use Rattle.layout_laws.proofs.Parts.{few_slots}
use Rattle.layout_laws.proofs.Written.{read_slots}
use Rattle.sound_laws.specs.Tree.{Tree, Whole}
use Rattle.sound_laws.proofs.Heights.{height_eight}
use Rattle.delete_laws.specs.Way.{Found}
use Rattle.delete_laws.proofs.Held.{find_held}
use Rattle.find_leaf.specs.declared.Way.{Way}
use Rattle.find_leaf.specs.Ways.{Gives}
use Rattle.find_leaf.specs.Packed.{packed_way}
use Rattle.find_leaf.proofs.Digits.{packed_none, some_not_zero}

never : (b : Bool) → (b ≡ true → ⊥) → b ≡ false
never true f = absurd (f refl)
never false f = refl

-- a way that is given leads to a pair that is held
pub some_held : (p : Pool) (r : Record) (w : Way) → Whole p → Gives (path_to p r) p.height (Some w) → held p r ≡ true
some_held p r w whole h = (find_held p whole r).1 (go (path_to p r) h)
  where
    go : (o : Option Path) → Gives o p.height (Some w) → Found o
    go None g = absurd g
    go (Some path) g = tt

-- .. and where none is given, none is
pub none_held : (p : Pool) (r : Record) → Whole p → Gives (path_to p r) p.height None → held p r ≡ false
none_held p r whole h = never (held p r) (λ t. go (path_to p r) h ((find_held p whole r).0 t))
  where
    go : (o : Option Path) → Gives o p.height None → Found o → ⊥
    go None g f = f
    go (Some path) g f = g

-- a pair is held where the number is not 0
pub way_held : (p : Pool) (r : Record) (h : ℕ) (s : SlotNumber) (w : ℕ) → Whole p → h ≡ p.height → s ≡ p.root
    → w ≡ packed_way (find_leaf p r h s)
    → not (eqb w 0) ≡ held p r
way_held p r h s w whole high root e =
    let v = e ∙ ap₂ (λ (n : ℕ) (t : SlotNumber). packed_way (find_leaf p r n t)) high root in
    let is = find_held p whole r in
    go (path_to p r) refl v is
  where
    go : (o : Option Path) → path_to p r ≡ o → w ≡ packed_way (path_to p r) → (held p r ≡ true) ↔ Found (path_to p r) → not (eqb w 0) ≡ held p r
    go None q v is =
        let z : eqb w 0 ≡ true = eq-eqb w 0 (v ∙ ap packed_way q ∙ packed_none) in
        rw z (sym (never (held p r) (λ t. subst Found q (is.0 t))))
    go (Some path) q v is =
        let z : eqb w 0 ≡ false = ne_eqb w 0 (λ f. some_not_zero path (sym (ap packed_way q) ∙ sym v ∙ f)) in
        rw z (sym (is.1 (subst Found (sym q) tt)))

-- "Height is 8 at most"
pub low_enough : (w : List ℤ) → valid_length w ≡ true → Whole (read w) → (read w).height ≤ 8
low_enough w r whole = height_eight (read w) whole (omega (arith, read_slots w, few_slots w r))

-- FindLeaf begins with the tree from the root down
pub whole_tree : (w : List ℤ) (h : ℕ) (s : SlotNumber) → valid_length w ≡ true → Whole (read w) → h ≡ (read w).height → s ≡ (read w).root
    → Tree (read w) h s × (h ≤ 8)
whole_tree w h s v whole high root = (rw (high, root) whole.tree, omega (arith, high, low_enough w v whole))
