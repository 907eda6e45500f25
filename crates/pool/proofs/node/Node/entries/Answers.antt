use borrow.Author.Rules.{rules}
use mathlib.Core.Path.{◌≡◌, refl, sym, ap, ap₂, subst⁻¹, ◌∙◌}
use mathlib.Core.List.{List, [], ◌∷◌, ◌++◌}
use Prim.Native.Nat.{ℕ, ◌+◌, ◌<◌}
use native.Mathlib.Numerals.{add-one}
use native.Mathlib.Omega.{arith}
use lib.ListN.{length, get_or, set, take, replicate, length-set}
use lib.Seq.{take-suc, take-suc-set, take-length, get_or-set_other}
use Rattle.rules.specs.declared.Entry.{Entry}
use Rattle.rules.specs.Numbers.{most}
use Rattle.rules.specs.Pool.{no_entry, entry_at, entry_from}
use Rattle.pool.specs.Reading.{entries_of}
use Rattle.rules_laws.proofs.Places.{get_d_alike}
use Rattle.layout_laws.specs.Slots.{NoneFrom}
use Rattle.pool.proofs.node.Node.entries.Invariants.{Turn}
use Rattle.pool.proofs.node.Node.entries.Goals as goal

turn : {all : List Entry} {n : ℕ} {es : List Entry} {i : ℕ} (e : Entry)
    → Turn all n es i
    → i < n
    → e ≡ get_or all i no_entry
    → Turn all n (set es i e) (i + 1)
turn {all} {n} {es} {i} e t h q =
    let l : i < length es = omega (arith, t.nine, t.few) in
    record {
      size = t.size;
      few = t.few;
      many = omega arith;
      nine = length-set es i e ∙ t.nine;
      is = rw (add-one i) (take-suc-set es i e l ∙ ap₂ (λ (xs : List Entry) (x : Entry). xs ++ x ∷ []) t.is q ∙ sym (take-suc all i no_entry (omega (arith, t.size))));
      rest = record { none = λ k a. get_or-set_other es i k e no_entry (omega (arith, a)) ∙ t.rest.none k (omega (arith, a)) };
    }

pub loop-i-init : goal.loop-i-init
loop-i-init c =
    let none : NoneFrom 0 (replicate (most + 1) no_entry) = record { none = λ k _. get_d_alike (most + 1) k no_entry } in
    let rest = subst⁻¹ (λ (e : Entry). NoneFrom 0 (replicate (most + 1) e)) c.no_entry-es.ensures none in
    record { size = c.count-n.ensures.is; few = c.count-n.ensures.most; many = omega arith; nine = search rules; is = refl; rest = rest }

pub entry-requires : goal.entry-requires
entry-requires c = omega (arith, c.loop-i-test.true, c.loop-i.invariant.size)

pub offset_bounds-es-i : goal.offset_bounds-es-i
offset_bounds-es-i c = omega (arith, c.loop-i-test.true, c.loop-i.invariant.few)

pub bounds-es-i : goal.bounds-es-i
bounds-es-i c = omega (arith, c.loop-i-test.true, c.loop-i.invariant.few)

pub loop-i-preserved : goal.loop-i-preserved
unfolding entry_at entry_from
loop-i-preserved c = turn c.entry.result c.loop-i.invariant c.loop-i-test.true c.entry.ensures

pub returns : goal.returns
returns c =
    let all = entries_of c.args.self.now in
    let e : c.loop-i.i ≡ length all = omega (arith, c.loop-i.invariant.size, c.loop-i.invariant.many, c.loop-i-test.false) in
    record {
      is = ap (λ (k : ℕ). take k c.loop-i.es) (sym e) ∙ c.loop-i.invariant.is ∙ ap (λ (k : ℕ). take k all) e ∙ take-length _;
      rest = rw (sym e) c.loop-i.invariant.rest;
    }
