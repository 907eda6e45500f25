-- Two nodes that differ at most in how their edition is written are one: their facts have one proof each.
use denote.Struct.Props.{props}
use mathlib.Core.Path.{◌≡◌, sym, subst}
use Rattle.rules.specs.declared.Edition.{Edition}
use Rattle.rules.specs.Layout.{edition_of}
use Rattle.layout_laws.specs.Slots.{InPool}
use Rattle.pool.specs.declared.node.Node.{Node}
use Rattle.pool.proofs.node.Node.in_edition.Goals as goal

written : (n : Node) (i : InPool n.words.now n.slot) (e : Edition) → n.edition ≡ e → (t : e ≡ edition_of n.words.now)
    → ◌≡◌ {A = Node} n record { words = n.words; edition = e; slot = n.slot; in_pool = i; told = t }
written n i e q =
    let in_pool_prop : IsProp (InPool n.words.now n.slot) = hlevel props in
    let told_prop : IsProp (n.edition ≡ edition_of n.words.now) = hlevel props in
    subst (λ (d : Edition). (t : d ≡ edition_of n.words.now)
    → ◌≡◌ {A = Node} n record { words = n.words; edition = d; slot = n.slot; in_pool = i; told = t })
    q
    (λ t k. record { words = n.words; edition = n.edition; slot = n.slot; in_pool = in_pool_prop n.in_pool i k; told = told_prop n.told t k })

pub returns : goal.returns
returns c = sym (written c.args.self.now _ _ (sym c.requires) _)
