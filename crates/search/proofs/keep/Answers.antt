-- The items, one at a time.
use Rattle.std.proofs.Common.{◌∙◌, ℕ, rules, subst, sym}
use Rattle.search.proofs.Keeping.{ahead_first, keeping_first, spot_ahead, next_ahead, next_keeping}
use Rattle.search.proofs.Keeping.{kept_all}
use Rattle.search.proofs.keep.Goals as goal

pub loop-k-init : goal.loop-k-init
loop-k-init g c =
    let items = c.args.items.now in
    (ahead_first items c.args.n, λ pool test points says. keeping_first pool test items)

pub test-requires : goal.test-requires
test-requires g c =
    let here = c.read-item.ensures.spot ∙ spot_ahead c.loop-k.invariant.0 c.loop-k-test.true in
    let ask =
    subst (λ (s : ℕ). goal.F-pre g c.args.test s) (sym here)
    (c.requires.askable c.loop-k.k c.loop-k-test.true) in
    search (rules, ask)

pub loop-k-preserved : goal.loop-k-preserved
loop-k-preserved g c =
    let a = c.loop-k.invariant.0 in
    let more = c.loop-k-test.true in
    let room = c.requires.n_in_bounds in
    let r = c.read-item.ensures in
    let here = r.spot ∙ spot_ahead a more in
    let one = c.one_if-count in (
      next_ahead a more room r.number r.spot c.write.ensures one.result one.ensures.most,
      λ pool test points says.
          let answer =
          subst (λ (s : ℕ). goal.F-post g c.args.test s c.test.result) here (search rules) in
          next_keeping a more room r.number r.spot c.write.ensures pool points
          (c.loop-k.invariant.1 pool test points says) c.test.result one.result
          (says c.loop-k.k c.test.result more answer) one.ensures.is,
    )

pub returns : goal.returns
returns g c = λ pool test points says.
    kept_all c.loop-k.invariant.0 c.loop-k-test.false (c.loop-k.invariant.1 pool test points says)
