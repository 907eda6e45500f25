-- `read_frame`: each way out is a law of Framing, with the tests that led there.
use mathlib.Core.Path.{sym, ap, ap₂, ◌∙◌}
use native.Mathlib.Omega.{arith}
use Prim.Native.Nat.{ℕ, ◌+◌}
use Rattle.std.proofs.lemmas.Result.{err_from_is_err_and}
use borrow.Author.Tests.{not-true, not-false}
use Rattle.rules.specs.declared.Request.{Request}
use Rattle.frames.specs.Reading.{Asks}
use Rattle.frames.specs.Reading.{kind_length, some_length}
use Rattle.frames.specs.Places.{request_from}
use Rattle.frames.proofs.Framing.{waits_few, bad_field, waits_kind, bad_kind, waits_words, asks_all}
use Rattle.frames.proofs.Requests.{some_least}
use Rattle.frames.proofs.read_frame.Goals as goal

pub returns-then-bytes-lt2 : goal.returns-then-bytes-lt2
returns-then-bytes-lt2 c = sym (waits_few c.args.bytes.now c.if-bytes-lt2.true)

pub returns-then-not-is_length : goal.returns-then-not-is_length
returns-then-not-is_length c =
    sym (bad_field c.args.bytes.now c.if-bytes-lt2.false
    (ap some_length (sym c.pair_at-length.ensures) ∙ sym c.is_length.ensures ∙ not-true _ c.if-not-is_length.true-raw))

pub returns-then-bytes-lt4 : goal.returns-then-bytes-lt4
returns-then-bytes-lt4 c =
    sym (waits_kind c.args.bytes.now c.if-bytes-lt2.false c.if-bytes-lt4.true
    (ap some_length (sym c.pair_at-length.ensures) ∙ sym c.is_length.ensures ∙ not-false _ c.if-not-is_length.false-raw))

pub returns-in_err-kind : goal.returns-in_err-kind
returns-in_err-kind c =
    let p = err_from_is_err_and c.from_residual.result c.from_residual.ensures.1 in
    let s = ap some_length (sym c.pair_at-length.ensures) ∙ sym c.is_length.ensures ∙ not-false _ c.if-not-is_length.false-raw in
    let none = ap kind_length (sym c.pair_at.ensures) ∙ c.in_err-kind.ensures in
    p.1 ∙ sym (bad_kind c.args.bytes.now c.if-bytes-lt4.false s (λ e. omega (arith, e, none, some_least _ s)))

pub returns-then-length : goal.returns-then-length
returns-then-length c =
    sym (bad_kind c.args.bytes.now c.if-bytes-lt4.false
    (ap some_length (sym c.pair_at-length.ensures) ∙ sym c.is_length.ensures ∙ not-false _ c.if-not-is_length.false-raw)
    (λ e. c.if-length.true (c.length.ensures.is ∙ ap kind_length (c.in_ok-kind.ensures ∙ c.pair_at.ensures) ∙ e ∙ sym c.pair_at-length.ensures)))

pub returns-then-bytes-size : goal.returns-then-bytes-size
returns-then-bytes-size c =
    sym (waits_words c.args.bytes.now c.if-bytes-lt4.false
    (ap some_length (sym c.pair_at-length.ensures) ∙ sym c.is_length.ensures ∙ not-false _ c.if-not-is_length.false-raw)
    (ap kind_length (sym (c.in_ok-kind.ensures ∙ c.pair_at.ensures)) ∙ sym c.length.ensures.is ∙ c.if-length.false ∙ c.pair_at-length.ensures)
    (omega arith))

pub request_in-request-requires : goal.request_in-request-requires
request_in-request-requires c =
    omega (arith, sym c.length.ensures.is ∙ c.if-length.false, c.from-size.ensures, c.if-bytes-size.false)

pub returns : goal.returns
returns c =
    let kind = c.in_ok-kind.ensures ∙ c.pair_at.ensures in
    ap₂ (λ (q : Request) (n : ℕ). Asks q n)
    (c.request_in-request.ensures ∙ ap (λ (k : ℕ). request_from k c.args.bytes.now) kind)
    (ap (λ (n : ℕ). 2 + n) (c.from-size.ensures ∙ c.pair_at-length.ensures))
    ∙ sym (asks_all c.args.bytes.now
    (ap some_length (sym c.pair_at-length.ensures) ∙ sym c.is_length.ensures ∙ not-false _ c.if-not-is_length.false-raw)
    (ap kind_length (sym kind) ∙ sym c.length.ensures.is ∙ c.if-length.false ∙ c.pair_at-length.ensures)
    (omega arith))
