-- A call by what its check answers, and what it leaves either way.
use mathlib.Core.Path.{◌≡◌, refl, sym, ap, subst, ◌∙◌}
use mathlib.Core.Bool.{Bool}
use mathlib.Core.List.{List}
use Rattle.std.specs.Prelude.{Option, None, Some, Result, Ok, Err, MatchResult}
use lib.ListN.{length}
use lib.IntN.{ℤ}
use Rattle.rules.specs.declared.FoundRecord.{FoundRecord}
use Rattle.rules.specs.declared.Answer.{Answer}
use Rattle.rules.specs.declared.CallFault.{CallFault}
use Rattle.rules.specs.Lists.{every}
use Rattle.rules.specs.Answers.{checked, call_number}
use Rattle.rules.specs.Call.{Lent, Left, is_request, call_fault, refused, served}
use Rattle.promises.specs.Calls.{left, Allowed}
use Rattle.refusal.specs.Refusing.{refusal_of}
use Rattle.refusal.proofs.Refusals.{refusal_is}
use Rattle.batch.specs.Batching.{batch_of, Batched}
use Rattle.batch.proofs.Verdicts.{call_refused, call_served}

-- a check that answers a fault was refused by it, and one that answers none was not refused
fault_is : (o : Option CallFault) (v : CallFault) → checked o ≡ Err v → o ≡ Some v
fault_is None v e = absurd (subst (λ (r : Result (Unit {0}) CallFault). MatchResult r (λ x. Unit {0}) (λ x. ⊥)) e tt)
fault_is (Some x) v e = ap (λ (r : Result (Unit {0}) CallFault). elim r [ Ok y ↦ None | Err y ↦ Some y ]) e

none_is : (o : Option CallFault) (u : Unit {0}) → checked o ≡ Ok u → o ≡ None
none_is None u e = refl
none_is (Some x) u e = absurd (subst (λ (r : Result (Unit {0}) CallFault). MatchResult r (λ y. ⊥) (λ y. Unit {0})) e tt)

module _ (l : Lent) (all : Bool) (asked : all ≡ every is_request l.requests) (r : Result (Unit {0}) CallFault)
    (is : r ≡ refusal_of l.pool l.owner.0 (length l.workspace) (length l.requests) (length l.answers) all) where
  answer : r ≡ checked (call_fault l)
  answer = is ∙ ap (refusal_of l.pool l.owner.0 (length l.workspace) (length l.requests) (length l.answers)) asked ∙ refusal_is l

  -- "A refused call returns its number and writes nothing at all."
  pub when_refused : (v : CallFault) → r ≡ Err v → Allowed l (left (call_number (Err v)) l.pool l.workspace l.answers l.found)
  unfolding refused call_number
  when_refused v e =
      let left_is = call_refused l v (fault_is (call_fault l) v (sym answer ∙ e)) in
      record {
        number = ap (λ (x : Left). x.number) (sym left_is);
        pool = ap (λ (x : Left). x.pool) (sym left_is);
        workspace = ap (λ (x : Left). x.workspace) (sym left_is);
        answers = ap (λ (x : Left). x.answers) (sym left_is);
        found = ap (λ (x : Left). x.found) (sym left_is);
      }

  pub when_served : (u : Unit {0}) → r ≡ Ok u → call_fault l ≡ None
  when_served u e = none_is (call_fault l) u (sym answer ∙ e)

-- "On return 0 the workspace equals the pool."
pub left_served : (l : Lent) → call_fault l ≡ None → (pool work : List ℤ) (answers : List Answer) (found : List FoundRecord)
    → Batched (batch_of l) pool answers found → work ≡ pool → Allowed l (left (call_number (Ok tt)) pool work answers found)
unfolding served call_number
left_served l h pool work answers found b e =
    record {
      number = ap (λ (x : Left). x.number) (sym (call_served l h));
      pool = b.pool_is ∙ ap (λ (x : Left). x.pool) (sym (call_served l h));
      workspace = e ∙ b.pool_is ∙ ap (λ (x : Left). x.workspace) (sym (call_served l h));
      answers = b.answers_are ∙ ap (λ (x : Left). x.answers) (sym (call_served l h));
      found = b.found_is ∙ ap (λ (x : Left). x.found) (sym (call_served l h));
    }
