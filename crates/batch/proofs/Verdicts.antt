-- What a call is that a row refuses, or none; and what is a request.
use mathlib.Core.Path.{◌≡◌, refl, sym, ◌∙◌, ap}
use mathlib.Core.Bool.{Bool, true, false, ◌&&◌}
use mathlib.Core.List.{List, [], ◌∷◌}
use Rattle.std.specs.Prelude.{Option, None, Some}
use Prim.Native.Nat.{ℕ, zero, suc, ◌≤◌}
use native.Mathlib.Omega.{arith}
use lib.IntN.{ℤ, pos, negsuc}
use lib.ListN.{length}
use lib.Signed.{le_z}
use borrow.Author.Tests.{le-leb, lt-leb}
use Rattle.rules.specs.declared.Request.{Request}
use Rattle.rules.specs.declared.CallFault.{CallFault}
use Rattle.rules.specs.Lists.{every, one_of, same}
use Rattle.rules.specs.Answers.{Row, checked, first_row, call_number}
use Rattle.rules.specs.Request.{asked}
use Rattle.rules.specs.Insert.{ours}
use Rattle.rules.specs.Call.{Lent, Left, call, call_fault, refused, served, is_request}
use Rattle.in_force_laws.proofs.Call.{call_by_refused, call_by_served}
use Rattle.promises.specs.Calls.{nothing_asked}
use Rattle.refusal.specs.Refusing.{refusal_of}
use Rattle.refusal.proofs.Refusals.{refusal_is}
use Rattle.batch.specs.Batching.{batch_of}

-- a call that a row refuses, and one that none does
pub call_refused : (l : Lent) (v : CallFault) → call_fault l ≡ Some v → call l ≡ refused l v
unfolding call
call_refused l v h = call_by_refused ours l v h

pub call_served : (l : Lent) → call_fault l ≡ None → call l ≡ served (batch_of l)
unfolding call batch_of
call_served l h = call_by_served ours l h

-- the number of a call is that of what its check answers
pub checked_number : (l : Lent)
    → call_number (refusal_of l.pool l.owner.0 (length l.workspace) (length l.requests) (length l.answers) (every is_request l.requests)) ≡ (call l).number
unfolding call_number refused served
checked_number l = ap call_number (refusal_is l) ∙ go (call_fault l) refl
  where
    go : (o : Option CallFault) → call_fault l ≡ o → call_number (checked (call_fault l)) ≡ (call l).number
    go None h = rw h (ap (λ (x : Left). x.number) (sym (call_served l h)))
    go (Some v) h = rw h (ap (λ (x : Left). x.number) (sym (call_refused l v h)))

pub check_number : (w : List ℤ) → call_number (refusal_of w (pos 1) (length w) 0 0 true) ≡ (call (nothing_asked w)).number
unfolding every
check_number w = checked_number (nothing_asked w)

-- "A request is of one of the four kinds": some row of the table applies
some_row : {A : Type 0} (rows : List (Row A)) → elim (first_row rows) [ None ↦ false | Some e ↦ true ] ≡ one_of (λ (r : Row A). r.applies) rows
unfolding first_row one_of
some_row [] = refl
some_row (r ∷ rows) = go r.applies refl (some_row rows)
  where
    go : (b : Bool) → r.applies ≡ b → elim (first_row rows) [ None ↦ false | Some e ↦ true ] ≡ one_of (λ (x : Row _). x.applies) rows
        → elim (first_row (r ∷ rows)) [ None ↦ false | Some e ↦ true ] ≡ one_of (λ (x : Row _). x.applies) (r ∷ rows)
    go true e h = rw (e, first_row)
    go false e h = rw (e, first_row) h

-- the kinds are 1 to 6
abbrev kinds : List ℤ
kinds = pos 1 ∷ pos 2 ∷ pos 3 ∷ pos 4 ∷ pos 5 ∷ pos 6 ∷ []

over : (m : ℕ) → 7 ≤ m → (le_z (pos 1) (pos m) && le_z (pos m) (pos 6)) ≡ one_of (same (pos m)) kinds
unfolding same one_of
over m h =
    rw (same, le-leb 1 m (omega arith), lt-leb m 1 (omega arith), lt-leb m 2 (omega arith), lt-leb m 3 (omega arith), lt-leb m 4 (omega arith), lt-leb m 5 (omega arith), lt-leb m 6 (omega arith))

one_to_six : (k : ℤ) → (le_z (pos 1) k && le_z k (pos 6)) ≡ one_of (same k) kinds
unfolding same one_of
one_to_six (negsuc n) = refl
one_to_six (pos zero) = refl
one_to_six (pos (suc zero)) = refl
one_to_six (pos (suc (suc zero))) = refl
one_to_six (pos (suc (suc (suc zero)))) = refl
one_to_six (pos (suc (suc (suc (suc zero))))) = refl
one_to_six (pos (suc (suc (suc (suc (suc zero)))))) = refl
one_to_six (pos (suc (suc (suc (suc (suc (suc zero))))))) = refl
one_to_six (pos (suc (suc (suc (suc (suc (suc (suc n)))))))) = over (suc (suc (suc (suc (suc (suc (suc n))))))) (omega arith)

pub all_kinds : (q : Request) → (le_z (pos 1) q.kind && le_z q.kind (pos 6)) ≡ is_request q
unfolding is_request asked one_of
all_kinds q = one_to_six q.kind ∙ sym (some_row _)
