-- One request: what is refused leaves the pool, and what is accepted is what document 01 defines. By its table, for each kind alike.
use Rattle.std.specs.Prelude.{Ok, Err}
use mathlib.Core.Path.{◌≡◌, refl}
use mathlib.Core.Bool.{Bool, true, false}
use mathlib.Core.List.{[]}
use Prim.Native.Nat.{ℕ}
use lib.ListN.{length}
use lib.Dec.{eqb}
use Rattle.rules.specs.declared.RequestFault.{RequestFault}
use Rattle.rules.specs.declared.Rect.{Rect}
use Rattle.rules.specs.declared.Mode.{Mode}
use Rattle.rules.specs.declared.Owner.{Owner}
use Rattle.rules.specs.declared.Asked.{Asked}
use Rattle.rules.specs.declared.Asked.TheVariants.{Insert, Delete, Update, Search}
use Rattle.rules.specs.declared.Accepted.TheVariants.{Changed, Listed}
use Rattle.rules.specs.Pool.{Pool}
use Rattle.rules.specs.Search.{found, opened}
use Rattle.rules.specs.Insert.{ours, Change, Done, NoneFree, insert_record}
use Rattle.rules.specs.Delete.{delete_record, update_record}
use Rattle.rules.specs.Answers.{answer_of}
use Rattle.rules.specs.Request.{Turn, turn, after_change, request}
use Rattle.rules_laws.proofs.Orders.{never_both}
use Rattle.in_force_laws.proofs.Change.{Refused, request_cases}
use Rattle.demands.specs.Demands.{Accepted}

-- a search that is accepted replies with what it finds, and lists it
abbrev Finds : Pool → ℕ → Asked → Turn → Type 0
Finds p filled (Insert r) t = Unit {0}
Finds p filled (Delete r) t = Unit {0}
Finds p filled (Update old new) t = Unit {0}
Finds p filled (Search o mode window) t = t ≡ turn p (Ok (Listed (length (found p o mode window)) filled (opened p window))) (found p o mode window)

-- a request is refused, and changes and lists nothing, or accepted and done
pub record Either (p : Pool) (filled : ℕ) (a : Asked) (t : Turn) : Type 0 where
  pub refused : eqb (answer_of t.reply).number 0 ≡ false → (t.pool ≡ p) × (t.listed ≡ [])
  pub accepted : eqb (answer_of t.reply).number 0 ≡ true → Accepted p a t.pool × Finds p filled a t

module _ (p : Pool) (filled : ℕ) where
  refused_either : (a : Asked) (fault : RequestFault) → Refused fault → Either p filled a (turn p (Err fault) [])
  refused_either a fault h = record { refused = λ n. (refl, refl); accepted = λ y. never_both y h }

  changes : (a : Asked) (o : Change) → ((q : Pool) → o ≡ Done q → (t : Turn) → Accepted p a q × Finds p filled a t) → Either p filled a (after_change p o)
  unfolding after_change answer_of
  changes a (Done q) h = record { refused = λ n. never_both refl n; accepted = λ y. h q refl (turn q (Ok Changed) []) }
  changes a NoneFree h = record { refused = λ n. (refl, refl); accepted = λ y. never_both y refl }

  lists : (o : Owner) (mode : Mode) (window : Rect)
      → Either p filled (Search o mode window) (turn p (Ok (Listed (length (found p o mode window)) filled (opened p window))) (found p o mode window))
  unfolding answer_of
  lists o mode window = record { refused = λ n. never_both refl n; accepted = λ y. (refl, refl) }

  pub either : (room : ℕ) (a : Asked) → Either p filled a (request ours p filled room a)
  either room =
      request_cases ours p filled room (Either p filled) refused_either
      (λ r h. changes (Insert r) (insert_record ours p r) (λ q e t. (e, tt)))
      (λ r h. changes (Delete r) (delete_record ours p r) (λ q e t. (e, tt)))
      (λ old new h. changes (Update old new) (update_record ours p old new) (λ q e t. (e, tt)))
      (λ o mode window h. lists o mode window)

-- a search, accepted or refused, leaves the pool
pub same_pool : {p : Pool} {filled : ℕ} {o : Owner} {mode : Mode} {window : Rect} {t : Turn} → Either p filled (Search o mode window) t → t.pool ≡ p
same_pool {p = p} {t = t} e = go (eqb (answer_of t.reply).number 0) refl
  where
    go : (b : Bool) → eqb (answer_of t.reply).number 0 ≡ b → t.pool ≡ p
    go true h = (e.accepted h).0
    go false h = (e.refused h).0
