-- For planners: over the whole site, a search inside is a search that meets the window. In a whole pool the two find the same records and open
-- the same nodes, so that a call with the one in the other's place is the same call: refused alike, and otherwise with the same turn there.
use mathlib.Core.Path.{◌≡◌, refl, sym, ap, subst, ◌∙◌}
use mathlib.Core.Bool.{Bool, true, not, ◌&&◌}
use mathlib.Core.List.{List, [], ◌∷◌, ◌++◌}
use Rattle.std.specs.Prelude.{Option, None, Some, Ok, Err}
use Prim.Native.Nat.{ℕ, suc}
use lib.ListN.{length, length-append}
use lib.Dec.{ltb}
use Rattle.rules.specs.declared.Rect.{Rect}
use Rattle.rules.specs.declared.Owner.{Owner}
use Rattle.rules.specs.declared.FoundRecord.{FoundRecord}
use Rattle.rules.specs.declared.Accepted.TheVariants.{Listed}
use Rattle.rules.specs.declared.RequestFault.TheVariants.{BadRectangle, NoRoom}
use Rattle.rules.specs.declared.Request.{Request}
use Rattle.rules.specs.declared.Asked.{Asked}
use Rattle.rules.specs.declared.Asked.TheVariants.{Search}
use Rattle.rules.specs.declared.Mode.TheVariants.{Meeting, OnlyInside}
use Rattle.rules.specs.declared.CallFault.{CallFault}
use Rattle.rules.specs.Lists.{every}
use Rattle.rules.specs.Owners.{nobody}
use Rattle.rules.specs.Geometry.{valid}
use Rattle.rules.specs.Pool.{Pool}
use Rattle.rules.specs.Search.{opened}
use Rattle.rules.specs.Insert.{ours}
use Rattle.rules.specs.Answers.{row, first_row}
use Rattle.rules.specs.Request.{Turn, turn, asked, search_fault, request}
use Rattle.rules.specs.Call.{Lent, Left, Batch, is_request, call_fault, refused, served, call, after_turn, do_request, do_requests, batch_owner, starting}
use Rattle.sound_laws.specs.Tree.{Whole}
use Rattle.search_laws.specs.Window.{whole_site}
use Rattle.search_laws.proofs.Site.{whole_site_lem}
use Rattle.in_force_laws.proofs.Asks.{none_for}
use Rattle.in_force_laws.proofs.Faults.{EachGiven}
use Rattle.in_force_laws.proofs.Call.{call_by_refused, call_by_served}
use Rattle.promises.specs.Calls.{Allowed}
use Rattle.promises.proofs.Once.{allowed, once}
use Rattle.demands.specs.Demands.{after, with_requests}
use Rattle.demands.proofs.Demands.{first_whole, all_whole}
use Rattle.demands.proofs.Unasked.{next_after}

-- the turn of a search, by what is found: nothing else of it depends on the mode
turn_by : Pool → ℕ → ℕ → Rect → List FoundRecord → Turn
turn_by p filled room window fs =
    elim (first_row (row (not (valid window)) BadRectangle ∷ row (ltb room (length fs)) (NoRoom (length fs) (opened p window)) ∷ [])) [
      | Some fault ↦ turn p (Err fault) []
      | None ↦ turn p (Ok (Listed (length fs) filled (opened p window))) fs
    ]

same_turn : (p : Pool) → Whole p → (w : Owner) (filled room : ℕ)
    → request ours p filled room (Search w OnlyInside whole_site) ≡ request ours p filled room (Search w Meeting whole_site)
unfolding request search_fault turn_by
same_turn p h w filled room = ap (turn_by p filled room whole_site) (whole_site_lem p h w)

request_is : (w : Owner) (x : Request) (a : Asked) → asked w x ≡ Some a → is_request x ≡ true
request_is w x a e = go (asked nobody x) refl
  where
    go : (y : Option Asked) → asked nobody x ≡ y → is_request x ≡ true
    go None h = absurd (subst (EachGiven (λ b. ⊥)) (sym (none_for nobody w x h) ∙ e) tt)
    go (Some b) h = unfold is_request in rw (h, is_request)

same_every : (q s : Request) → is_request q ≡ true → is_request s ≡ true → (done rest : List Request)
    → every is_request (done ++ q ∷ rest) ≡ every is_request (done ++ s ∷ rest)
unfolding every
same_every q s a b [] rest = rw (a, b)
same_every q s a b (x ∷ done) rest = ap (λ (t : Bool). is_request x && t) (same_every q s a b done rest)

module _ (l : Lent) (done : List Request) (q s : Request) (rest : List Request) (all : l.requests ≡ done ++ q ∷ rest)
    (inside : asked (batch_owner l) q ≡ Some (Search (batch_owner l) OnlyInside whole_site))
    (meeting : asked (batch_owner l) s ≡ Some (Search (batch_owner l) Meeting whole_site)) where
  abbrev other : Lent
  other = with_requests l (done ++ s ∷ rest) l.answers

  same_fault : call_fault l ≡ call_fault other
  unfolding call_fault
  same_fault = rw (call_fault, many, are)
    where
      many : length l.requests ≡ length (done ++ s ∷ rest)
      many = ap length all ∙ length-append done (q ∷ rest) ∙ sym (length-append done (s ∷ rest))

      are : every is_request l.requests ≡ every is_request (done ++ s ∷ rest)
      are = ap (every is_request) all ∙ same_every q s (request_is (batch_owner l) q _ inside) (request_is (batch_owner l) s _ meeting) done rest

  module _ (fine : call_fault l ≡ None) where
    abbrev so_far : Batch
    so_far = after l done

    same_step : do_request ours (length done) so_far (asked (batch_owner l) q) ≡ do_request ours (length done) so_far (asked (batch_owner l) s)
    unfolding do_request
    same_step =
        rw (inside, meeting)
        (ap (after_turn (length done) so_far) (same_turn so_far.pool (all_whole l 0 done (starting l) (first_whole l fine)) (batch_owner l) _ _))

    same_batch : do_requests ours 0 l.requests (starting l) ≡ do_requests ours 0 (done ++ s ∷ rest) (starting l)
    same_batch =
        ap (λ (qs : List Request). do_requests ours 0 qs (starting l)) all ∙ next_after l done q rest
        ∙ ap (do_requests ours (suc (length done)) rest) same_step ∙ sym (next_after l done s rest)

  same_call : call l ≡ call other
  unfolding call refused served starting batch_owner
  same_call = go (call_fault l) refl
    where
      go : (o : Option CallFault) → call_fault l ≡ o → call l ≡ call other
      go (Some v) h = call_by_refused ours l v h ∙ sym (call_by_refused ours other v (sym same_fault ∙ h))
      go None h = call_by_served ours l h ∙ ap served (same_batch h) ∙ sym (call_by_served ours other (sym same_fault ∙ h))

  -- whatever is lent, all that comes back is the same
  pub planners_site : (o x : Left) → Allowed l o → Allowed other x → o ≡ x
  planners_site o x k m = once l o (call l) k (allowed l) ∙ same_call ∙ once other (call other) x (allowed other) m
