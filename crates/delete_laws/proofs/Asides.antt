-- Entries set aside: each stands for what is under it, so a list of them weighs what its parts weigh, and they fit the level that they come
-- from.
use mathlib.Core.Path.{◌≡◌, refl, sym, ap, subst, ◌∙◌}
use mathlib.Core.List.Memᴰ
use mathlib.Core.List.{List, [], ◌∷◌, ◌++◌, map, map-map}
use Prim.Native.Nat.{ℕ, zero, suc, ◌+◌, ◌≤◌}
use lib.ListN.{length, length-map}
use Rattle.rules.specs.declared.SlotNumber.{SlotNumber}
use Rattle.rules.specs.declared.Entry.{Entry}
use Rattle.rules.specs.Lists.{total, joined}
use Rattle.rules.specs.Pool.{Pool, same_slot, node_at, entries_at}
use Rattle.rules.specs.Delete.{Aside, asides}
use Rattle.rules_laws.proofs.Places.{Among, map_same}
use Rattle.rules_laws.proofs.Joins.{joined_none, joined_more, among_joined, joined_among, count_joined}
use Rattle.rules_laws.proofs.Sums.{total_none, total_more, total_append, total_alike, total_member}
use Rattle.sound_laws.specs.Tree.{times, Used, Tree}
use Rattle.sound_laws.proofs.Walk.{tree_node}
use Rattle.sound_laws.proofs.Frame.{slots_frame}
use Rattle.insert_laws.specs.Grown.{slots_under, Fits, Weights, weight_under}
use Rattle.insert_laws.proofs.Under.{tree_fits, SameUnder, weight_frame, SameBelow, weight_below, under_used}
use Rattle.insert_laws.proofs.Counts.{times_of, times_under}
use Rattle.delete_laws.specs.Shrunk.{slots_aside, weight_aside}

module _ (p : Pool) where
  pub asides_many : (s : SlotNumber) → length (asides p s) ≡ length (entries_at p s)
  unfolding asides
  asides_many s = length-map (entries_at p s) (λ (e : Entry). record { level = (node_at p s).level; entry = e })

  pub slots_aside_none : slots_aside p [] ≡ []
  unfolding slots_aside
  slots_aside_none = joined_none (λ (a : Aside). slots_under p a.level a.entry)

  pub slots_aside_more : (a : Aside) (xs : List Aside) → slots_aside p (a ∷ xs) ≡ slots_under p a.level a.entry ++ slots_aside p xs
  unfolding slots_aside
  slots_aside_more a xs = joined_more (λ (a : Aside). slots_under p a.level a.entry) a xs

  pub among_aside : (t : SlotNumber) (xs : List Aside) → Among t (slots_aside p xs)
      → (a : Aside) × Among a xs × Among t (slots_under p a.level a.entry)
  unfolding slots_aside
  among_aside t xs m = among_joined (λ (a : Aside). slots_under p a.level a.entry) t xs m

  pub aside_among : (t : SlotNumber) (a : Aside) (xs : List Aside) → Among a xs → Among t (slots_under p a.level a.entry)
      → Among t (slots_aside p xs)
  unfolding slots_aside
  aside_among t a xs m n = joined_among (λ (a : Aside). slots_under p a.level a.entry) t m n

  pub aside_used : (t : SlotNumber) (xs : List Aside) → ((a : Aside) → Among a xs → Fits p a.level a.entry)
      → Among t (slots_aside p xs) → Used p t
  aside_used t xs f m = let a = among_aside t xs m in under_used p a.0.level a.0.entry t (f a.0 a.1) a.2

  pub times_aside : (t : SlotNumber) (xs : List Aside) → weight_aside (times_of t) p xs ≡ times t (slots_aside p xs)
  unfolding slots_aside weight_aside
  times_aside t xs =
      total_alike (λ (a : Aside). weight_under (times_of t) p a.level a.entry) (λ (a : Aside). times t (slots_under p a.level a.entry)) xs
      (λ a m. times_under p t a.level a.entry)
      ∙ sym (count_joined (λ (a : Aside). slots_under p a.level a.entry) (λ u. same_slot u t) xs)

  module _ (w : Weights) where
    pub weight_aside_none : weight_aside w p [] ≡ 0
    unfolding weight_aside
    weight_aside_none = total_none (λ (a : Aside). weight_under w p a.level a.entry)

    pub weight_aside_more : (a : Aside) (xs : List Aside) → weight_aside w p (a ∷ xs) ≡ weight_under w p a.level a.entry + weight_aside w p xs
    unfolding weight_aside
    weight_aside_more a xs = total_more (λ (a : Aside). weight_under w p a.level a.entry) a xs

    pub aside_member : (a : Aside) (xs : List Aside) → Among a xs → weight_under w p a.level a.entry ≤ weight_aside w p xs
    unfolding weight_aside
    aside_member a xs m = total_member (λ (a : Aside). weight_under w p a.level a.entry) m

    pub weight_aside_append : (xs ys : List Aside) → weight_aside w p (xs ++ ys) ≡ weight_aside w p xs + weight_aside w p ys
    unfolding weight_aside
    weight_aside_append xs ys = total_append (λ (a : Aside). weight_under w p a.level a.entry) xs ys

    -- those of one node
    pub weight_asides : (s : SlotNumber) → weight_aside w p (asides p s) ≡ total (map (weight_under w p (node_at p s).level) (entries_at p s))
    unfolding weight_aside asides
    weight_asides s =
        ap total (map-map (λ (a : Aside). weight_under w p a.level a.entry)
        (λ (e : Entry). record { level = (node_at p s).level; entry = e }) (entries_at p s))

  pub asides_fit : (l : ℕ) (s : SlotNumber) → Tree p l s → (a : Aside) → Among a (asides p s) → (a.level ≡ l) × Fits p a.level a.entry
  unfolding asides
  asides_fit l s d a m =
      let q = Memᴰ.of_map (λ (e : Entry). record { level = (node_at p s).level; entry = e }) (entries_at p s) m in
      let level : a.level ≡ l = ap (λ (x : Aside). x.level) (sym q.2) ∙ (tree_node p l s d).level in
      let fit : Fits p l a.entry = subst (λ (x : Aside). Fits p l x.entry) q.2 (tree_fits p l s d q.0 q.1) in
      (level, subst (λ (k : ℕ). Fits p k a.entry) (sym level) fit)

module _ (p q : Pool) where
  pub weight_aside_below : (w : Weights) (l : ℕ) → SameBelow p q l → (xs : List Aside)
      → ((a : Aside) → Among a xs → (a.level ≤ l) × Fits p a.level a.entry) → weight_aside w q xs ≡ weight_aside w p xs
  unfolding weight_aside
  weight_aside_below w l same xs f =
      total_alike (λ (a : Aside). weight_under w q a.level a.entry) (λ (a : Aside). weight_under w p a.level a.entry) xs
      (λ a m. weight_below p q l same a.level a.entry (f a m).0 (f a m).1 w)

  pub under_frame : (l : ℕ) (e : Entry) → SameUnder p q l e → slots_under q l e ≡ slots_under p l e
  unfolding slots_under
  under_frame zero e h = refl
  under_frame (suc zero) e h = refl
  under_frame (suc (suc l)) e h = slots_frame p q (suc l) _ h

  module _ (xs : List Aside) (same : (t : SlotNumber) → Among t (slots_aside p xs) → node_at p t ≡ node_at q t) where
    pub slots_aside_frame : slots_aside q xs ≡ slots_aside p xs
    unfolding slots_aside
    slots_aside_frame =
        ap joined (map_same (λ (a : Aside). slots_under q a.level a.entry) (λ (a : Aside). slots_under p a.level a.entry) xs
        (λ a m. under_frame a.level a.entry (λ t n. same t (aside_among p t a xs m n))))

    pub weight_aside_frame : (w : Weights) → weight_aside w q xs ≡ weight_aside w p xs
    unfolding weight_aside
    weight_aside_frame w =
        total_alike (λ (a : Aside). weight_under w q a.level a.entry) (λ (a : Aside). weight_under w p a.level a.entry) xs
        (λ a m. weight_frame p q w a.level a.entry (λ t n. same t (aside_among p t a xs m n)))
