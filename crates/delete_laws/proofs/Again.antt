-- CT6: what was set aside is put back, each entry at its own level. Each waits beside a tree that stands and is lower than it, so it can go
-- in; the tree stands again, and the others still wait.
use mathlib.Core.Path.{◌≡◌, refl, sym, subst, ◌∙◌}
use mathlib.Core.List.Memᴰ
use mathlib.Core.List.{List, [], ◌∷◌, ◌++◌}
use Prim.Native.Nat.{◌≤◌}
use native.Mathlib.Omega.{arith}
use Rattle.rules.specs.declared.SlotNumber.{SlotNumber}
use Rattle.rules.specs.Pool.{Pool, node_at}
use Rattle.rules.specs.Insert.{Choice, Change, Done, NoneFree, insert_at}
use Rattle.rules.specs.Lawful.{Lawful}
use Rattle.rules.specs.Delete.{Aside, reinsert}
use Rattle.rules_laws.proofs.Places.{Among}
use Rattle.insert_laws.specs.Grown.{slots_under, Fits}
use Rattle.insert_laws.specs.Standing.{Standing, Put}
use Rattle.insert_laws.proofs.Counts.{count_of, count_under}
use Rattle.insert_laws.proofs.Standing.{put_count, put_high, aside_same, aside_fits, standing_put, insert_standing}
use Rattle.delete_laws.specs.Shrunk.{slots_aside, Waiting, PutBack, EachPool}
use Rattle.delete_laws.proofs.Asides.{slots_aside_none, slots_aside_more, aside_among, weight_aside_none, weight_aside_more, slots_aside_frame, weight_aside_frame}

pub each_pool : (Good Fine : Pool → Type 0) → ((q : Pool) → Good q → Fine q) → (o : Change) → EachPool Good o → EachPool Fine o
each_pool Good Fine f (Done q) h = f q h
each_pool Good Fine f NoneFree h = tt

module _ (c : Choice) where
  -- ---- the clauses

  pub reinsert_none : (p : Pool) → reinsert c p [] ≡ Done p
  unfolding reinsert
  reinsert_none p = refl

  module _ (p : Pool) (a : Aside) (rest : List Aside) where
    pub reinsert_done : (q : Pool) → insert_at c a.level p a.entry ≡ Done q → reinsert c p (a ∷ rest) ≡ reinsert c q rest
    unfolding reinsert
    reinsert_done q h = rw (h, reinsert)

    pub reinsert_full : insert_at c a.level p a.entry ≡ NoneFree → reinsert c p (a ∷ rest) ≡ NoneFree
    unfolding reinsert
    reinsert_full h = rw (h, reinsert)

  -- ---- one of them

  module _ (lawful : Lawful c) (p : Pool) (a : Aside) (rest : List Aside) (w : Waiting p (a ∷ rest)) (q : Pool)
      (h : insert_at c a.level p a.entry ≡ Done q) where
    first_stands : Standing p (slots_under p a.level a.entry ++ slots_aside p rest)
    first_stands = subst (Standing p) (slots_aside_more p a rest) w.stands

    first_fits : Fits p a.level a.entry
    first_fits = w.fit a (Memᴰ.head refl)

    first_low : a.level ≤ p.height
    first_low = omega (arith, w.low a (Memᴰ.head refl))

    pub first_put : Put p a.level a.entry q
    first_put = standing_put c lawful p a.level a.entry (slots_aside p rest) first_stands first_fits first_low q h

    same : (t : SlotNumber) → Among t (slots_aside p rest) → node_at p t ≡ node_at q t
    same = aside_same p a.level a.entry q first_put (slots_aside p rest) first_stands first_fits

    pub still_waiting : Waiting q rest
    still_waiting = record {
      stands = subst (Standing q) (sym (slots_aside_frame p q rest same))
          (insert_standing c lawful p a.level a.entry (slots_aside p rest) first_stands first_fits first_low q h);
      fit = λ b m. aside_fits p a.level a.entry q first_put (slots_aside p rest) first_stands first_fits b.level b.entry
          (λ t n. aside_among p t b rest m n) (w.fit b (Memᴰ.tail m));
      low = λ b m. omega (arith, w.low b (Memᴰ.tail m), put_high p a.level a.entry q first_put);
    }

    put_first : (z : Pool) → PutBack q rest z → PutBack p (a ∷ rest) z
    put_first z g = record {
      stands = g.stands;
      records = g.records ∙ first_put.records;
      count = λ f. omega (
        arith,
        g.count f,
        put_count p a.level a.entry q first_put f,
        count_under p f a.level a.entry,
        weight_aside_more p (count_of f) a rest,
        weight_aside_frame p q rest same (count_of f),
      );
    }

  -- ---- all of them

  pub reinsert_puts : Lawful c → (xs : List Aside) (p : Pool) → Waiting p xs → EachPool (PutBack p xs) (reinsert c p xs)
  reinsert_puts lawful [] p w = rw (reinsert_none p) (record {
    stands = subst (Standing p) (slots_aside_none p) w.stands;
    records = refl;
    count = λ f. omega (arith, weight_aside_none p (count_of f));
  })
  reinsert_puts lawful (a ∷ rest) p w = go (insert_at c a.level p a.entry) refl (reinsert_puts lawful rest)
    where
      go : (o : Change) → insert_at c a.level p a.entry ≡ o → ((q : Pool) → Waiting q rest → EachPool (PutBack q rest) (reinsert c q rest))
          → EachPool (PutBack p (a ∷ rest)) (reinsert c p (a ∷ rest))
      go (Done q) h later =
          rw (reinsert_done p a rest q h)
          (each_pool (PutBack q rest) (PutBack p (a ∷ rest)) (put_first lawful p a rest w q h) (reinsert c q rest)
          (later q (still_waiting lawful p a rest w q h)))
      go NoneFree h later = rw (reinsert_full p a rest h) tt
