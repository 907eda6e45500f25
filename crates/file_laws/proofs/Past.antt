-- A read whose lengths are right is never answered 1: the frames of a file are refused by other numbers.
use mathlib.Core.Path.{◌≡◌, refl, sym, ap, subst, ◌∙◌}
use mathlib.Core.Bool.{false}
use mathlib.Core.List.{List, []}
use Rattle.std.specs.Prelude.{Option, None}
use Prim.Native.Nat.{ℕ, ◌-◌}
use lib.ListN.{length}
use lib.IntN.{ℤ, pos}
use Rattle.rules.specs.declared.Edition.{Edition}
use Rattle.rules.specs.declared.Record.{Record}
use Rattle.rules.specs.declared.FileFault.{FileFault}
use Rattle.rules.specs.declared.FileFault.TheVariants.{BadRectangle, BadNumber, BadOwner, NoSlot, BadFrame, NotAfter}
use Rattle.rules.specs.Lists.{same}
use Rattle.rules.specs.Pool.{Pool, blank_pool}
use Rattle.rules.specs.Layout.{slots_fitting}
use Rattle.rules.specs.Insert.{Choice, ours}
use Rattle.rules.specs.File.{file_number, count_in, record_fault, Load, Loaded, Fails, load_file, ReadLeft, read_file}
use Rattle.rules_laws.proofs.Orders.{never_both}
use Rattle.sound_laws.proofs.Same.{same_is}
use Rattle.in_force_laws.proofs.Faults.{EachGiven, given_none, given_row}
use Rattle.file_laws.proofs.Rule.{load_cases, file_cases}
use Rattle.file_laws.proofs.Cases.{lengths_wrong, read_in, read_out}

-- another number than 1
abbrev Past : FileFault → Type 0
Past f = same (file_number f) (pos 1) ≡ false

abbrev FailsPast : Load → Type 0
FailsPast (Loaded q) = Unit {0}
FailsPast (Fails f) = Past f

frame_past : Past BadFrame
unfolding file_number same
frame_past = refl

slot_past : Past NoSlot
unfolding file_number same
slot_past = refl

record_past : (ed : Edition) (last : Option Record) (r : Record) → EachGiven Past (record_fault ed last r)
unfolding record_fault file_number same
record_past ed last r =
    given_row Past _ BadRectangle _ refl
    (given_row Past _ BadNumber _ refl (given_row Past _ BadOwner _ refl (given_row Past _ NotAfter [] refl (given_none Past))))

file_past : (c : Choice) (ed : Edition) (p : Pool) (bs : List ℕ) → FailsPast (load_file c ed p bs)
file_past c ed p bs =
    file_cases c ed p bs FailsPast frame_past
    (λ d e h. load_cases c ed (λ n last p bs l. FailsPast l) (λ n last p bs. frame_past) (λ last p bs d e f. tt)
    (λ n last p bs r f g. subst (EachGiven Past) g (record_past ed last r)) (λ n last p bs. slot_past) (λ n last p bs d q l e g i t. t)
    (count_in d.words) None p d.after)

pub past_one : (ed : Edition) (w u : List ℤ) (bs : List ℕ) → lengths_wrong ed w u ≡ false → (read_file ed w u bs).number ≡ pos 1 → ⊥
past_one ed w u bs h e = go (load_file ours ed (blank_pool ed (slots_fitting ed (length w) - 1)) bs) refl (file_past ours ed (blank_pool ed (slots_fitting ed (length w) - 1)) bs)
  where
    one : (z : ℤ) → z ≡ pos 1 → same z (pos 1) ≡ false → ⊥
    one z a b = never_both ((same_is z (pos 1)).1 a) b

    zero_past : same (pos 0) (pos 1) ≡ false
    zero_past = unfold same in refl

    go : (l : Load) → load_file ours ed (blank_pool ed (slots_fitting ed (length w) - 1)) bs ≡ l → FailsPast (load_file ours ed (blank_pool ed (slots_fitting ed (length w) - 1)) bs) → ⊥
    go (Loaded q) f k = one (pos 0) (sym (ap (λ (o : ReadLeft). o.number) (read_in ed w u bs h q f)) ∙ e) zero_past
    go (Fails x) f k = one (file_number x) (sym (ap (λ (o : ReadLeft). o.number) (read_out ed w u bs h x f)) ∙ e) (subst FailsPast f k)
