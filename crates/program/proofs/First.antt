-- The blank pool of 128 slots is sound, by computing, and it is what blanking any words of its length leaves.
use mathlib.Core.Path.{◌≡◌, refl}
use mathlib.Core.Bool.{true}
use mathlib.Core.List.{List}
use lib.ListN.{length, replicate}
use lib.IntN.{ℤ, pos}
use Rattle.rules.specs.declared.Edition.TheVariants.{One}
use Rattle.rules.specs.Layout.{valid_size, valid_length, blank, blank_words}
use Rattle.rules.specs.Sound.{sound}
use Rattle.rules.specs.Computed.{document01}
use Rattle.program.specs.Running.{pool_size}

pub first_right : valid_length (blank_words 128) ≡ true
unfolding document01
first_right = refl

pub first_sound : sound (blank_words 128) ≡ true
unfolding document01
first_sound = refl

same_blank : (v w : List ℤ) → length v ≡ length w → valid_size One (length w) ≡ true → (blank One v).pool ≡ (blank One w).pool
unfolding blank
same_blank v w long right = rw (blank, long, right, long)

pub first_words : (w : List ℤ) → length w ≡ pool_size → (blank One w).pool ≡ blank_words 128
unfolding document01
first_words w long = same_blank w (replicate pool_size (pos 0)) long refl
