-- Words found in a list of words from a place on, and what stands around the entries of a slot.
use Rattle.std.specs.Prelude.{Bool, ◌&&◌, List, ℕ, ◌*◌, ◌-◌, min, length, take, drop, replicate, ℤ, pos}
use Rattle.rules.specs.declared.SlotNumber.{SlotNumber}
use Rattle.rules.specs.Lists.{same}
use Rattle.rules.specs.Numbers.{most}
use Rattle.rules.specs.Pool.{entries_at}
use Rattle.rules.specs.Layout.{entry_size, count_place, entry_place, edition_of, natural, word_at, read, same_words}

-- the words vs are those of w from a place on
unfoldable pub stand : List ℤ → List ℤ → ℕ → Bool
stand vs w at = same_words vs (take (length vs) (drop at w))

-- "unused entries .. are all zero": the words of slot s from its place n on
unfoldable pub zero_from : List ℤ → SlotNumber → ℕ → Bool
zero_from w s n = stand (replicate (entry_size (edition_of w) * (most - n)) (pos 0)) w (entry_place (edition_of w) s n)

-- the count of slot s is one that a node may have, and what comes after its entries is zero
unfoldable pub tidy_around : List ℤ → SlotNumber → Bool
tidy_around w s =
    same (pos (min (natural (word_at w (count_place (edition_of w) s))) most)) (word_at w (count_place (edition_of w) s))
    && zero_from w s (length (entries_at (read w) s))
