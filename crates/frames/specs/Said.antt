-- What a program that reads its input piece by piece has to keep true, so that it prints what `dustmap` gives for the whole input.
use Rattle.std.specs.Prelude.{◌≡◌, List, [], ◌∷◌, ◌++◌, ℕ, suc, ◌≤◌, length, get_or, ℤ}
use Rattle.rules.specs.declared.Request.{Request}
use Rattle.rules.specs.Answers.{answer}
use Rattle.rules.specs.Frames.{frame_call, reply_lines, bad_line, printed, dustmap}

-- Some bytes have arrived, and of them the frames before are done and `held` are left; `out` is printed and the map is `pool`. Then, whatever
-- is to come, what is to be printed of all is `out` and after it what is to be printed of those left.
unfoldable pub Said : List ℕ → List ℕ → ℕ → List ℤ → List ℕ → Type 0
Said arrived out before pool held =
    (later : List ℕ) (n : ℕ) → length (held ++ later) ≤ n → dustmap (arrived ++ later) ≡ out ++ printed n (suc before) pool (held ++ later)

-- the lines of the call that a frame makes
unfoldable pub reply_shown : ℕ → List ℤ → Request → List ℕ
reply_shown before pool q = reply_lines (suc before) (get_or (frame_call pool q).answers 0 (answer 0 0 0 0)) (frame_call pool q).found

-- the lines of what is left when no more is to come: "A cut frame .. prints `bad frame`"
unfoldable pub cut_line : ℕ → List ℕ → List ℕ
cut_line before [] = []
cut_line before (b ∷ bs) = bad_line (suc before)
