-- What a sweep leaves of the keys.
use Rattle.std.specs.Prelude.{ℕ, zero, suc, ◌-◌, cond, List, [], ◌++◌, take, drop}
use Rattle.model.specs.State.{Version}
use Rattle.model.specs.Sweeps.{Rule}
use Rattle.hall.specs.Tables.{version_at}

-- of the first n of xs, which stand in step with versions, those whose version stays with nothing after it
unfoldable pub staying : {A : Type 0} → Rule → (n : ℕ) → List Version → (xs : List A) → List A
staying g zero vs xs = []
staying g (suc n) vs xs =
    cond (g (version_at 0 vs) []) (staying g n (drop 1 vs) (drop 1 xs))
    (take 1 xs ++ staying g n (drop 1 vs) (drop 1 xs))

-- of those from i on
abbrev pub staying_from : {A : Type 0} → Rule → (i n : ℕ) → List Version → (xs : List A) → List A
staying_from g i n vs xs = staying g (n - i) (drop i vs) (drop i xs)
