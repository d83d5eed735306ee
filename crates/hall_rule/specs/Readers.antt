-- The readers that a sweep spares, as its code is lent them.
use Rattle.std.specs.Prelude.{ℕ, ◌≤◌, min, ◌≡◌, true, List, [], ◌∷◌, leb}
use Rattle.model.specs.State.{Version}
use Rattle.model.specs.Sweeps.{is_clear}

-- from lo on none is below the one before it
abbrev pub Upward : (lo : ℕ) → List ℕ → Type 0
Upward lo [] = Unit {0}
Upward lo (t ∷ ts) = (lo ≤ t) × Upward t ts

-- the smallest of c and the readers
unfoldable pub lowest : (c : ℕ) → (readers : List ℕ) → ℕ
lowest c [] = c
lowest c (t ∷ ts) = min t (lowest c ts)

-- they ascend, and from 0 on all is clear up to k
pub record Readers (c k : ℕ) (ts : List ℕ) : Type 0 where
  pub upward : Upward 0 ts
  pub clear : k ≡ lowest c ts

-- from lo on all is clear up to r, and no further
abbrev pub Upto : (c : ℕ) → (readers : List ℕ) → (lo r : ℕ) → Type 0
Upto c ts lo r = (w : ℕ) → leb w r ≡ is_clear c ts lo w

-- from version v on all is clear up to h
abbrev pub IsClear : (c : ℕ) → (readers : List ℕ) → Version → (h : ℕ) → Type 0
IsClear c ts v h = is_clear c ts v.number h ≡ true

-- and h tells whether it is up to x
pub record Reaches (c : ℕ) (ts : List ℕ) (v : Version) (x h : ℕ) : Type 0 where
  pub clear : IsClear c ts v h
  pub tells : leb x h ≡ is_clear c ts v.number x
