-- The open desk of a start: what changes its writes, and what closes it, in the model's words.
-- Assumes nothing.
use mathlib.Core.Path.{◌≡◌, sym}
use mathlib.Core.List.{List}
use Rattle.std.specs.Prelude.{Some}
use Prim.Native.Nat.{ℕ}
use Rattle.model.specs.Bytes.{Bytes}
use Rattle.model.specs.State.{Writes, Desk, redesk, rewriting}
use Rattle.model_laws.proofs.Desks.{Distinct}
use Rattle.desk.specs.Layout.{desks_in}
use Rattle.desk.specs.Shape.{Shaped, desk_of}
use Rattle.desk_writes.specs.Writes.{rewritten, Open}
use Rattle.desk.proofs.Laws.Starts.{open_at, redesk_at}

module _ (t : ℕ) (ds : List Desk) (d : ℕ) (e : desk_of t ds ≡ Some d) where
  pub rewritten_redesk : (f : Writes → Writes) → Distinct ds → rewritten d f ds ≡ redesk t (rewriting f) ds
  rewritten_redesk f s = sym (redesk_at t (rewriting f) ds d s e)

-- the desk that `desk_of` finds is open
pub open_of : (t : ℕ) (m : Bytes) (d : ℕ) → Shaped m → desk_of t (desks_in m) ≡ Some d → Open m d
open_of t m d s e =
    let a = open_at t (desks_in m) d e in
    record { shaped = s; below = a.below; is_open = a.is_open }
