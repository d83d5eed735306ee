-- Plans in range.
use Prim.Native.Nat.{◌≤◌}
use mathlib.Core.Path.{◌≡◌, sym}
use mathlib.Core.Bool.{true, false}
use borrow.Author.Tests.{le-leb}
use lib.Dec.{leb}
use Rattle.model.specs.Sound.{within}
use Rattle.model.proofs.Cases.{by_bool, and_left, and_right, within_le, le_within}
use Rattle.workload_plan.specs.declared.Plan.{Plan}
use Rattle.workload_plan.specs.Input.{key_limit, worker_limit, workers, fits}

pub record Fit (p : Plan) : Type 0 where
  pub some_key : 1 ≤ p.keys
  pub keys : p.keys ≤ key_limit
  pub some_worker : 1 ≤ workers p
  pub workers : workers p ≤ worker_limit

module _ (p : Plan) where
  pub fit : fits p ≡ true → Fit p
  unfolding fits
  fit e =
      let a = within_le 1 key_limit p.keys (and_left (within 1 key_limit p.keys) (within 1 worker_limit (workers p)) e) in
      let b = within_le 1 worker_limit (workers p) (and_right (within 1 key_limit p.keys) (within 1 worker_limit (workers p)) e) in
      record { some_key = a.0; keys = a.1; some_worker = b.0; workers = b.1 }

  -- the last test, where the others passed
  pub fit_last : 1 ≤ p.keys → p.keys ≤ key_limit → 1 ≤ workers p → leb (workers p) worker_limit ≡ fits p
  unfolding fits
  fit_last a b c = rw (le_within 1 key_limit p.keys a b, le-leb 1 (workers p) c)

  pub unfit : (Fit p → ⊥) → false ≡ fits p
  unfit n = by_bool (fits p) (λ e. absurd (n (fit e))) (λ e. sym e)
