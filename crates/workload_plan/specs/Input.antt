-- The workload's input: seven decimal numbers, one a line (docs/RULES.md, 8.1).
use Rattle.std.specs.Prelude.{ℕ, ◌+◌, Bool, ◌&&◌, cond, List, get_or, Option, None, Some}
use Rattle.model.specs.Sizes.{max_desks}
use Rattle.model.specs.Bytes.{Bytes}
use Rattle.model.specs.Sound.{within}
use Rattle.workload_plan.specs.declared.Plan.{Plan}
use Rattle.workload_plan.specs.declared.Input.{Input}
use Rattle.workload_plan.specs.declared.Input.TheVariants as input
use Rattle.workload_plan.specs.Lines.{seven_in}

-- the most different keys
abbrev pub key_limit : ℕ
key_limit = 1024

-- the most workers: each has a desk
abbrev pub worker_limit : ℕ
worker_limit = max_desks

abbrev pub workers : Plan → ℕ
workers p = p.writers + p.readers

-- whether the rooms are in range too is tried by making the store
unfoldable pub fits : Plan → Bool
fits p = within 1 key_limit p.keys && within 1 worker_limit (workers p)

-- the numbers in the order of their lines
abbrev pub plan_from : List ℕ → Plan
plan_from ns =
    record {
      seed = get_or ns 0 0;
      operations = get_or ns 1 0;
      keys = get_or ns 2 0;
      writers = get_or ns 3 0;
      readers = get_or ns 4 0;
      key_rooms = get_or ns 5 0;
      version_rooms = get_or ns 6 0;
    }

unfoldable pub plan_of : Option (List ℕ) → Input
plan_of None = input.Other
plan_of (Some ns) = cond (fits (plan_from ns)) (input.Plan (plan_from ns)) input.Other

unfoldable pub plan_in : Bytes → Input
plan_in text = plan_of (seven_in text)
