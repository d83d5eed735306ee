-- The bytes that a line gives stand in a memory of that room.
use Rattle.std.specs.Prelude.{ℕ, ◌≤◌}
use Rattle.console_calls.specs.declared.Call.{Call}

pub record GivenIn (room : ℕ) (c : Call) : Type 0 where
  pub key : c.key ≤ c.end
  pub end : c.end ≤ room
