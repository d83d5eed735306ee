-- What an operation of the workload draws (docs/RULES.md, 8.3).
use Rattle.std.specs.Prelude.{ℕ, ◌+◌, ◌/◌, ◌%◌, ◌^◌, [], ◌∷◌}
use Rattle.model.specs.Bytes.{Bytes}
use Rattle.workload_splitmix.specs.SplitMix.{drawn}
use Rattle.workload_plan.specs.declared.Plan.{Plan}
use Rattle.workload_plan.specs.declared.choices.Choice.{Choice}
use Rattle.workload_plan.specs.Input.{workers}

-- three draws from a state of the generator, and the state after them
unfoldable pub chosen : Plan → (state : ℕ) → Choice
chosen p state =
    let first = drawn state in
    let second = drawn first.state in
    let third = drawn second.state in
    record { worker = first.out % workers p; key = second.out % p.keys; payload = third.out; state = third.state }

-- the sign of the last decimal digit
abbrev pub digit : ℕ → ℕ
digit n = 0x30 + n % 10

-- `K` and four decimal digits
unfoldable pub key_of : ℕ → Bytes
key_of n = 0x4B ∷ digit (n / 1000) ∷ digit (n / 100) ∷ digit (n / 10) ∷ digit n ∷ []

-- the low 32 bits, the highest byte first
unfoldable pub payload_of : ℕ → Bytes
payload_of n = n / 2 ^ 24 % 256 ∷ n / 2 ^ 16 % 256 ∷ n / 2 ^ 8 % 256 ∷ n % 256 ∷ []
