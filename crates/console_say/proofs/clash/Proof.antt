-- A record that is there ends within the output, and its key is read only from a key's cell.
use native.Mathlib.Omega.{arith}
use borrow.Author.Rules.{rules}
use Rattle.memory.proofs.Laws.Tests.{passed}
use Rattle.console_say.proofs.clash.Statement.{statement}
use Rattle.console_say.proofs.clash.Tie as tie

key_in_requires : tie.Need-key_in-key-requires
key_in_requires c κs =
    (omega arith, passed c.is_key_cell.ensures (rw c.if-not-is_key_cell.false))

pub clash_spec : {M : Type 1} → statement M
clash_spec =
    tie.close
    (tie.spec
    (λ c. search rules)
    (λ c κs. search rules)
    (λ c κs. search rules)
    (λ c. search rules)
    (λ c κs. search rules)
    key_in_requires
    (λ c κs. search rules)
    (λ c κs. search rules)
    (λ c κs. search rules)
    (λ c κs. search rules)
    (λ c. search rules)
    (λ c. search rules))
