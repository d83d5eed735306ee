-- The low half's four bytes and then the high half's are the number's eight bytes, stored as one run.
use borrow.Author.Rules.{rules}
use Rattle.memory.proofs.Laws.Parts.{bytes_join}
use Rattle.memory.proofs.numbers.write64.Statement.{statement}
use Rattle.memory.proofs.numbers.write64.Tie as tie

returns : tie.Need-returns
returns c =
    bytes_join _ _ 4 4 _ c.write32.ensures
    c.write32-2.ensures

pub write64_spec : {M : Type 1} → statement M
write64_spec =
    tie.close
    (tie.spec
    (λ c κs. search rules)
    (λ c. search rules)
    (λ c κs. search rules)
    (λ c. search rules)
    returns)
