-- The low half's two bytes and then the high half's are the number's four bytes, stored as one run.
use borrow.Author.Rules.{rules}
use Rattle.memory.proofs.Laws.Parts.{bytes_join}
use Rattle.memory.proofs.numbers.write32.Statement.{statement}
use Rattle.memory.proofs.numbers.write32.Tie as tie

returns : tie.Need-returns
returns c =
    bytes_join _ _ 2 2 _ c.write16.ensures
    c.write16-2.ensures

pub write32_spec : {M : Type 1} → statement M
write32_spec =
    tie.close
    (tie.spec
    (λ c κs. search rules)
    (λ c. search rules)
    (λ c κs. search rules)
    (λ c. search rules)
    returns)
