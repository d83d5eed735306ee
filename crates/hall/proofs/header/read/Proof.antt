-- Each number is what `read32` or `read64` gives at its place, and all places lie in the header.
use borrow.Author.Rules.{rules}
use Rattle.hall.proofs.header.read.Statement.{statement}
use Rattle.hall.proofs.header.read.Tie as tie

returns : tie.Need-returns
returns c =
    record {
      key_rooms = c.read32.ensures;
      version_rooms = c.read32-2.ensures;
      counter = c.read64.ensures;
      key_count = c.read32-3.ensures;
      version_count = c.read32-4.ensures;
      floor = c.read64-2.ensures;
      desk_count = c.read32-5.ensures;
    }

pub read_spec : {M : Type 1} → statement M
read_spec =
    tie.close
    (tie.spec
    (λ c κs. search rules)
    (λ c. search rules)
    (λ c κs. search rules)
    (λ c. search rules)
    (λ c κs. search rules)
    (λ c κs. search rules)
    (λ c. search rules)
    (λ c κs. search rules)
    (λ c. search rules)
    (λ c κs. search rules)
    (λ c κs. search rules)
    (λ c. search rules)
    returns)
