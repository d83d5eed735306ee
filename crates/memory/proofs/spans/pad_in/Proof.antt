-- The source and the zeros behind it are one run of bytes, which is the padded source.
use Rattle.memory.proofs.Laws.Spans.{sets_padded}
use borrow.Author.Rules.{rules}
use Rattle.memory.proofs.spans.pad_in.Statement.{statement}
use Rattle.memory.proofs.spans.pad_in.Tie as tie

returns : tie.Need-returns
returns c =
    sets_padded _ _ _ _ c.copy_in.ensures
    c.clear.ensures

pub pad_in_spec : {M : Type 1} → statement M
pad_in_spec =
    tie.close
    (tie.spec
    (λ c κs. search rules)
    (λ c. search rules)
    (λ c. search rules)
    (λ c κs. search rules)
    (λ c. search rules)
    returns)
