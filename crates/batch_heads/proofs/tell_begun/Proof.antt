-- By the case: start and desk, or the refusal.
use borrow.Author.Rules.{rules}
use Rattle.model.specs.Calls.{refusal}
use Rattle.model_batch.specs.Answers.{flag_of, numbers_of, head}
use Rattle.batch_heads.specs.Heads.{fields}
use Rattle.batch_heads.proofs.tell_begun.Statement.{statement}
use Rattle.batch_heads.proofs.tell_begun.Tie as tie

returns : tie.Need-returns-in-As
unfolding head numbers_of refusal flag_of fields
returns c =
    rw c.in-As.is c.write_head.ensures

returns_2 : tie.Need-returns-in-Refused
returns_2 c =
    rw c.in-Refused.is c.refuse.ensures

pub tell_begun_spec : {M : Type 1} → statement M
tell_begun_spec =
    tie.close
    (tie.spec
    (λ c. search rules)
    (λ c κs. search rules)
    (λ c. search rules)
    (λ c κs. search rules)
    (λ c. search rules)
    returns
    (λ c. search rules)
    returns_2)
