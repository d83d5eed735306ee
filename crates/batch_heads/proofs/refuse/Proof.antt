-- The head of a refusal has its number and nothing else.
use borrow.Author.Rules.{rules}
use Rattle.model.specs.Calls.{refusal}
use Rattle.model_batch.specs.Answers.{flag_of, numbers_of, head}
use Rattle.batch_heads.specs.Heads.{fields}
use Rattle.batch_heads.proofs.refuse.Statement.{statement}
use Rattle.batch_heads.proofs.refuse.Tie as tie

returns : tie.Need-returns
unfolding head numbers_of refusal flag_of fields
returns c =
    rw (← c.number_of.ensures) c.write_head.ensures

pub refuse_spec : {M : Type 1} → statement M
refuse_spec =
    tie.close
    (tie.spec
    (λ c κs. search rules)
    (λ c κs. search rules)
    (λ c. search rules)
    returns)
