-- By the case: the kind as the flag, or the refusal.
use borrow.Author.Rules.{rules}
use Rattle.model.specs.Calls.{refusal}
use Rattle.model_batch.specs.Answers.{kind_flag, flag_of, numbers_of, head}
use Rattle.batch_heads.specs.Heads.{fields}
use Rattle.batch_heads.proofs.tell_placed.Statement.{statement}
use Rattle.batch_heads.proofs.tell_placed.Tie as tie

returns : tie.Need-returns-in-Refused
returns c =
    rw c.in-Refused.is c.refuse.ensures

returns_2 : tie.Need-returns-in-Own
unfolding head numbers_of refusal flag_of kind_flag fields
returns_2 c =
    rw c.in-Own.is c.write_head.ensures

returns_3 : tie.Need-returns-in-Held
unfolding head numbers_of refusal flag_of kind_flag fields
returns_3 c =
    rw c.in-Held.is c.write_head-in-Held.ensures

returns_4 : tie.Need-returns-in-Nothing
unfolding head numbers_of refusal flag_of kind_flag fields
returns_4 c =
    rw c.in-Nothing.is c.write_head-in-Nothing.ensures

pub tell_placed_spec : {M : Type 1} → statement M
tell_placed_spec =
    tie.close
    (tie.spec
    (λ c. search rules)
    (λ c κs. search rules)
    (λ c. search rules)
    (λ c κs. search rules)
    (λ c. search rules)
    (λ c κs. search rules)
    (λ c. search rules)
    (λ c κs. search rules)
    (λ c. search rules)
    returns
    (λ c. search rules)
    returns_2
    (λ c. search rules)
    returns_3
    (λ c. search rules)
    returns_4)
