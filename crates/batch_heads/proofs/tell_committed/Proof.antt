-- By the case: the number, the flag, how many clash, or the refusal.
use mathlib.Core.Path.{subst}
use borrow.Author.Rules.{rules}
use Rattle.model.specs.Calls.{refusal}
use Rattle.model_batch.specs.Answers.{flag_of, numbers_of, head}
use Rattle.answers.specs.declared.Committed.{Committed}
use Rattle.answers.specs.Paper.{Counts}
use Rattle.batch_heads.specs.Heads.{fields}
use Rattle.batch_heads.proofs.tell_committed.Statement.{statement}
use Rattle.batch_heads.proofs.tell_committed.Tie as tie

returns : tie.Need-returns-in-As
unfolding head numbers_of refusal flag_of fields
returns c cs n =
    rw c.in-As.is c.write_head.ensures

returns_2 : tie.Need-returns-in-Closed
unfolding head numbers_of refusal flag_of fields
returns_2 c cs n =
    rw c.in-Closed.is c.write_head-in-Closed.ensures

returns_3 : tie.Need-returns-in-Conflict
unfolding head numbers_of refusal flag_of fields
returns_3 c cs n =
    let told = c.in-Conflict.is in
    let count = subst (λ (a : Committed). Counts cs a) told n in
    rw (told, ← count) c.write_head-in-Conflict.ensures

returns_4 : tie.Need-returns-in-Refused
returns_4 c cs n =
    rw c.in-Refused.is c.refuse.ensures

pub tell_committed_spec : {M : Type 1} → statement M
tell_committed_spec =
    tie.close
    (tie.spec
    (λ c. search rules)
    (λ c κs. search rules)
    (λ c. search rules)
    (λ c κs. search rules)
    (λ c. search rules)
    (λ c κs. search rules)
    (λ c. search rules)
    (λ c κs. search rules)
    (λ c. search rules)
    returns
    (λ c. search rules)
    returns_2
    (λ c. search rules)
    returns_3
    (λ c. search rules)
    returns_4)
