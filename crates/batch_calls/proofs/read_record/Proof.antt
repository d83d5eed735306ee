-- The head tells where the value stands, and the value is copied from there.
use native.Mathlib.Omega.{arith}
use borrow.Author.Rules.{rules}
use Rattle.model_batch.specs.Items.{act_kind, item_kind}
use Rattle.model_batch.specs.Answers.{kind_width}
use Rattle.batch_calls.proofs.Laws.Details.{lent_short}
use Rattle.batch_calls.proofs.Laws.Done.{did_read}
use Rattle.batch_calls.proofs.read_record.Statement.{statement}
use Rattle.batch_calls.proofs.read_record.Tie as tie

lent_requires : tie.Need-lent-requires
lent_requires c κs =
    c.place_in-p.ensures.inside

write_value_requires : tie.Need-write_value-requires
unfolding kind_width item_kind act_kind
write_value_requires c κs = (
  lent_short c.requires.sound c.args.start.0 c.args.key.now
      c.place_in-p.ensures c.lent.ensures,
  omega (arith, c.requires.details),
)

returns : tie.Need-returns
returns c =
    did_read _ c.place_in-p.ensures c.tell_placed.ensures c.lent.ensures
    c.write_value.ensures

pub read_record_spec : {M : Type 1} → statement M
read_record_spec =
    tie.close
    (tie.spec
    (λ c κs. search rules)
    (λ c κs. search rules)
    lent_requires
    write_value_requires
    (λ c. search rules)
    returns)
