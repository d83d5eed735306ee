-- `desk_for` answers the refusal, or a desk with room; the value stored there is the model's put.
use borrow.Author.Rules.{rules}
use Rattle.model.specs.State.{content}
use Rattle.desk_writes.proofs.Laws.Ordered.{sound_ordered}
use Rattle.call_write.proofs.Laws.{writable, short_value, write_refused, write_done}
use Rattle.call_write.proofs.put_in.Statement.{statement}
use Rattle.call_write.proofs.put_in.Tie as tie

put_write_requires : tie.Need-put_write-requires
put_write_requires c κs = (
  writable _ _ _ _ c.desk_for.ensures c.in-At.is (search (rules, sound_ordered)),
  short_value _ _ _ _ c.desk_for.ensures c.in-At.is _
      c.value_fits.ensures,
)

returns : tie.Need-returns-in-At
returns c =
    write_done _ _ (search rules) _ _ (content _) c.value_fits.ensures
    c.desk_for.ensures c.in-At.is c.put_write.ensures

returns_2 : tie.Need-returns-in-Refused
returns_2 c =
    write_refused _ _ (search rules) _ _ (content _) c.value_fits.ensures
    c.desk_for.ensures c.in-Refused.is

pub put_in_spec : {M : Type 1} → statement M
put_in_spec =
    tie.close
    (tie.spec
    (λ c κs. search rules)
    (λ c κs. search (rules, sound_ordered))
    (λ c. search rules)
    put_write_requires
    (λ c. search rules)
    (λ c. search rules)
    returns
    (λ c. search rules)
    returns_2)
