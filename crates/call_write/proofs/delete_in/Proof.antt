-- `desk_for` answers the refusal, or a desk with room; the deletion stored there is the model's delete.
use mathlib.Core.Path.{refl}
use borrow.Author.Rules.{rules}
use Rattle.model.specs.State.{deletion}
use Rattle.desk_writes.proofs.Laws.Ordered.{sound_ordered}
use Rattle.call_write.proofs.Laws.{writable, write_refused, write_done}
use Rattle.call_write.proofs.delete_in.Statement.{statement}
use Rattle.call_write.proofs.delete_in.Tie as tie

delete_write_requires : tie.Need-delete_write-requires
delete_write_requires c κs =
    writable _ _ _ _ c.desk_for.ensures c.in-At.is (search (rules, sound_ordered))

returns : tie.Need-returns-in-At
returns c =
    write_done _ _ (search rules) _ _ deletion refl c.desk_for.ensures c.in-At.is
    c.delete_write.ensures.after

returns_2 : tie.Need-returns-in-Refused
returns_2 c =
    write_refused _ _ (search rules) _ _ deletion refl c.desk_for.ensures
    c.in-Refused.is

pub delete_in_spec : {M : Type 1} → statement M
delete_in_spec =
    tie.close
    (tie.spec
    (λ c κs. search (rules, sound_ordered))
    (λ c. search rules)
    delete_write_requires
    (λ c. search rules)
    (λ c. search rules)
    returns
    (λ c. search rules)
    returns_2)
