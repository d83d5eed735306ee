-- In a shaped hall memory the payload of each version row is a cell inside it, and `value_in` reads that cell.
use borrow.Author.Rules.{rules}
use Rattle.hall_values.proofs.Laws.{payload_ready, version_stands}
use Rattle.hall_values.proofs.version_value.Statement.{statement}
use Rattle.hall_values.proofs.version_value.Tie as tie

value_in_requires : tie.Need-value_in-requires
value_in_requires c κs =
    payload_ready c.args.hall.now c.requires.0 c.args.j c.requires.1
    c.payload_place.ensures

returns : tie.Need-returns
returns c =
    version_stands c.args.hall.now c.requires.0 c.args.j c.requires.1
    c.payload_place.ensures c.value_in.ensures

pub version_value_spec : {M : Type 1} → statement M
version_value_spec = tie.close (tie.spec (λ c κs. search rules) value_in_requires returns)
