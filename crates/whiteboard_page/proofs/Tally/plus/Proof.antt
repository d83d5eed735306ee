-- Each field is the wrapping sum of its two, and so a sum of its own.
use Rattle.std.proofs.Common.{rules}
use Rattle.whiteboard_page.proofs.Tally.plus.Statement.{statement}
use Rattle.whiteboard_page.proofs.Tally.plus.Tie as tie

returns : tie.Need-returns
returns c =
    rw (
      c.wrapping_add_u64.ensures,
      c.wrapping_add_u64-2.ensures,
      c.wrapping_add_u64-3.ensures,
    )

pub plus_spec : {M : Type 1} → statement M
plus_spec = tie.close (tie.spec (λ c κs. search rules) (λ c κs. search rules) (λ c κs. search rules) returns)
