-- If an older version stands between j and `to`, the next is the successor; else the newest, in row i, is.
use native.Mathlib.Omega.{arith}
use borrow.Author.Rules.{rules}
use Rattle.hall_rule.proofs.Laws.Successor.{next_older, next_newest}
use Rattle.hall_rule.proofs.next_number.Statement.{statement}
use Rattle.hall_rule.proofs.next_number.Tie as tie

returns : tie.Need-returns-then-j-to
returns c =
    let a = c.args in
    next_older a.m.now a.i a.j a.to c.requires (omega arith) c.number_at.ensures

returns_2 : tie.Need-returns
returns_2 c =
    let a = c.args in
    next_newest a.m.now a.i a.j a.to c.requires (omega arith) c.number_at-2.ensures

pub next_number_spec : {M : Type 1} → statement M
next_number_spec =
    tie.close
    (tie.spec (λ c. search rules) (λ c. search rules) (λ c κs. search rules) returns (λ c κs. search rules) returns_2)
