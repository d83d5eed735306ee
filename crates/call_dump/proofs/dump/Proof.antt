-- An unsound hall or a short output leaves the output as it is; else `dump_to` writes the dump over its front.
use native.Mathlib.Omega.{arith}
use borrow.Author.Rules.{rules}
use Rattle.memory.proofs.Laws.Tests.{refused, passed}
use Rattle.hall.proofs.Laws.Sound.{tested}
use Rattle.call_dump.proofs.Laws.{dump_unsound, dump_short, dump_written}
use Rattle.call_dump.proofs.dump.Statement.{statement}
use Rattle.call_dump.proofs.dump.Tie as tie

returns_3 : tie.Need-returns
returns_3 c =
    dump_written _ _ (search (rules, passed)) (omega (arith, c.dump_length.ensures))
    c.dump_to.ensures

pub dump_spec : {M : Type 1} → statement M
dump_spec =
    tie.close
    (tie.spec
    (λ c κs. search rules)
    (λ c. search (rules, dump_unsound, refused))
    (λ c κs. search (rules, tested, passed))
    (λ c. dump_short _ _ (search (rules, passed)) (omega (arith, c.dump_length.ensures)))
    (λ c κs. (search (rules, tested, passed), omega (arith, c.dump_length.ensures)))
    (λ c. search rules)
    returns_3)
