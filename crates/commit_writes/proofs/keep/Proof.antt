-- Without a journal nothing is written; a journal that is long enough gets the record over its front.
use mathlib.Core.Path.{refl}
use borrow.Author.Rules.{rules}
use Rattle.memory.proofs.Laws.Tests.{refused, passed}
use Rattle.commit_writes.proofs.Laws.Records.{not_kept, too_short, written}
use Rattle.commit_writes.proofs.keep.Statement.{statement}
use Rattle.commit_writes.proofs.keep.Tie as tie

returns : tie.Need-returns-then-not-keeping
returns c = not_kept _ (refused refl (rw c.if-not-keeping.true))

returns_2 : tie.Need-returns-then-journal-len
returns_2 c =
    too_short _ (passed refl (rw c.if-not-keeping.false)) c.record_length-len.ensures c.if-journal-len.true

returns_3 : tie.Need-returns
returns_3 c =
    written _ (passed refl (rw c.if-not-keeping.false)) c.record_length-len.ensures c.if-journal-len.false
    c.write_record.ensures

pub keep_spec : {M : Type 1} → statement M
keep_spec =
    tie.close
    (tie.spec
    returns
    (λ c κs. search rules)
    returns_2
    (λ c κs. search rules)
    (λ c. search rules)
    returns_3)
