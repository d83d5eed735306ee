-- The dump's length is at most that of the part that was lent, which lies in the spare memory.
use mathlib.Core.Path.{sym, ap, ◌∙◌}
use lib.ListN.{length-append}
use lib.Seq.{length-take-le}
use native.Mathlib.Omega.{arith}
use Rattle.answers.specs.Paper.{paper_dumped}
use Rattle.console_reply.proofs.Dumps.{dump_within}
use borrow.Author.Rules.{rules}
use Rattle.console_reply.proofs.looks.dump.Statement.{statement}
use Rattle.console_reply.proofs.looks.dump.Tie as tie

within : tie.Need-slice_bounds-word_and_bytes-end-in-Bytes
within c =
    let few = dump_within c.args.hall.now _ _
    (ap paper_dumped (sym c.in-Bytes.is) ∙ c.dump.ensures.answer) in
    simp length-append (omega (arith, few))

slice_aggregate_word_and_bytes_2 : tie.Need-slice_bounds-word_and_bytes-end-in-Bytes-2
slice_aggregate_word_and_bytes_2 c = sym (length-take-le _ _ (within c))

pub dump_spec : {M : Type 1} → statement M
dump_spec =
    tie.close
    (tie.spec
    (λ c κs. search rules)
    (λ c. search rules)
    (λ c. sym (length-take-le _ _ c.room-n.ensures))
    (λ c κs. search rules)
    (λ c. search rules)
    within
    slice_aggregate_word_and_bytes_2
    (λ c κs. search rules)
    (λ c. search rules)
    (λ c κs. search rules)
    (λ c. search rules)
    (λ c. search rules)
    (λ c. search rules)
    (λ c. search rules)
    (λ c. search rules)
    (λ c. search rules))
