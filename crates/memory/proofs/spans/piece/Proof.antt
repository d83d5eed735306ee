-- The slice from `at` to `at + n` drops `at` bytes and takes n, which is how `part` unfolds.
use native.Mathlib.Nat.{add-sub_cancel_left}
use Rattle.model.specs.Bytes.{part}
use borrow.Author.Rules.{rules}
use Rattle.memory.proofs.spans.piece.Statement.{statement}
use Rattle.memory.proofs.spans.piece.Tie as tie

pub piece_spec : {M : Type 1} → statement M
unfolding part
piece_spec =
    tie.close
    (tie.spec
    (λ c. search rules)
    (λ c. search rules)
    (λ c. search rules)
    (λ c. search rules)
    (λ c. rw add-sub_cancel_left))
