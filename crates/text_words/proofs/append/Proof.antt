-- Where the source fits behind `at` it is copied in; where it does not, text and end stay as they are.
use native.Mathlib.Omega.{arith}
use borrow.Author.Rules.{rules}
use Rattle.text_words.proofs.Laws.Words.{no_room_lem, has_room_lem}
use Rattle.text_words.proofs.append.Statement.{statement}
use Rattle.text_words.proofs.append.Tie as tie

pub append_spec : {M : Type 1} → statement M
append_spec =
    tie.close
    (tie.spec
    (λ c. no_room_lem _ _ _ (omega arith))
    (λ c. search rules)
    (λ c. no_room_lem _ _ _ (omega arith))
    (λ c κs. search rules)
    (λ c. search rules)
    (λ c. search rules)
    (λ c. has_room_lem _ _ _ (omega arith) c.copy_in.ensures))
