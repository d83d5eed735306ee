-- A text that says no bytes or too many leaves the output as it is; else its pairs are stored from `at` on.
use native.Mathlib.Omega.{arith}
use borrow.Author.Rules.{rules}
use Rattle.text_hex.proofs.Laws.Hex.{said_some, decoding_bad, decoding_long, decoding_pairs}
use Rattle.text_hex.proofs.decode.Statement.{statement}
use Rattle.text_hex.proofs.decode.Tie as tie

pub decode_spec : {M : Type 1} → statement M
decode_spec =
    tie.close
    (tie.spec
    (λ c κs. search rules)
    (λ c. search (rules, decoding_bad))
    (λ c. decoding_long _ _ _ (search (rules, said_some)) (omega arith))
    (λ c. search rules)
    (λ c. decoding_long _ _ _ (search (rules, said_some)) (omega arith))
    (λ c κs. (search (rules, said_some), omega arith))
    (λ c. search rules)
    (λ c. decoding_pairs _ _ _ (search (rules, said_some)) (omega arith) c.decode_pairs.ensures))
