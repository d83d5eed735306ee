-- Below ten it is a figure, else a letter, by the same test as in the spec.
use borrow.Author.Rules.{rules}
use borrow.Author.Tests.{lt-ltb, le-ltb}
use Rattle.text_hex.proofs.glyph.Statement.{statement}
use Rattle.text_hex.proofs.glyph.Tie as tie

pub glyph_spec : {M : Type 1} → statement M
glyph_spec =
    tie.close
    (tie.spec
    (λ c. search rules)
    (λ c. search rules)
    (λ c. search (rules, lt-ltb))
    (λ c. search (rules, le-ltb)))
