-- `line_end` and `word_end` cut the end off, `from_word` the blanks in front.
use mathlib.Core.Path.{sym}
use borrow.Author.Rules.{rules}
use lib.Seq.{length-take-le}
use Rattle.text_typed.specs.Typed.{words}
use Rattle.text_typed.proofs.words.Statement.{statement}
use Rattle.text_typed.proofs.words.Tie as tie

pub words_spec : {M : Type 1} → statement M
unfolding words
words_spec =
    tie.close
    (tie.spec
    (λ c κs. search rules)
    (λ c κs. search rules)
    (λ c. sym (length-take-le _ _ c.word_end-end.ensures.within))
    (λ c κs. search rules)
    (λ c. rw (← c.line_end.ensures.end, ← c.word_end-end.ensures.end)
    c.from_word.ensures))
