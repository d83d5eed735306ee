-- `find` counts the bytes before the first space, and the rest begins one further; past the end it is empty.
use mathlib.Core.Path.{sym, ◌∙◌}
use native.Mathlib.Numerals.{add-one}
use native.Mathlib.Omega.{arith}
use borrow.Author.Rules.{rules}
use Prim.Native.Nat.{suc}
use lib.ListN.{length, drop_of_length-le}
use Rattle.text_words.specs.Words.{before, space}
use Rattle.text_words.proofs.Laws.Words.{after_drop, tail}
use Rattle.text_words.proofs.rest.Statement.{statement}
use Rattle.text_words.proofs.rest.Tie as tie

returns : tie.Need-returns-then-n-s
returns c =
    let s = c.args.s.now in
    tail s _ ∙ rw (c.find-n.ensures.end, add-one (length (before space s))) (after_drop space s)

returns_2 : tie.Need-returns
returns_2 c =
    let s = c.args.s.now in
    sym (drop_of_length-le s {i = suc (length (before space s))} (omega arith))
    ∙ after_drop space s

pub rest_spec : {M : Type 1} → statement M
rest_spec =
    tie.close
    (tie.spec
    (λ c κs. search rules)
    (λ c. search rules)
    (λ c. search rules)
    (λ c. search rules)
    (λ c. search rules)
    returns
    (λ c. search rules)
    returns_2)
