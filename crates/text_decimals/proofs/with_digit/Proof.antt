-- A byte that is no digit is bad; the quotient tells exactly whether the number with the digit fits 64 bits.
use Prim.Native.Nat.{◌+◌, ◌-◌, ◌*◌, ◌^◌}
use mathlib.Core.Bool.{and-false}
use borrow.Author.Rules.{rules}
use borrow.Author.Tests.{lt-leb, lt-ltb, le-ltb}
use lib.Dec.{leb}
use native.Mathlib.Omega.{arith}
use Rattle.model.proofs.Cases.{le_within}
use Rattle.text_decimals.specs.Decimals.{zero_sign, nine_sign, with_digit}
use Rattle.text_decimals.proofs.with_digit.Statement.{statement}
use Rattle.text_decimals.proofs.with_digit.Tie as tie

returns_2 : tie.Need-returns-then-byte-gt57
unfolding with_digit
returns_2 c =
    let byte = c.args.byte in
    rw (lt-leb byte nine_sign c.if-byte-gt57.true, and-false (leb zero_sign byte))

returns_3 : tie.Need-returns-then-digit-n
unfolding with_digit
returns_3 c =
    let args = c.args in
    rw (
      le_within zero_sign nine_sign args.byte (omega arith) (omega arith),
      le-ltb (10 * args.n + (args.byte - zero_sign)) (2 ^ 64) (omega arith),
    )

returns_4 : tie.Need-returns
unfolding with_digit
returns_4 c =
    let args = c.args in
    rw (
      le_within zero_sign nine_sign args.byte (omega arith) (omega arith),
      lt-ltb (10 * args.n + (args.byte - zero_sign)) (2 ^ 64) (omega arith),
      c.wide-digit.ensures,
    )

pub with_digit_spec : {M : Type 1} → statement M
unfolding with_digit
with_digit_spec =
    tie.close (tie.spec (λ c. rw (lt-leb _ _ c.if-byte-lt48.true)) returns_2 (λ c κs. search rules)
    (λ c. search rules) returns_3 (λ c. search rules) (λ c. search rules) returns_4)
