-- Both bounds on a key's length are tested, the lower one first, and then its bytes.
use borrow.Author.Rules.{rules}
use borrow.Author.Tests.{lt-leb, le-leb}
use Rattle.model.specs.Sizes.{max_key}
use Rattle.model.specs.Sound.{key_fits}
use Rattle.bridge.proofs.arguments.key_fits.Statement.{statement}
use Rattle.bridge.proofs.arguments.key_fits.Tie as tie

returns_3 : tie.Need-returns
unfolding key_fits
returns_3 c =
    rw (le-leb 1 _ c.if-key-lt1.false, le-leb _ max_key c.if-key-gt-MAX_KEY.false) c.are_printable.ensures

pub key_fits_spec : {M : Type 1} → statement M
unfolding key_fits
key_fits_spec =
    tie.close
    (tie.spec
    (λ c. rw (lt-leb 1 _ c.if-key-lt1.true))
    (λ c. rw (le-leb 1 _ c.if-key-lt1.false, lt-leb _ max_key c.if-key-gt-MAX_KEY.true))
    (λ c κs. search rules)
    returns_3)
