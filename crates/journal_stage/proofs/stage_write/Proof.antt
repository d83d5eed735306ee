-- A write is a key and a tag, and for a value its length and its bytes; each is read where the dump has it.
use mathlib.Core.Path.{refl}
use Prim.Native.Nat.{ℕ, ◌+◌, ◌≤◌}
use native.Mathlib.Omega.{arith}
use borrow.Author.Rules.{rules}
use lib.ListN.{length}
use Rattle.model.specs.Sizes.{count_width, tag_width}
use Rattle.journal_stage.proofs.Laws.Staging.{tag_fits, key_is, deletion_is, deletion_ends, value_ends, value_fits_lem, value_short, value_is}
use Rattle.journal_stage.proofs.stage_write.Statement.{statement}
use Rattle.journal_stage.proofs.stage_write.Tie as tie

abbrev start : tie.After-read32-n → tie.Start
start c = c.before.before.before

-- where the tag stands
abbrev tag : tie.After-read32-n → ℕ
tag c = (start c).args.at + count_width + c.read32-n.result

to_tag : (c : tie.After-read32-n) → tag c + tag_width ≤ length (start c).args.x.now
to_tag c = tag_fits _ _ (start c).requires.dumped c.read32-n.ensures

abbrev measured : tie.Else-x-tag_at-eq0 → tie.After-read32-n
measured c = c.before.before.before

-- it is a value's: its length is there
to_value : (c : tie.Else-x-tag_at-eq0)
    → tag (measured c) + tag_width + count_width ≤ length (start (measured c)).args.x.now
to_value c =
    let at-read32 = measured c in
    omega (arith, value_fits_lem _ _ (start at-read32).requires.dumped at-read32.read32-n.ensures c.if-x-tag_at-eq0.false refl)

abbrev known : tie.After-read32-len → tie.After-read32-n
known c = c.before.before.before.before

-- and so are its bytes
to_end : (c : tie.After-read32-len)
    → tag (known c) + tag_width + count_width + c.read32-len.result ≤ length (start (known c)).args.x.now
to_end c =
    value_fits_lem _ _ (start (known c)).requires.dumped c.read32-n.ensures c.if-x-tag_at-eq0.false c.read32-len.ensures

read32_requires : tie.Need-read32-n-requires
read32_requires c κs = omega (arith, tag_fits _ _ c.requires.dumped refl)

append_deletion_requires : tie.Need-append_deletion-requires
append_deletion_requires c κs =
    let pre = (start c.before.before.before.before).requires in
    rw (key_is _ _ pre.dumped c.read32-n.ensures c.piece-key.ensures) pre.desk

returns : tie.Need-returns-then-x-tag_at-eq0
returns c =
    let s = (start c.before.before.before.before.before.before.before).requires.dumped in
    let n = c.read32-n.ensures in (
      rw (← deletion_is _ _ s n c.if-x-tag_at-eq0.true c.piece-key.ensures)
          c.append_deletion.ensures.after,
      deletion_ends _ _ s n c.if-x-tag_at-eq0.true,
    )

append_value_requires : tie.Need-append_value-requires
append_value_requires c κs =
    let pre = (start c.before.before.before.before.before.before).requires in
    let n = c.read32-n.ensures in (
      rw (key_is _ _ pre.dumped n c.piece-key.ensures) pre.desk,
      value_short _ _ pre.dumped n c.if-x-tag_at-eq0.false c.read32-len.ensures c.piece.ensures,
    )

returns_2 : tie.Need-returns
returns_2 c =
    let s = (start c.before.before.before.before.before.before.before.before.before).requires.dumped in
    let n = c.read32-n.ensures in
    let len = c.read32-len.ensures in (
      rw (← value_is _ _ s n c.if-x-tag_at-eq0.false len c.piece-key.ensures c.piece.ensures)
          c.append_value.ensures,
      value_ends _ _ s n c.if-x-tag_at-eq0.false len,
    )

pub stage_write_spec : {M : Type 1} → statement M
stage_write_spec =
    tie.close
    (tie.spec
    read32_requires
    (λ c. search rules)
    (λ c. omega (arith, to_tag c))
    (λ c. omega (arith, to_tag c))
    (λ c κs. omega (arith, to_tag c))
    (λ c. omega (arith, to_tag c.before.before))
    append_deletion_requires
    (λ c. omega (arith, to_tag c.before.before.before.before.before.before.before))
    (λ c. search rules)
    returns
    (λ c. omega (arith, to_value c))
    (λ c κs. to_value c)
    (λ c. search rules)
    (λ c. omega (arith, to_end c))
    (λ c. omega (arith, to_end c))
    (λ c κs. to_end c.before)
    append_value_requires
    (λ c. omega (arith, to_end c.before.before.before.before.before))
    (λ c. search rules)
    returns_2)
