-- Three tests, each by what a reader tells: end not below, end within, chain ascending.
use mathlib.Core.Path.{◌≡◌, sym}
use mathlib.Core.Bool.{true}
use native.Mathlib.Omega.{arith}
use borrow.Author.Rules.{rules}
use borrow.Author.Tests.{lt-leb, le-leb}
use lib.ListN.{get_or}
use Rattle.model.specs.Bytes.{Bytes}
use Rattle.model.proofs.Cases.{all_every}
use Rattle.memory.proofs.Laws.Tests.{refused, passed, every_fails}
use Rattle.hall.specs.Layout.{counter_in, keys_in, versions_in}
use Rattle.hall_sound.specs.Tests.{row_tests, row_test, olders_in}
use Rattle.hall_sound.proofs.Laws.Whole.{olders_left, row_chain}
use Rattle.hall_sound.proofs.rows.row_fits.Statement.{statement}
use Rattle.hall_sound.proofs.rows.row_fits.Tie as tie

returns : tie.Need-returns-then-to-from
unfolding row_test
returns c =
    every_fails _ 0 (rw (← c.end_before-from.ensures, ← c.end_at-to.ensures)
    (lt-leb _ _ c.if-to-from.true))

returns_2 : tie.Need-returns-then-version_count-n
unfolding row_test
returns_2 c =
    let left = olders_left _ c.key_count-n.ensures c.version_count.ensures in
    every_fails _ 1 (rw (← c.end_at-to.ensures, ← left) (lt-leb _ _ c.if-version_count-n.true))

abbrev mem : tie.After-chain_ascends → Bytes
mem c = c.args.m.now

-- what the chain's test says, of the rows
chain : (c : tie.After-chain_ascends)
    → c.chain_ascends.result ≡ get_or (row_tests 0 (counter_in (mem c)) (keys_in (mem c)) (versions_in (mem c))
    (olders_in (mem c)) c.args.i) 2 true
chain c =
    row_chain _ _ c.key_count-n.ensures c.end_before-from.ensures
    c.end_at-to.ensures (omega arith) c.counter.ensures c.chain_ascends.ensures

returns_3 : tie.Need-returns-then-not-chain_ascends
unfolding row_test
returns_3 c = every_fails _ 2 (refused (chain c.before) (rw c.if-not-chain_ascends.true))

returns_4 : tie.Need-returns
unfolding row_test
returns_4 c =
    let left = olders_left _ c.key_count-n.ensures c.version_count.ensures in
    sym (all_every _ (
      rw (← c.end_before-from.ensures, ← c.end_at-to.ensures)
          (le-leb _ _ c.if-to-from.false),
      (
        rw (← c.end_at-to.ensures, ← left) (le-leb _ _ c.if-version_count-n.false),
        (passed (chain c.before) (rw c.if-not-chain_ascends.false), tt),
      ),
    ))

pub row_fits_spec : {M : Type 1} → statement M
row_fits_spec =
    tie.close
    (tie.spec
    (λ c κs. search rules)
    (λ c κs. search rules)
    returns
    (λ c κs. search rules)
    (λ c κs. search rules)
    (λ c. omega arith)
    returns_2
    (λ c. omega arith)
    (λ c. omega arith)
    (λ c κs. search rules)
    (λ c κs. search rules)
    returns_3
    returns_4)
