-- Each `if` is one of the header's tests: the first that fails decides, and past the last all have passed.
use mathlib.Core.Path.{sym}
use borrow.Author.Rules.{rules}
use borrow.Author.Tests.{lt-leb, le-leb}
use Rattle.model.proofs.Cases.{all_every}
use Rattle.memory.proofs.Laws.Tests.{refused, passed, every_fails}
use Rattle.hall.proofs.Laws.Halls.{few_rooms}
use Rattle.hall_shape.proofs.head_fits.Statement.{statement}
use Rattle.hall_shape.proofs.head_fits.Tie as tie

returns : tie.Need-returns-then-not-sizes_fit
returns c =
    let e = c.read-h.ensures in
    every_fails _ 0 (rw (← e.key_rooms, ← e.version_rooms, ← e.desk_count) (refused c.sizes_fit.ensures (rw c.if-not-sizes_fit.true)))

returns_2 : tie.Need-returns-then-h-gt-LAST_NUMBER
returns_2 c =
    every_fails _ 1 (rw (← c.read-h.ensures.counter) (lt-leb _ _ c.if-h-gt-LAST_NUMBER.true))

returns_3 : tie.Need-returns-then-h
returns_3 c =
    let e = c.read-h.ensures in
    every_fails _ 2 (rw (← e.key_count, ← e.key_rooms) (lt-leb _ _ c.if-h.true))

returns_4 : tie.Need-returns-then-h-2
returns_4 c =
    let e = c.read-h.ensures in
    every_fails _ 3 (rw (← e.version_count, ← e.version_rooms) (lt-leb _ _ c.if-h-2.true))

needed_length_requires : tie.Need-needed_length-requires
needed_length_requires c κs =
    few_rooms _ _ _ (passed c.sizes_fit.ensures (rw c.if-not-sizes_fit.false))

returns_5 : tie.Need-returns-then-m-needed_length
returns_5 c =
    let e = c.read-h.ensures in
    every_fails _ 4 (rw (← e.key_rooms, ← e.version_rooms)
    (lt-leb _ _ (rw c.needed_length.ensures at c.if-m-needed_length.true)))

returns_7 : tie.Need-returns-then-h-3
returns_7 c =
    let e = c.read-h.ensures in
    every_fails _ 6 (rw (← e.floor, ← e.counter) (lt-leb _ _ c.if-h-3.true))

returns_8 : tie.Need-returns
returns_8 c =
    let e = c.read-h.ensures in
    let sizes = rw (e.key_rooms, e.version_rooms, e.desk_count)
    at (passed c.sizes_fit.ensures (rw c.if-not-sizes_fit.false)) in
    let counter = rw e.counter at (le-leb _ _ c.if-h-gt-LAST_NUMBER.false) in
    let keys = rw (e.key_count, e.key_rooms) at (le-leb _ _ c.if-h.false) in
    let versions = rw (e.version_count, e.version_rooms) at (le-leb _ _ c.if-h-2.false) in
    let long = rw (c.needed_length.ensures, e.key_rooms, e.version_rooms)
    at (le-leb _ _ c.if-m-needed_length.false) in
    let zeros = passed c.zero_between.ensures (rw c.if-not-zero_between.false) in
    let floor = rw (e.floor, e.counter) at (le-leb _ _ c.if-h-3.false) in
    sym (all_every _ (sizes, (counter, (keys, (versions, (long, (zeros, (floor, tt))))))))

pub head_fits_spec : {M : Type 1} → statement M
head_fits_spec =
    tie.close
    (tie.spec
    (λ c κs. search rules)
    (λ c κs. search rules)
    returns
    returns_2
    returns_3
    returns_4
    needed_length_requires
    returns_5
    (λ c κs. search rules)
    (λ c. every_fails _ 5 (refused c.zero_between.ensures (rw c.if-not-zero_between.true)))
    returns_7
    returns_8)
