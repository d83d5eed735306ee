-- The form of desk memory as a test, desk by desk and row by row.
use Rattle.std.specs.Prelude.{ℕ, ◌+◌, ◌*◌, ◌/◌, ◌%◌, Bool, true, ◌&&◌, cond, List, [], ◌∷◌, length, get_or, drop, leb, eqb}
use Rattle.model.specs.Sizes.{max_desks, max_writes}
use Rattle.model.specs.Bytes.{Bytes, part}
use Rattle.memory.specs.Spans.{all_zero}
use Rattle.memory.specs.Rows.{rows}
use Rattle.cells.specs.Cells.{key_width, is_key_cell, payload_width, is_payload_cell}
use Rattle.desk.specs.Layout.{write_width, write_count_place, writes_place, desk_width, desks_place, needed, occupied_in, count_in}

unfoldable pub row_fits : Bytes → Bool
row_fits r = is_key_cell (part r 0 key_width) && is_payload_cell (part r key_width payload_width)

unfoldable pub rows_fit : List Bytes → Bool
rows_fit [] = true
rows_fit (r ∷ rs) = row_fits r && rows_fit rs

-- the bytes b of a taken desk, which says that it has n writes
unfoldable pub taken_fits : (n : ℕ) → Bytes → Bool
taken_fits n b =
    leb n max_writes
    && (rows_fit (rows b writes_place write_width n) && all_zero (drop (writes_place + write_width * n) b))

-- the bytes b of a desk whose bit is the lowest of o
unfoldable pub desk_fits : (o : ℕ) → Bytes → Bool
desk_fits o b = cond (eqb (o % 2) 0) (all_zero b) (taken_fits (get_or b write_count_place 0) b)

-- no bit is left past the last desk
unfoldable pub desks_fit : (o : ℕ) → List Bytes → Bool
desks_fit o [] = eqb o 0
desks_fit o (b ∷ bs) = desk_fits o b && desks_fit (o / 2) bs

-- memory is long enough for the desks that it says it has, and these are not too many
unfoldable pub count_fits : Bytes → Bool
count_fits m = leb (needed (count_in m)) (length m) && leb (count_in m) max_desks

unfoldable pub shape_fits : Bytes → Bool
shape_fits m = count_fits m && desks_fit (occupied_in m) (rows m desks_place desk_width (count_in m))
