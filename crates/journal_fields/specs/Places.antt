-- Where the fields of a record in the journal stand.
use Rattle.std.specs.Prelude.{ℕ, ◌+◌}
use Rattle.model.specs.Sizes.{mark_width, number_width, count_width}

-- its body, behind mark and length
abbrev pub frame_width : ℕ
frame_width = mark_width + count_width

-- the first write, in a body
abbrev pub writes_in_body : ℕ
writes_in_body = number_width + count_width

-- and in a record
abbrev pub head_width : ℕ
head_width = frame_width + writes_in_body
