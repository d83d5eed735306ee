-- Which line is found, and what a buffer holds of it.
use Rattle.std.specs.Prelude.{ℕ, suc, ◌+◌, ◌-◌, true, false, cond, [], ◌∷◌, drop, eqb, Option, None, Some, option_map}
use Rattle.model.specs.Bytes.{Bytes, part}
use Rattle.text_lines.specs.declared.Held.{Held}
use Rattle.text_lines.specs.declared.Line.{Line}

abbrev pub newline : ℕ
newline = 10

-- the place of the first newline, if there is one
unfoldable pub newline_in : Bytes → Option ℕ
newline_in [] = None
newline_in (b ∷ s) = cond (eqb b newline) (Some 0) (option_map suc (newline_in s))

-- the line that begins at `from`, whose newline stands n bytes on; its own beginning twice, if that has not arrived
abbrev pub line_to : (from : ℕ) → (n : Option ℕ) → Line
line_to from None = record { end = from; next = from }
line_to from (Some n) = record { end = from + n; next = from + n + 1 }

unfoldable pub line_at : (text : Bytes) (from : ℕ) → Line
line_at text from = line_to from (newline_in (drop from text))

-- the bytes that are held of a buffer
abbrev pub bytes_of : (buffer : Bytes) → Held → Bytes
bytes_of b h = part b h.from (h.end - h.from)

-- of a line that was too long nothing is held; what stands behind its newline is
abbrev pub behind : (from end : ℕ) → (n : Option ℕ) → Held
behind from end None = record { from = end; end = end; skips = true }
behind from end (Some n) = record { from = from + n + 1; end = end; skips = false }

-- what is held once more bytes have arrived behind it
unfoldable pub grown : (buffer : Bytes) → Held → (count : ℕ) → Held
grown b h count =
    let end = h.end + count in
    cond h.skips (behind h.from end (newline_in (part b h.from (end - h.from))))
    (record { from = h.from; end = end; skips = false })
