-- What a buffer holds, a line, and what a turn used and said: what they are, and that they are within their memories.
use Rattle.std.specs.Prelude.{ℕ, ◌-◌, ◌≤◌, ◌≡◌, length}
use Rattle.model.specs.Bytes.{Bytes}
use Rattle.text_lines.specs.declared.Held.{Held}
use Rattle.text_lines.specs.declared.Line.{Line}
use Rattle.text_lines.specs.declared.Turn.{Turn}
use Rattle.text_lines.specs.Lines.{line_at, bytes_of, grown}

pub record Within (room : ℕ) (h : Held) : Type 0 where
  pub start : h.from ≤ h.end
  pub stop : h.end ≤ room

-- the line of the text that begins at `from`
pub record Ends (text : Bytes) (from : ℕ) (l : Line) : Type 0 where
  pub line : l ≡ line_at text from
  pub end : from ≤ l.end
  pub inside : l.end ≤ length text
  pub next : from ≤ l.next
  pub rest : l.next ≤ length text

-- what was held of the buffer b as h is held at the front of b' as r
pub record Fronted (b b' : Bytes) (h r : Held) : Type 0 where
  pub held : r ≡ record { from = 0; end = h.end - h.from; skips = h.skips }
  pub bytes : bytes_of b' r ≡ bytes_of b h
  pub within : Within (length b) r

-- more bytes have arrived in the buffer b
pub record Arrived (b : Bytes) (h : Held) (count : ℕ) (r : Held) : Type 0 where
  pub held : r ≡ grown b h count
  pub within : Within (length b) r

pub record Answered (text out : ℕ) (t : Turn) : Type 0 where
  pub used : t.used ≤ text
  pub said : t.said ≤ out
