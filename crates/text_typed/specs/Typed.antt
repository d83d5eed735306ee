-- Text as a person types it: words parted by blanks, letters in either case.
use Rattle.std.specs.Prelude.{ℕ, zero, suc, ◌+◌, ◌-◌, ◌≤◌, ◌≡◌, Bool, true, false, not, ◌&&◌, ◌||◌, cond, [], ◌∷◌, eqb, leb, length, take, drop, get_or}
use Rattle.model.specs.Bytes.{Bytes}
use Rattle.text_words.specs.Words.{space}

abbrev pub tab : ℕ
tab = 9

abbrev pub carriage_return : ℕ
carriage_return = 13

abbrev pub is_blank : ℕ → Bool
is_blank c = eqb c space || eqb c tab

-- ---- words

-- is a byte a blank, or is it none?
abbrev pub is_kind : (blank : Bool) → ℕ → Bool
is_kind true c = is_blank c
is_kind false c = not (is_blank c)

-- how many bytes of one kind stand in front
unfoldable pub run : (blank : Bool) → Bytes → ℕ
run k [] = 0
run k (c ∷ s) = cond (is_kind k c) (suc (run k s)) 0

-- the text without the blanks in front
unfoldable pub from_word : Bytes → Bytes
from_word s = drop (run true s) s

-- of a text that begins with a word: that word, and the text from the next word on
unfoldable pub first : Bytes → Bytes
first s = take (run false s) s

unfoldable pub rest : Bytes → Bytes
rest s = from_word (drop (run false s) s)

-- ---- a line

-- where it ends, but for a carriage return
unfoldable pub line_end : Bytes → ℕ
line_end s = cond (eqb (get_or s (length s - 1) 0) carriage_return) (length s - 1) (length s)

-- where the last word of its first n bytes ends
unfoldable pub word_end : Bytes → (n : ℕ) → ℕ
word_end s zero = 0
word_end s (suc n) = cond (is_blank (get_or s n 0)) (word_end s n) (suc n)

-- its words, with nothing before and behind them
unfoldable pub words : Bytes → Bytes
words s = from_word (take (word_end s (line_end s)) s)

-- ---- letters

unfoldable pub lower : ℕ → ℕ
lower c = cond (leb 65 c && leb c 90) (c + 32) c

-- a typed text is that word, but for the case of its letters
unfoldable pub says : (typed word : Bytes) → Bool
says [] [] = true
says [] (d ∷ w) = false
says (c ∷ s) [] = false
says (c ∷ s) (d ∷ w) = eqb (lower c) d && says s w

-- ---- contracts

-- so many bytes of one kind stand in front
pub record Run (blank : Bool) (s : Bytes) (r : ℕ) : Type 0 where
  pub count : r ≡ run blank s
  pub within : r ≤ length s

-- the text is cut at r, which is n
pub record Cut (n : ℕ) (s : Bytes) (r : ℕ) : Type 0 where
  pub end : r ≡ n
  pub within : r ≤ length s
