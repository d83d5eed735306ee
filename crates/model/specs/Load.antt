-- Load: a dump read field by field into a hall, up to its first fault (docs/RULES.md, 7).
use Rattle.std.specs.Prelude.{ℕ, zero, suc, pred, ◌+◌, ◌-◌, Bool, not, cond, List, [], ◌∷◌, length, take, drop, leb, ltb, eqb}
use Rattle.model.specs.Sizes.{max_key, max_value, number_width, count_width, tag_width}
use Rattle.model.specs.Bytes.{Bytes, num, order, is_less, is_same}
use Rattle.model.specs.State.{Payload, deletion, content, Version, Chain, Entry, Hall}
use Rattle.model.specs.Sound.{are_printable}
use Rattle.model.specs.Dump.{magic}

-- ---- reading

-- what was read, the offset after it and the bytes that are left; or a refusal's number and offset
pub data Parsed (A : Type 0) : Type 0 where
  got : A → (at : ℕ) → (rest : Bytes) → Parsed A
  bad : (number at : ℕ) → Parsed A

abbrev pub Parser : Type 0 → Type 0
Parser A = (at : ℕ) → Bytes → Parsed A

unfoldable pub bind : {A B : Type 0} → Parsed A → (A → Parser B) → Parsed B
bind (got a at rest) f = f a at rest
bind (bad n at) f = bad n at

infixl 10 ◌>>=◌
abbrev pub ◌>>=◌ : {A B : Type 0} → Parser A → (A → Parser B) → Parser B
◌>>=◌ m f = λ at x. bind (m at x) f

abbrev pub give : {A : Type 0} → A → Parser A
give a = λ at x. got a at x

-- the number of the first test that holds, zero if none does
unfoldable pub fault : List (Bool × ℕ) → ℕ
fault [] = 0
fault (c ∷ cs) = cond c.0 c.1 (fault cs)

-- a field of n bytes: 13 if they are not all there, else the fault that f finds in them
unfoldable pub field : ℕ → (Bytes → ℕ) → Parser Bytes
field n f at x =
    cond (ltb (length x) n) (bad 13 at)
    (cond (eqb (f (take n x)) 0) (got (take n x) (at + n) (drop n x)) (bad (f (take n x)) at))

unfoldable pub number_field : ℕ → (ℕ → ℕ) → Parser ℕ
number_field n f = do
  b ← field n (λ b. f (num b))
  give (num b)

-- ---- the dump's parts

unfoldable pub read_payload : Parser Payload
read_payload = do
  tag ← number_field tag_width (λ n. fault ((ltb 1 n, 14) ∷ []))
  cond (eqb tag 0)
      (give deletion)
      (do
        len ← number_field count_width (λ n. fault ((ltb max_value n, 14) ∷ []))
        b ← field len (λ b. 0)
        give (content b))

-- a version numbered above `last` and below `next`
unfoldable pub read_version : (next last : ℕ) → Parser Version
read_version next last = do
  n ← number_field number_width (λ n. fault ((leb n last, 14) ∷ (leb next n, 14) ∷ []))
  p ← read_payload
  give (record { number = n; payload = p })

unfoldable pub read_chain : (next count last : ℕ) → Parser Chain
read_chain next zero last = give []
read_chain next (suc n) last = do
  v ← read_version next last
  vs ← read_chain next n v.number
  give (v ∷ vs)

-- a key that comes after `last`, then what f reads
abbrev pub read_key : {A : Type 0} → (last : Bytes) → (Bytes → Parser A) → Parser A
read_key last f = do
  len ← number_field count_width (λ n. fault ((ltb n 1, 14) ∷ (ltb max_key n, 14) ∷ []))
  k ← field len (λ b. fault ((not (are_printable b), 14) ∷ (not (is_less (order last b)), 14) ∷ []))
  f k

-- an entry whose key comes after `last`, where `rooms` version rooms are left
unfoldable pub read_entry : (next rooms : ℕ) (last : Bytes) → Parser Entry
read_entry next rooms last = read_key last λ k. do
  n ← number_field count_width (λ n. fault ((ltb n 1, 14) ∷ (ltb rooms n, 15) ∷ []))
  vs ← read_chain next n 0
  give (record { key = k; chain = vs })

unfoldable pub read_entries : (next count rooms : ℕ) (last : Bytes) → Parser (List Entry)
read_entries next zero rooms last = give []
read_entries next (suc n) rooms last = do
  e ← read_entry next rooms last
  es ← read_entries next n (rooms - length e.chain) e.key
  give (e ∷ es)

unfoldable pub read_end : Parser Unit
read_end at [] = got tt at []
read_end at (b ∷ bs) = bad 14 at

-- a dump does not say what was swept: below its counter nothing is known
unfoldable pub read_hall : (key_rooms version_rooms desks : ℕ) → Parser Hall
read_hall ks vs ds = do
  o ← field (length magic) (λ b. fault ((not (is_same (order b magic)), 14) ∷ []))
  next ← number_field number_width (λ n. fault ((ltb n 1, 14) ∷ []))
  count ← number_field count_width (λ n. fault ((ltb ks n, 15) ∷ []))
  es ← read_entries next count vs []
  e ← read_end
  give (record {
    key_rooms = ks;
    version_rooms = vs;
    desk_count = ds;
    counter = pred next;
    floor = pred next;
    entries = es;
  })
