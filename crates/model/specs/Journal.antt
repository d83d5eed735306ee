-- The journal: a record for each commit, and how one is read back.
use Rattle.std.specs.Prelude.{ℕ, zero, suc, not, cond, List, [], ◌∷◌, ◌++◌, length, leb, ltb, eqb}
use Rattle.model.specs.Sizes.{max_writes, last_number, number_width, count_width}
use Rattle.model.specs.Bytes.{Bytes, bytes, order, is_same}
use Rattle.model.specs.State.{Write, Writes, Hall, publish, with_entries}
use Rattle.model.specs.Dump.{dump_payload, dump_key}
use Rattle.model.specs.Load.{Parsed, got, bad, Parser, bind, ◌>>=◌, give, fault, field, number_field, read_payload, read_key, read_end}

-- what a commit publishes
pub record Commit : Type 0 where
  pub number : ℕ
  pub writes : Writes

-- the hall with one commit more, and with several
abbrev pub with_commit : Hall → Commit → Hall
with_commit h c = with_entries h c.number (publish c.number c.writes h.entries)

unfoldable pub with_commits : Hall → List Commit → Hall
with_commits h [] = h
with_commits h (c ∷ cs) = with_commits (with_commit h c) cs

-- ---- writing

unfoldable pub mark : Bytes
mark = 0x4C ∷ 0x01 ∷ []

unfoldable pub dump_write : Write → Bytes
dump_write w = dump_key w.key (dump_payload w.payload)

unfoldable pub dump_writes : Writes → Bytes
dump_writes [] = []
dump_writes (w ∷ ws) = dump_write w ++ dump_writes ws

unfoldable pub dump_body : Commit → Bytes
dump_body c = bytes number_width c.number ++ (bytes count_width (length c.writes) ++ dump_writes c.writes)

-- a body behind its mark and its length
unfoldable pub framed : Bytes → Bytes
framed b = mark ++ (bytes count_width (length b) ++ b)

unfoldable pub dump_commit : Commit → Bytes
dump_commit c = framed (dump_body c)

unfoldable pub journal : List Commit → Bytes
journal [] = []
journal (c ∷ cs) = dump_commit c ++ journal cs

-- ---- reading

unfoldable pub read_write : (last : Bytes) → Parser Write
read_write last = read_key last λ k. do
  p ← read_payload
  give (record { key = k; payload = p })

unfoldable pub read_writes : (count : ℕ) (last : Bytes) → Parser Writes
read_writes zero last = give []
read_writes (suc n) last = do
  w ← read_write last
  ws ← read_writes n w.key
  give (w ∷ ws)

-- a commit numbered above `counter`
unfoldable pub read_body : (counter : ℕ) → Parser Commit
read_body c = do
  n ← number_field number_width (λ n. fault ((leb n c, 14) ∷ (ltb last_number n, 14) ∷ []))
  count ← number_field count_width (λ n. fault ((ltb n 1, 14) ∷ (ltb max_writes n, 14) ∷ []))
  ws ← read_writes count []
  e ← read_end
  give (record { number = n; writes = ws })

unfoldable pub mark_fault : Bytes → ℕ
mark_fault b = fault ((not (is_same (order b mark)), 14) ∷ [])

-- the bytes of a body
unfoldable pub read_frame : Parser Bytes
read_frame = do
  m ← field (length mark) mark_fault
  n ← number_field count_width (λ n. 0)
  field n (λ b. 0)

-- a fault told at `at`
abbrev pub blamed : {A : Type 0} → (at : ℕ) → Parsed A → Parsed A
blamed at (got a p r) = got a p r
blamed at (bad n p) = bad n at

-- what was read out of a body, unless `full` refuses it; any fault of a body is 14
abbrev pub admitted : (full : Commit → ℕ) → Parsed Commit → Parser Commit
admitted full (got c p r) at x = cond (eqb (full c) 0) (got c at x) (bad (full c) at)
admitted full (bad n p) at x = bad 14 at

-- one record; its faults are told at its mark, and 13 says that it is cut off
unfoldable pub read_commit : (counter : ℕ) (full : Commit → ℕ) → Parser Commit
read_commit counter full at x = blamed at (bind (read_frame at x) (λ b. admitted full (read_body counter 0 b)))
