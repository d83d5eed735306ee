-- The bytes of a batch's answers: a head for each item, then the details of each.
use Rattle.std.specs.Prelude.{ℕ, ◌+◌, ◌*◌, cond, List, [], ◌∷◌, ◌++◌, length, take, replicate, eqb}
use Rattle.model.specs.Sizes.{max_key, max_value, max_writes, number_width, count_width}
use Rattle.model.specs.Bytes.{Bytes, bytes}
use Rattle.model.specs.Calls.{read, put, delete, commit_to, abort, Kind, own_value, hall_value, nothing_there, Clashes, Answer, refused, conflict, faulty, began, found, done, committed, closed, swept, thinned, counted, dumped, replayed, refusal, clashes_of}
use Rattle.model_batch.specs.Items.{Item, begins, acts, sweeps, item_kind}

-- ---- heads

unfoldable pub kind_flag : Kind → ℕ
kind_flag own_value = 1
kind_flag hall_value = 2
kind_flag nothing_there = 0

-- which kind a read found; 1 for a commit without writes
unfoldable pub flag_of : Answer → ℕ
flag_of (refused n) = 0
flag_of (conflict cs) = 0
flag_of (faulty n at) = 0
flag_of (began t d) = 0
flag_of (found k) = kind_flag k
flag_of done = 0
flag_of (committed n) = 0
flag_of closed = 1
flag_of (swept c d) = 0
flag_of (thinned d) = 0
flag_of (counted k v d) = 0
flag_of (dumped n) = 0
flag_of (replayed n) = 0

-- a begin's start and desk, a commit's number, how many keys clash, a sweep's cutoff and what it dropped
unfoldable pub numbers_of : Answer → ℕ × ℕ
numbers_of (refused n) = (0, 0)
numbers_of (conflict cs) = (length cs, 0)
numbers_of (faulty n at) = (0, 0)
numbers_of (began t d) = (t, d)
numbers_of (found k) = (0, 0)
numbers_of done = (0, 0)
numbers_of (committed n) = (n, 0)
numbers_of closed = (0, 0)
numbers_of (swept c d) = (c, d)
numbers_of (thinned d) = (0, 0)
numbers_of (counted k v d) = (0, 0)
numbers_of (dumped n) = (0, 0)
numbers_of (replayed n) = (0, 0)

-- bytes of a refusal's number, and of a flag
abbrev pub code_width : ℕ
code_width = 1

abbrev pub head_width : ℕ
head_width = number_width + number_width + code_width + code_width

-- the numbers come first, so that a start is found by its place alone
unfoldable pub head : Answer → Bytes
head a =
    bytes number_width (numbers_of a).0
    ++ (bytes number_width (numbers_of a).1 ++ (bytes code_width (refusal a) ++ bytes code_width (flag_of a)))

unfoldable pub heads : List (Answer × Bytes) → Bytes
heads [] = []
heads (r ∷ rs) = head r.0 ++ heads rs

-- ---- details

-- n bytes: b, cut to n, and zeros after it
unfoldable pub padded : (n : ℕ) → Bytes → Bytes
padded n b = take n (b ++ replicate n 0)

-- a value behind its length
abbrev pub value_width : ℕ
value_width = count_width + max_value

-- a key's newest number, the key's length in one byte, the key
abbrev pub clash_width : ℕ
clash_width = number_width + (1 + max_key)

unfoldable pub clash_bytes : Bytes × ℕ → Bytes
clash_bytes c = bytes number_width c.1 ++ (length c.0 ∷ padded max_key c.0)

unfoldable pub clashes_bytes : Clashes → Bytes
clashes_bytes [] = []
clashes_bytes (c ∷ cs) = clash_bytes c ++ clashes_bytes cs

-- a read's value, and the clashes of a commit
unfoldable pub detail_of : Item → Answer × Bytes → Bytes
detail_of begins r = []
detail_of (acts w (read k)) r = bytes count_width (length r.1) ++ r.1
detail_of (acts w (put k v)) r = []
detail_of (acts w (delete k)) r = []
detail_of (acts w (commit_to j)) r = clashes_bytes (clashes_of r.0)
detail_of (acts w abort) r = []
detail_of (sweeps l) r = []

-- a read's detail and a commit's have a length, and the other kinds have none
unfoldable pub kind_width : (kind : ℕ) → ℕ
kind_width n = cond (eqb n 17) value_width (cond (eqb n 20) (max_writes * clash_width) 0)

abbrev pub detail_width : Item → ℕ
detail_width i = kind_width (item_kind i)

unfoldable pub detail : Item → Answer × Bytes → Bytes
detail i r = padded (detail_width i) (detail_of i r)

unfoldable pub details : List Item → List (Answer × Bytes) → Bytes
details [] rs = []
details (i ∷ is) [] = []
details (i ∷ is) (r ∷ rs) = detail i r ++ details is rs

-- ---- the whole

unfoldable pub answers_bytes : List Item → List (Answer × Bytes) → Bytes
answers_bytes is rs = heads rs ++ details is rs

unfoldable pub answers_width : List Item → ℕ
answers_width [] = 0
answers_width (i ∷ is) = head_width + detail_width i + answers_width is
