-- The writes of one desk, by their rows.
use Rattle.std.specs.Prelude.{ℕ, ◌≤◌, ◌<◌, ◌≡◌, false, List, [], ◌∷◌, ◌++◌, length, get_or, set}
use Rattle.model.specs.Sizes.{max_key, max_writes}
use Rattle.model.specs.Bytes.{Bytes}
use Rattle.model.specs.State.{Payload, deletion, content, Write, Writes, Desk, free, written_keys, put_write, rewriting}
use Rattle.model.specs.Calls.{is_too_many}
use Rattle.desk.specs.Layout.{desks_in, put_desks}
use Rattle.desk.specs.Shape.{Shaped, desk_in, own_writes, IsTaken, reseat}
use Rattle.cells.specs.Rows.{Ascending, place_of}
use Rattle.cells.specs.declared.rows.Place.TheVariants.{At}

abbrev pub no_write : Write
no_write = record { key = []; payload = deletion }

abbrev pub write_at : Writes → ℕ → Write
write_at ws i = get_or ws i no_write

-- write i of desk d
abbrev pub write_in : Bytes → (d i : ℕ) → Write
write_in m d i = write_at (own_writes (desk_in m d)) i

-- desks of which desk d has other writes
abbrev pub rewritten : ℕ → (Writes → Writes) → List Desk → List Desk
rewritten d f ds = set ds d (reseat (rewriting f) (get_or ds d free))

abbrev pub deletion_of : Bytes → Write
deletion_of k = record { key = k; payload = deletion }

abbrev pub value_of : (k v : Bytes) → Write
value_of k v = record { key = k; payload = content v }

-- writes of which write i has the payload p
abbrev pub overwritten : (i : ℕ) → (p : Payload) → Writes → Writes
overwritten i p ws = set ws i (record { key = (write_at ws i).key; payload = p })

-- a write behind others
abbrev pub ending : Write → Writes → Writes
ending w ws = ws ++ w ∷ []

-- ---- what is asked of a desk, and ensured

-- it has a write i
pub record Written (m : Bytes) (d i : ℕ) : Type 0 where
  pub shaped : Shaped m
  pub below : d < length (desks_in m)
  pub row : i < length (own_writes (desk_in m d))

-- in its memory, of which only the form is known, the writes of each desk ascend by key
pub record Ordered (m : Bytes) : Type 0 where
  pub shaped : Shaped m
  pub ascend : (d : ℕ) → Ascending (written_keys (own_writes (desk_in m d)))

-- it is open
pub record Open (m : Bytes) (d : ℕ) : Type 0 where
  pub shaped : Shaped m
  pub below : d < length (desks_in m)
  pub is_open : IsTaken (desk_in m d)

-- it is open and has a write i
pub record Changeable (m : Bytes) (d i : ℕ) : Type 0 where
  pub is_open : Open m d
  pub row : i < length (own_writes (desk_in m d))

-- a write of key k may go in before row i
pub record Insertable (m : Bytes) (d i : ℕ) (k : Bytes) : Type 0 where
  pub is_open : Open m d
  pub short : length k ≤ max_key
  pub row : i ≤ length (own_writes (desk_in m d))
  pub left : length (own_writes (desk_in m d)) < max_writes

-- it has room for a write of key k
pub record Writable (m : Bytes) (d : ℕ) (k : Bytes) : Type 0 where
  pub ordered : Ordered m
  pub is_open : Open m d
  pub short : length k ≤ max_key
  pub room : is_too_many k (own_writes (desk_in m d)) ≡ false

-- a write of key k may go in behind its own, which the caller knows to ascend
pub record Appendable (m : Bytes) (d : ℕ) (k : Bytes) : Type 0 where
  pub is_open : Open m d
  pub short : length k ≤ max_key
  pub left : length (own_writes (desk_in m d)) < max_writes

-- m became n, in which row i of desk d is the write w behind the others
pub record Appended (m : Bytes) (d : ℕ) (w : Write) (i : ℕ) (n : Bytes) : Type 0 where
  pub after : n ≡ put_desks m (rewritten d (ending w) (desks_in m))
  pub row : i ≡ length (own_writes (desk_in m d))

-- m became n, in which row i of desk d says that key k is deleted
pub record Deleted (m : Bytes) (d : ℕ) (k : Bytes) (i : ℕ) (n : Bytes) : Type 0 where
  pub after : n ≡ put_desks m (rewritten d (put_write k deletion) (desks_in m))
  pub row : place_of k 0 (written_keys (put_write k deletion (own_writes (desk_in m d)))) ≡ At i
