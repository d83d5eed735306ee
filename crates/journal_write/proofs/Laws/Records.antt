-- A record by its parts, one write after the other, and how long it is at most.
-- Assumes nothing.
use mathlib.Core.Path.{◌≡◌, refl}
use mathlib.Core.List.{[], ◌∷◌, ◌++◌, append_assoc}
use Prim.Native.Nat.{ℕ, ◌+◌, ◌-◌, ◌*◌, ◌≤◌, ◌<◌}
use native.Mathlib.Numerals.{add-one}
use native.Mathlib.Omega.{arith}
use lib.ListN.{length, drop, length-append, drop_of_length-le}
use lib.Seq.{drop-cons}
use Rattle.model.specs.Sizes.{max_key, max_writes, count_width}
use Rattle.model.specs.Bytes.{Bytes}
use Rattle.model.specs.State.{Write, Writes}
use Rattle.model.specs.Dump.{dump_payload}
use Rattle.model.specs.Journal.{Commit, dump_write, dump_writes, dump_body, framed, dump_commit}
use Rattle.memory.proofs.Laws.Numbers.{length_bytes}
use Rattle.cells.specs.Cells.{payload_width, payload_bytes, payload_from}
use Rattle.cells.proofs.Laws.Cells.{record_short, payload_get}
use Rattle.desk.specs.Layout.{desks_in}
use Rattle.desk.specs.Shape.{RoomForWrite, RoomForWrites, Shaped, desk_in, own_writes}
use Rattle.desk_writes.specs.Writes.{no_write, write_at, write_in, Written}
use Rattle.desk_writes.proofs.Laws.Writes.{few, own_fits, write_room}
use Rattle.dump_write.specs.Over.{Wrote}
use Rattle.dump_write.proofs.Laws.Writes as over
use Rattle.dump_write.specs.Fields.{key_fields, CellOf}
use Rattle.dump_write.proofs.Laws.Fields.{key_then}
use Rattle.journal_fields.specs.Places.{frame_width, head_width}
use Rattle.journal_fields.proofs.Laws.{length_mark, length_write}
use Rattle.journal_write.specs.Records.{record_head, record_length}

-- ---- a record by its parts

pub length_head : (len n count : ℕ) → length (record_head len n count) ≡ head_width
unfolding record_head
length_head len n count = simp (length-append, length_bytes, length_mark)

pub record_apart : (c : Commit) {len : ℕ} → len ≡ record_length c.writes
    → dump_commit c ≡ record_head (len - frame_width) c.number (length c.writes) ++ dump_writes c.writes
unfolding dump_commit framed record_head dump_body record_length
record_apart c {len} e =
    let left : len - frame_width ≡ length (dump_body c) = simp (length-append, length_bytes) (omega arith) in
    rw left (simp append_assoc)

pub length_record : (c : Commit) → length (dump_commit c) ≡ record_length c.writes
unfolding record_length
length_record c = rw (record_apart c refl, length-append, length_head)

-- ---- one write after the other

pub writes_step : (ws : Writes) (i : ℕ) → i < length ws
    → dump_writes (drop i ws) ≡ dump_write (write_at ws i) ++ dump_writes (drop (i + 1) ws)
unfolding dump_writes
writes_step ws i h = rw (add-one i, drop-cons ws i no_write h)

pub writes_end : (ws : Writes) (i : ℕ) → length ws ≤ i → dump_writes (drop i ws) ≡ []
unfolding dump_writes
writes_end ws i h = rw (drop_of_length-le ws h)

-- ---- a write by its cells

pub write_apart : (w : Write) → dump_write w ≡ key_fields w.key ++ dump_payload w.payload
unfolding dump_write
write_apart w = key_then w.key (dump_payload w.payload)

-- its key's fields are written
pub key_first : (w : Write) {k d out : Bytes} {n : ℕ} → k ≡ w.key → Wrote (key_fields k) d out n → length (dump_write w) ≤ length d
    → over.Written (dump_write w) (dump_payload w.payload) out out n n
key_first w e x h = over.written_first x (rw e (write_apart w)) h

module _ (m : Bytes) (d i : ℕ) (w : Written m d i) where
  short : RoomForWrite (write_in m d i)
  short = write_room m w.shaped d w.below i w.row

  pub cell_of : {c : Bytes} → c ≡ payload_bytes (write_in m d i).payload → CellOf c
  cell_of e = record { payload = (write_in m d i).payload; short = short.1; bytes = e }

  pub cell_told : {c : Bytes} → c ≡ payload_bytes (write_in m d i).payload → payload_from c ≡ (write_in m d i).payload
  cell_told e = rw e (payload_get (write_in m d i).payload short.1)

-- ---- lengths

abbrev pub write_most : ℕ
write_most = count_width + max_key + payload_width

write_most_lem : (w : Write) → RoomForWrite w → length (dump_write w) ≤ write_most
write_most_lem w r = omega (arith, length_write w, r.0, record_short w.payload r.1)

pub written_most : (m : Bytes) (d i : ℕ) → Written m d i → length (dump_write (write_in m d i)) ≤ write_most
written_most m d i w = write_most_lem (write_in m d i) (short m d i w)

writes_most : (ws : Writes) → RoomForWrites ws → length (dump_writes ws) ≤ write_most * length ws
unfolding dump_writes
writes_most [] r = omega arith
writes_most (w ∷ ws) r = rw length-append (omega (arith, write_most_lem w r.0, writes_most ws r.1))

abbrev pub record_most : ℕ
record_most = head_width + write_most * max_writes

pub record_most_lem : (m : Bytes) → Shaped m → (d : ℕ) → d < length (desks_in m) → record_length (own_writes (desk_in m d)) ≤ record_most
unfolding record_length
record_most_lem m s d h = omega (arith, few m s d h, writes_most (own_writes (desk_in m d)) (own_fits m s d h))
