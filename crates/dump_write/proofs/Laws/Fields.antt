-- A key's fields, and a payload out of its cell.
-- Assumes nothing.
use mathlib.Core.Path.{◌≡◌, sym, ◌∙◌}
use mathlib.Core.Bool.{true}
use mathlib.Core.List.{◌++◌, append_assoc}
use Prim.Native.Nat.{ℕ, ◌+◌, ◌≤◌}
use native.Mathlib.Omega.{arith}
use lib.ListN.{length, length-append}
use Rattle.model.specs.Sizes.{count_width}
use Rattle.model.specs.Bytes.{Bytes, part, bytes}
use Rattle.model.specs.Dump.{dump_payload, dump_key}
use Rattle.memory.proofs.Laws.Numbers.{length_bytes}
use Rattle.memory.proofs.Laws.Parts.{part_all}
use Rattle.cells.specs.Cells.{payload_width, payload_from, is_payload_cell}
use Rattle.cells.proofs.Laws.Cells.{record_short, length_payload, payload_front, payload_get, payload_cell}
use Rattle.dump_write.specs.Fields.{key_fields, CellOf}

pub length_key : (k : Bytes) → length (key_fields k) ≡ count_width + length k
unfolding key_fields
length_key k = rw (length-append, length_bytes)

-- a key and what follows it
pub key_then : (k x : Bytes) → dump_key k x ≡ key_fields k ++ x
unfolding key_fields
key_then k x = sym (append_assoc (bytes count_width (length k)) k x)

module _ (c : Bytes) (s : CellOf c) where
  cell_says : payload_from c ≡ s.payload
  cell_says = rw s.bytes (payload_get s.payload s.short)

  cell_width : length c ≡ payload_width
  cell_width = rw s.bytes (length_payload s.payload s.short)

  -- as a part of itself
  pub cell_ready : (0 + payload_width ≤ length c) × (is_payload_cell (part c 0 payload_width) ≡ true)
  cell_ready = (
    omega (arith, cell_width),
    rw (part_all c payload_width cell_width, s.bytes) (payload_cell s.payload s.short),
  )

  pub cell_counted : {n : ℕ} → n ≡ length (dump_payload (payload_from (part c 0 payload_width)))
      → n ≡ length (dump_payload (payload_from c))
  cell_counted e = rw (part_all c payload_width cell_width) at e

  pub cell_most : length (dump_payload (payload_from c)) ≤ length c
  cell_most = rw cell_says (omega (arith, cell_width, record_short s.payload s.short))

  pub cell_front : {n : ℕ} {x : Bytes} → n ≡ length (dump_payload (payload_from c)) → x ≡ part c 0 n
      → x ≡ dump_payload (payload_from c)
  cell_front e f = f ∙ rw (e, cell_says, s.bytes) (payload_front s.payload s.short)
