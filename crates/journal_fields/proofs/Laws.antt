-- The mark as bytes and as the number that code has for it, and the length of a write.
-- Assumes nothing.
use mathlib.Core.Path.{◌≡◌, refl}
use Prim.Native.Nat.{◌+◌}
use native.Mathlib.Omega.{arith}
use lib.ListN.{length, length-append}
use Rattle.model.specs.Sizes.{mark_width, count_width}
use Rattle.model.specs.Bytes.{num, bytes}
use Rattle.model.specs.State.{Write}
use Rattle.model.specs.Dump.{dump_payload}
use Rattle.model.specs.Journal.{mark, dump_write}
use Rattle.model.proofs.Bytes.{length_bytes}

pub length_mark : length mark ≡ mark_width
unfolding mark
length_mark = refl

pub mark_number : num mark ≡ 332
unfolding mark num
mark_number = refl

pub mark_bytes : bytes mark_width 332 ≡ mark
unfolding mark bytes
mark_bytes = refl

pub length_write : (w : Write) → length (dump_write w) ≡ count_width + length w.key + length (dump_payload w.payload)
unfolding dump_write
length_write w = simp (length-append, length_bytes) (omega arith)
