-- The record of a commit in a journal that is kept or not, and is long enough or not.
-- Assumes nothing.
use Prim.Native.Nat.{ℕ, ◌≤◌, ◌<◌}
use native.Mathlib.Omega.{arith}
use mathlib.Core.Path.{◌≡◌, refl}
use mathlib.Core.Bool.{Bool, true, false}
use lib.ListN.{length}
use borrow.Author.Tests.{lt-ltb, le-ltb}
use Rattle.model.specs.Bytes.{Bytes}
use Rattle.model.specs.Journal.{Commit, dump_commit}
use Rattle.memory.specs.Spans.{overlay}
use Rattle.dump_write.specs.Over.{Wrote}
use Rattle.journal_write.specs.Records.{record_length}
use Rattle.journal_write.proofs.Laws.Records.{length_record}
use Rattle.commit_writes.specs.declared.Kept.TheVariants.{Record, Short}
use Rattle.commit_writes.specs.Commits.{room_in, Keeps}

module _ (c : Commit) {keeping : Bool} {out : Bytes} where
  pub not_kept : keeping ≡ false → Keeps (room_in keeping out) c out out (Record 0)
  unfolding room_in overlay
  not_kept e = rw e (refl, record { count = refl; bytes = refl })

  module _ (e : keeping ≡ true) {n : ℕ} (l : n ≡ record_length c.writes) where
    pub too_short : length out < n → Keeps (room_in keeping out) c out out Short
    unfolding room_in
    too_short s = rw e (lt-ltb (length out) (length (dump_commit c)) (omega (arith, s, l, length_record c)), refl)

    pub written : n ≤ length out → {out' : Bytes} {m : ℕ} → Wrote (dump_commit c) out out' m
        → Keeps (room_in keeping out) c out out' (Record m)
    unfolding room_in
    written s w = rw e (le-ltb (length out) (length (dump_commit c)) (omega (arith, s, l, length_record c)), w)
