-- A commit published, or refused for lack of room.
-- Assumes nothing.
use mathlib.Core.Path.{◌≡◌, sym, ◌∙◌}
use Prim.Native.Nat.{ℕ, ◌<◌}
use lib.ListN.{length, set}
use borrow.Author.Tests.{ne_eqb}
use Rattle.model.specs.Sizes.{number_width}
use Rattle.model.specs.Bytes.{Bytes, part, num}
use Rattle.model.specs.Load.{fault}
use Rattle.model.specs.Journal.{Commit}
use Rattle.model.specs.Calls.{rooms}
use Rattle.model_laws.proofs.Replay.{full_none}
use Rattle.hall.specs.Layout.{hall_in}
use Rattle.desk.specs.Layout.{desks_in, put_desks}
use Rattle.desk.specs.Shape.{Shaped}
use Rattle.model.specs.State.{free}
use Rattle.journal_stage.specs.Staging.{writes_of}
use Rattle.hall_sought.specs.Sought.{writes_in}
use Rattle.hall_merge.specs.Merge.{Publishable}
use Rattle.journal_replay.specs.Replays.{staged, commit_of, Doable, Offered, Committed}
use Rattle.journal_replay.proofs.Laws.Staged.{Staged, staged_writes, staged_shaped, staged_below, closed_again}

pub lacking : (h : Bytes) (c : Commit) {r : ℕ} → r ≡ fault (rooms (hall_in h) c.writes) → (r ≡ 0 → ⊥) → Committed h c h r
lacking h c {r} e z = record { lack = e; hall = rw (ne_eqb r 0 z) }

pub offered : {h d : Bytes} {n r : ℕ} → Offered h d n → r ≡ fault (rooms (hall_in h) (writes_in d 0)) → r ≡ 0 → Publishable h d 0 n
offered {h} {d} {n} o e z =
    let room = full_none (hall_in h) (record { number = n; writes = writes_in d 0 }) (sym e ∙ z) in
    record {
      ready = o.ready;
      later = o.later;
      low = o.low;
      writes = o.writes;
      key_room = room.0;
      version_room = room.1;
    }

-- ---- a record's writes, staged at the first desk

module _ {h m x n : Bytes} (p : Doable h m x) (e : n ≡ put_desks m (staged (writes_of x) (desks_in m))) where
  at_first : Staged m (writes_of x) n
  at_first = record { vacant = p.desk; few = p.lawful.body.few; room = p.lawful.body.room; same = e }

  pub close_ready : Shaped n × (0 < length (desks_in n))
  close_ready = (staged_shaped at_first, staged_below at_first)

  own : writes_in n 0 ≡ writes_of x
  own = staged_writes at_first

  module _ {k : ℕ} (f : k ≡ num (part x 0 number_width)) where
    pub offers : Offered h n k
    offers = record {
      ready = record { hall = p.hall; desks = close_ready.0; below = close_ready.1 };
      later = rw f p.lawful.later;
      low = rw f p.lawful.low;
      few = rw own p.lawful.body.few;
      writes = rw own p.lawful.writes;
    }

    pub committed_as : {h' : Bytes} {r : ℕ} → Committed h (record { number = k; writes = writes_in n 0 }) h' r → Committed h (commit_of x) h' r
    committed_as c = rw (f, own) at c

  pub desk_again : {k : Bytes} → k ≡ put_desks n (set (desks_in n) 0 free) → k ≡ m
  desk_again g = closed_again at_first g
