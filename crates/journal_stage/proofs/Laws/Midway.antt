-- A desk midway in staging: it has the first writes of the body, and the others stand from here on.
-- Assumes nothing.
use mathlib.Core.Path.{◌≡◌, refl, sym, ap, ◌∙◌}
use mathlib.Core.List.{◌++◌}
use Prim.Native.Nat.{ℕ, suc, ◌+◌, ◌≤◌, ◌<◌}
use native.Mathlib.Numerals.{add-one}
use native.Mathlib.Omega.{arith}
use lib.ListN.{length, take, drop, set, get_or, length-take, length-set}
use lib.Seq.{take-suc, drop-cons, set-get_or, take_all}
use Rattle.model.specs.Sizes.{max_writes, number_width, count_width}
use Rattle.model.specs.Bytes.{Bytes, part, num}
use Rattle.model.specs.State.{Write, Writes, Desk, free, taken, rewriting}
use Rattle.model.specs.Journal.{dump_write, dump_writes}
use Rattle.memory.proofs.Laws.Each.{each_at, each_take}
use Rattle.desk.specs.Layout.{desks_in, put_desks}
use Rattle.desk.specs.Shape.{RoomForWrite, RoomForWrites, desk_in, own_writes, reseat}
use Rattle.desk.proofs.Laws.Layout.{put_length, put_then}
use Rattle.desk_writes.specs.Writes.{no_write, rewritten, ending}
use Rattle.desk_writes.proofs.Laws.Writes.{rewritten_same, rewritten_twice, room_after, own_after, open_after}
use Rattle.journal_fields.specs.Places.{writes_in_body}
use Rattle.journal_stage.specs.Staging.{write_at, Stageable, writes_of, Staging}
use Rattle.journal_stage.proofs.Laws.Staging.{write_is, after_write}

-- the first i writes of the body x
abbrev firsts : Bytes → (i : ℕ) → Writes → Writes
firsts x i ws = take i (writes_of x)

-- desk d of m₀ had none; of m it has the first i, and those from i on stand at `at`
pub record Midway (x m₀ : Bytes) (d n : ℕ) (m : Bytes) (at i : ℕ) : Type 0 where
  pub staging : Staging x m₀ d
  pub count : n ≡ length (writes_of x)
  pub below : i ≤ n
  pub left : drop at x ≡ dump_writes (drop i (writes_of x))
  pub same : m ≡ put_desks m₀ (rewritten d (firsts x i) (desks_in m₀))

-- the same writes
with_own : (x : Desk) → reseat (rewriting (λ ws. ws)) x ≡ x
with_own free = refl
with_own (taken y) = refl

pub midway_start : (x m : Bytes) (d n : ℕ) → Staging x m d → n ≡ num (part x number_width count_width) → Midway x m d n m writes_in_body 0
midway_start x m d n s e = record {
  staging = s;
  count = e ∙ sym s.body.count;
  below = omega arith;
  left = s.body.bytes;
  same = s.is_open.shaped.same
      ∙ ap (put_desks m) (sym (rewritten_same d (firsts x 0) (λ ws. ws) (desks_in m) (sym s.none)
      ∙ ap (λ (y : Desk). set (desks_in m) d y) (with_own (desk_in m d)) ∙ set-get_or (desks_in m) d free));
}

module _ (x m₀ : Bytes) (d n : ℕ) (m : Bytes) (at i : ℕ) (s : Midway x m₀ d n m at i) where
  abbrev ws : Writes
  ws = writes_of x

  few : length (take i ws) ≤ max_writes
  few = omega (arith, length-take i ws, s.staging.body.few)

  rooms : RoomForWrites (take i ws)
  rooms = each_take RoomForWrite i ws s.staging.body.room

  pub midway_length : length m ≡ length m₀
  midway_length =
      ap length s.same
      ∙ put_length m₀ (rewritten d (firsts x i) (desks_in m₀)) (room_after m₀ d s.staging.is_open (firsts x i) few rooms s.same)
      (rw length-set s.staging.is_open.shaped.long)

  pub midway_end : n ≤ i → m ≡ put_desks m₀ (rewritten d (λ vs. writes_of x) (desks_in m₀))
  midway_end h = s.same ∙ ap (λ (vs : Writes). put_desks m₀ (rewritten d (λ us. vs) (desks_in m₀))) (take_all i ws (omega (arith, s.count)))

  module _ (h : i < n) where
    v : Write
    v = get_or ws i no_write

    after : Bytes
    after = dump_writes (drop (suc i) ws)

    row : i < length ws
    row = omega (arith, s.count)

    there : drop at x ≡ dump_write v ++ after
    unfolding dump_writes v after
    there = s.left ∙ ap dump_writes (drop-cons ws i no_write row)

    room : RoomForWrite v
    unfolding v
    room = each_at RoomForWrite ws i no_write s.staging.body.room row

    is : write_at x at ≡ v
    is = write_is x at v after there room

    own : own_writes (desk_in m d) ≡ take i ws
    own = own_after m₀ d s.staging.is_open (firsts x i) few rooms s.same

    pub midway_stages : Stageable x at m d
    midway_stages = record {
      dumped = record { rest = after; bytes = rw is there; room = rw is room };
      desk = record {
        is_open = open_after m₀ d s.staging.is_open (firsts x i) few rooms s.same;
        short = rw is room.0;
        left = rw own (omega (arith, length-take i ws, s.staging.body.few, s.count));
      };
    }

    pub midway_next : {m₁ : Bytes} {to : ℕ} → m₁ ≡ put_desks m (rewritten d (ending (write_at x at)) (desks_in m))
        → to ≡ at + length (dump_write (write_at x at)) → Midway x m₀ d n m₁ to (i + 1)
    unfolding v after
    midway_next {m₁} {to} e f =
        let g : Writes → Writes = firsts x i in
        let more : ending (write_at x at) (take i ws) ≡ take (i + 1) ws = rw (is, add-one i) (sym (take-suc ws i no_write row)) in
        record {
          staging = s.staging;
          count = s.count;
          below = omega arith;
          left = rw (f, is, add-one i) (after_write x at v after there room);
          same = put_then m₀ (rewritten d g (desks_in m₀)) (room_after m₀ d s.staging.is_open g few rooms s.same)
              (rewritten d (ending (write_at x at))) (length-set (rewritten d g (desks_in m₀)) d _) s.same e
              ∙ ap (put_desks m₀) (rewritten_twice d g (ending (write_at x at)) (desks_in m₀) s.staging.is_open.below
              ∙ rewritten_same d (λ us. ending (write_at x at) (g us)) (firsts x (i + 1)) (desks_in m₀) more);
        }
