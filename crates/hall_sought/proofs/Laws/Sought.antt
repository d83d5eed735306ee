-- The writes' keys sought one after the other.
-- Assumes nothing.
use mathlib.Core.Path.{◌≡◌, refl, sym, ap, ◌∙◌}
use mathlib.Core.List.{List}
use Prim.Native.Nat.{ℕ, ◌+◌, ◌*◌, ◌/◌, ◌%◌, ◌≤◌, ◌<◌}
use native.Mathlib.Numerals.{add-one}
use native.Mathlib.Omega.{arith}
use borrow.Author.Tests.{eqb-true, eqb-false}
use lib.Dec.{eqb}
use lib.ListN.{length, set, drop, drop_of_length-le, length-set}
use lib.Seq.{get_or-set_same, get_or-set_other, drop-cons}
use Rattle.model.specs.Sizes.{max_key_rooms}
use Rattle.model.specs.Bytes.{Bytes}
use Rattle.model.specs.State.{Entry, Writes, newest_of}
use Rattle.model.specs.Calls.{new_keys}
use Rattle.model.proofs.Cases.{by_bool}
use Rattle.cells.specs.Rows.{place_of}
use Rattle.cells.specs.declared.rows.Place.{Place}
use Rattle.cells.specs.declared.rows.Place.TheVariants.{At, Before}
use Rattle.cells.proofs.Laws.Rows.{Within, place_in}
use Rattle.hall.specs.Layout.{Row, keys_in, hall_in, Sound}
use Rattle.hall.specs.Tables.{row_keys}
use Rattle.hall.proofs.Laws.Sound.{sound_shaped}
use Rattle.hall.proofs.Laws.Chains.{look_none, newest_at}
use Rattle.desk_writes.specs.Writes.{no_write, write_at}
use Rattle.hall_sought.specs.Sought.{writes_in, Ready, place_from, SoughtTo, Found}

row_number : (p : ℕ) → place_from (2 * p + 1) ≡ At p
row_number p =
    let e : (2 * p + 1) % 2 ≡ 1 = omega arith in
    let q : (2 * p + 1) / 2 ≡ p = omega arith in
    rw (e, q)

gap_number : (p : ℕ) → place_from (2 * p) ≡ Before p
gap_number p =
    let e : (2 * p) % 2 ≡ 0 = omega arith in
    let q : (2 * p) / 2 ≡ p = omega arith in
    rw (e, q)

within_more : (q : Place) {a b : ℕ} → a ≤ b → Within q a → Within q b
within_more (At p) h l = omega arith
within_more (Before p) h l = omega arith

sought_more : (ks : List Bytes) (ws : Writes) (at : List ℕ) (j c : ℕ) → SoughtTo ks ws at j → j < length at → place_from c ≡ place_of (write_at ws j).key 0 ks
    → SoughtTo ks ws (set at j c) (j + 1)
sought_more ks ws at j c s h e i l =
    by_bool (eqb i j)
    (λ q.
    let z : i ≡ j = eqb-true i j q in
    rw (z, get_or-set_same at j c 0 h) e)
    (λ q.
    let z : i < j = omega (arith, eqb-false i j q) in
    rw (get_or-set_other at j i c 0 (eqb-false i j q)) (s i z))

-- of desk d's k writes the first j keys are sought, and `new` of them are new
pub record Seeking (m n : Bytes) (d k : ℕ) (at₀ at : List ℕ) (new j : ℕ) : Type 0 where
  pub ready : Ready m n d
  pub writes : k ≡ length (writes_in n d)
  pub room : length (writes_in n d) ≤ length at₀
  pub below : j ≤ k
  pub long : length at ≡ length at₀
  pub few : new ≤ j
  pub sought : SoughtTo (row_keys (keys_in m)) (writes_in n d) at j
  pub count : new + new_keys (drop j (writes_in n d)) (hall_in m).entries ≡ new_keys (writes_in n d) (hall_in m).entries

pub seeking_first : (m n : Bytes) (d k : ℕ) (at : List ℕ) → Ready m n d × (length (writes_in n d) ≤ length at)
    → k ≡ length (writes_in n d) → Seeking m n d k at at 0 0
seeking_first m n d k at y e =
    record {
      ready = y.0;
      writes = e;
      room = y.1;
      below = omega arith;
      long = refl;
      few = omega arith;
      sought = λ i l. absurd (omega arith);
      count = omega arith;
    }

module _ {m n : Bytes} {d k : ℕ} {at₀ at : List ℕ} {new j : ℕ} (g : Seeking m n d k at₀ at new j) (l : j < k)
    {x : Bytes} {r : Place} (e : x ≡ (write_at (writes_in n d) j).key) (f : r ≡ place_of x 0 (row_keys (keys_in m))) where
  abbrev ws : Writes
  ws = writes_in n d

  abbrev es : List Entry
  es = (hall_in m).entries

  abbrev ks : List Bytes
  ks = row_keys (keys_in m)

  abbrev hall : Sound m
  hall = g.ready.hall

  next : j < length ws
  next = omega arith

  room : j < length at
  room = omega arith

  pub place_small : {q : Place} → r ≡ q → Within q max_key_rooms
  place_small {q} h =
      let good = (sound_shaped m hall).good in
      let few : length (keys_in m) ≤ max_key_rooms = omega arith in
      within_more q few (rw (sym f ∙ h) at (place_in (λ (r : Row). r.key) x (keys_in m)))

  told : {q : Place} → r ≡ q → place_of (write_at ws j).key 0 ks ≡ q
  told h = ap (λ (k : Bytes). place_of k 0 ks) (sym e) ∙ sym f ∙ h

  -- the number c says the place of write j
  turned : {new' : ℕ} (c : ℕ) → place_from c ≡ place_of (write_at ws j).key 0 ks → new' ≤ new + 1
      → new + new_keys (drop j ws) es ≡ new' + new_keys (drop (j + 1) ws) es
      → Seeking m n d k at₀ (set at j c) new' (j + 1)
  turned c p few q =
      record {
        ready = g.ready;
        writes = g.writes;
        room = g.room;
        below = omega arith;
        long = length-set at j c ∙ g.long;
        few = omega arith;
        sought = sought_more ks ws at j c g.sought room p;
        count = omega arith;
      }

  pub seeking_at : (p : ℕ) → r ≡ At p → Seeking m n d k at₀ (set at j (2 * p + 1)) new (j + 1)
  unfolding new_keys
  seeking_at p h =
      turned (2 * p + 1) (row_number p ∙ sym (told h)) (omega arith)
      (rw (drop-cons ws j no_write next, add-one j, newest_at m hall (write_at ws j).key p (told h)) (omega arith))

  pub seeking_before : (p : ℕ) → r ≡ Before p → Seeking m n d k at₀ (set at j (2 * p)) (new + 1) (j + 1)
  unfolding new_keys newest_of
  seeking_before p h =
      turned (2 * p) (gap_number p ∙ sym (told h)) (omega arith)
      (rw (drop-cons ws j no_write next, add-one j, look_none m hall (write_at ws j).key p (told h)) (omega arith))

pub seeking_last : {m n : Bytes} {d k : ℕ} {at₀ at : List ℕ} {new j : ℕ} → Seeking m n d k at₀ at new j → k ≤ j
    → Found m n d at new
unfolding new_keys
seeking_last {m} {n} {d} {k} {at₀} {at} {new} {j} g l =
    let ws : Writes = writes_in n d in
    let e : j ≡ length ws = omega arith in
    let z : new_keys (drop j ws) (hall_in m).entries ≡ 0 = rw (drop_of_length-le ws {i = j} (omega arith)) in
    record {
      sought = record { enough = omega arith; each = rw e at g.sought };
      new = omega arith;
    }
