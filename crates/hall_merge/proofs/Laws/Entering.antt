-- The writes of new keys, put in from the last to the first.
-- Assumes nothing.
use mathlib.Core.Path.{◌≡◌, refl, sym, ap, ◌∙◌}
use mathlib.Core.Bool.{Bool, not, cond}
use mathlib.Core.List.{List, [], ◌∷◌, ◌++◌, append-nil}
use Prim.Native.Nat.{ℕ, zero, suc, ◌+◌, ◌-◌, ◌≤◌, ◌<◌}
use native.Mathlib.Nat.{not-suc-le-zero, le_of_suc-le-suc}
use native.Mathlib.Omega.{arith}
use lib.ListN.{length, get_or, take, drop, set, replicate, length-append, length-replicate, length-take, drop_of_length-le, get_or-append}
use lib.Seq.{drop-cons, drop-length, take_at}
use Rattle.model.specs.Sizes.{max_key}
use Rattle.model.specs.Bytes.{Bytes}
use Rattle.model.specs.State.{Version, Write, Writes}
use Rattle.model.proofs.Cases.{by_bool}
use Rattle.memory.proofs.Laws.Rows.{length_insert_at}
use Rattle.cells.specs.Cells.{Short, payload_bytes}
use Rattle.cells.specs.Rows.{place_of}
use Rattle.cells.specs.declared.rows.Place.{Place}
use Rattle.cells.specs.declared.rows.Place.TheVariants.{At, Before}
use Rattle.cells.proofs.Laws.Cells.{length_payload, payload_get, payload_cell}
use Rattle.hall.specs.Layout.{Row, keys_in, versions_in}
use Rattle.hall.specs.Tables.{Shaped, no_row, row_at, row_keys, end_before}
use Rattle.desk_writes.specs.Writes.{no_write, write_at}
use Rattle.hall_rows.specs.Held.{Holds}
use Rattle.hall_rows.specs.Runs.{shifted, Cell, version_by}
use Rattle.hall_rows.proofs.Laws.Held.{holds_as, holds_keys, holds_versions, holds_shaped, holds_then}
use Rattle.desk_writes.proofs.Laws.Writes.{write_room}
use Rattle.hall_sought.specs.Sought.{writes_in, place_from}
use Rattle.hall_merge.specs.Merge.{Passing, Enterable, Entered, version_of, is_at, is_known, count_of, insert_by, inserts, row_for, next_by, start_of, PlacesRise}
use Rattle.hall_merge.proofs.Laws.Opened.{Opened, opened_start, opened_insert, opened_done, opened_get, opened_length}

-- ---- writes counted, and their places

abbrev pub is_new : (ks : List Bytes) → Write → Bool
is_new ks w = not (is_known ks w)

pub count_drop : (f : Write → Bool) (j : ℕ) (ws : Writes) → count_of f (drop j ws) ≤ count_of f ws
unfolding count_of
count_drop f zero ws = omega arith
count_drop f (suc j) [] = omega arith
count_drop f (suc j) (w ∷ ws) = by_bool (f w) (λ p. rw p (omega (arith, count_drop f j ws))) (λ p. rw p (count_drop f j ws))

pub count_both : (f : Write → Bool) (ws : Writes) → count_of f ws + count_of (λ w. not (f w)) ws ≡ length ws
unfolding count_of
count_both f [] = refl
count_both f (w ∷ ws) = by_bool (f w) (λ p. rw p (omega (arith, count_both f ws))) (λ p. rw p (omega (arith, count_both f ws)))

pub rising_at : (ks : List Bytes) (n : ℕ) (ws : Writes) (j : ℕ) → j < length ws → PlacesRise ks n ws → next_by (place_of (write_at ws j).key 0 ks) ≤ start_of ks n (drop (suc j) ws)
rising_at ks n [] j h r = absurd (not-suc-le-zero h)
rising_at ks n (w ∷ ws) zero h r = r.0
rising_at ks n (w ∷ ws) (suc j) h r = rising_at ks n ws j (le_of_suc-le-suc h) r.1

pub before_same : (b p : ℕ) (rs qs : List Row) → ((i : ℕ) → i < p → row_at i rs ≡ row_at i qs) → end_before b p rs ≡ end_before b p qs
unfolding end_before
before_same b zero rs qs f = refl
before_same b (suc p) rs qs f = ap (λ (r : Row). r.end) (f p (omega arith))

length_by : {A : Type 0} (f : ℕ → A) (q : Place) (n k : ℕ) (xs : List A) → length xs ≡ n + k → length (insert_by q f xs) ≡ n + cond (not (is_at q)) (suc k) k
length_by f (At p) n k xs e = e
length_by f (Before p) n k xs e = omega (arith, length_insert_at p (f p) xs)

pub length_inserts : {A : Type 0} (ks : List Bytes) (f : Write → ℕ → A) (ws : Writes) (xs : List A)
    → length (inserts ks f ws xs) ≡ length xs + count_of (is_new ks) ws
unfolding inserts count_of
length_inserts ks f [] xs = omega arith
length_inserts ks f (w ∷ ws) xs =
    length_by (f w) (place_of w.key 0 ks) (length xs) _ (inserts ks f ws xs) (length_inserts ks f ws xs)

-- ---- the cells of a write

module _ {c : Bytes} (w : Write) (e : c ≡ payload_bytes w.payload) (s : Short w.payload) where
  pub write_cell : Cell c
  write_cell = rw e (length_payload w.payload s, payload_cell w.payload s)

  pub write_version : (x : ℕ) → version_by x c ≡ version_of x w
  write_version x = rw (e, payload_get w.payload s)

-- ---- a turn of either loop: the write before write j has its key at place q

pub record Turn (n : Bytes) (d : ℕ) (at : List ℕ) (j : ℕ) (q : Place) : Type 0 where
  pub some : 0 < j
  pub within : j ≤ length (writes_in n d)
  pub found : place_from (get_or at (j - 1) 0) ≡ q

module _ {m n : Bytes} {d : ℕ} {at : List ℕ} {r j : ℕ} {q : Place} (t : Passing m n d at r) (u : Turn n d at j q) where
  pub index : j - 1 < length (writes_in n d)
  index = omega (arith, u.some, u.within)

  pub one_more : suc (j - 1) ≡ j
  one_more = omega (arith, u.some)

  pub place : place_of (write_at (writes_in n d) (j - 1)).key 0 (row_keys (keys_in m)) ≡ q
  place = sym (t.sought.each (j - 1) index) ∙ u.found

  pub cons : drop (j - 1) (writes_in n d) ≡ write_at (writes_in n d) (j - 1) ∷ drop j (writes_in n d)
  cons = rw one_more at (drop-cons (writes_in n d) (j - 1) no_write index)

  pub rises : next_by q ≤ start_of (row_keys (keys_in m)) (length (keys_in m)) (drop j (writes_in n d))
  rises = rw (place, one_more) at (rising_at (row_keys (keys_in m)) _ (writes_in n d) (j - 1) index t.rising)

  pub narrow : (length (write_at (writes_in n d) (j - 1)).key ≤ max_key) × Short (write_at (writes_in n d) (j - 1)).payload
  narrow = write_room n t.desks d t.below (j - 1) index

pub news_all : {m n : Bytes} {d : ℕ} {at : List ℕ} {r : ℕ} → Passing m n d at r
    → count_of (is_new (row_keys (keys_in m))) (writes_in n d) ≡ r
news_all {m} {n} {d} p = omega (arith, count_both (is_known (row_keys (keys_in m))) (writes_in n d), p.known)

-- ---- the writes from write j on are in, new keys are to go in before row `top`, and `up` of them

pub record Entering (m : Bytes) (ws : Writes) (x r j top up : ℕ) (now : Bytes) : Type 0 where
  pub rows : List Row
  pub versions : List Version
  pub held : Holds m rows versions now
  pub keys : Opened (keys_in m ++ replicate r no_row) (inserts (row_keys (keys_in m)) (row_for (keys_in m)) (drop j ws) (keys_in m)) top up rows
  pub newests : Opened (versions_in m) (inserts (row_keys (keys_in m)) (λ w p. version_of x w) (drop j ws) (take (length (keys_in m)) (versions_in m))) top up versions
  pub start : start_of (row_keys (keys_in m)) (length (keys_in m)) (drop j ws) ≤ top
  pub within : top ≤ length (keys_in m)
  pub left : up + count_of (is_new (row_keys (keys_in m))) (drop j ws) ≡ r

-- ---- in the loop, which begins in m₀: m with k key rows and r more

pub record Grown (m n : Bytes) (d : ℕ) (at : List ℕ) (r k : ℕ) (m₀ : Bytes) : Type 0 where
  pub count : k ≡ length (keys_in m)
  pub pass : Passing m n d at r
  pub room : length (keys_in m) + r ≤ length (versions_in m)
  pub held : Holds m (keys_in m ++ replicate r no_row) (versions_in m) m₀

abbrev pub EnteringIn : (n : Bytes) (d : ℕ) (at : List ℕ) (x r k j top up : ℕ) (m₀ now : Bytes) → Type 0
EnteringIn n d at x r k j top up m₀ now =
    (m : Bytes) → Grown m n d at r k m₀ → Entering m (writes_in n d) x r j top up now

module _ {m n : Bytes} {d : ℕ} {at : List ℕ} {r k : ℕ} {m₀ : Bytes} (t : Grown m n d at r k m₀) where
  abbrev pass : Passing m n d at r
  pass = t.pass

  abbrev h : Shaped m
  h = pass.shaped

  abbrev ws : Writes
  ws = writes_in n d

  abbrev new : Write → Bool
  new = is_new (row_keys (keys_in m))

  pub entering_first : {x j : ℕ} → j ≡ length (writes_in n d) → Entering m (writes_in n d) x r j k r m₀
  unfolding inserts count_of
  entering_first {j = j} e =
      let z : drop j ws ≡ [] = rw e (drop-length ws) in
      let room = t.room in
      let l : length (take (length (keys_in m)) (versions_in m)) ≡ length (keys_in m) = rw length-take (omega arith) in
      record {
        rows = (keys_in m) ++ replicate r no_row;
        versions = versions_in m;
        held = t.held;
        keys = rw z
            (opened_start t.count (take_at (keys_in m) (replicate r no_row) (length (keys_in m)) refl)
            (simp (length-append, length-replicate) (omega arith)));
        newests = rw z (opened_start (t.count ∙ sym l) (rw l) (omega arith));
        start = rw z (omega (arith, t.count));
        within = omega (arith, t.count);
        left = rw z (omega arith);
      }

  module _ {x j top up : ℕ} {now : Bytes} (g : Entering m (writes_in n d) x r j top up now) where
    pub entering_skip : {p : ℕ} → Turn n d at j (At p) → Entering m (writes_in n d) x r (j - 1) top up now
    unfolding inserts count_of
    entering_skip u = record {
      rows = g.rows;
      versions = g.versions;
      held = g.held;
      keys = rw (cons pass u, place pass u) g.keys;
      newests = rw (cons pass u, place pass u) g.newests;
      start = rw (cons pass u, place pass u) (omega (arith, rises pass u, g.start));
      within = g.within;
      left = rw (cons pass u, place pass u) g.left;
    }

    module _ {p : ℕ} (u : Turn n d at j (Before p)) where
      abbrev w : Write
      w = write_at ws (j - 1)

      low : p ≤ top
      low = omega (arith, rises pass u, g.start)

      more : count_of new (drop (j - 1) ws) ≡ suc (count_of new (drop j ws))
      unfolding count_of
      more = rw (cons pass u, place pass u)

      pub some : 1 ≤ up
      some = omega (arith, g.left, more, count_drop new (j - 1) ws, news_all pass)

      module _ {key cell : Bytes} (e : key ≡ (write_at (writes_in n d) (j - 1)).key)
          (f : cell ≡ payload_bytes (write_at (writes_in n d) (j - 1)).payload) where
        pub enter_asks : Enterable now p top up key cell
        enter_asks = record {
          shaped = holds_shaped m h g.held;
          within = low;
          some = some;
          key_rows = rw (holds_keys m h g.held, opened_length g.keys) (omega (arith, g.keys));
          rows = rw (holds_versions m h g.held, opened_length g.newests) (omega (arith, g.newests));
          key = rw e (narrow pass u).0;
          cell = write_cell w f (narrow pass u).1;
        }

        end_same : end_before 0 p g.rows ≡ end_before 0 p (keys_in m)
        end_same = before_same 0 p g.rows (keys_in m)
            (λ i h. opened_get g.keys i no_row (omega (arith, low))
            ∙ get_or-append (keys_in m) (replicate r no_row) no_row i (omega (arith, low, g.within)))

        pub entering_next : {m₁ : Bytes}
            → Holds now
            (set (shifted p top up (keys_in now)) (p + (up - 1))
            (record { key = key; end = end_before 0 p (keys_in now) }))
            (set (shifted p top up (versions_in now)) (p + (up - 1)) (version_by x cell)) m₁
            → Entering m (writes_in n d) x r (j - 1) p (up - 1) m₁
        unfolding inserts
        entering_next k = record {
          rows = set (shifted p top up g.rows) (p + (up - 1)) (row_for (keys_in m) w p);
          versions = set (shifted p top up g.versions) (p + (up - 1)) (version_of x w);
          held = holds_as (rw (holds_keys m h g.held, e, end_same))
              (rw (holds_versions m h g.held, write_version w f (narrow pass u).1 x))
              (holds_then m h g.held k);
          keys = rw (cons pass u, place pass u) (opened_insert g.keys p (row_for (keys_in m) w p) low some);
          newests = rw (cons pass u, place pass u) (opened_insert g.newests p (version_of x w) low some);
          start = rw (cons pass u, place pass u) (omega arith);
          within = omega (arith, low, g.within);
          left = omega (arith, g.left, more, some);
        }

    pub entering_last : j ≤ 0 → Entered m n d x r now
    entering_last i =
        let y : j ≡ 0 = omega arith in
        let z : up ≡ 0 = omega (arith, rw y at g.left, news_all pass) in
        let ks : List Bytes = row_keys (keys_in m) in
        let f : Write → ℕ → Version = λ w p. version_of x w in
        let room = t.room in
        let l : length (inserts ks (row_for (keys_in m)) ws (keys_in m)) ≡ length (keys_in m) + r =
        length_inserts ks (row_for (keys_in m)) ws (keys_in m) ∙ rw (news_all pass) in
        let v : length (inserts ks f ws (take (length (keys_in m)) (versions_in m))) ≡ length (keys_in m) + r =
        length_inserts ks f ws (take (length (keys_in m)) (versions_in m))
        ∙ rw (news_all pass, length-take) (omega arith) in
        let c : length (keys_in m ++ replicate r no_row) ≤ length (keys_in m) + r =
        simp (length-append, length-replicate) (omega arith) in
        holds_as (opened_done (rw (y, z) at g.keys) ∙ rw (l, drop_of_length-le _ c) (append-nil _))
        (opened_done (rw (y, z) at g.newests) ∙ rw v) g.held
