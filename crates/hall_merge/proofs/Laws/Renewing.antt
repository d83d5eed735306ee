-- The writes of known keys, put in from the last to the first.
-- Assumes nothing.
use mathlib.Core.Path.{◌≡◌, refl, sym, ap, ◌∙◌, subst}
use mathlib.Core.Bool.{Bool}
use mathlib.Core.List.{List, [], ◌∷◌, ◌++◌, append_assoc}
use Prim.Native.Nat.{ℕ, zero, suc, ◌+◌, ◌-◌, ◌*◌, ◌^◌, ◌≤◌, ◌<◌}
use native.Mathlib.Nat.{not-suc-le-zero, le_of_suc-le-suc}
use native.Mathlib.Omega.{arith}
use lib.ListN.{length, drop, set, replicate, length-append, length-replicate}
use lib.Seq.{sets, drop-length, take_at, set-append_left}
use Rattle.model.specs.Sizes.{count_width}
use Rattle.model.specs.Bytes.{Bytes}
use Rattle.model.specs.State.{Version, Entry, Write, Writes, add}
use Rattle.model_laws.proofs.Entries.{SoundWrites, keys_of}
use Rattle.model_laws.proofs.Sound.{NonEmpty}
use Rattle.model_laws.proofs.Tested.{hall_parts, writes_parts}
use Rattle.memory.specs.Rows.{insert_at}
use Rattle.cells.specs.Cells.{payload_bytes}
use Rattle.cells.specs.Rows.{place_of}
use Rattle.cells.specs.declared.rows.Place.TheVariants.{At, Before}
use Rattle.hall.specs.Layout.{Row, rows_of, newests_of, olders_of, keys_in, versions_in, hall_in, Sound}
use Rattle.hall.specs.Tables.{Shaped, no_version, row_at, row_keys, version_at, bump}
use Rattle.hall.proofs.Laws.Halls.{rows_total, rows_keys, rows_ends, newests_total}
use Rattle.hall.proofs.Laws.Chains.{ends_at}
use Rattle.hall.proofs.Laws.Rows.{row_good, length_bump}
use Rattle.hall.proofs.Laws.Sound.{keys_are, versions_are, keys_counted}
use Rattle.desk_writes.specs.Writes.{write_at}
use Rattle.hall_rows.specs.Held.{Holds}
use Rattle.hall_rows.specs.Runs.{shifted, raised, version_by, Shiftable, EndsRaisable}
use Rattle.hall_rows.proofs.Laws.Held.{holds_as, holds_keys, holds_versions, holds_shaped}
use Rattle.hall_sought.specs.Sought.{writes_in}
use Rattle.hall_merge.specs.Merge.{Passing, PassingKnown, Renewable, Renewed}
use Rattle.hall_merge.specs.Merge.{version_of, is_known, count_of, adds, start_of}
use Rattle.hall_merge.proofs.Laws.Opened.{Opened, opened_start, opened_insert, opened_end, opened_length}
use Rattle.hall_merge.proofs.Laws.Adds.{Under, under, place_adds}
use Rattle.hall_merge.proofs.Laws.Places.{rows_add, newests_add, olders_add, full_add}
use Rattle.hall_merge.proofs.Laws.Steps.{keys_then, versions_then}
use Rattle.hall_merge.proofs.Laws.Raising.{ends_rise, bump_below, partly, partly_length, partly_at, partly_next, partly_none, partly_all, shift_far, move_far}
use Rattle.hall_merge.proofs.Laws.Entering.{count_drop, write_cell, write_version}
use Rattle.hall_merge.proofs.Laws.Entering.{Turn, index, one_more, place, cons, rises, narrow}

under_at : (last : Bytes) (ws : Writes) (j : ℕ) → SoundWrites last ws → j < length ws → Under (write_at ws j).key (drop (suc j) ws)
under_at last [] j s h = absurd (not-suc-le-zero h)
under_at last (w ∷ ws) zero s h = under w.key ws s.3
under_at last (w ∷ ws) (suc j) s h = under_at w.key ws j s.3 (le_of_suc-le-suc h)

-- the known keys' writes from write j on are in `done`; its key rows from `row` on are raised, its older versions from `top` on stand `up` rows further up
pub record Renewing (m : Bytes) (ws : Writes) (x r j row top up : ℕ) (now : Bytes) : Type 0 where
  pub done : List Entry
  pub are : done ≡ adds (is_known (row_keys (keys_in m))) x (drop j ws) (hall_in m).entries
  pub full : NonEmpty done
  pub size : length done ≡ length (keys_in m)
  pub rest : List Version
  pub held : Holds m (partly row (up - r) (rows_of 0 done)) (newests_of done ++ rest) now
  pub opened : Opened (olders_of (hall_in m).entries ++ replicate (length ws) no_version) (olders_of done) (top - length (keys_in m)) up rest
  pub above : length (keys_in m) ≤ top
  pub start : start_of (row_keys (keys_in m)) (length (keys_in m)) (drop j ws) ≤ row
  pub within : row ≤ length (keys_in m)
  pub ends : (i : ℕ) → i < row → length (keys_in m) + (row_at i (rows_of 0 done)).end ≤ top
  pub left : up + count_of (is_known (row_keys (keys_in m))) (drop j ws) ≡ length ws

-- ---- in the loop, which begins in m₀: m with c key rows, v version rows, and one more for each of k writes

pub record Extended (m n : Bytes) (d : ℕ) (at : List ℕ) (r c v k : ℕ) (m₀ : Bytes) : Type 0 where
  pub known : PassingKnown m n d at r
  pub count : c ≡ length (keys_in m)
  pub total : v ≡ length (versions_in m)
  pub wrote : k ≡ length (writes_in n d)
  pub held : Holds m (keys_in m) (versions_in m ++ replicate k no_version) m₀

abbrev pub RenewingIn : (n : Bytes) (d : ℕ) (at : List ℕ) (x r c v k j row top up : ℕ) (m₀ now : Bytes) → Type 0
RenewingIn n d at x r c v k j row top up m₀ now =
    (m : Bytes) → Extended m n d at r c v k m₀ → Renewing m (writes_in n d) x r j row top up now

module _ {m n : Bytes} {d : ℕ} {at : List ℕ} {r c v k : ℕ} {m₀ : Bytes} (t : Extended m n d at r c v k m₀) where
  abbrev s : Sound m
  s = t.known.sound

  abbrev pass : Passing m n d at r
  pass = t.known.pass

  abbrev h : Shaped m
  h = pass.shaped

  abbrev ws : Writes
  ws = writes_in n d

  abbrev es : List Entry
  es = (hall_in m).entries

  abbrev is_old : Write → Bool
  is_old = is_known (row_keys (keys_in m))

  pub renewing_first : {x : ℕ} → Renewing m (writes_in n d) x r k c v k m₀
  unfolding adds count_of
  renewing_first =
      let full : NonEmpty es = (hall_parts (hall_in m) s.hall).non_empty in
      let z : drop k ws ≡ [] = rw t.wrote (drop-length ws) in
      let zs : List Version = replicate (length ws) no_version in
      let o : length (keys_in m) ≡ length es = keys_counted m s in
      let rt : length (rows_of 0 es) ≡ length es = rows_total 0 es in
      let rr : c ≡ length (rows_of 0 es) = omega (arith, t.count) in
      let lv : length (versions_in m) ≡ length es + length (olders_of es) =
      ap length (versions_are m s) ∙ length-append (newests_of es) (olders_of es) ∙ rw (newests_total es full) in
      let lz : length (olders_of es ++ zs) ≡ length (olders_of es) + length ws = simp (length-append, length-replicate) in
      record {
        done = es;
        are = rw z;
        full = full;
        size = sym o;
        rest = olders_of es ++ zs;
        held = holds_as (keys_are m s ∙ sym (partly_all (k - r) (rows_of 0 es) rr))
            (ap (λ (i : ℕ). versions_in m ++ replicate i no_version) t.wrote ∙ ap (λ l. l ++ zs) (versions_are m s)
            ∙ append_assoc (newests_of es) (olders_of es) zs) t.held;
        opened = opened_start (omega (arith, t.total)) (take_at (olders_of es) zs (length (olders_of es)) refl)
            (omega (arith, t.wrote));
        above = omega (arith, t.total);
        start = rw z (omega (arith, t.count));
        within = omega (arith, t.count);
        ends = λ i h.
            let l : i < length (rows_of 0 es) = omega arith in
            omega (arith, t.total, ends_at 0 (0 + length (olders_of es)) i (rows_of 0 es) (rows_ends 0 es) l);
        left = rw z (omega (arith, t.wrote));
      }

  module _ {x j row top up : ℕ} {now : Bytes} (g : Renewing m (writes_in n d) x r j row top up now) where
    news : length (newests_of g.done) ≡ length (keys_in m)
    news = newests_total g.done g.full ∙ g.size

    rows_now : top + up ≤ length (versions_in now)
    rows_now =
        rw (holds_versions m h g.held, length-append (newests_of g.done) g.rest, opened_length g.opened)
        (omega (arith, news, g.opened.below, g.opened.room, g.above))

    pub renewing_skip : {p : ℕ} → Turn n d at j (Before p) → Renewing m (writes_in n d) x r (j - 1) row top up now
    unfolding adds count_of
    renewing_skip u = record {
      done = g.done;
      are = rw (cons pass u, place pass u) g.are;
      full = g.full;
      size = g.size;
      rest = g.rest;
      held = g.held;
      opened = g.opened;
      above = g.above;
      start = rw (cons pass u, place pass u) (omega (arith, rises pass u, g.start));
      within = g.within;
      ends = g.ends;
      left = rw (cons pass u, place pass u) g.left;
    }

    module _ {p : ℕ} (u : Turn n d at j (At p)) where
      abbrev w : Write
      w = write_at ws (j - 1)

      abbrev L : List Row
      L = rows_of 0 g.done

      low : p < row
      low = omega (arith, rises pass u, g.start)

      more : count_of is_old (drop (j - 1) ws) ≡ suc (count_of is_old (drop j ws))
      unfolding count_of
      more = rw (cons pass u, place pass u)

      pub some : suc r ≤ up
      some = omega (arith, count_drop is_old (j - 1) ws, g.left, more, pass.known)

      long : row ≤ length L
      long = omega (arith, g.within, g.size, rows_total 0 g.done)

      pub end_asks : Shaped now × (p < length (keys_in now))
      end_asks = (
        holds_shaped m h g.held,
        rw (holds_keys m h g.held, partly_length row (up - r) L long) (omega (arith, low, long)),
      )

      -- the end that was read
      module _ {a : ℕ} (y : a ≡ (row_at p (keys_in now)).end) where
        pub end_fits : c + a < 2 * 256 ^ count_width
        end_fits =
            omega (arith, (row_good now end_asks.0 p end_asks.1).low, t.count, h.good.keys_fit, h.good.few_keys)

        abbrev to : ℕ
        to = top - length (keys_in m)

        abbrev from : ℕ
        from = (row_at p L).end

        e : c + a ≡ length (keys_in m) + from
        e = rw (t.count, y, holds_keys m h g.held, partly_at row (up - r) L long p low)

        abbrev rest₁ : List Version
        rest₁ = set (shifted from to up g.rest) (from + (up - 1)) (version_at p (newests_of g.done))

        module _ {cell : Bytes} (f : cell ≡ payload_bytes (write_at (writes_in n d) (j - 1)).payload) where
          pub renew_asks : Renewable now p (c + a) top up cell
          renew_asks = record {
            shaped = end_asks.0;
            newest = omega (arith, e, low, g.within);
            within = omega (arith, e, g.ends p low);
            some = omega (arith, some);
            rows = rows_now;
            cell = write_cell w f (narrow pass u).1;
          }

          -- after the version is renewed
          module _ {m₁ : Bytes}
              (o : Holds now (keys_in now)
              (set (shifted p (p + 1) (c + a + (up - 1) - p) (shifted (c + a) top up (versions_in now))) p
              (version_by x cell)) m₁) where
            abbrev ns : List Version
            ns = newests_of g.done

            abbrev by : ℕ
            by = c + a + (up - 1) - p

            abbrev placed : List Version → List Version
            placed l = set (shifted p (p + 1) by (shifted (c + a) top up l)) p (version_by x cell)

            versions₁ : placed (ns ++ g.rest) ≡ set ns p (version_of x w) ++ rest₁
            versions₁ =
                let q : top ≡ length (keys_in m) + to = omega (arith, g.above) in
                let one : shifted (c + a) top up (ns ++ g.rest) ≡ ns ++ shifted from to up g.rest =
                ap (λ (i : ℕ). shifted i top up (ns ++ g.rest)) e
                ∙ ap (λ (i : ℕ). shifted (length (keys_in m) + from) i up (ns ++ g.rest)) q
                ∙ shift_far ns g.rest news from to up in
                let i : p < length (keys_in m) = omega (arith, low, g.within) in
                let two : shifted p (p + 1) by (ns ++ shifted from to up g.rest) ≡ ns ++ rest₁ =
                move_far ns (shifted from to up g.rest) news p _ by no_version i (omega (arith, e, some)) in
                ap (λ (l : List Version). set (shifted p (p + 1) by l) p (version_by x cell)) one
                ∙ ap (λ (l : List Version). set l p (version_by x cell)) two
                ∙ rw (write_version w f (narrow pass u).1 x) (set-append_left ns rest₁ p _ (omega (arith, news)))

            held₁ : Holds m (partly row (up - r) L) (set ns p (version_of x w) ++ rest₁) m₁
            held₁ = holds_as refl versions₁ (versions_then m h g.held placed o)

            pub raise_asks : EndsRaisable m₁ p row (up - r)
            raise_asks =
                let small = end_asks.0.good in
                record {
                  shaped = holds_shaped m h held₁;
                  start = omega (arith, low);
                  rows = rw (holds_keys m h held₁, partly_length row (up - r) L long) long;
                  low = λ i _ b.
                      rw (holds_keys m h held₁, partly_at row (up - r) L long i b)
                      (omega (arith, g.ends i b, rows_now, small.versions_fit, small.few_versions));
                }

            there : place_of w.key 0 (keys_of g.done) ≡ At p
            there =
                let ks : row_keys (keys_in m) ≡ keys_of es = ap row_keys (keys_are m s) ∙ rows_keys 0 es in
                let b = under_at [] ws (j - 1) (writes_parts [] ws t.known.writes) (index pass u) in
                ap (λ (l : List Entry). place_of w.key 0 (keys_of l)) g.are
                ∙ place_adds is_old x w.key (drop j ws) es (rw (one_more pass u) at b) ∙ rw (← ks) (place pass u)

            abbrev made : List Entry
            made = add w.key (version_of x w) g.done

            rows_made : rows_of 0 made ≡ bump p L
            rows_made = rows_add w.key (version_of x w) 0 g.done g.full ∙ rw there

            newests_made : newests_of made ≡ set ns p (version_of x w)
            newests_made = newests_add w.key (version_of x w) g.done g.full ∙ rw there

            olders_made : olders_of made ≡ insert_at from (version_at p ns) (olders_of g.done)
            olders_made =
                let z : from - 0 ≡ from = omega arith in
                olders_add w.key (version_of x w) 0 g.done g.full ∙ rw (there, z)

            size_made : length made ≡ length (keys_in m)
            size_made = sym (rows_total 0 made) ∙ ap length rows_made ∙ length_bump p L ∙ rows_total 0 g.done ∙ g.size

            pub renewing_next : {m₂ : Bytes} → Holds m₁ (raised p row (up - r) (keys_in m₁)) (versions_in m₁) m₂
                → Renewing m (writes_in n d) x r (j - 1) p (c + a) (up - 1) m₂
            unfolding adds
            renewing_next b =
                let l : up - r - 1 ≡ up - 1 - r = omega arith in
                let y : c + a - length (keys_in m) ≡ from = omega (arith, e) in
                let q : raised p row (up - r) (partly row (up - r) L) ≡ partly p (up - 1 - r) (rows_of 0 made) =
                partly_next row (up - r) L long p (omega (arith, low)) (omega (arith, some))
                ∙ rw l (ap (partly p (up - 1 - r)) (sym rows_made)) in
                record {
                  done = made;
                  are = rw (cons pass u, place pass u) (ap (add w.key (version_of x w)) g.are);
                  full = full_add w.key (version_of x w) g.done g.full;
                  size = size_made;
                  rest = rest₁;
                  held = holds_as q (ap (λ (l : List Version). l ++ rest₁) (sym newests_made))
                      (keys_then m h held₁ (raised p row (up - r)) b);
                  opened = rw (y, olders_made)
                      (opened_insert g.opened from _ (omega (arith, g.ends p low)) (omega (arith, some)));
                  above = omega (arith, e);
                  start = rw (cons pass u, place pass u) (omega arith);
                  within = omega (arith, low, g.within);
                  ends = λ i b.
                      let d : p < length L = omega (arith, low, long) in
                      let q = ends_rise 0 _ L i p (rows_ends 0 g.done) (omega arith) d in
                      rw (rows_made, bump_below i p L b) (omega (arith, e, q));
                  left = omega (arith, g.left, more, some);
                }

    pub last_asks : Shiftable now (length (versions_in now)) c top up
    last_asks =
        record { shaped = holds_shaped m h g.held; start = omega (arith, g.above, t.count); rows = rows_now }

    -- all are in, and the older versions go up by what is left
    pub renewing_last : {m₁ : Bytes} → j ≤ 0 → Holds now (keys_in now) (shifted c top up (versions_in now)) m₁
        → Renewed m n d x r m₁
    renewing_last i o =
        let f : j ≡ 0 = omega arith in
        let z : up ≡ r = omega (arith, rw f at g.left, pass.known) in
        let y : up - r ≡ 0 = omega arith in
        let ns : List Version = newests_of g.done in
        let X : List Version = olders_of es ++ replicate (length ws) no_version in
        let b : c ≡ length (keys_in m) + 0 = omega (arith, t.count) in
        let q : top ≡ length (keys_in m) + (top - length (keys_in m)) = omega (arith, g.above) in
        let l : shifted c top up (ns ++ g.rest) ≡ ns ++ sets X r (olders_of g.done) =
        ap (λ (i : ℕ). shifted i top up (ns ++ g.rest)) b
        ∙ ap (λ (i : ℕ). shifted (length (keys_in m) + 0) i up (ns ++ g.rest)) q
        ∙ shift_far ns g.rest news 0 (top - length (keys_in m)) up
        ∙ ap (λ (l : List Version). ns ++ l) (opened_end g.opened ∙ rw z) in
        subst (λ (l : List Entry). Holds m (rows_of 0 l) (newests_of l ++ sets X r (olders_of l)) _) (rw f at g.are)
        (holds_as (rw y (partly_none row (rows_of 0 g.done))) l (versions_then m h g.held (shifted c top up) o))
