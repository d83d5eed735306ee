-- The two passes in a sound memory, and the counter: the hall with the writes published.
-- Assumes nothing.
use mathlib.Core.Path.{◌≡◌, refl, sym, ap, ◌∙◌}
use mathlib.Core.Bool.{Bool, true, not}
use mathlib.Core.List.{List, [], ◌∷◌, ◌++◌, append-nil}
use Prim.Native.Nat.{ℕ, ◌+◌, ◌≤◌, ◌<◌}
use native.Mathlib.Omega.{arith}
use lib.ListN.{length, get_or, take, drop, replicate, length-append, length-map, length-replicate, drop_of_length-le}
use lib.Seq.{sets, sets-eq, length-sets, take_at, drop_at, drop-append-add, length-take-le, get_or-take}
use Rattle.model.specs.Bytes.{Bytes, order}
use Rattle.model.specs.State.{Version, Entry, Write, Writes, is_some, look, newest_of, add, publish, with_entries}
use Rattle.model.specs.Calls.{new_keys}
use Rattle.model.proofs.Cases.{by_bool, by_order, true_false}
use Rattle.model_laws.proofs.Entries.{SoundWrites, keys_of, length_keys, count_publish}
use Rattle.model_laws.proofs.Sound.{NonEmpty}
use Rattle.model_laws.proofs.Tested.{hall_parts, writes_parts}
use Rattle.memory.specs.Rows.{insert_at}
use Rattle.cells.specs.Rows.{place_of}
use Rattle.cells.specs.declared.rows.Place.{Place}
use Rattle.cells.specs.declared.rows.Place.TheVariants.{At, Before}
use Rattle.cells.proofs.Laws.Rows.{next, place_next}
use Rattle.hall.specs.Layout.{Row, Tables, rows_of, newests_of, olders_of, versions_of, tables_for, hall_for, key_rooms_in, keys_in, versions_in, tables_in, hall_in, put_tables, put_hall, Sound}
use Rattle.hall.specs.Tables.{Shaped, with_counter, no_row, no_version, row_at, row_keys, end_before}
use Rattle.hall.proofs.Laws.Tables.{put_then}
use Rattle.hall.proofs.Laws.Halls.{rows_total, rows_keys, newests_total, versions_total}
use Rattle.hall.proofs.Laws.Sound.{sound_shaped, keys_are, keys_counted, versions_counted, hall_key_rooms, hall_version_rooms}
use Rattle.hall.proofs.Laws.Chains.{look_none, newest_at}
use Rattle.hall_rows.specs.Held.{other, Holds}
use Rattle.hall_rows.proofs.Laws.Held.{holds_as, holds_tables, holds_keys, holds_versions, holds_shaped, holds_then}
use Rattle.hall_sought.specs.Sought.{writes_in, Found}
use Rattle.hall_merge.specs.Merge.{version_of, is_at, is_known, count_of, adds, inserts, row_for, start_of, PlacesRise, Passing, PassingKnown, PassingNew, renewed, Renewed, Entered, Publishable}
use Rattle.hall_merge.proofs.Laws.Opened.{take_insert}
use Rattle.hall_merge.proofs.Laws.Adds.{under, place_adds, publish_adds}
use Rattle.hall_merge.proofs.Laws.Places.{rows_add, newests_add, olders_add, full_add, rising}
use Rattle.hall_merge.proofs.Laws.Entering.{is_new, before_same, length_inserts, news_all}

by_place : {C : Type 0} (q : Place) → ((p : ℕ) → q ≡ At p → C) → ((p : ℕ) → q ≡ Before p → C) → C
by_place (At p) f g = f p refl
by_place (Before p) f g = g p refl

-- ---- a known key added: the keys stay

at_next : (p : Place) → is_at (next p) ≡ is_at p
at_next (At i) = refl
at_next (Before i) = refl

keys_add : (k : Bytes) (v : Version) (es : List Entry) → is_at (place_of k 0 (keys_of es)) ≡ true → keys_of (add k v es) ≡ keys_of es
unfolding add place_of keys_of
keys_add k v [] h = true_false (sym h)
keys_add k v (e ∷ es) h =
    by_order (order k e.key)
    (λ o. true_false (sym (rw o at h)))
    (λ o. rw o)
    (λ o.
    let g : is_at (place_of k 0 (keys_of es)) ≡ true = sym (at_next (place_of k 0 (keys_of es))) ∙ ap is_at (sym (place_next k 0 (keys_of es))) ∙ rw o at h in
    rw (o, keys_add k v es g))

keys_known : (x : ℕ) (ws : Writes) (es : List Entry) → keys_of (adds (is_known (keys_of es)) x ws es) ≡ keys_of es
unfolding adds
keys_known x [] es = refl
keys_known x (w ∷ ws) es =
    let i = keys_known x ws es in
    by_bool (is_known (keys_of es) w)
    (λ p. rw p (keys_add w.key (version_of x w) (adds (is_known (keys_of es)) x ws es) (rw i p) ∙ i))
    (λ p. rw p i)

full_adds : (f : Write → Bool) (x : ℕ) (ws : Writes) (es : List Entry) → NonEmpty es → NonEmpty (adds f x ws es)
unfolding adds
full_adds f x [] es a = a
full_adds f x (w ∷ ws) es a = by_bool (f w) (λ p. rw p (full_add w.key (version_of x w) (adds f x ws es) (full_adds f x ws es a))) (λ p. rw p (full_adds f x ws es a))

-- ---- new keys added: rows put in

get_insert : {A : Type 0} (i p : ℕ) (x d : A) (xs : List A) → i < p → p ≤ length xs
    → get_or (insert_at p x xs) i d ≡ get_or xs i d
get_insert i p x d xs h l =
    sym (get_or-take p (insert_at p x xs) i d h) ∙ rw (take_insert p x xs l) (get_or-take p xs i d h)

start_low : (ks : List Bytes) (n : ℕ) (ws : Writes) → PlacesRise ks n ws → start_of ks n ws ≤ n
start_low ks n [] r = omega arith
start_low ks n (w ∷ ws) r =
    let i = start_low ks n ws r.1 in
    by_place (place_of w.key 0 ks)
    (λ p q. rw q (omega (arith, rw q at r.0)))
    (λ p q. rw q (omega (arith, rw q at r.0)))

-- rows before the first write's place stay
inserts_below : {A : Type 0} (ks : List Bytes) (f : Write → ℕ → A) (d : A) (ws : Writes) (xs : List A) (n i : ℕ) → PlacesRise ks n ws → n ≤ length xs → i < start_of ks n ws → get_or (inserts ks f ws xs) i d ≡ get_or xs i d
unfolding inserts
inserts_below ks f d [] xs n i r l h = refl
inserts_below ks f d (w ∷ ws) xs n i r l h =
    by_place (place_of w.key 0 ks)
    (λ p q. rw q (inserts_below ks f d ws xs n i r.1 l (omega (arith, rw q at r.0, rw q at h))))
    (λ p q.
    let a : p ≤ start_of ks n ws = rw q at r.0 in
    let b : i < p = rw q at h in
    let c : p ≤ length (inserts ks f ws xs) = omega (arith, length_inserts ks f ws xs, start_low ks n ws r.1) in
    rw q (get_insert i p (f w p) d _ b c ∙ inserts_below ks f d ws xs n i r.1 l (omega arith)))

pub record New (x : ℕ) (ws : Writes) (es : List Entry) : Type 0 where
  pub rows : rows_of 0 (adds (λ w. not (is_known (keys_of es) w)) x ws es) ≡ inserts (keys_of es) (row_for (rows_of 0 es)) ws (rows_of 0 es)
  pub newests : newests_of (adds (λ w. not (is_known (keys_of es) w)) x ws es) ≡ inserts (keys_of es) (λ w p. version_of x w) ws (newests_of es)
  pub olders : olders_of (adds (λ w. not (is_known (keys_of es) w)) x ws es) ≡ olders_of es

news_in : (x : ℕ) (last : Bytes) (ws : Writes) (es : List Entry) → SoundWrites last ws → PlacesRise (keys_of es) (length es) ws → NonEmpty es → New x ws es
unfolding adds inserts
news_in x last [] es s r f = record { rows = refl; newests = refl; olders = refl }
news_in x last (w ∷ ws) es s r f =
    let g : Write → Bool = λ w. not (is_known (keys_of es) w) in
    let i = news_in x w.key ws es s.3 r.1 f in
    let E : List Entry = adds g x ws es in
    let v : Version = version_of x w in
    let F : NonEmpty E = full_adds g x ws es f in
    by_place (place_of w.key 0 (keys_of es))
    (λ p q. record { rows = rw q i.rows; newests = rw q i.newests; olders = rw q i.olders })
    (λ p q.
    let t : place_of w.key 0 (keys_of E) ≡ Before p = place_adds g x w.key ws es (under w.key ws s.3) ∙ q in
    let a : p ≤ start_of (keys_of es) (length es) ws = rw q at r.0 in
    let b : end_before 0 p (rows_of 0 E) ≡ end_before 0 p (rows_of 0 es) =
    before_same 0 p (rows_of 0 E) (rows_of 0 es)
    (λ k h. ap (λ (l : List Row). row_at k l) i.rows ∙ inserts_below (keys_of es) (row_for (rows_of 0 es)) no_row ws (rows_of 0 es) (length es) k r.1 (rw (rows_total 0 es) (omega arith)) (omega arith)) in
    record {
      rows = rw q (rows_add w.key v 0 E F ∙ rw (t, b, i.rows));
      newests = rw q (newests_add w.key v E F ∙ rw (t, i.newests));
      olders = rw q (olders_add w.key v 0 E F ∙ rw (t, i.olders));
    })

-- ---- in a sound memory

module _ {m n : Bytes} {d x : ℕ} (q : Publishable m n d x) {at : List ℕ} {r : ℕ} (f : Found m n d at r) where
  abbrev es : List Entry
  es = (hall_in m).entries

  abbrev ws : Writes
  ws = writes_in n d

  abbrev s : Sound m
  s = q.ready.hall

  sound : SoundWrites [] ws
  sound = writes_parts [] ws q.writes

  full : NonEmpty es
  full = (hall_parts (hall_in m) s.hall).non_empty

  keys_held : row_keys (keys_in m) ≡ keys_of es
  keys_held = ap row_keys (keys_are m s) ∙ rows_keys 0 es

  is_known_lem : (k : Bytes) → is_some (newest_of (look k es)) ≡ is_at (place_of k 0 (row_keys (keys_in m)))
  unfolding newest_of
  is_known_lem k = by_place (place_of k 0 (row_keys (keys_in m))) (λ p e. rw (e, newest_at m s k p e)) (λ p e. rw (e, look_none m s k p e))

  counted : (us : Writes) → count_of (is_known (row_keys (keys_in m))) us + new_keys us es ≡ length us
  unfolding count_of new_keys
  counted [] = refl
  counted (w ∷ us) =
      by_bool (is_known (row_keys (keys_in m)) w)
      (λ p. rw (is_known_lem w.key, p) (omega (arith, counted us)))
      (λ p. rw (is_known_lem w.key, p) (omega (arith, counted us)))

  pass : Passing m n d at r
  pass =
      record {
        shaped = sound_shaped m s;
        desks = q.ready.desks;
        below = q.ready.below;
        sought = f.sought;
        rising = rw (length-map (keys_in m) (λ (r : Row). r.key)) at (rising [] ws (row_keys (keys_in m)) sound);
        known = rw f.new (counted ws);
      }

  pub asks_known : PassingKnown m n d at r
  asks_known = record {
    sound = s;
    pass = pass;
    room = omega (arith, q.version_room, versions_counted m s, hall_version_rooms m, (hall_parts (hall_in m) s.hall).versions);
    writes = q.writes;
  }

  module _ {m₁ : Bytes} (k : Renewed m n d x r m₁) where
    abbrev E : List Entry
    E = renewed m n d x

    h : Shaped m
    h = sound_shaped m s

    keys_same : keys_of E ≡ keys_of es
    keys_same = rw keys_held (keys_known x ws es)

    keys_now : row_keys (keys_in m₁) ≡ row_keys (keys_in m)
    keys_now = ap row_keys (holds_keys m h k) ∙ rows_keys 0 E ∙ keys_same ∙ sym keys_held

    full₁ : NonEmpty E
    full₁ = full_adds (is_known (row_keys (keys_in m))) x ws es full

    size : length E ≡ length (keys_in m)
    size = sym (length_keys E) ∙ ap length keys_same ∙ length_keys es ∙ sym (keys_counted m s)

    count₁ : length (keys_in m₁) ≡ length (keys_in m)
    count₁ = ap length (holds_keys m h k) ∙ rows_total 0 E ∙ size

    abbrev Y : List Version
    Y = sets (olders_of es ++ replicate (length ws) no_version) r (olders_of E)

    news : length (newests_of E) ≡ length (keys_in m)
    news = newests_total E full₁ ∙ size

    long : length (versions_in m₁) ≡ length (keys_in m) + (length (olders_of es) + length ws)
    long =
        ap length (holds_versions m h k) ∙ length-append (newests_of E) Y
        ∙ rw (news, length-sets (olders_of es ++ replicate (length ws) no_version) r (olders_of E), length-append (olders_of es) (replicate (length ws) no_version), length-replicate (length ws) no_version)

    pass₁ : Passing m₁ n d at r
    pass₁ =
        record {
          shaped = holds_shaped m h k;
          desks = pass.desks;
          below = pass.below;
          sought = rw keys_now pass.sought;
          rising = rw (keys_now, count₁) pass.rising;
          known = rw keys_now pass.known;
        }

    pub asks_new : PassingNew m₁ n d at r
    asks_new =
        let e : key_rooms_in m₁ ≡ key_rooms_in m = ap (λ (t : Tables). t.key_rooms) (holds_tables m h k) in
        record {
          pass = pass₁;
          key_room = omega (arith, count₁, q.key_room, f.new, keys_counted m s, hall_key_rooms m, (hall_parts (hall_in m) s.hall).keys);
          rows = omega (arith, count₁, long, pass.known);
        }

    module _ {m₂ : Bytes} (e : Entered m₁ n d x r m₂) where
      abbrev F : List Entry
      F = publish x ws es

      F-is : F ≡ adds (λ w. not (is_known (keys_of E) w)) x ws E
      F-is = publish_adds (is_known (row_keys (keys_in m))) x [] ws es sound ∙ rw (keys_same, ← keys_held)

      new : New x ws E
      new = news_in x [] ws E sound (rw (size, keys_same, ← keys_held) pass.rising) full₁

      keys_made : row_keys (keys_in m₁) ≡ keys_of E
      keys_made = ap row_keys (holds_keys m h k) ∙ rows_keys 0 E

      rows_done_lem : inserts (row_keys (keys_in m₁)) (row_for (keys_in m₁)) ws (keys_in m₁) ≡ rows_of 0 F
      rows_done_lem = rw (keys_made, holds_keys m h k) (sym (ap (rows_of 0) F-is ∙ new.rows))

      newests_done : newests_of F ≡ inserts (keys_of E) (λ w p. version_of x w) ws (newests_of E)
      newests_done = ap newests_of F-is ∙ new.newests

      olders_done_lem : olders_of F ≡ olders_of E
      olders_done_lem = ap olders_of F-is ∙ new.olders

      -- how many older versions there are
      older : r + length (olders_of E) ≡ length (olders_of es) + length ws
      older =
          let a = count_publish x ws es in
          let b = versions_total F in
          let c = versions_total es in
          let t = length-append (newests_of F) (olders_of F) in
          let u = length-append (newests_of es) (olders_of es) in
          let l : count_of (is_new (keys_of E)) ws ≡ r = rw (keys_same, ← keys_held) (news_all pass) in
          let v = ap length newests_done ∙ length_inserts (keys_of E) (λ w p. version_of x w) ws (newests_of E) in
          omega (arith, newests_total es full, keys_counted m s, news, ap length olders_done_lem)

      drop_done : drop r Y ≡ olders_of E
      drop_done =
          let X : List Version = olders_of es ++ replicate (length ws) no_version in
          let l : length X ≡ length (olders_of es) + length ws = rw (length-append (olders_of es) (replicate (length ws) no_version), length-replicate (length ws) no_version) in
          let z : length X ≤ r + length (olders_of E) = omega (arith, older) in
          let t : length (take r X) ≡ r = length-take-le r X (omega (arith, older)) in
          ap (drop r) (sets-eq (olders_of E) X r (omega (arith, older)) ∙ rw (drop_of_length-le X z) (append-nil (take r X ++ olders_of E))) ∙ drop_at (take r X) (olders_of E) r t

      versions_done : inserts (row_keys (keys_in m₁)) (λ w p. version_of x w) ws (take (length (keys_in m₁)) (versions_in m₁)) ++ drop (length (keys_in m₁) + r) (versions_in m₁) ≡ versions_of F
      versions_done =
          let t : take (length (keys_in m₁)) (versions_in m₁) ≡ newests_of E = rw (count₁, holds_versions m h k) (take_at (newests_of E) Y (length (keys_in m)) news) in
          let u : drop (length (keys_in m₁) + r) (versions_in m₁) ≡ olders_of E = rw (count₁, holds_versions m h k, ← news) (drop-append-add (newests_of E) Y r ∙ drop_done) in
          rw (keys_made, t, u, newests_done, olders_done_lem)

      held : Holds m (rows_of 0 F) (versions_of F) m₂
      held = holds_as rows_done_lem versions_done (holds_then m h k e)

      pub published_shaped : Shaped m₂
      published_shaped = holds_shaped m h held

      pub published : {m₃ : Bytes} → m₃ ≡ put_tables m₂ (with_counter x (tables_in m₂)) → m₃ ≡ put_hall m (with_entries (hall_in m) x (publish x (writes_in n d) (hall_in m).entries))
      unfolding put_hall tables_for hall_in hall_for
      published w = put_then (other m (rows_of 0 F) (versions_of F)) held.good m held.put (λ (t : Tables). with_counter x t) refl w
