-- What the single calls of a batch answer in a sound store: numbers, keys, values and lists that fit the answers' fields.
use Prim.Native.Nat.{ℕ, suc, ◌^◌, ◌≤◌, ◌<◌, min}
use native.Mathlib.Omega.{arith}
use mathlib.Core.Path.{◌≡◌, refl, ◌∙◌}
use mathlib.Core.Bool.{true}
use mathlib.Core.List.{List, [], ◌∷◌}
use Rattle.std.specs.Prelude.{Option, None, Some, unwrap_or}
use lib.ListN.{length, length-map}
use lib.Dec.{leb, ltb}
use borrow.Author.Tests.{leb-true, leb-false}
use Rattle.model.specs.Sizes.{max_key, max_value, max_key_rooms, max_version_rooms, max_desks, max_writes, last_number, number_width}
use Rattle.model.specs.Bytes.{Bytes, order}
use Rattle.model.specs.State.{Payload, deletion, content, Version, Chain, Hall, Write, Writes, Desk, free, taken, Store, or_empty, look, visible, newest_of, content_of, value_of, find, written_keys, writes_of, free_desk, cutoff}
use Rattle.model.specs.Sweeps.{goes}
use Rattle.model.specs.Sound.{within, value_fits, sizes_fit, sound_payload}
use Rattle.model.specs.Calls.{Act, read, put, delete, commit, commit_to, abort, Kind, own_value, hall_value, nothing_there, Clashes, Answer, refused, conflict, began, found, done, committed, closed, swept, Outcome, Checks, check, read_outcome, above, clashes, is_spent, room_checks, settle, act, drops, sweep_at, decide}
use Rattle.model.specs.Runs.{response}
use Rattle.model.specs.History.{Rising}
use Rattle.model.proofs.Cases.{by_bool, by_order, by_option, none_some, and_left, and_right, within_le, key_parts}
use Rattle.model_laws.proofs.Chains.{rising_le}
use Rattle.model_laws.proofs.Entries.{SoundWrites}
use Rattle.model_laws.proofs.Desks.{cutoff_le}
use Rattle.model_laws.proofs.Effects.{AllFalse}
use Rattle.model_laws.proofs.Sound.{Payloads, SoundHall, Sound, tidy_of}
use Rattle.model_batch.specs.Encoder.{ActFits, ItemFits}
use Rattle.model_batch.specs.Items.{Who, Item, begins, acts, sweeps, resolve, call_of}
-- the whiteboard is checked first, so that a wrong definition is told by the case it breaks
use Rattle.model_batch.specs.Board

-- a number that fits its field
abbrev pub Narrow : ℕ → Type 0
Narrow n = n < 256 ^ number_width

-- clashes whose keys and numbers fit theirs
abbrev pub AllNarrow : Clashes → Type 0
AllNarrow [] = Unit {0}
AllNarrow (c ∷ cs) = (length c.0 ≤ max_key) × Narrow c.1 × AllNarrow cs

-- the refusals of the single calls but for conflict
abbrev pub Code : ℕ → Type 0
Code n = (n ≡ 0 → ⊥) × (n ≡ 9 → ⊥) × (n < 256)

pub data Answered : Item → Answer × Bytes → Type 0 where
  refusing : {i : Item} (n : ℕ) → Code n → Answered i (refused n, [])
  beginning : (t d : ℕ) → Narrow t → Narrow d → Answered begins (began t d, [])
  reading : {w : Who} {x : Bytes} (k : Kind) (b : Bytes) → length b ≤ max_value → Answered (acts w (read x)) (found k, b)
  putting : {w : Who} {k v : Bytes} → Answered (acts w (put k v)) (done, [])
  deleting : {w : Who} {k : Bytes} → Answered (acts w (delete k)) (done, [])
  committing : {w : Who} {j : Option ℕ} (n : ℕ) → Narrow n → Answered (acts w (commit_to j)) (committed n, [])
  closing : {w : Who} {j : Option ℕ} → Answered (acts w (commit_to j)) (closed, [])
  clashing : {w : Who} {j : Option ℕ} (cs : Clashes) → length cs ≤ max_writes → AllNarrow cs → Answered (acts w (commit_to j)) (conflict cs, [])
  aborting : {w : Who} → Answered (acts w abort) (done, [])
  sweeping : {l : ℕ} (c d : ℕ) → Narrow c → Narrow d → Answered (sweeps l) (swept c d, [])

-- ---- refusals

abbrev said : Outcome → Answer × Bytes
said o = (o.answer, o.bytes)

abbrev Codes : Checks → Type 0
Codes [] = Unit {0}
Codes (c ∷ cs) = Code c.1 × Codes cs

refuses : (i : Item) (cs : Checks) (o : Outcome) → Codes cs → (AllFalse cs → Answered i (said o)) → Answered i (said (check cs o))
unfolding check
refuses i [] o c h = h tt
refuses i (x ∷ cs) o c h = by_bool x.0 (λ p. rw p (refusing x.1 c.0)) (λ p. rw p (refuses i cs o c.1 (λ a. h (p, a))))

-- ---- reads

-- a value that fits, if there is one
abbrev Short : Option Bytes → Type 0
Short None = Unit {0}
Short (Some b) = length b ≤ max_value

payload_short : (p : Payload) → sound_payload p ≡ true → Short (content_of p)
unfolding sound_payload value_fits
payload_short deletion e = tt
payload_short (content b) e = leb-true (length b) max_value (and_left (leb (length b) max_value) _ e)

visible_short : (t : ℕ) (l : Chain) → Payloads l → Short (value_of (visible t l))
unfolding visible
visible_short t [] p = tt
visible_short t (v ∷ vs) p =
    let h = visible_short t vs p.1 in
    by_option (visible t vs)
    (λ e. by_bool (leb v.number t) (λ q. rw (e, q) (payload_short v.payload p.0)) (λ q. rw (e, q) tt))
    (λ u e. rw e (rw e at h))

found_short : (k last : Bytes) (ws : Writes) → SoundWrites last ws → (p : Payload) → find k ws ≡ Some p → Short (content_of p)
unfolding find
found_short k last [] s p e = none_some e
found_short k last (w ∷ ws) s p e =
    by_order (order k w.key)
    (λ q. none_some (rw q at e))
    (λ q. let g : w.payload ≡ p = cc (rw q at e) in rw (← g) (payload_short w.payload s.2))
    (λ q. found_short k w.key ws s.3 p (rw q at e))

reads : {w : Who} {x : Bytes} (o : Option Payload) (b : Option Bytes) → ((p : Payload) → o ≡ Some p → Short (content_of p)) → Short b
    → Answered (acts w (read x)) (said (read_outcome o b))
unfolding read_outcome
reads None None h g = reading nothing_there [] (omega arith)
reads None (Some b) h g = reading hall_value b g
reads (Some deletion) b h g = reading nothing_there [] (omega arith)
reads (Some (content b)) c h g = reading own_value b (h (content b) refl)

-- ---- commits

newest_below : (lo hi : ℕ) (l : Chain) (v : Version) → Rising lo hi l → newest_of l ≡ Some v → v.number ≤ hi
unfolding newest_of
newest_below lo hi [] v r e = none_some e
newest_below lo hi (x ∷ xs) v r e =
    by_option (newest_of xs)
    (λ q. let g : x ≡ v = cc (rw q at e) in rw (← g) (rising_le x.number hi xs r.1))
    (λ u q. newest_below x.number hi xs v r.1 (q ∙ rw q at e))

above_below : (t lo hi : ℕ) (l : Chain) (n : ℕ) → Rising lo hi l → above t (newest_of l) ≡ Some n → n ≤ hi
unfolding above
above_below t lo hi l n r e =
    by_option (newest_of l)
    (λ q. none_some (rw q at e))
    (λ v q. by_bool (ltb t v.number)
    (λ b. let g : v.number ≡ n = cc (rw (q, b) at e) in rw (← g) (newest_below lo hi l v r q))
    (λ b. none_some (rw (q, b) at e)))

clashes_few : (t : ℕ) (ks : List Bytes) (h : Hall) → length (clashes t ks h) ≤ length ks
unfolding clashes
clashes_few t [] h = omega arith
clashes_few t (k ∷ ks) h =
    by_option (above t (newest_of (look k h.entries)))
    (λ e. rw e (omega (arith, clashes_few t ks h)))
    (λ n e. rw e (omega (arith, clashes_few t ks h)))

clashes_narrow : (t : ℕ) (h : Hall) → SoundHall h → (last : Bytes) (ws : Writes) → SoundWrites last ws → AllNarrow (clashes t (written_keys ws) h)
unfolding clashes
clashes_narrow t h d last [] s = tt
clashes_narrow t h d last (w ∷ ws) s =
    let g = clashes_narrow t h d w.key ws s.3 in
    by_option (above t (newest_of (look w.key h.entries)))
    (λ e. rw e g)
    (λ n e. rw e ((key_parts w.key s.1).1, omega (arith, above_below t 0 _ _ n (d.rising w.key) e, d.counter), g))

settles : {w : Who} (s : Store) → Sound s → (t : ℕ) (ws : Writes) (cs : Clashes) → length cs ≤ max_writes → AllNarrow cs
    → Answered (acts w commit) (said (settle s.hall None t ws cs))
unfolding settle room_checks is_spent
settles s d t [] cs l n = closing
settles s d t (x ∷ ws) (c ∷ cs) l n = clashing (c ∷ cs) l n
settles s d t (x ∷ ws) [] l n =
    refuses _ _ _ (omega arith)
    (λ a. refuses _ _ _ (omega arith)
    (λ b. committing (suc s.hall.counter) (omega (arith, leb-false last_number s.hall.counter a.0))))

-- ---- begins and sweeps

free_within : (ds : List Desk) → unwrap_or (free_desk ds) 0 ≤ length ds
unfolding free_desk
free_within [] = omega arith
free_within (free ∷ ds) = omega arith
free_within (taken x ∷ ds) =
    let h = free_within ds in
    by_option (free_desk ds) (λ e. rw e (omega arith)) (λ n e. let g : n ≤ length ds = rw e at h in rw e (omega arith))

-- what sizes may be
sizes_narrow : (ks vs ds : ℕ) → sizes_fit ks vs ds ≡ true → (vs ≤ max_version_rooms) × (ds ≤ max_desks)
unfolding sizes_fit
sizes_narrow ks vs ds e =
    let r = and_right (within 1 max_key_rooms ks) _ e in (
      (within_le 1 max_version_rooms vs (and_left (within 1 max_version_rooms vs) _ r)).1,
      (within_le 1 max_desks ds (and_right (within 1 max_version_rooms vs) _ r)).1,
    )

-- ---- each item

pub acts_answered : (w : Who) (s : Store) → Sound s → (t : ℕ) (a : Act) → ActFits a → Answered (acts w a) (said (act s.hall t a (writes_of t s.desks)))
unfolding act
acts_answered w s d t (read k) f =
    let ws : Writes = or_empty (writes_of t s.desks) in
    let own = found_short k [] ws (tidy_of d.desks t).sound in
    let seen = visible_short t (look k s.hall.entries) (d.hall.payloads k) in
    refuses _ _ _ (omega arith) (λ a. reads (find k ws) (value_of (visible t (look k s.hall.entries))) own seen)
acts_answered w s d t (put k v) f = refuses _ _ _ (omega arith) (λ a. putting)
acts_answered w s d t (delete k) f = refuses _ _ _ (omega arith) (λ a. deleting)
acts_answered w s d t (commit_to j) f =
    let ws : Writes = or_empty (writes_of t s.desks) in
    let tidy = tidy_of d.desks t in
    let ks = written_keys ws in
    let cs = clashes t ks s.hall in
    let few : length cs ≤ max_writes = omega (arith, clashes_few t ks s.hall, length-map ws (λ (x : Write). x.key), tidy.few) in
    let narrow = clashes_narrow t s.hall d.hall [] ws tidy.sound in
    rw f (refuses _ _ _ (omega arith) (λ a. settles s d t ws cs few narrow))
acts_answered w s d t abort f = refuses _ _ _ (omega arith) (λ a. aborting)

pub answered : (s : Store) → Sound s → (l : List Answer) (i : Item) → ItemFits i → Answered i (response s (call_of l i))
unfolding call_of decide sweep_at is_spent drops
answered s d l begins f =
    let z = sizes_narrow _ _ _ d.hall.sizes in
    refuses _ _ _ (omega arith)
    (λ a. beginning (suc s.hall.counter) _ (omega (arith, leb-false last_number s.hall.counter a.1.0))
    (omega (arith, free_within s.desks, d.count, z.1)))
answered s d l (acts w a) f = acts_answered w s d (resolve l w) a f.1
answered s d l (sweeps n) f =
    let z = sizes_narrow _ _ _ d.hall.sizes in
    let m : ℕ = min n s.hall.counter in
    let c : ℕ = cutoff m s.desks in
    sweeping c (drops (goes c []) s.hall.entries) (omega (arith, cutoff_le m s.desks, d.hall.counter)) (omega (arith, d.hall.versions, z.0))
