-- Sound stores: the tests of soundness taken apart, every call keeps them, and what a creation gives passes them.
use Prim.Native.Nat.{ℕ, suc, ◌-◌, ◌≤◌, ◌<◌}
use native.Mathlib.Nat.{le_refl}
use native.Mathlib.Omega.{arith}
use mathlib.Core.Path.{◌≡◌, refl, sym, ap, ◌∙◌}
use mathlib.Core.Bool.{true, false}
use mathlib.Core.List.{List, [], ◌∷◌, ◌++◌}
use Rattle.std.specs.Prelude.{Option, None, Some}
use lib.ListN.{length}
use lib.Dec.{eqb}
use borrow.Author.Tests.{leb-false, ne_eqb}
use Rattle.model.specs.Sizes.{max_writes, last_number}
use Rattle.model.specs.Bytes.{Bytes, order}
use Rattle.model.specs.State.{Payload, Chain, Entry, Hall, Writes, Transaction, Desk, Store, is_some, or_empty, writes_of, look, version_count, find, put_write, publish, redesk, vacated, with_entries, with_floor}
use Rattle.model.specs.Sweeps.{Rule, trim, trim_all}
use Rattle.model.specs.Sound.{sizes_fit, key_fits, sound_payload, in_chain}
use Rattle.model.specs.Journal.{Commit, with_commit, with_commits}
use Rattle.model.specs.Calls.{Call, Outcome, new_keys, is_too_many, apply, next}
use Rattle.model.specs.Runs.{run}
use Rattle.model.specs.History.{in_bytes, all_in_bytes, stamp, Rising}
use Rattle.model_laws.proofs.Sizes.{commits_sizes}
use Rattle.model.proofs.Cases.{by_bool, by_order, by_option, true_false, and_left, and_right, or_left, or_right, or_intro}
use Rattle.model_laws.proofs.Chains.{rising_le, rising_stamp, Like}
use Rattle.model_laws.proofs.Trim.{Spares, by_trim, rising_trim}
use Rattle.model_laws.proofs.Entries.{made, look_publish, made_find, SoundWrites, writes_put, keys_of, count_publish, count_trim_all}
use Rattle.model_laws.proofs.Keys.{after_nil, asc_publish, asc_trim_all, look_trim_all, full_publish, length_publish, full_trim_all, length_trim_all}
pub use Rattle.model_laws.proofs.Keys.{Ascending, NonEmpty}
use Rattle.model_laws.proofs.Desks.{Seated, vacated_keeps, rewriting_keeps, Every, every_map, every_seat, every_vacated, every_rewriting, every_of, length_seat, length_redesk, Distinct, distinct_seat, distinct_redesk, vacant_every}
use Rattle.model_laws.proofs.Journal.{Later, Proper}
use Rattle.model_laws.proofs.Replay.{Room, Rises, AllProper}
use Rattle.model_laws.proofs.Effects.{Comes, idles, begins, notes, ends, commits, sweeps, restores, comes}

-- ---- what soundness says, in parts

abbrev pub Payloads : Chain → Type 0
Payloads [] = Unit {0}
Payloads (v ∷ vs) = (sound_payload v.payload ≡ true) × Payloads vs

pub record SoundHall (h : Hall) : Type 0 where
  pub sizes : sizes_fit h.key_rooms h.version_rooms h.desk_count ≡ true
  pub counter : h.counter ≤ last_number
  pub keys : length h.entries ≤ h.key_rooms
  pub versions : version_count h.entries ≤ h.version_rooms
  pub ascending : Ascending [] (keys_of h.entries)
  pub non_empty : NonEmpty h.entries
  pub rising : (k : Bytes) → Rising 0 h.counter (look k h.entries)
  pub payloads : (k : Bytes) → Payloads (look k h.entries)
  pub floor : h.floor ≤ h.counter

pub record Tidy (ws : Writes) : Type 0 where
  pub sound : SoundWrites [] ws
  pub few : length ws ≤ max_writes

-- no version has the number t
abbrev pub Free : ℕ → List Entry → Type 0
Free t es = (k : Bytes) → in_chain t (look k es) ≡ false

-- an open transaction beside hall h
pub record Fine (h : Hall) (x : Transaction) : Type 0 where
  pub tidy : Tidy x.writes
  pub begun : (1 ≤ x.start) × (x.start ≤ h.counter)
  pub apart : Free x.start h.entries

pub record SoundDesks (h : Hall) (ds : List Desk) : Type 0 where
  pub each : Every (Fine h) ds
  pub distinct : Distinct ds

pub record Sound (s : Store) : Type 0 where
  pub hall : SoundHall s.hall
  pub count : length s.desks ≡ s.hall.desk_count
  pub desks : SoundDesks s.hall s.desks

-- ---- versions after a change

payloads_append : (a b : Chain) → Payloads a → Payloads b → Payloads (a ++ b)
payloads_append [] b p q = q
payloads_append (v ∷ a) b p q = (p.0, payloads_append a b p.1 q)

payloads_made : (k : Bytes) (n : ℕ) (last : Bytes) (ws : Writes) → SoundWrites last ws → Payloads (made k n ws)
unfolding made
payloads_made k n last [] g = tt
payloads_made k n last (w ∷ ws) g =
    by_order (order k w.key)
    (λ q. rw q (payloads_made k n w.key ws g.3))
    (λ q. rw q (g.2, payloads_made k n w.key ws g.3))
    (λ q. rw q (payloads_made k n w.key ws g.3))

payloads_trim : (g : Rule) (l : Chain) → Payloads l → Payloads (trim g l)
payloads_trim g l p =
    by_trim g (λ l r. Payloads l → Payloads r) (λ p. p) (λ v vs r f p. f p.1) (λ v vs r f p. (p.0, f p.1)) l p

-- ---- the numbers in use after a change

in_append : (t : ℕ) (a b : Chain) → in_chain t a ≡ false → in_chain t b ≡ false → in_chain t (a ++ b) ≡ false
unfolding in_chain
in_append t [] b p q = q
in_append t (v ∷ a) b p q = or_intro (or_left (eqb v.number t) _ p) (in_append t a b (or_right (eqb v.number t) _ p) q)

in_stamp : (t n : ℕ) (o : Option Payload) → (n ≡ t → ⊥) → in_chain t (stamp (Some n) o) ≡ false
unfolding in_chain stamp
in_stamp t n None h = refl
in_stamp t n (Some p) h = rw (ne_eqb n t h)

pub in_rising : (t lo hi : ℕ) (l : Chain) → hi < t → Rising lo hi l → in_chain t l ≡ false
unfolding in_chain
in_rising t lo hi [] h r = refl
in_rising t lo hi (v ∷ l) h r = or_intro (ne_eqb v.number t (λ e. omega (arith, rising_le v.number hi l r.1))) (in_rising t v.number hi l h r.1)

in_trim : (t : ℕ) (g : Rule) (l : Chain) → in_chain t l ≡ false → in_chain t (trim g l) ≡ false
unfolding in_chain
in_trim t g l a =
    by_trim g (λ l r. in_chain t l ≡ false → in_chain t r ≡ false) (λ a. a)
    (λ v vs r f a. f (or_right (eqb v.number t) _ a))
    (λ v vs r f a. or_intro (or_left (eqb v.number t) _ a) (f (or_right (eqb v.number t) _ a))) l a

-- ---- writes after a change

length_put : (k : Bytes) (p : Payload) (ws : Writes) → (is_some (find k ws) ≡ true → length (put_write k p ws) ≡ length ws) × (length (put_write k p ws) ≤ suc (length ws))
unfolding put_write find
length_put k p [] = (λ e. true_false (sym e), omega arith)
length_put k p (w ∷ ws) =
    by_order (order k w.key)
    (λ q. rw q (λ e. true_false (sym e), omega arith))
    (λ q. rw q (λ e. refl, omega arith))
    (λ q. let ih = length_put k p ws in rw q (λ e. ap suc (ih.0 e), omega (arith, ih.1)))

few_put : (k : Bytes) (p : Payload) (ws : Writes) → is_too_many k ws ≡ false → length ws ≤ max_writes → length (put_write k p ws) ≤ max_writes
unfolding is_too_many
few_put k p ws e l =
    by_bool (is_some (find k ws))
    (λ q. omega (arith, (length_put k p ws).0 q))
    (λ q. omega (arith, (length_put k p ws).1, leb-false max_writes (length ws) (rw q at e)))

pub tidy_nil : Tidy []
tidy_nil = record { sound = tt; few = omega arith }

tidy_put : (k : Bytes) (p : Payload) (ws : Writes) → key_fits k ≡ true → sound_payload p ≡ true → is_too_many k ws ≡ false → Tidy ws → Tidy (put_write k p ws)
tidy_put k p ws a b e t = record { sound = writes_put [] k p ws (after_nil k a) a b t.sound; few = few_put k p ws e t.few }

-- ---- the transaction with start t

module _ {h : Hall} {ds : List Desk} (d : SoundDesks h ds) (t : ℕ) where
  pub begun_of : Seated t ds → (1 ≤ t) × (t ≤ h.counter)
  begun_of o =
      by_option (writes_of t ds)
      (λ p. true_false (sym (rw p at o)))
      (λ ws p. let x = every_of (λ x. Fine h x) t ds d.each ws p in rw (← x.1) x.3.begun)

  pub tidy_of : Tidy (or_empty (writes_of t ds))
  tidy_of =
      by_option (writes_of t ds)
      (λ p. rw p tidy_nil)
      (λ ws p. let x = every_of (λ x. Fine h x) t ds d.each ws p in rw (p, ← x.2) x.3.tidy)

-- ---- every call keeps a store sound

-- a publish of sound writes under a later number; of none, it only counts on
hall_later : {h : Hall} → SoundHall h → (n : ℕ) → h.counter < n → n ≤ last_number → (ws : Writes) → SoundWrites [] ws
    → new_keys ws h.entries ≤ h.key_rooms - length h.entries → length ws ≤ h.version_rooms - version_count h.entries
    → SoundHall (with_entries h n (publish n ws h.entries))
hall_later {h} d n b l ws w k v =
    let es = h.entries in
    record {
      sizes = d.sizes;
      counter = l;
      keys = omega (arith, length_publish n [] ws es w d.non_empty, d.keys);
      versions = omega (arith, count_publish n ws es, d.versions);
      ascending = asc_publish n ws es w d.ascending;
      non_empty = full_publish n ws es d.non_empty;
      rising = λ k. rw (look_publish k n ws es, made_find k n [] ws w) (rising_stamp h.counter n (look k es) (find k ws) (omega arith) (d.rising k));
      payloads = λ k. rw (look_publish k n ws es) (payloads_append (look k es) (made k n ws) (d.payloads k) (payloads_made k n [] ws w));
      floor = omega (arith, d.floor);
    }

-- under the next number
pub hall_publish : {h : Hall} → SoundHall h → (ws : Writes) → SoundWrites [] ws → h.counter < last_number
    → new_keys ws h.entries ≤ h.key_rooms - length h.entries → length ws ≤ h.version_rooms - version_count h.entries
    → SoundHall (with_entries h (suc h.counter) (publish (suc h.counter) ws h.entries))
hall_publish d ws w l k v = hall_later d _ (le_refl _) l ws w k v

pub hall_commit : {h : Hall} → SoundHall h → (c : Commit) → Later h.counter c → Room h c.writes → Proper c
    → SoundHall (with_commit h c)
hall_commit d c l r p = hall_later d c.number l.0 l.1 c.writes p.sound r.0 r.1

hall_commits : {h : Hall} → SoundHall h → (cs : List Commit) → Rises h cs → AllProper cs → SoundHall (with_commits h cs)
unfolding with_commits
hall_commits d [] r p = d
hall_commits {h = h} d (c ∷ cs) r p =
    hall_commits {h = with_commit h c} (hall_commit d c r.0 r.1 p.0) cs r.2 p.1

-- what any rule leaves, and any floor up to the counter
hall_trim : {h : Hall} → SoundHall h → (g : Rule) → SoundHall (with_entries h h.counter (trim_all g h.entries))
hall_trim {h} d g =
    let es = h.entries in
    record {
      sizes = d.sizes;
      counter = d.counter;
      keys = omega (arith, length_trim_all g es, d.keys);
      versions = omega (arith, count_trim_all g es, d.versions);
      ascending = asc_trim_all [] g es d.ascending;
      non_empty = full_trim_all g es;
      rising = λ k. rw (look_trim_all k g [] es d.ascending)
          (rising_trim g 0 h.counter (look k es) (d.rising k));
      payloads = λ k. rw (look_trim_all k g [] es d.ascending) (payloads_trim g (look k es) (d.payloads k));
      floor = d.floor;
    }

-- who is spared by a rule can't tell
pub swept_like : {h : Hall} → SoundHall h → (g : Rule) (t : ℕ) → Spares g t → (k : Bytes)
    → Like t (look k (trim_all g h.entries)) (look k h.entries)
swept_like {h} d g t f k =
    rw (look_trim_all k g [] h.entries d.ascending) (f 0 _ (look k h.entries) (d.rising k))

pub hall_floor : {h : Hall} → SoundHall h → (f : ℕ) → f ≤ h.counter → SoundHall (with_floor h f)
hall_floor d f l = record {
  sizes = d.sizes;
  counter = d.counter;
  keys = d.keys;
  versions = d.versions;
  ascending = d.ascending;
  non_empty = d.non_empty;
  rising = d.rising;
  payloads = d.payloads;
  floor = l;
}

-- the same desks beside a hall that counted on and gave no open start's number to a version
desks_later : {h : Hall} {ds : List Desk} → SoundDesks h ds → (h' : Hall) → h.counter ≤ h'.counter
    → ((t : ℕ) → t ≤ h.counter → Free t h.entries → Free t h'.entries) → SoundDesks h' ds
desks_later {h} {ds} d h' c f = record {
  each = every_map (λ x. Fine h x) (λ x. Fine h' x)
      (λ x i. record { tidy = i.tidy; begun = (i.begun.0, omega (arith, i.begun.1)); apart = f x.start i.begun.1 i.apart }) ds d.each;
  distinct = d.distinct;
}

desks_vacated : {h : Hall} {ds : List Desk} → SoundDesks h ds → (t : ℕ) → SoundDesks h (redesk t vacated ds)
desks_vacated {h} {ds} d t = record { each = every_vacated (λ x. Fine h x) t ds d.each; distinct = distinct_redesk t _ vacated_keeps ds d.distinct }

keeps : {s : Store} {c : Call} {o : Outcome} → Sound s → Comes s c o → in_bytes c ≡ true → Sound (apply s o.effect)
unfolding apply publish new_keys in_bytes
keeps d (idles a i r) b = d
keeps {s} d (begins h f) b =
    let t = suc s.hall.counter in
    record {
      hall = hall_publish d.hall [] tt h (omega arith) (omega arith);
      count = length_seat t _ ∙ d.count;
      desks = record {
        each = every_seat (λ x. Fine _ x) t s.desks (record { tidy = tidy_nil; begun = (omega arith, omega arith); apart = λ k. in_rising t 0 _ _ (le_refl _) (d.hall.rising k) })
            (desks_later d.desks _ (omega arith) (λ u h n. n)).each;
        distinct = distinct_seat t s.desks (λ o. omega (arith, (begun_of d.desks t o).1)) d.desks.distinct;
      };
    }
keeps {s} d (notes {t} {k} {p} g m w) b =
    record {
      hall = d.hall;
      count = length_redesk t _ _ ∙ d.count;
      desks = record {
        each = every_rewriting (λ x. Fine s.hall x) t (put_write k p) s.desks d.desks.distinct
            (λ x e f. record { tidy = tidy_put k p x.writes (g b).0 (g b).1 (rw e at m) f.tidy; begun = f.begun; apart = f.apart })
            d.desks.each;
        distinct = distinct_redesk t _ (rewriting_keeps (put_write k p)) s.desks d.desks.distinct;
      };
    }
keeps d (ends {t} a w i r) b = record { hall = d.hall; count = length_redesk t _ _ ∙ d.count; desks = desks_vacated d.desks t }
keeps {s} d (commits {t} {ws = ws} e h k v) b =
    let w : Tidy ws = rw e at (tidy_of d.desks t) in
    let es = s.hall.entries in
    let n = suc s.hall.counter in
    let later = desks_later d.desks (with_entries s.hall n (publish n ws es)) (omega arith)
    (λ u h f k. rw (look_publish k n ws es, made_find k n [] ws w.sound) (in_append u (look k es) _ (f k) (in_stamp u n (find k ws) (λ e. omega arith)))) in
    record { hall = hall_publish d.hall ws w.sound h k v; count = length_redesk t _ _ ∙ d.count; desks = desks_vacated later t }
keeps {s} d (sweeps {g = g} h f r) b =
    let es = s.hall.entries in
    record {
      hall = hall_floor (hall_trim d.hall g) _ (omega (arith, d.hall.floor));
      count = d.count;
      desks = desks_later d.desks _ (le_refl _)
          (λ u h n k. rw (look_trim_all k g [] es d.hall.ascending) (in_trim u g (look k es) (n k)));
    }
keeps {s} d (restores r o l p a) b = record {
  hall = hall_commits d.hall r.commits l (p b);
  count = d.count ∙ sym (commits_sizes s.hall r.commits).2;
  desks = record {
    each = vacant_every (λ x. Fine (with_commits s.hall r.commits) x) s.desks o;
    distinct = d.desks.distinct;
  };
}

pub sound_next : (s : Store) (c : Call) → in_bytes c ≡ true → Sound s → Sound (next s c)
sound_next s c b d = keeps d (comes s c) b

-- the store after the first call of a run
pub sound_head : (s : Store) (c : Call) (cs : List Call) → all_in_bytes (c ∷ cs) ≡ true → Sound s → Sound (next s c)
unfolding all_in_bytes
sound_head s c cs b d = sound_next s c (and_left (in_bytes c) (all_in_bytes cs) b) d

pub bytes_head : (c : Call) (cs : List Call) → all_in_bytes (c ∷ cs) ≡ true → in_bytes c ≡ true
unfolding all_in_bytes
bytes_head c cs b = and_left (in_bytes c) (all_in_bytes cs) b

-- and the calls after it
pub bytes_tail : (c : Call) (cs : List Call) → all_in_bytes (c ∷ cs) ≡ true → all_in_bytes cs ≡ true
unfolding all_in_bytes
bytes_tail c cs b = and_right (in_bytes c) (all_in_bytes cs) b

pub sound_run : (s : Store) (cs : List Call) → all_in_bytes cs ≡ true → Sound s → Sound (run s cs)
unfolding run all_in_bytes
sound_run s [] b d = d
sound_run s (c ∷ cs) b d =
    sound_run (next s c) cs (bytes_tail c cs b) (sound_head s c cs b d)
