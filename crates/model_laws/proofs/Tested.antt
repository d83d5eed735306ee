-- The tests of soundness hold exactly if its parts do.
use Prim.Native.Nat.{ℕ, zero, suc, ◌≤◌}
use native.Mathlib.Omega.{arith}
use mathlib.Core.Path.{◌≡◌, refl, sym, ap, ◌∙◌}
use mathlib.Core.Bool.{true, false, not}
use mathlib.Core.List.{List, [], ◌∷◌}
use lib.ListN.{length, replicate, length-replicate}
use lib.Dec.{eqb}
use borrow.Author.Tests.{leb-true, ltb-true, eqb-true, le-leb, lt-ltb, eq-eqb, not-true}
use Rattle.model.specs.Bytes.{Bytes, order}
use Rattle.model.specs.State.{Chain, Entry, Hall, Writes, Desk, free, taken, Store, is_some, look, version_count, writes_of, new_hall, vacant}
use Rattle.model.specs.Sound.{sizes_fit, sound_chain, sound_entries, sound_hall, in_chain, is_number, sound_writes, sound_open, sound_desks, sound}
use Rattle.model.specs.History.{Rising}
use Rattle.model.proofs.Cases.{by_bool, by_order, true_false, and_intro, and_left, and_right, or_left, or_right, or_intro, every_all, all_every, within_le, le_within}
use Rattle.model.proofs.Order.{order_refl, less_lt, lt_less}
use Rattle.model_laws.proofs.Chains.{rising_le}
use Rattle.model_laws.proofs.Entries.{SoundWrites, keys_of}
use Rattle.model_laws.proofs.Keys.{Ascending, NonEmpty, look_tail}
use Rattle.model_laws.proofs.Desks.{Every, Distinct}
use Rattle.model_laws.proofs.Sound.{Payloads, SoundHall, Free, Tidy, Fine, SoundDesks, Sound}

-- ---- chains

chain_parts : (last top : ℕ) (l : Chain) → last ≤ top → sound_chain last top l ≡ true → Rising last top l × Payloads l
unfolding sound_chain
chain_parts last top [] h e = (h, tt)
chain_parts last top (v ∷ vs) h e =
    let a = every_all _ e in
    let r = chain_parts v.number top vs (leb-true v.number top a.1.0) a.1.1.1.0 in
    ((ltb-true last v.number a.0, r.0), (a.1.1.0, r.1))

chain_tests : (last top : ℕ) (l : Chain) → Rising last top l → Payloads l → sound_chain last top l ≡ true
unfolding sound_chain
chain_tests last top [] r p = refl
chain_tests last top (v ∷ vs) r p =
    all_every _
    (lt-ltb last v.number r.0, (le-leb v.number top (rising_le v.number top vs r.1), (p.0, (chain_tests v.number top vs r.1 p.1, tt))))

-- ---- entries

entries_parts : (last : Bytes) (top : ℕ) (es : List Entry) → sound_entries last top es ≡ true
    → Ascending last (keys_of es) × NonEmpty es × ((k : Bytes) → Rising 0 top (look k es) × Payloads (look k es))
unfolding sound_entries keys_of look
entries_parts last top [] e = (tt, tt, λ k. (omega arith, tt))
entries_parts last top (x ∷ es) e =
    let a = every_all _ e in
    let r = entries_parts x.key top es a.1.1.1.1.0 in (
      (less_lt _ a.0, a.1.0, r.0),
      (leb-true 1 (length x.chain) a.1.1.0, r.1),
      λ k. by_order (order k x.key)
          (λ q. rw q (omega arith, tt))
          (λ q. rw q (chain_parts 0 top x.chain (omega arith) a.1.1.1.0))
          (λ q. rw q (r.2 k)),
    )

look_head : (e : Entry) (es : List Entry) → look e.key (e ∷ es) ≡ e.chain
unfolding look
look_head e es = rw (order_refl e.key)

entries_tests : (last : Bytes) (top : ℕ) (es : List Entry) → Ascending last (keys_of es) → NonEmpty es
    → ((k : Bytes) → Rising 0 top (look k es)) → ((k : Bytes) → Payloads (look k es)) → sound_entries last top es ≡ true
unfolding sound_entries keys_of
entries_tests last top [] a n r p = refl
entries_tests last top (e ∷ es) a n r p =
    let c = chain_tests 0 top e.chain (rw (look_head e es) at (r e.key)) (rw (look_head e es) at (p e.key)) in
    let rest = entries_tests e.key top es a.2 n.1 (look_tail (λ l. Rising 0 top l) (omega arith) e es a.2 r) (look_tail (λ l. Payloads l) tt e es a.2 p) in
    all_every _ (lt_less _ a.0, (a.1, (le-leb 1 (length e.chain) n.0, (c, (rest, tt)))))

-- ---- the numbers in use

free_parts : (t : ℕ) (es : List Entry) → is_number t es ≡ false → Free t es
unfolding is_number in_chain look
free_parts t [] n k = refl
free_parts t (e ∷ es) n k =
    by_order (order k e.key)
    (λ q. rw q)
    (λ q. rw q (or_left (in_chain t e.chain) _ n))
    (λ q. rw q (free_parts t es (or_right (in_chain t e.chain) _ n) k))

free_tests : (t : ℕ) (last : Bytes) (es : List Entry) → Ascending last (keys_of es) → Free t es → is_number t es ≡ false
unfolding is_number in_chain keys_of
free_tests t last [] a f = refl
free_tests t last (e ∷ es) a f =
    or_intro (rw (look_head e es) at (f e.key)) (free_tests t e.key es a.2 (look_tail (λ l. in_chain t l ≡ false) refl e es a.2 f))

-- ---- halls

pub hall_parts : (h : Hall) → sound_hall h ≡ true → SoundHall h
unfolding sound_hall
hall_parts h e =
    let a = every_all _ e in
    let r = entries_parts [] h.counter h.entries a.1.1.0 in
    record {
      sizes = a.0;
      counter = leb-true _ _ a.1.0;
      keys = leb-true _ _ a.1.1.1.0;
      versions = leb-true _ _ a.1.1.1.1.0;
      ascending = r.0;
      non_empty = r.1;
      rising = λ k. (r.2 k).0;
      payloads = λ k. (r.2 k).1;
      floor = leb-true _ _ a.1.1.1.1.1.0;
    }

pub hall_tests : (h : Hall) → SoundHall h → sound_hall h ≡ true
unfolding sound_hall
hall_tests h d =
    let es = entries_tests [] h.counter h.entries d.ascending d.non_empty d.rising d.payloads in
    all_every _ (
      d.sizes,
      (le-leb _ _ d.counter, (es, (le-leb _ _ d.keys, (le-leb _ _ d.versions, (le-leb _ _ d.floor, tt))))),
    )

-- ---- desks

pub writes_parts : (last : Bytes) (ws : Writes) → sound_writes last ws ≡ true → SoundWrites last ws
unfolding sound_writes
writes_parts last [] e = tt
writes_parts last (w ∷ ws) e =
    let a = every_all _ e in
    (less_lt _ a.0, a.1.0, a.1.1.0, writes_parts w.key ws a.1.1.1.0)

pub writes_tests : (last : Bytes) (ws : Writes) → SoundWrites last ws → sound_writes last ws ≡ true
unfolding sound_writes
writes_tests last [] s = refl
writes_tests last (w ∷ ws) s = all_every _ (lt_less _ s.0, (s.1, (s.2, (writes_tests w.key ws s.3, tt))))

pub open_parts : (h : Hall) (ds : List Desk) → sound_open h ds ≡ true → SoundDesks h ds
unfolding sound_open
open_parts h [] e = record { each = tt; distinct = tt }
open_parts h (free ∷ ds) e = let d = open_parts h ds e in record { each = d.each; distinct = d.distinct }
open_parts h (taken x ∷ ds) e =
    let a = every_all _ e in
    let d = open_parts h ds a.1.1.1.1.1.0 in
    let w : Tidy x.writes = record { sound = writes_parts [] x.writes a.1.1.1.1.0; few = leb-true _ _ a.1.1.1.0 } in
    record {
      each = (record { tidy = w; begun = within_le 1 h.counter x.start a.0; apart = free_parts x.start h.entries (not-true _ a.1.0) }, d.each);
      distinct = (λ o. true_false (sym o ∙ not-true _ a.1.1.0), d.distinct);
    }

open_tests_lem : (h : Hall) → SoundHall h → (ds : List Desk) → Every (Fine h) ds → Distinct ds → sound_open h ds ≡ true
unfolding sound_open
open_tests_lem h g [] f d = refl
open_tests_lem h g (free ∷ ds) f d = open_tests_lem h g ds f d
open_tests_lem h g (taken x ∷ ds) f d =
    let w = f.0.tidy in
    let unused = free_tests x.start [] h.entries g.ascending f.0.apart in
    let alone : not (is_some (writes_of x.start ds)) ≡ true = by_bool (is_some (writes_of x.start ds)) (λ p. absurd (d.0 p)) (λ p. ap not p) in
    all_every _ (
      le_within 1 h.counter x.start f.0.begun.0 f.0.begun.1,
      (ap not unused, (alone, (le-leb _ _ w.few, (writes_tests [] x.writes w.sound, (open_tests_lem h g ds f.1 d.1, tt))))),
    )

-- ---- stores

pub sound_parts : (s : Store) → sound s ≡ true → Sound s
unfolding sound sound_desks
sound_parts s e =
    let a = and_left (sound_hall s.hall) (sound_desks s.hall s.desks) e in
    let b = and_right (sound_hall s.hall) (sound_desks s.hall s.desks) e in
    let n = and_left (eqb (length s.desks) s.hall.desk_count) (sound_open s.hall s.desks) b in
    let o = and_right (eqb (length s.desks) s.hall.desk_count) (sound_open s.hall s.desks) b in
    record { hall = hall_parts s.hall a; count = eqb-true _ _ n; desks = open_parts s.hall s.desks o }

pub sound_tests : (s : Store) → Sound s → sound s ≡ true
unfolding sound sound_desks
sound_tests s d = and_intro (hall_tests s.hall d.hall) (and_intro (eq-eqb _ _ d.count) (open_tests_lem s.hall d.hall s.desks d.desks.each d.desks.distinct))

open_free : (h : Hall) (n : ℕ) → sound_open h (replicate n free) ≡ true
unfolding sound_open
open_free h zero = refl
open_free h (suc n) = open_free h n

-- a sound hall with all desks free
pub sound_vacant : (h : Hall) → sound_hall h ≡ true → sound (vacant h) ≡ true
unfolding vacant sound sound_desks
sound_vacant h e =
    let n = h.desk_count in
    and_intro e (and_intro (eq-eqb _ n (length-replicate {A = Desk} n free)) (open_free h n))

pub sound_new : (ks vs ds : ℕ) → sizes_fit ks vs ds ≡ true → sound_hall (new_hall ks vs ds) ≡ true
unfolding sound_hall sound_entries version_count
sound_new ks vs ds e =
    all_every _ (e, (refl, (refl, (le-leb 0 ks (omega arith), (le-leb 0 vs (omega arith), (refl, tt))))))
