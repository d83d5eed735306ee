-- A write of either kind: what refuses it, and what it leaves.
-- Assumes nothing.
use mathlib.Core.Path.{◌≡◌, refl, sym, subst, ◌∙◌}
use mathlib.Core.Bool.{Bool, true, false}
use Rattle.std.specs.Prelude.{Option, None, Some}
use Prim.Native.Nat.{ℕ, ◌≤◌}
use borrow.Author.Tests.{leb-true}
use lib.Dec.{leb}
use lib.ListN.{length}
use Rattle.model.specs.Bytes.{Bytes}
use Rattle.model.specs.Sizes.{max_value, max_writes}
use Rattle.model.specs.State.{Payload, deletion, content, Hall, Writes, written_keys, put_write, writes_of}
use Rattle.model.specs.Sound.{key_fits, value_fits}
use Rattle.model.specs.Calls.{Act, put, delete, on, refused, done, writes, answering, check, is_too_many, act, decide, apply}
use Rattle.model.proofs.Cases.{key_parts}
use Rattle.hall.specs.Layout.{hall_in}
use Rattle.answers.specs.Paper.{number_of}
use Rattle.answers.specs.declared.Refusal.{Refusal}
use Rattle.desk.specs.Layout.{desks_in, put_desks}
use Rattle.desk.specs.Shape.{desk_in, desk_of, own_writes}
use Rattle.cells.specs.Rows.{place_of}
use Rattle.desk_writes.specs.Writes.{rewritten, Ordered, Writable}
use Rattle.cells.specs.declared.rows.Place.{Place}
use Rattle.cells.specs.declared.rows.Place.TheVariants as place
use Rattle.desk_writes.proofs.Laws.Writes as places
use Rattle.desk_writes.proofs.Laws.Opened.{rewritten_redesk, open_of}
use Rattle.desk.proofs.Laws.Starts as starts
use Rattle.bridge.specs.Store.{store_in, Sound}
use Rattle.bridge.specs.Clauses.{DeskCalled}
use Rattle.bridge.proofs.Laws.Memories.{by_desk, acts, refuses}
use Rattle.bridge.proofs.Laws.Desks.{apart}
use Rattle.call_write.specs.Aims.{write_checks, Takes, Refuses, Aims}
use Rattle.call_write.specs.declared.Aim.{Aim}
use Rattle.call_write.specs.declared.Aim.TheVariants.{At, Refused}

abbrev pub writing : Bytes → Payload → Act
writing k deletion = delete k
writing k (content v) = put k v

abbrev pub payload_fits : Payload → Bool
payload_fits deletion = true
payload_fits (content v) = value_fits v

act_writing : (h : Hall) (t : ℕ) (k : Bytes) (p : Payload) (o : Option Writes)
    → act h t (writing k p) o ≡ check (write_checks k (payload_fits p) o) (answering done (writes t k p))
unfolding act check
act_writing h t k deletion o = refl
act_writing h t k (content v) o = refl

module _ (k : Bytes) (ws : Writes) {q : Place} (e : q ≡ place_of k 0 (written_keys ws)) where
  pub rewrites : {i : ℕ} → q ≡ place.At i → false ≡ is_too_many k ws
  unfolding is_too_many
  rewrites {i} f = rw (places.told k ws (place.At i) e f).payload

  pub adds : {i : ℕ} → q ≡ place.Before i → leb max_writes (length ws) ≡ is_too_many k ws
  unfolding is_too_many
  adds {i} f = rw (places.told k ws (place.Before i) e f).nothing

-- the tests, one after the other
module _ (m : Bytes) (t : ℕ) (k : Bytes) (fits : Bool) where
  pub bad_key : key_fits k ≡ false → Refuses m t k fits 3
  unfolding check
  bad_key e = record { always = λ o. rw e }

  module _ (e : key_fits k ≡ true) where
    pub long_value : fits ≡ false → Refuses m t k fits 4
    unfolding check
    long_value f = record { always = λ o. rw (e, f) }

    module _ (f : fits ≡ true) where
      pub not_open : desk_of t (desks_in m) ≡ None → Refuses m t k fits 5
      unfolding check
      not_open g = record { always = λ o. rw (e, f, starts.not_open t (desks_in m) g) }

      pub too_many_lem : {d : ℕ} {b : Bool} → desk_of t (desks_in m) ≡ Some d → b ≡ is_too_many k (own_writes (desk_in m d))
          → b ≡ true → Refuses m t k fits 7
      unfolding check
      too_many_lem {d} g p w = record { always = λ o. rw (e, f, (starts.open_at t (desks_in m) d g).writes, ← p, w) }

-- the desk that was found, and what a write asks of it
module _ (m : Bytes) (t : ℕ) (k : Bytes) (fits : Bool) {a : Aim} (e : Aims m t k fits a) {d : ℕ} (q : a ≡ At d) where
  taken : Takes m t k fits d
  taken = subst (Aims m t k fits) q e

  pub writable : Ordered m → Writable m d k
  writable s =
      let is_open = open_of t m d s.shaped taken.place in
      record { ordered = s; is_open = is_open; short = (key_parts k taken.key).1; room = taken.room }

  pub short_value : (v : Bytes) → fits ≡ value_fits v → length v ≤ max_value
  unfolding value_fits
  short_value v f = leb-true (length v) max_value (sym f ∙ taken.payload)

module _ (h d : Bytes) (s : Sound h d) (t : ℕ) (k : Bytes) (p : Payload) {fits : Bool} (f : fits ≡ payload_fits p) where
  told : decide (store_in h d) (on t (writing k p)) ≡ check (write_checks k fits (writes_of t (desks_in d))) (answering done (writes t k p))
  unfolding store_in decide
  told = rw f (act_writing (hall_in h) t k p (writes_of t (desks_in d)))

  pub write_refused : {a : Aim} → Aims d t k fits a → {r : Refusal} → a ≡ Refused r → DeskCalled h d d (on t (writing k p)) (refused (number_of r))
  write_refused g q = by_desk (refuses h d s (told ∙ (subst (Aims d t k fits) q g).always (answering done (writes t k p))))

  pub write_done : {d' : Bytes} {a : Aim} → Aims d t k fits a → {i : ℕ} → a ≡ At i
      → d' ≡ put_desks d (rewritten i (put_write k p) (desks_in d)) → DeskCalled h d d' (on t (writing k p)) done
  unfolding check apply store_in
  write_done e {i} q r =
      let g = taken d t k fits e q in
      let held = (starts.open_at t (desks_in d) i g.place).writes in
      let same = rewritten_redesk t (desks_in d) i g.place (put_write k p) (apart h d s) in
      by_desk
      (acts h d s {e = writes t k p} (told ∙ rw (g.key, g.payload, held, g.room)) s.hall.same (r ∙ rw same))
