-- The machine answers as the model's parser: each part of the parser, and whatever follows it, is a run.
use mathlib.Core.Path.{◌≡◌, refl, sym, ap, ◌∙◌}
use mathlib.Core.Bool.{Bool, true, false, not, cond}
use mathlib.Core.List.{List, [], ◌∷◌}
use Prim.Native.Nat.{ℕ, zero, suc, ◌+◌, ◌-◌, ◌≤◌}
use native.Mathlib.Nat.{add-zero}
use native.Mathlib.Omega.{arith}
use lib.Dec.{ltb, eqb}
use lib.ListN.{length, take, drop}
use lib.Seq.{length-take-le}
use borrow.Author.Tests.{ltb-true, ltb-false, eqb-true, ne_eqb, le-ltb}
use Rattle.model.specs.Sizes.{max_key, number_width, count_width}
use Rattle.model.specs.Bytes.{Bytes, num, order, is_less}
use Rattle.model.specs.State.{Payload, content, Chain, Entry, Hall}
use Rattle.model.specs.Sound.{are_printable}
use Rattle.model.specs.Dump.{magic}
use Rattle.model.specs.Load.{Parsed, got, bad, Parser, bind, give, fault, field, number_field, read_payload, read_version, read_chain, read_entry, read_entries, read_end, read_hall}
use Rattle.model.specs.Calls.{Answer, faulty, done}
use Rattle.model.specs.Runs.{loaded}
use Rattle.model.proofs.Cases.{by_bool}
use Rattle.dump_fields.specs.Drive.{onto, drive}
use Rattle.dump_fields.specs.Machine.{said, width_of, is_key, is_end, field_tests, numbered, fault_of, between, known_after, phase_after, judged, go_or, step_of, begun, last_by, Standing, moves, checker, run_fields, machine}
use Rattle.dump_fields.specs.declared.machine.Phase.{Phase}
use Rattle.dump_fields.specs.declared.machine.Phase.TheVariants.{Magic, Next, Count, KeyLength, Key, VersionCount, Number, Tag, ValueLength, Value, End}
use Rattle.dump_fields.specs.declared.machine.Loader.{Loader}
use Rattle.dump_fields.specs.declared.machine.Fault.{Fault}
use Rattle.dump_fields.specs.declared.machine.Fault.TheVariants.{CutShort, Malformed, TooBig}
use Rattle.dump_fields.proofs.Laws.Numbers.{said_short}
use Rattle.dump_fields.proofs.Laws.Drive.{drive_short, drive_whole}
use Rattle.dump_fields.proofs.Laws.Machine.{wide}

-- ---- a parser, and what follows it

abbrev pub then : {A : Type 0} → Parsed A → (A → ℕ → Bytes → Answer) → Answer
then (got a at x) k = k a at x
then (bad n at) k = faulty n at

-- what follows m is a parser f, and what follows that
then_bind : {A B : Type 0} (m : Parsed A) (f : A → Parser B) {j : A → ℕ → Bytes → Answer} (k : B → ℕ → Bytes → Answer)
    → ((a : A) (p : ℕ) (y : Bytes) → j a p y ≡ then (f a p y) k) → then m j ≡ then (bind m f) k
unfolding bind
then_bind (got a p y) f k e = e a p y
then_bind (bad n p) f k e = refl

-- ---- one field

-- the run after a field with bytes b that says v
abbrev after : Phase → Loader → (last b : Bytes) → (v : ℕ) → ℕ → Bytes → Answer
after p s last b v at y = run_fields (phase_after p (known_after p s v) v) (known_after p s v) (last_by (is_key p) last b) at y

go_or_lem : (cs : List (Bool × Fault)) (p : Phase) (s : Loader) (last : Bytes) (at to : ℕ) (k : Standing → Answer)
    → onto (moves (go_or (judged cs) p s) last at to) k ≡ cond (eqb (fault (numbered cs)) 0) (k (record { phase = p; known = s; last = last; at = to })) (faulty (fault (numbered cs)) at)
unfolding fault
go_or_lem [] p s last at to k = refl
go_or_lem ((true, CutShort) ∷ cs) p s last at to k = refl
go_or_lem ((true, Malformed) ∷ cs) p s last at to k = refl
go_or_lem ((true, TooBig) ∷ cs) p s last at to k = refl
go_or_lem ((false, f) ∷ cs) p s last at to k = go_or_lem cs p s last at to k

module _ (p : Phase) (s : Loader) (last : Bytes) (at : ℕ) (x : Bytes) (more : is_end p ≡ false) where
  run_field : run_fields p s last at x ≡ then (field (width_of p) (λ b. fault_of p s (said b) last b) at x) (λ b. after p s last b (said b))
  unfolding field step_of
  run_field =
      let w : ℕ = width_of p in
      let b : Bytes = take w x in
      by_bool (ltb (length x) w)
      (λ t. rw t (drive_short checker _ [] x (omega (arith, ltb-true (length x) w t)) ∙ rw more))
      (λ t.
      let l : w ≤ length x = ltb-false (length x) w t in
      rw t (drive_whole checker _ w x refl (wide p) l
      ∙ go_or_lem (field_tests p s (said b) last b) _ _ _ at _ _
      ∙ by_bool (eqb (fault_of p s (said b) last b) 0) (λ z. rw (z, length-take-le w x l)) (λ z. rw z)))

  -- the same, where the bytes matter for the number alone, and a parser f follows
  run_number : {B : Type 0} (f : ℕ → Parser B) (k : B → ℕ → Bytes → Answer) → width_of p ≤ number_width → is_key p ≡ false
      → ((v : ℕ) (b : Bytes) → fault_of p s v last b ≡ fault_of p s v last [])
      → ((v q : ℕ) (y : Bytes) → fault_of p s v last [] ≡ 0 → after p s last [] v q y ≡ then (f v q y) k)
      → run_fields p s last at x ≡ then (bind (number_field (width_of p) (λ v. fault_of p s v last []) at x) f) k
  unfolding number_field field bind
  run_number f k h i e g =
      let w : ℕ = width_of p in
      let b : Bytes = take w x in
      run_field
      ∙ by_bool (ltb (length x) w) (λ t. rw t)
      (λ t.
      let l : length b ≡ w = length-take-le w x (ltb-false (length x) w t) in
      let u : said b ≡ num b = said_short b (omega arith) in
      rw (t, u, e (num b) b) (by_bool (eqb (fault_of p s (num b) last []) 0) (λ z. rw (z, u, i) (rw i at (g (num b) (at + w) (drop w x) (eqb-true _ _ z)))) (λ z. rw z)))

-- ---- a version

abbrev read_bytes : ℕ → Parser Payload
read_bytes len = λ at x. bind (field len (λ b. 0) at x) (λ b. give (content b))

module _ (s : Loader) (last : Bytes) where
  abbrev rested : Payload → ℕ → Bytes → Answer
  rested q p y = run_fields (between s) s last p y

  bytes_law : (v : ℕ) (at : ℕ) (x : Bytes) → run_fields (cond (eqb v 0) (between s) (Value v)) s last at x ≡ then (read_bytes v at x) rested
  unfolding bind fault field
  bytes_law zero at x = rw (le-ltb (length x) 0 (omega arith), add-zero at)
  bytes_law (suc v) at x =
      rw (ne_eqb (suc v) 0 (λ z. omega arith))
      (run_field (Value (suc v)) s last at x refl ∙ then_bind (field (suc v) (λ b. 0) at x) _ _ (λ b p y. refl))

  payload_law : (at : ℕ) (x : Bytes) → run_fields Tag s last at x ≡ then (read_payload at x) rested
  unfolding read_payload
  payload_law at x =
      run_number Tag s last at x refl _ _ (omega arith) refl (λ v b. refl) (λ v p y z.
      by_bool (eqb v 0) (λ t. rw t) (λ t.
      rw t (run_number ValueLength s last p y refl _ _ (omega arith) refl (λ v b. refl) (λ v p y z. bytes_law v p y))))

-- ---- the versions of a key

abbrev pub known : (next keys rooms versions last : ℕ) → Loader
known next keys rooms versions l = record { next = next; keys = keys; rooms = rooms; versions = versions; last = l }

-- the last number of a chain that comes after l
unfoldable pub last_of : ℕ → Chain → ℕ
last_of l [] = l
last_of l (v ∷ vs) = last_of v.number vs

module _ (next keys rooms : ℕ) (last : Bytes) where
  -- after a version numbered l, where n versions are to come
  abbrev following : ℕ → ℕ → ℕ → Bytes → Answer
  following n l p y = run_fields (between (known next keys rooms n l)) (known next keys rooms n l) last p y

  version_law : (n l at : ℕ) (x : Bytes)
      → run_fields Number (known next keys rooms (suc n) l) last at x ≡ then (read_version next l at x) (λ v. following n v.number)
  unfolding read_version
  version_law n l at x =
      let e : suc n - 1 ≡ n = omega arith in
      run_number Number (known next keys rooms (suc n) l) last at x refl _ _ (omega arith) refl (λ v b. refl) (λ v p y z.
      rw e (payload_law (known next keys rooms n v) last p y ∙ then_bind (read_payload p y) _ _ (λ q p y. refl)))

  -- what follows the chain may go by its length
  chain_law : (n l at : ℕ) (x : Bytes) (k : Chain → ℕ → Bytes → Answer) → ((vs : Chain) (p : ℕ) (y : Bytes) → length vs ≡ suc n → following 0 (last_of l vs) p y ≡ k vs p y)
      → run_fields Number (known next keys rooms (suc n) l) last at x ≡ then (read_chain next (suc n) l at x) k
  unfolding read_chain bind last_of
  chain_law zero l at x k e = version_law 0 l at x ∙ then_bind (read_version next l at x) _ _ (λ v p y. e (v ∷ []) p y refl)
  chain_law (suc m) l at x k e =
      version_law (suc m) l at x
      ∙ then_bind (read_version next l at x) _ _ (λ v p y.
      rw (ne_eqb (suc m) 0 (λ z. omega arith))
      (chain_law m v.number p y (λ vs. k (v ∷ vs)) (λ vs q z g. e (v ∷ vs) q z (ap suc g))
      ∙ then_bind (read_chain next (suc m) v.number p y) _ _ (λ vs q z. refl)))

-- ---- the keys

module _ (next n rooms l : ℕ) where
  abbrev keyed : Loader
  keyed = known next (suc n) rooms 0 l

  -- after an entry, where n keys are to come
  abbrev rest : Entry → ℕ → Bytes → Answer
  rest e = following next n (rooms - length e.chain) e.key 0 (last_of 0 e.chain)

  -- the entry of a key, from its version count on
  abbrev read_versions : Bytes → Parser Entry
  read_versions k = λ at x. bind (number_field count_width (λ n. fault ((ltb n 1, 14) ∷ (ltb rooms n, 15) ∷ [])) at x)
      (λ c at x. bind (read_chain next c 0 at x) (λ vs. give (record { key = k; chain = vs })))

  count_law : (k : Bytes) (at : ℕ) (x : Bytes) → run_fields VersionCount keyed k at x ≡ then (read_versions k at x) rest
  unfolding fault
  count_law k at x = run_number VersionCount keyed k at x refl _ _ (omega arith) refl (λ v b. refl) part
    where
      part : (c p : ℕ) (y : Bytes) → fault ((ltb c 1, 14) ∷ (ltb rooms c, 15) ∷ []) ≡ 0
          → after VersionCount keyed k [] c p y ≡ then (bind (read_chain next c 0 p y) (λ vs. give (record { key = k; chain = vs }))) rest
      part zero p y z = let w : ◌≡◌ {A = ℕ} 14 0 = z in absurd (omega arith)
      part (suc c) p y z =
          let e : suc n - 1 ≡ n = omega arith in
          rw e (chain_law next n (rooms - suc c) k c 0 p y (λ vs. rest (record { key = k; chain = vs })) (λ vs q w g. rw (← g))
          ∙ then_bind (read_chain next (suc c) 0 p y) _ _ (λ vs q w. refl))

  entry_law : (last : Bytes) (at : ℕ) (x : Bytes) → run_fields KeyLength keyed last at x ≡ then (read_entry next rooms last at x) rest
  unfolding fault read_entry
  entry_law last at x = run_number KeyLength keyed last at x refl _ _ (omega arith) refl (λ v b. refl) part
    where
      part : (len p : ℕ) (y : Bytes) → fault ((ltb len 1, 14) ∷ (ltb max_key len, 14) ∷ []) ≡ 0
          → run_fields (Key len) keyed last p y ≡ then (bind (field len (λ b. fault ((not (are_printable b), 14) ∷ (not (is_less (order last b)), 14) ∷ [])) p y) read_versions) rest
      part zero p y z = let w : ◌≡◌ {A = ℕ} 14 0 = z in absurd (omega arith)
      part (suc len) p y z = run_field (Key (suc len)) keyed last p y refl ∙ then_bind (field (suc len) _ p y) _ _ count_law

end_law : (s : Loader) (last : Bytes) (at : ℕ) (x : Bytes) → run_fields End s last at x ≡ then (read_end at x) (λ u p y. done)
unfolding drive step_of read_end fault
end_law s last at [] = refl
end_law s last at (b ∷ x) = refl

entries_law : (next n rooms l : ℕ) (last : Bytes) (at : ℕ) (x : Bytes)
    → following next n rooms last 0 l at x ≡ then (read_entries next n rooms last at x) (λ es p y. then (read_end p y) (λ u q z. done))
unfolding read_entries
entries_law next zero rooms l last at x = end_law (known next 0 rooms 0 l) last at x
entries_law next (suc n) rooms l last at x =
    rw (ne_eqb (suc n) 0 (λ z. omega arith))
    (entry_law next n rooms l last at x
    ∙ then_bind (read_entry next rooms last at x) _ _ (λ e p y.
    entries_law next n (rooms - length e.chain) (last_of 0 e.chain) e.key p y
    ∙ then_bind (read_entries next n (rooms - length e.chain) e.key p y) _ _ (λ es q z. refl)))

-- ---- the whole dump

answer_then : (m : Parsed Hall) → (loaded m).0 ≡ then m (λ h p y. done)
unfolding loaded
answer_then (got h p y) = refl
answer_then (bad n p) = refl

pub machine_parser : (ks vs ds : ℕ) (x : Bytes) → machine ks vs x ≡ (loaded (read_hall ks vs ds 0 x)).0
unfolding machine read_hall magic
machine_parser ks vs ds x =
    run_field Magic (begun ks vs) [] 0 x refl
    ∙ then_bind (field (length magic) _ 0 x) _ _ (λ o p y.
    run_number Next (begun ks vs) [] p y refl _ _ (omega arith) refl (λ v b. refl) (λ next p y z.
    run_number Count (known next ks vs 0 0) [] p y refl _ _ (omega arith) refl (λ v b. refl) (λ n p y z.
    entries_law next n vs 0 [] p y
    ∙ then_bind (read_entries next n vs [] p y) _ _ (λ es p y. then_bind (read_end p y) _ _ (λ u p y. refl)))))
    ∙ sym (answer_then (read_hall ks vs ds 0 x))
