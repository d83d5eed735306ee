-- Replay: record by record, whatever bound it runs under; what it takes is in order, sound and has room; it stops with 14, 10 or 11, or for a cut.
use Prim.Native.Nat.{ℕ, zero, suc, ◌+◌, ◌-◌, ◌≤◌, ◌<◌}
use native.Mathlib.Nat.{le_refl}
use native.Mathlib.Omega.{arith}
use mathlib.Core.Path.{◌≡◌, refl, sym, ap, ◌∙◌}
use mathlib.Core.Logic.{◌⊎◌, inl, inr, ⊎_elim}
use mathlib.Core.Bool.{true}
use mathlib.Core.List.{List, [], ◌∷◌, ◌++◌, append_assoc, append-nil}
use Rattle.std.specs.Prelude.{Some}
use lib.ListN.{length, take, length-append, length-drop}
use lib.Dec.{ltb, eqb}
use borrow.Author.Tests.{ltb-false, le-ltb}
use Rattle.model.specs.Bytes.{Bytes, are_bytes}
use Rattle.model.specs.State.{Chain, Writes, Hall, look, version_count, find}
use Rattle.model.specs.Sweeps.{goes, trim}
use Rattle.model.specs.Load.{Parsed, got, bad, fault, field, number_field}
use Rattle.model.specs.Journal.{Commit, with_commit, with_commits, mark, dump_commit, journal, read_frame, read_body, read_commit}
use Rattle.model.specs.Calls.{Answer, faulty, replayed, refusal, new_keys, rooms, Replay, stops, go_on, replay_up_to, replay_of}
use Rattle.model.specs.History.{is_full, stamp, stamps, Rising}
use Rattle.model.proofs.Cases.{by_bool}
use Rattle.model_laws.proofs.Chains.{rising_stamp}
use Rattle.model_laws.proofs.Trim.{trim_stamp}
use Rattle.model_laws.proofs.Entries.{look_publish, made_find}
use Rattle.model_laws.proofs.Round.{bind_got, bad_got, got_rest, fault_none}
use Rattle.model_laws.proofs.Journal.{Comes, gets, fails, Later, Stop, comes_commit, Proper, takes_commit, admitted_got, unblamed, commit_got, commit_end}

-- ---- a record is some bytes

field_rest : (n : ℕ) (f : Bytes → ℕ) (at : ℕ) (x b : Bytes) (q : ℕ) (r : Bytes) → field n f at x ≡ got b q r → length r + n ≡ length x
unfolding field
field_rest n f at x b q r e =
    by_bool (ltb (length x) n)
    (λ p. bad_got (rw p at e))
    (λ p. by_bool (eqb (f (take n x)) 0)
    (λ z. omega (arith, ltb-false (length x) n p, length-drop n x, ap length (got_rest (rw (p, z) at e))))
    (λ z. bad_got (rw (p, z) at e)))

mark_two : length mark ≡ 2
unfolding mark
mark_two = refl

frame_rest : (at : ℕ) (x b : Bytes) (q : ℕ) (r : Bytes) → read_frame at x ≡ got b q r → length r < length x
unfolding read_frame number_field
frame_rest at x b q r e =
    bind_got _ _ e (λ m _ y e₁ e. bind_got _ _ e (λ n _ z e₂ e. bind_got _ _ e₂ (λ c _ w e₃ e₂.
    omega (arith, mark_two, field_rest _ _ _ x m _ y e₁, field_rest _ _ _ y c _ w e₃, ap length (got_rest e₂), field_rest _ _ _ z b q r e))))

pub commit_rest : (counter : ℕ) (full : Commit → ℕ) (at : ℕ) (x : Bytes) (c : Commit) (q : ℕ) (r : Bytes) → read_commit counter full at x ≡ got c q r → length r < length x
unfolding read_commit
commit_rest counter full at x c q r e =
    bind_got _ _ (unblamed at _ e) (λ b p y e₁ e. admitted_got full (read_body counter 0 b) p y e (λ i z w g. rw (← g) (frame_rest at x b p y e₁)))

-- ---- whatever the bound

-- what is too much for hall h
abbrev pub full_of : Hall → Commit → ℕ
full_of h c = fault (rooms h c.writes)

abbrev pub first_of : Hall → (at : ℕ) → Bytes → Parsed Commit
first_of h at x = read_commit h.counter (full_of h) at x

go_on_same : (w : Parsed Commit) (f g : Commit → (at : ℕ) → Bytes → Replay) → ((c : Commit) (p : ℕ) (r : Bytes) → w ≡ got c p r → f c p r ≡ g c p r) → go_on w f ≡ go_on w g
unfolding go_on
go_on_same (got c p r) f g h = let e = h c p r refl in rw e
go_on_same (bad n p) f g h = refl

empty : (x : Bytes) → length x ≤ 0 → x ≡ []
empty [] h = refl
empty (b ∷ x) h = absurd (omega arith)

-- replay of nothing
abbrev pub ended : ℕ → Replay
ended at = record { answer = replayed at; commits = [] }

at_end : (n : ℕ) (h : Hall) (at : ℕ) → replay_up_to n h at [] ≡ ended at
unfolding replay_up_to go_on
at_end zero h at = refl
at_end (suc n) h at = rw (commit_end h.counter (full_of h) at)

enough : (n m : ℕ) (h : Hall) (at : ℕ) (x : Bytes) → length x ≤ n → length x ≤ m → replay_up_to n h at x ≡ replay_up_to m h at x
unfolding replay_up_to
enough zero m h at x a b = rw (empty x a) (sym (at_end m h at))
enough (suc n) zero h at x a b = rw (empty x b) (at_end (suc n) h at)
enough (suc n) (suc m) h at x a b =
    go_on_same (first_of h at x) _ _ (λ c p r e.
    let l = commit_rest h.counter (full_of h) at x c p r e in
    enough n m (with_commit h c) p r (omega arith) (omega arith))

-- the first record, then the rest
pub replay_step : (h : Hall) (at : ℕ) (x : Bytes) → replay_of h at x ≡ go_on (first_of h at x) (λ c. replay_of (with_commit h c))
unfolding replay_of replay_up_to
replay_step h at x =
    enough (length x) (suc (length x)) h at x (le_refl _) (omega arith)
    ∙ go_on_same (first_of h at x) _ _ (λ c p r e.
    let l = commit_rest h.counter (full_of h) at x c p r e in
    enough (length x) (length r) (with_commit h c) p r (omega arith) (le_refl _))

-- ---- what is replayed

-- commits in turn: each above the counter, and with room
abbrev pub Room : Hall → Writes → Type 0
Room h ws = (new_keys ws h.entries ≤ h.key_rooms - length h.entries) × (length ws ≤ h.version_rooms - version_count h.entries)

abbrev pub Rises : Hall → List Commit → Type 0
Rises h [] = Unit {0}
Rises h (c ∷ cs) = Later h.counter c × Room h c.writes × Rises (with_commit h c) cs

abbrev pub AllProper : List Commit → Type 0
AllProper [] = Unit {0}
AllProper (c ∷ cs) = Proper c × AllProper cs

pub full_none : (h : Hall) (c : Commit) → full_of h c ≡ 0 → Room h c.writes
full_none h c z =
    let a = fault_none _ _ _ z in
    (ltb-false _ _ a.0, ltb-false _ _ (fault_none _ _ _ a.1).0)

pub none_full : (h : Hall) (c : Commit) → Room h c.writes → full_of h c ≡ 0
unfolding fault
none_full h c r = rw (le-ltb _ _ r.0, le-ltb _ _ r.1)

-- a fault for room is 10 or 11
pub full_some : (h : Hall) (c : Commit) (n : ℕ) → full_of h c ≡ n → (n ≡ 0 → ⊥) → (n ≡ 10) ⊎ (n ≡ 11)
unfolding fault
full_some h c n e z =
    by_bool (ltb (h.key_rooms - length h.entries) (new_keys c.writes h.entries))
    (λ p. inl (sym (rw p at e)))
    (λ p. by_bool (ltb (h.version_rooms - version_count h.entries) (length c.writes)) (λ q. inr (sym (rw (p, q) at e))) (λ q. absurd (z (sym (rw (p, q) at e)))))

pub full_stops : (h : Hall) (c : Commit) (at : ℕ) → (full_of h c ≡ 0 → ⊥) → is_full (stops (full_of h c) at) ≡ true
unfolding is_full refusal
full_stops h c at z = ⊎_elim (λ e. rw e) (λ e. rw e) (full_some h c (full_of h c) refl z)

-- a replay stops at an offset with nothing wrong, or with 14, 10 or 11
pub data Stopped : Answer → Type 0 where
  whole : {q : ℕ} → Stopped (replayed q)
  wrong : {q : ℕ} → Stopped (faulty 14 q)
  no_keys : {q : ℕ} → Stopped (faulty 10 q)
  no_versions : {q : ℕ} → Stopped (faulty 11 q)

stop_answer : (h : Hall) (n q : ℕ) → Stop (full_of h) n → Stopped (stops n q)
stop_answer h n q (inl e) = rw e whole
stop_answer h n q (inr (inl e)) = rw e wrong
stop_answer h n q (inr (inr (c, e, z))) = ⊎_elim (λ e. rw e no_keys) (λ e. rw e no_versions) (full_some h c n e z)

rises_on : (h : Hall) {w : Parsed Commit} (f : Commit → (at : ℕ) → Bytes → Replay) → Comes (λ c. Later h.counter c × (full_of h c ≡ 0)) (Stop (full_of h)) w
    → ((c : Commit) (p : ℕ) (r : Bytes) → Rises (with_commit h c) (f c p r).commits × Stopped (f c p r).answer)
    → Rises h (go_on w f).commits × Stopped (go_on w f).answer
unfolding go_on
rises_on h f (gets {a = c} {p} {r} g) k = let t = k c p r in ((g.0, full_none h c g.1, t.0), t.1)
rises_on h f (fails {n} {p} g) k = (tt, stop_answer h n p g)

rises : (n : ℕ) (h : Hall) (at : ℕ) (x : Bytes) → Rises h (replay_up_to n h at x).commits × Stopped (replay_up_to n h at x).answer
unfolding replay_up_to
rises zero h at x = (tt, whole)
rises (suc n) h at x = rises_on h _ (comes_commit h.counter (full_of h) at x) (λ c p r. rises n (with_commit h c) p r)

pub replay_rises : (h : Hall) (at : ℕ) (x : Bytes) → Rises h (replay_of h at x).commits × Stopped (replay_of h at x).answer
unfolding replay_of
replay_rises h at x = rises (length x) h at x

proper_on : (w : Parsed Commit) (f : Commit → (at : ℕ) → Bytes → Replay)
    → ((c : Commit) (p : ℕ) (r : Bytes) → w ≡ got c p r → Proper c × AllProper (f c p r).commits) → AllProper (go_on w f).commits
unfolding go_on
proper_on (got c p r) f k = k c p r refl
proper_on (bad n p) f k = tt

proper : (n : ℕ) (h : Hall) (at : ℕ) (x : Bytes) → are_bytes x ≡ true → AllProper (replay_up_to n h at x).commits
unfolding replay_up_to
proper zero h at x s = tt
proper (suc n) h at x s =
    proper_on (first_of h at x) _ (λ c p r e.
    let t = takes_commit h.counter (full_of h) at x c p r s e in
    (t.1, proper n (with_commit h c) p r t.0.rest))

pub replay_proper : (h : Hall) (at : ℕ) (x : Bytes) → are_bytes x ≡ true → AllProper (replay_of h at x).commits
unfolding replay_of
replay_proper h at x s = proper (length x) h at x s

-- ---- what commits add to a chain

pub look_commits : (k : Bytes) (h : Hall) (cs : List Commit) → AllProper cs
    → look k (with_commits h cs).entries ≡ look k h.entries ++ stamps k cs
unfolding with_commits stamps
look_commits k h [] p = sym (append-nil _)
look_commits k h (c ∷ cs) p =
    look_commits k (with_commit h c) cs p.1
    ∙ rw (look_publish k c.number c.writes h.entries, made_find k c.number [] c.writes p.0.sound)
    (append_assoc (look k h.entries) _ _)

pub rising_commits : (k : Bytes) (h : Hall) (l : Chain) (cs : List Commit) → Rises h cs → Rising 0 h.counter l
    → Rising 0 (with_commits h cs).counter (l ++ stamps k cs)
unfolding with_commits stamps
rising_commits k h l [] r i = rw (append-nil l) i
rising_commits k h l (c ∷ cs) r i =
    let n = c.number in
    let w = find k c.writes in
    rw (← append_assoc l (stamp (Some n) w) (stamps k cs))
    (rising_commits k (with_commit h c) (l ++ stamp (Some n) w) cs r.2 (rising_stamp h.counter n l w r.0.0 i))

-- later commits stand beside what a sweep left
pub trim_commits : (k : Bytes) (x : ℕ) (h : Hall) (l : Chain) (cs : List Commit) → Rises h cs → x ≤ h.counter
    → trim (goes x []) l ++ stamps k cs ≡ trim (goes x []) (l ++ stamps k cs)
unfolding stamps
trim_commits k x h l [] r e = append-nil _ ∙ ap (trim (goes x [])) (sym (append-nil l))
trim_commits k x h l (c ∷ cs) r e =
    let n = c.number in
    let s = stamp (Some n) (find k c.writes) in
    sym (append_assoc (trim (goes x []) l) s (stamps k cs))
    ∙ ap (λ (a : Chain). a ++ stamps k cs) (trim_stamp x n l (find k c.writes) (omega (arith, r.0.0)))
    ∙ trim_commits k x (with_commit h c) (l ++ s) cs r.2 (omega (arith, r.0.0))
    ∙ ap (trim (goes x [])) (append_assoc l s (stamps k cs))

-- ---- a journal in front

-- commits before a replay
abbrev pub before : List Commit → Replay → Replay
before cs r = record { answer = r.answer; commits = cs ++ r.commits }

pub replay_on : (h : Hall) (at : ℕ) (cs : List Commit) (x : Bytes) → AllProper cs → Rises h cs
    → replay_of h at (journal cs ++ x) ≡ before cs (replay_of (with_commits h cs) (at + length (journal cs)) x)
unfolding journal with_commits go_on
replay_on h at [] x p r = let e : at + 0 ≡ at = omega arith in rw e
replay_on h at (c ∷ cs) x p r =
    let j : ℕ = length (dump_commit c) in
    let i = replay_on (with_commit h c) (at + j) cs x p.1 r.2 in
    let e : at + j + length (journal cs) ≡ at + length (dump_commit c ++ journal cs) = omega (arith, length-append (dump_commit c) (journal cs)) in
    rw (append_assoc (dump_commit c) (journal cs) x)
    (replay_step h at (dump_commit c ++ (journal cs ++ x))
    ∙ rw (commit_got h.counter (full_of h) at c (journal cs ++ x) p.0 r.0 (none_full h c r.1))
    (ap (λ (q : Replay). before (c ∷ []) q) (rw e at i)))

-- where no record is read, a replay stops
pub replay_stops : (h : Hall) (at : ℕ) (x : Bytes) (n q : ℕ) → first_of h at x ≡ bad n q → replay_of h at x ≡ record { answer = stops n q; commits = [] }
unfolding go_on
replay_stops h at x n q e = replay_step h at x ∙ rw e
