-- The journal: a record that is read is the record of the commit it gives, a commit's record is read back, and what is
-- not read is cut off or spoiled.
use Rattle.std.specs.declared.cmp.Ordering.TheVariants.{Less}
use Prim.Native.Nat.{ℕ, zero, suc, ◌+◌, ◌*◌, ◌-◌, ◌^◌, ◌≤◌, ◌<◌}
use native.Mathlib.Omega.{arith}
use mathlib.Core.Path.{◌≡◌, refl, sym, ap, subst, ◌∙◌}
use mathlib.Core.Logic.{◌⊎◌, inl, inr, ⊎_elim}
use mathlib.Core.Bool.{true}
use mathlib.Core.List.{[], ◌∷◌, ◌++◌, append_assoc, append-nil}
use lib.ListN.{length, take, length-append, length-take, drop, take-append-drop}
use lib.Seq.{length-take-le, take_at, drop_at, take-append-add}
use lib.Dec.{leb, ltb, eqb}
use borrow.Author.Tests.{leb-true, leb-false, ltb-true, ltb-false, eqb-true, eqb-false, not-false, lt-leb, lt-ltb, le-ltb, ne_eqb}
use Rattle.model.specs.Sizes.{max_key, max_value, max_writes, last_number, number_width, count_width, tag_width}
use Rattle.model.specs.Bytes.{Bytes, are_bytes, order, is_same, bytes, num}
use Rattle.model.specs.State.{Payload, deletion, content, Write, Writes}
use Rattle.model.specs.Sound.{within, key_fits, value_fits, sound_payload}
use Rattle.model.specs.Dump.{dump_payload}
use Rattle.model.specs.Load.{Parsed, got, bad, Parser, bind, fault, field, number_field}
use Rattle.model.specs.Journal.{Commit, mark, dump_write, dump_writes, dump_body, framed, dump_commit, mark_fault, read_write, read_writes, read_body, read_frame, blamed, admitted, read_commit}
use Rattle.model.specs.Recovery.{Torn, in_mark, in_length, in_body}
use Rattle.model.proofs.Cases.{by_bool, and_left, within_le}
use Rattle.model.proofs.Order.{order_eq, order_refl, same_eq, less_lt, lt_less}
use Rattle.model.proofs.Bytes.{are_bytes_split, length_bytes, num_bytes, bytes_num, num_bound}
use Rattle.model_laws.proofs.Entries.{SoundWrites}
use Rattle.model_laws.proofs.Round.{took_then, Takes, got_what, got_rest, bad_got, after, takes_field, takes_number, fault_none, takes_payload, after_key, ends, Reads, then, gives, reads_number, reads_payload, reads_key, reads_end}

-- ---- whatever the bytes are

-- P holds of what a parser got, or Q of the number of its fault
pub data Comes {A : Type 0} (P : A → Type 0) (Q : ℕ → Type 0) : Parsed A → Type 0 where
  gets : {a : A} {p : ℕ} {r : Bytes} → P a → Comes P Q (got a p r)
  fails : {n p : ℕ} → Q n → Comes P Q (bad n p)

pub bad_number : {A : Type 0} {n m p q : ℕ} → ◌≡◌ {A = Parsed A} (bad n p) (bad m q) → n ≡ m
bad_number e = cc

pub comes_bind : {A B : Type 0} {P : A → Type 0} {R : B → Type 0} {Q : ℕ → Type 0} {w : Parsed A} (f : A → Parser B)
    → Comes P Q w → ((a : A) (p : ℕ) (r : Bytes) → P a → Comes R Q (f a p r)) → Comes R Q (bind w f)
unfolding bind
comes_bind f (gets {a} {p} {r} h) g = g a p r h
comes_bind f (fails h) g = fails h

pub comes_field : {Q : ℕ → Type 0} (n : ℕ) (f : Bytes → ℕ) (at : ℕ) (x : Bytes) → Q 13 → ((b : Bytes) → (f b ≡ 0 → ⊥) → Q (f b)) → Comes (λ b. f b ≡ 0) Q (field n f at x)
unfolding field
comes_field {Q} n f at x z g =
    by_bool (ltb (length x) n)
    (λ p. rw p (fails z))
    (λ p. by_bool (eqb (f (take n x)) 0)
    (λ q. rw (p, q) (gets (eqb-true _ _ q)))
    (λ q. rw (p, q) (fails (g (take n x) (eqb-false _ _ q)))))

-- any fault will do
abbrev Any : ℕ → Type 0
Any n = Unit {0}

comes_number : (n : ℕ) (f : ℕ → ℕ) (at : ℕ) (x : Bytes) → Comes (λ v. f v ≡ 0) Any (number_field n f at x)
unfolding number_field
comes_number n f at x = comes_bind _ (comes_field n _ at x tt (λ b h. tt)) (λ b p r h. gets h)

comes_all : {A : Type 0} (w : Parsed A) → Comes (λ a. Unit {0}) Any w
comes_all (got a p r) = gets tt
comes_all (bad n p) = fails tt

-- a commit numbered above the counter
abbrev pub Later : ℕ → Commit → Type 0
Later counter c = (counter < c.number) × (c.number ≤ last_number)

comes_body : (counter at : ℕ) (x : Bytes) → Comes (Later counter) Any (read_body counter at x)
unfolding read_body
comes_body counter at x =
    comes_bind _ (comes_number _ _ at x) (λ n _ _ f. comes_bind _ (comes_all _) (λ m _ _ _. comes_bind _ (comes_all _) (λ ws _ _ _.
    comes_bind _ (comes_all _) (λ e _ _ _.
    let a = fault_none _ _ _ f in
    gets (leb-false n counter a.0, ltb-false last_number n (fault_none _ _ _ a.1).0)))))

-- a cut, 14, or what `full` says of a commit
abbrev pub Stop : (full : Commit → ℕ) → ℕ → Type 0
Stop full n = (n ≡ 13) ⊎ ((n ≡ 14) ⊎ ((c : Commit) × (full c ≡ n) × (n ≡ 0 → ⊥)))

mark_fault_lem : (b : Bytes) → (mark_fault b ≡ 0 → ⊥) → mark_fault b ≡ 14
unfolding mark_fault fault
mark_fault_lem b h = by_bool (is_same (order b mark)) (λ p. absurd (h (rw p))) (λ p. rw p)

mark_ok : mark_fault mark ≡ 0
unfolding mark_fault fault
mark_ok = rw (order_refl mark)

mark_only : (b : Bytes) → mark_fault b ≡ 0 → b ≡ mark
unfolding mark_fault
mark_only b z = order_eq b mark (same_eq _ (not-false _ (fault_none _ _ _ z).0))

comes_frame : (full : Commit → ℕ) (at : ℕ) (x : Bytes) → Comes (λ b. Unit {0}) (Stop full) (read_frame at x)
unfolding read_frame number_field
comes_frame full at x =
    comes_bind _ (comes_field _ _ at x (inl refl) (λ b h. inr (inl (mark_fault_lem b h)))) (λ m _ _ _.
    comes_bind {P = λ n. Unit {0}} _ (comes_bind _ (comes_field _ _ _ _ (inl refl) (λ b h. absurd (h refl))) (λ b _ _ h. gets tt)) (λ n _ _ _.
    any (comes_field n (λ b. 0) _ _ (inl refl) (λ b h. absurd (h refl)))))
  where
    any : {w : Parsed Bytes} {P : Bytes → Type 0} → Comes P (Stop full) w → Comes (λ b. Unit {0}) (Stop full) w
    any (gets h) = gets tt
    any (fails h) = fails h

comes_admitted : (full : Commit → ℕ) {P : Commit → Type 0} {w : Parsed Commit} → Comes P Any w → (at : ℕ) (x : Bytes)
    → Comes (λ c. P c × (full c ≡ 0)) (Stop full) (admitted full w at x)
comes_admitted full (gets {a = c} h) at x =
    by_bool (eqb (full c) 0)
    (λ p. rw p (gets (h, eqb-true _ _ p)))
    (λ p. rw p (fails (inr (inr (c, refl, eqb-false _ _ p)))))
comes_admitted full (fails h) at x = fails (inr (inl refl))

-- what holds of what a parser got
pub came : {A : Type 0} {P : A → Type 0} {Q : ℕ → Type 0} {w : Parsed A} {a : A} {p : ℕ} {r : Bytes}
    → Comes P Q w → w ≡ got a p r → P a
came {P = P} (gets h) e = subst P (got_what e) h
came (fails h) e = bad_got e

comes_blamed : {A : Type 0} {P : A → Type 0} {Q : ℕ → Type 0} {w : Parsed A} (at : ℕ) → Comes P Q w → Comes P Q (blamed at w)
comes_blamed at (gets h) = gets h
comes_blamed at (fails h) = fails h

pub comes_commit : (counter : ℕ) (full : Commit → ℕ) (at : ℕ) (x : Bytes)
    → Comes (λ c. Later counter c × (full c ≡ 0)) (Stop full) (read_commit counter full at x)
unfolding read_commit
comes_commit counter full at x =
    comes_blamed at
    (comes_bind _ (comes_frame full at x) (λ b p r _. comes_admitted full (comes_body counter 0 b) p r))

-- ---- what is read is the record of the commit that it gives

-- from 1 to 16 sound writes
pub record Proper (c : Commit) : Type 0 where
  pub sound : SoundWrites [] c.writes
  pub some : 1 ≤ length c.writes
  pub few : length c.writes ≤ max_writes

takes_write : (last : Bytes) → Takes (read_write last) dump_write (λ w. (order last w.key ≡ Less) × (key_fits w.key ≡ true) × (sound_payload w.payload ≡ true))
unfolding read_write dump_write
takes_write last at x w q r s e =
    after_key at last s e (λ k _ _ s t l g e. after _ takes_payload s e (λ p _ _ u f e.
    rw (← got_what e, ← got_rest e) (t _ _ u, (less_lt _ l, g, f))))

takes_writes : (n : ℕ) (last : Bytes) → Takes (read_writes n last) dump_writes (λ ws. (length ws ≡ n) × SoundWrites last ws)
unfolding read_writes dump_writes
takes_writes zero last at x ws q r s e = rw (← got_what e, ← got_rest e) (record { whole = refl; rest = s }, (refl, tt))
takes_writes (suc n) last at x ws q r s e =
    after _ (takes_write last) s e (λ w _ _ t f e. after _ (takes_writes n w.key) t.rest e (λ ws _ _ u g e.
    rw (← got_what e, ← got_rest e) (took_then t u, (ap suc g.0, (f.0, f.1, f.2, g.1)))))

pub takes_body : (counter at : ℕ) (x : Bytes) (c : Commit) (q : ℕ) (r : Bytes) → are_bytes x ≡ true → read_body counter at x ≡ got c q r → (dump_body c ≡ x) × Proper c × Later counter c
unfolding read_body dump_body
takes_body counter at x c q r s e =
    after _ (takes_number _ _) s e (λ n _ _ t₁ f₁ e. after _ (takes_number _ _) t₁.rest e (λ m _ _ t₂ f₂ e.
    after _ (takes_writes m []) t₂.rest e (λ ws _ _ t₃ f₃ e.
    let w = ends _ _ _ e in
    let a = fault_none _ _ _ f₁.1 in
    let b = fault_none _ _ _ f₂.1 in
    let t = took_then t₁ (took_then t₂ t₃) in
    let later : Later counter (record { number = n; writes = ws }) = (leb-false n counter a.0, ltb-false last_number n (fault_none _ _ _ a.1).0) in
    rw (← got_what w.1) (
      rw (t.whole, w.0, append-nil, f₃.0),
      record { sound = f₃.1; some = rw f₃.0 (ltb-false _ _ b.0); few = rw f₃.0 (ltb-false _ _ (fault_none _ _ _ b.1).0) },
      later,
    ))))

takes_frame : Takes read_frame framed (λ b. (are_bytes b ≡ true) × (length b < 256 ^ count_width))
unfolding read_frame framed
takes_frame at x b q r s e =
    after _ (takes_field _ _) s e (λ m _ _ t₁ f₁ e. after _ (takes_number _ _) t₁.rest e (λ n _ _ t₂ f₂ e.
    let u = takes_field n (λ b. 0) _ _ b q r t₂.rest e in
    rw u.1.1 (rw (mark_only m f₁.2) at (took_then t₁ (took_then t₂ u.0)), (u.1.0, f₂.0))))

pub unblamed : {A : Type 0} {a : A} {q : ℕ} {r : Bytes} (at : ℕ) (w : Parsed A) → blamed at w ≡ got a q r → w ≡ got a q r
unblamed at (got a p r) e = e
unblamed at (bad n p) e = bad_got e

pub admitted_got : {Z : Type 0} {c : Commit} {q : ℕ} {r : Bytes} (full : Commit → ℕ) (w : Parsed Commit) (at : ℕ) (x : Bytes) → admitted full w at x ≡ got c q r
    → ((p : ℕ) (s : Bytes) → w ≡ got c p s → x ≡ r → Z) → Z
admitted_got full (got a p s) at x e k =
    by_bool (eqb (full a) 0)
    (λ z. let g = rw z at e in k p s (rw (got_what g)) (got_rest g))
    (λ z. bad_got (rw z at e))
admitted_got full (bad n p) at x e k = bad_got e

pub takes_commit : (counter : ℕ) (full : Commit → ℕ) → Takes (read_commit counter full) dump_commit Proper
unfolding read_commit dump_commit
takes_commit counter full at x c q r s e =
    after _ takes_frame s (unblamed at _ e) (λ b p y t f e. admitted_got full _ p y e (λ i z w g.
    let u = takes_body counter 0 b c i z f.0 w in
    (rw (u.0, ← g) t, u.1)))

-- ---- the record of a commit is read

pub field_got : (n : ℕ) (f : Bytes → ℕ) (b r : Bytes) (at : ℕ) → length b ≡ n → f b ≡ 0 → field n f at (b ++ r) ≡ got b (at + n) r
unfolding field
field_got n f b r at l z = rw (take_at b r n l, drop_at b r n l, z, length-append b r, le-ltb (length b + length r) n (omega arith))

pub field_bad : (n : ℕ) (f : Bytes → ℕ) (b r : Bytes) (at : ℕ) → length b ≡ n → (f b ≡ 0 → ⊥) → field n f at (b ++ r) ≡ bad (f b) at
unfolding field
field_bad n f b r at l z = rw (take_at b r n l, ne_eqb (f b) 0 z, length-append b r, le-ltb (length b + length r) n (omega arith))

-- a field that is not wholly there
pub field_cut : (n : ℕ) (f : Bytes → ℕ) (x : Bytes) (at : ℕ) → length x < n → field n f at x ≡ bad 13 at
unfolding field
field_cut n f x at h = rw (lt-ltb (length x) n h)

reads_write : (last : Bytes) (w : Write) {r : Bytes} → order last w.key ≡ Less → key_fits w.key ≡ true → sound_payload w.payload ≡ true
    → Reads (read_write last) (dump_write w ++ r) w r
unfolding read_write dump_write
reads_write last w l k p = simp append_assoc (reads_key last w.key _ (lt_less _ l) k (then _ (reads_payload w.payload p) gives))

reads_writes : (last : Bytes) (ws : Writes) {r : Bytes} → SoundWrites last ws → Reads (read_writes (length ws) last) (dump_writes ws ++ r) ws r
unfolding read_writes dump_writes
reads_writes last [] s = gives
reads_writes last (w ∷ ws) s =
    simp append_assoc (then _ (reads_write last w s.0 s.1 s.2) (then _ (reads_writes w.key ws s.3) gives))

pub reads_body : (counter : ℕ) (c : Commit) → Proper c → Later counter c → Reads (read_body counter) (dump_body c) c []
unfolding read_body dump_body fault
reads_body counter c p l =
    let n = c.number in
    let m = length c.writes in
    let ws = reads_writes [] c.writes {r = []} p.sound in
    then _ (reads_number number_width _ n (omega (arith, l.1)) (rw (lt-leb n counter l.0, le-ltb last_number n l.1)))
    (then _ (reads_number count_width _ m (omega (arith, p.few)) (rw (le-ltb m 1 p.some, le-ltb max_writes m p.few)))
    (then _ (rw append-nil at ws) (then _ reads_end gives)))

-- a body's length fits its field
length_payload : (p : Payload) → sound_payload p ≡ true → length (dump_payload p) ≤ tag_width + count_width + max_value
unfolding dump_payload sound_payload value_fits
length_payload deletion s = rw (length_bytes tag_width 0) (omega arith)
length_payload (content b) s =
    omega (
      arith,
      leb-true (length b) max_value (and_left (leb (length b) max_value) _ s),
      length-append (bytes tag_width 1) (bytes count_width (length b) ++ b),
      length-append (bytes count_width (length b)) b,
      length_bytes tag_width 1,
      length_bytes count_width (length b),
    )

length_writes : (last : Bytes) (ws : Writes) → SoundWrites last ws → length (dump_writes ws) ≤ length ws * (count_width + max_key + (tag_width + count_width + max_value))
unfolding dump_writes dump_write key_fits
length_writes last [] s = omega arith
length_writes last (w ∷ ws) s =
    let k = w.key in
    let p = dump_payload w.payload in
    omega (
      arith,
      length_writes k ws s.3,
      (within_le 1 max_key (length k) (and_left (within 1 max_key (length k)) _ s.1)).1,
      length_payload w.payload s.2,
      length-append (bytes count_width (length k) ++ (k ++ p)) (dump_writes ws),
      length-append (bytes count_width (length k)) (k ++ p),
      length-append k p,
      length_bytes count_width (length k),
    )

pub length_body : (c : Commit) → Proper c → length (dump_body c) < 256 ^ count_width
unfolding dump_body
length_body c p =
    let m = length c.writes in
    let a = bytes count_width m ++ dump_writes c.writes in
    omega (
      arith,
      p.few,
      length_writes [] c.writes p.sound,
      length-append (bytes number_width c.number) a,
      length-append (bytes count_width m) (dump_writes c.writes),
      length_bytes number_width c.number,
      length_bytes count_width m,
    )

pub length_framed : (b : Bytes) → length (framed b) ≡ length mark + count_width + length b
unfolding framed
length_framed b =
    omega (arith, length-append mark (bytes count_width (length b) ++ b), length-append (bytes count_width (length b)) b, length_bytes count_width (length b))

frame_got : (b r : Bytes) (at : ℕ) → length b < 256 ^ count_width → read_frame at (framed b ++ r) ≡ got b (at + length (framed b)) r
unfolding read_frame framed number_field bind
frame_got b r at h =
    let n = length b in
    let l : length (framed b) ≡ length mark + count_width + n = length_framed b in
    rw (
      append_assoc mark (bytes count_width n ++ b) r,
      append_assoc (bytes count_width n) b r,
      field_got (length mark) mark_fault mark (bytes count_width n ++ (b ++ r)) at refl mark_ok,
      field_got count_width (λ b. 0) (bytes count_width n) (b ++ r) (at + length mark) (length_bytes count_width n) refl,
      num_bytes count_width n h,
      field_got n (λ b. 0) b r (at + length mark + count_width) refl refl,
      l,
    )
    (ap (λ (q : ℕ). got b q r) (omega arith))

short : (n : ℕ) (x : Bytes) → length (take n x) ≤ n
short n x = omega (arith, length-take n x)

pub mark_some : 0 < length mark
unfolding mark
mark_some = omega arith

-- a frame that is not wholly there
frame_torn : (x : Bytes) (at : ℕ) → Torn x → (q : ℕ) × (read_frame at x ≡ bad 13 q)
unfolding read_frame number_field bind
frame_torn x at (in_mark y h) = (at, rw (field_cut (length mark) mark_fault y at h))
frame_torn x at (in_length y h) =
    (at + length mark, rw (field_got (length mark) mark_fault mark y at refl mark_ok, field_cut count_width (λ b. 0) y (at + length mark) h))
frame_torn x at (in_body n y h l) = (
  at + length mark + count_width,
  rw (
    field_got (length mark) mark_fault mark (bytes count_width n ++ y) at refl mark_ok,
    field_got count_width (λ b. 0) (bytes count_width n) y (at + length mark) (length_bytes count_width n) refl,
    num_bytes count_width n h,
    field_cut n (λ b. 0) y (at + length mark + count_width) l,
  ),
)

-- less than a frame
cut_torn : (b : Bytes) (n : ℕ) → length b < 256 ^ count_width → n < length (framed b) → Torn (take n (framed b))
unfolding framed
cut_torn b n h l =
    by_bool (ltb n (length mark))
    (λ p. in_mark (take n (framed b)) (omega (arith, short n (framed b), ltb-true n (length mark) p)))
    (λ p.
    let m : ℕ = n - length mark in
    let e : n ≡ length mark + m = omega (arith, ltb-false n (length mark) p) in
    let k = length b in
    let z = bytes count_width k ++ b in
    let g = ap (λ x. take x (mark ++ z)) e ∙ take-append-add mark z m in
    by_bool (ltb m count_width)
    (λ q. rw g (in_length (take m z) (omega (arith, short m z, ltb-true m count_width q))))
    (λ q.
    let i : ℕ = m - count_width in
    let c : m ≡ length (bytes count_width k) + i = omega (arith, ltb-false m count_width q, length_bytes count_width k) in
    let j = ap (λ x. take x z) c ∙ take-append-add (bytes count_width k) b i in
    rw (g, j) (in_body k (take i b) h (omega (arith, length_framed b, short i b, ltb-false m count_width q)))))

module _ (counter : ℕ) (full : Commit → ℕ) (at : ℕ) where
  -- a body wholly there
  framed_read : (b r : Bytes) → length b < 256 ^ count_width
      → read_commit counter full at (framed b ++ r) ≡ blamed at (admitted full (read_body counter 0 b) (at + length (framed b)) r)
  unfolding read_commit bind
  framed_read b r h = rw (frame_got b r at h)

  pub commit_got : (c : Commit) (r : Bytes) → Proper c → Later counter c → full c ≡ 0
      → read_commit counter full at (dump_commit c ++ r) ≡ got c (at + length (dump_commit c)) r
  unfolding dump_commit bind
  commit_got c r p l z =
      framed_read (dump_body c) r (length_body c p) ∙ rw ((reads_body counter c p l).gets 0, z)

  pub commit_full : (c : Commit) (r : Bytes) → Proper c → Later counter c → (full c ≡ 0 → ⊥)
      → read_commit counter full at (dump_commit c ++ r) ≡ bad (full c) at
  unfolding dump_commit bind
  commit_full c r p l z =
      framed_read (dump_body c) r (length_body c p) ∙ rw ((reads_body counter c p l).gets 0, ne_eqb (full c) 0 z)

  -- a body of no commit
  pub body_bad : (b r : Bytes) → length b < 256 ^ count_width → are_bytes b ≡ true → ((c : Commit) → Proper c → Later counter c → dump_body c ≡ b → ⊥)
      → read_commit counter full at (framed b ++ r) ≡ bad 14 at
  unfolding bind
  body_bad b r h s n = framed_read b r h ∙ none (read_body counter 0 b) refl
    where
      none : (w : Parsed Commit) → read_body counter 0 b ≡ w → blamed at (admitted full w (at + length (framed b)) r) ≡ bad 14 at
      none (got c p r) e = let t = takes_body counter 0 b c p r s e in absurd (n c t.1 t.2 t.0)
      none (bad m p) e = refl

  pub mark_bad : (m r : Bytes) → length m ≡ length mark → (m ≡ mark → ⊥) → read_commit counter full at (m ++ r) ≡ bad 14 at
  unfolding read_commit read_frame bind
  mark_bad m r l n =
      let z : mark_fault m ≡ 14 = mark_fault_lem m (λ z. n (mark_only m z)) in
      rw (field_bad (length mark) mark_fault m r at l (λ e. n (mark_only m e)), z)

  pub torn_read : (x : Bytes) → Torn x → read_commit counter full at x ≡ bad 13 at
  unfolding read_commit bind
  torn_read x t = let f = frame_torn x at t in rw f.1

  pub commit_torn : (c : Commit) (n : ℕ) → Proper c → n < length (dump_commit c) → read_commit counter full at (take n (dump_commit c)) ≡ bad 13 at
  unfolding dump_commit
  commit_torn c n p l = torn_read _ (cut_torn (dump_body c) n (length_body c p) l)

  pub commit_end : read_commit counter full at [] ≡ bad 13 at
  unfolding read_commit read_frame bind
  commit_end = rw (field_cut (length mark) mark_fault [] at mark_some)

-- two tests of which the second lets by no more than the first: the same record, or the second refuses
pub commit_same {ℓ} : {Z : Type ℓ} (counter : ℕ) (full full' : Commit → ℕ) (at : ℕ) (x : Bytes) → are_bytes x ≡ true
    → ((c : Commit) → Proper c → full' c ≡ 0 → full c ≡ 0)
    → (read_commit counter full at x ≡ read_commit counter full' at x → Z)
    → ((c : Commit) → (full' c ≡ 0 → ⊥) → read_commit counter full' at x ≡ bad (full' c) at → Z) → Z
unfolding read_commit bind
commit_same {Z = Z} counter full full' at x s f k l = frame (read_frame at x) refl
  where
    body : (b : Bytes) (p : ℕ) (r : Bytes) → read_frame at x ≡ got b p r → (w : Parsed Commit) → read_body counter 0 b ≡ w → Z
    body b p r e (bad n q) g = k (rw (e, g))
    body b p r e (got c q z) g =
        by_bool (eqb (full' c) 0)
        (λ i.
        let o : full' c ≡ 0 = eqb-true _ _ i in
        let t = takes_frame at x b p r s e in
        k (rw (e, g, o, f c (takes_body counter 0 b c q z t.1.0 g).1 o)))
        (λ i. l c (eqb-false _ _ i) (rw (e, g, i)))

    frame : (w : Parsed Bytes) → read_frame at x ≡ w → Z
    frame (bad n q) e = k (rw e)
    frame (got b p r) e = body b p r e (read_body counter 0 b) refl

-- ---- what is not read is a cut, or spoiled

-- the first two bytes are no mark
abbrev pub BadMark : Bytes → Type 0
BadMark x = (m : Bytes) × (r : Bytes) × (x ≡ m ++ r) × (length m ≡ length mark) × (m ≡ mark → ⊥)

field_whole : (n : ℕ) (x : Bytes) (at : ℕ) → n ≤ length x → field n (λ b. 0) at x ≡ got (take n x) (at + n) (drop n x)
unfolding field
field_whole n x at h = rw (le-ltb (length x) n h)

body_bad_frame : (l y : Bytes) (at n q : ℕ) → are_bytes l ≡ true → length l ≡ count_width → read_frame at (mark ++ (l ++ y)) ≡ bad n q → (n ≡ 13) × Torn (mark ++ (l ++ y))
unfolding read_frame number_field bind
body_bad_frame l y at n q s h e =
    let k = num l in
    let g = field_got (length mark) mark_fault mark (l ++ y) at refl mark_ok in
    let i = field_got count_width (λ b. 0) l y (at + length mark) h refl in
    let same : bytes count_width k ≡ l = rw h at (bytes_num l s) in
    let small : k < 256 ^ count_width = rw h at (num_bound l s) in
    by_bool (ltb (length y) k)
    (λ p. (
      sym (bad_number (rw (g, i, field_cut k (λ b. 0) y (at + length mark + count_width) (ltb-true (length y) k p)) at e)),
      rw same at (in_body k y small (ltb-true (length y) k p)),
    ))
    (λ p. bad_got (sym (rw (g, i, field_whole k y (at + length mark + count_width) (ltb-false (length y) k p)) at e)))

length_bad_frame : (z : Bytes) (at n q : ℕ) → are_bytes z ≡ true → read_frame at (mark ++ z) ≡ bad n q → (n ≡ 13) × Torn (mark ++ z)
unfolding read_frame number_field bind
length_bad_frame z at n q s e =
    let g = field_got (length mark) mark_fault mark z at refl mark_ok in
    by_bool (ltb (length z) count_width)
    (λ p. (sym (bad_number (rw (g, field_cut count_width (λ b. 0) z (at + length mark) (ltb-true (length z) count_width p)) at e)), in_length z (ltb-true (length z) count_width p)))
    (λ p.
    let w : z ≡ take count_width z ++ drop count_width z = sym (take-append-drop count_width z) in
    let t = are_bytes_split (take count_width z) (drop count_width z) (rw w at s) in
    let r = body_bad_frame (take count_width z) (drop count_width z) at n q t.0 (length-take-le count_width z (ltb-false (length z) count_width p)) (rw w at e) in
    (r.0, subst (λ (z : Bytes). Torn (mark ++ z)) (sym w) r.1))

frame_bad : (x : Bytes) (at n q : ℕ) → are_bytes x ≡ true → read_frame at x ≡ bad n q → ((n ≡ 13) × Torn x) ⊎ ((n ≡ 14) × BadMark x)
unfolding read_frame number_field bind
frame_bad x at n q s e =
    by_bool (ltb (length x) (length mark))
    (λ p. inl (sym (bad_number (rw (field_cut (length mark) mark_fault x at (ltb-true _ _ p)) at e)), in_mark x (ltb-true _ _ p)))
    (λ p.
    let m = take (length mark) x in
    let z = drop (length mark) x in
    let l : length m ≡ length mark = length-take-le (length mark) x (ltb-false _ _ p) in
    let w : x ≡ m ++ z = sym (take-append-drop (length mark) x) in
    let t = are_bytes_split m z (subst (λ (x : Bytes). are_bytes x ≡ true) w s) in
    let g : read_frame at (m ++ z) ≡ bad n q = subst (λ (x : Bytes). read_frame at x ≡ bad n q) w e in
    by_bool (eqb (mark_fault m) 0)
    (λ f.
    let o : m ≡ mark = mark_only m (eqb-true _ _ f) in
    let r = length_bad_frame z at n q t.1 (subst (λ (m : Bytes). read_frame at (m ++ z) ≡ bad n q) o g) in
    inl (r.0, subst (λ (x : Bytes). Torn x) (ap (λ (m : Bytes). m ++ z) (sym o) ∙ sym w) r.1))
    (λ f.
    let k = eqb-false _ _ f in
    let u : mark_fault m ≡ n = bad_number (rw (field_bad (length mark) mark_fault m z at l k) at g) in
    inr (sym u ∙ mark_fault_lem m k, (m, z, w, l, λ i. k (ap mark_fault i ∙ mark_ok)))))

-- why a record is not read
pub data Unread (counter : ℕ) (full : Commit → ℕ) (x : Bytes) : ℕ → Type 0 where
  cut_off : Torn x → Unread counter full x 13
  bad_mark : BadMark x → Unread counter full x 14
  bad_body : (b r : Bytes) → x ≡ framed b ++ r → length b < 256 ^ count_width → are_bytes b ≡ true
      → ((c : Commit) → Proper c → Later counter c → dump_body c ≡ b → ⊥) → Unread counter full x 14
  no_room : (c : Commit) (r : Bytes) → x ≡ dump_commit c ++ r → Proper c → Later counter c → (full c ≡ 0 → ⊥) → Unread counter full x (full c)

got_bad : {A : Type 0} {w : Parsed A} {a : A} {p n q : ℕ} {r : Bytes} → w ≡ got a p r → w ≡ bad n q → ⊥
got_bad e g = bad_got (sym g ∙ e)

pub unread : (counter : ℕ) (full : Commit → ℕ) (at : ℕ) (x : Bytes) (n q : ℕ) → are_bytes x ≡ true → read_commit counter full at x ≡ bad n q → Unread counter full x n
unfolding read_commit dump_commit bind
unread counter full at x n q s e = frame (read_frame at x) refl
  where
    body : (b : Bytes) (p : ℕ) (r : Bytes) → read_frame at x ≡ got b p r → (w : Parsed Commit) → read_body counter 0 b ≡ w → Unread counter full x n
    body b p r g (bad m i) h =
        let t = takes_frame at x b p r s g in
        let k : ◌≡◌ {A = ℕ} 14 n = bad_number (rw (g, h) at e) in
        rw (← k) (bad_body b r t.0.whole t.1.1 t.1.0 (λ c o l d. let v = reads_body counter c o l in got_bad (subst (λ (b : Bytes). read_body counter 0 b ≡ got c (v.end 0) []) d (v.gets 0)) h))
    body b p r g (got c i z) h =
        let t = takes_frame at x b p r s g in
        let u = takes_body counter 0 b c i z t.1.0 h in
        by_bool (eqb (full c) 0)
        (λ o. bad_got (sym (rw (g, h, o) at e)))
        (λ o.
        let k : full c ≡ n = bad_number (rw (g, h, o) at e) in
        rw (← k) (no_room c r (rw u.0 t.0.whole) u.1 u.2 (eqb-false _ _ o)))

    frame : (w : Parsed Bytes) → read_frame at x ≡ w → Unread counter full x n
    frame (bad m i) g =
        let k : m ≡ n = bad_number (rw g at e) in
        rw (← k) (⊎_elim (λ t. rw t.0 (cut_off t.1)) (λ t. rw t.0 (bad_mark t.1)) (frame_bad x at m i s g))
    frame (got b p r) g = body b p r g (read_body counter 0 b) refl
