-- The round trips of load and dump.
use Prim.Native.Nat.{ℕ, zero, suc, pred, ◌+◌, ◌-◌, ◌^◌, ◌≤◌, ◌<◌}
use native.Mathlib.Nat.{le_refl}
use native.Mathlib.Omega.{arith}
use mathlib.Core.Path.{◌≡◌, refl, sym, ap}
use mathlib.Core.Bool.{Bool, true, false}
use mathlib.Core.List.{List, [], ◌∷◌, ◌++◌, append_assoc, append-nil}
use lib.ListN.{length, take, drop, length-append, take-append-drop}
use lib.Seq.{take_at, drop_at, length-take-le}
use lib.Dec.{leb, ltb, eqb, lit<}
use borrow.Author.Tests.{leb-true, leb-false, ltb-true, ltb-false, eqb-true, eqb-false, not-false, le-leb, lt-leb, lt-ltb, le-ltb}
use Rattle.model.specs.Sizes.{max_key, max_value, max_key_rooms, max_version_rooms, last_number, number_width, count_width, tag_width}
use Rattle.model.specs.Bytes.{Bytes, are_bytes, order, is_less, num, bytes}
use Rattle.model.specs.State.{Payload, deletion, content, Version, Chain, Entry, Hall, version_count, with_floor}
use Rattle.model.specs.Sound.{within, key_fits, value_fits, sizes_fit, sound_payload, sound_chain, sound_entries, sound_hall}
use Rattle.model.specs.Dump.{magic, dump_key, dump_payload, dump_version, dump_chain, dump_entry, dump_entries, dump_hall}
use Rattle.model.specs.Load.{Parsed, got, bad, Parser, bind, give, fault, field, number_field, read_payload, read_key, read_version, read_chain, read_entry, read_entries, read_end, read_hall}
use Rattle.model.proofs.Cases.{by_bool, zero_one, and_intro, and_left, and_right, every_all, all_every, within_le, key_parts, good_key}
use Rattle.model.proofs.Order.{order_eq, order_refl, same_eq}
use Rattle.model.proofs.Bytes.{are_bytes_split, length_bytes, num_bytes, bytes_num, num_bound}

-- ---- what a parser takes

-- b is taken off the front of x, and the bytes r are left
pub record Took (x b r : Bytes) : Type 0 where
  pub whole : x ≡ b ++ r
  pub rest : are_bytes r ≡ true

pub took_then : {x b y c r : Bytes} → Took x b y → Took y c r → Took x (b ++ c) r
took_then t u = record { whole = rw (t.whole, u.whole, append_assoc); rest = u.rest }

-- what m gets was in front as D dumps it, and P holds of it
abbrev pub Takes : {A : Type 0} → Parser A → (A → Bytes) → (A → Type 0) → Type 0
Takes {A} m D P = (at : ℕ) (x : Bytes) (a : A) (q : ℕ) (r : Bytes) → are_bytes x ≡ true → m at x ≡ got a q r → Took x (D a) r × P a

pub got_what : {A : Type 0} {a b : A} {p q : ℕ} {x y : Bytes} → got a p x ≡ got b q y → a ≡ b
got_what e = cc

pub got_rest : {A : Type 0} {a b : A} {p q : ℕ} {x y : Bytes} → got a p x ≡ got b q y → x ≡ y
got_rest e = cc

pub got_at : {A : Type 0} {a b : A} {p q : ℕ} {x y : Bytes} → got a p x ≡ got b q y → p ≡ q
got_at e = cc

pub bad_got : {A Z : Type 0} {a : A} {n p q : ℕ} {y : Bytes} → bad n p ≡ got a q y → Z
bad_got e = zero_one (cc e)

-- a sequence that got through
pub bind_got : {A B Z : Type 0} {b : B} {q : ℕ} {r : Bytes} (w : Parsed A) (f : A → Parser B) → bind w f ≡ got b q r
    → ((a : A) (p : ℕ) (y : Bytes) → w ≡ got a p y → f a p y ≡ got b q r → Z) → Z
unfolding bind
bind_got (got a p y) f e k = k a p y refl e
bind_got (bad n p) f e k = bad_got e

-- its first parser took, and the others went on
pub after : {A B Z : Type 0} {m : Parser A} {D : A → Bytes} {P : A → Type 0} {f : A → Parser B} {x : Bytes} {b : B} {q : ℕ} {r : Bytes}
    (at : ℕ) → Takes m D P → are_bytes x ≡ true → bind (m at x) f ≡ got b q r
    → ((a : A) (p : ℕ) (y : Bytes) → Took x (D a) y → P a → f a p y ≡ got b q r → Z) → Z
unfolding bind
after {A} {Z = Z} {m = m} {f = f} {x = x} {b = b} {q = q} {r = r} at i s e k = go (m at x) refl e
  where
    go : (w : Parsed A) → m at x ≡ w → bind w f ≡ got b q r → Z
    go (got a p y) w e = let t = i at x a p y s w in k a p y t.0 t.1 e
    go (bad n p) w e = bad_got e

pub takes_field : (n : ℕ) (f : Bytes → ℕ) → Takes (field n f) (λ b. b) (λ b. (are_bytes b ≡ true) × (length b ≡ n) × (f b ≡ 0))
unfolding field
takes_field n f at x b q r s e =
    by_bool (ltb (length x) n)
    (λ p. bad_got (rw p at e))
    (λ p. by_bool (eqb (f (take n x)) 0)
    (λ z.
    let g : got (take n x) (at + n) (drop n x) ≡ got b q r = rw (p, z) at e in
    let w : x ≡ take n x ++ drop n x = sym (take-append-drop n x) in
    let t = are_bytes_split (take n x) (drop n x) (rw w at s) in
    rw (← got_what g, ← got_rest g) (record { whole = w; rest = t.1 }, (t.0, length-take-le n x (ltb-false _ _ p), eqb-true _ _ z)))
    (λ z. bad_got (rw (p, z) at e)))

pub takes_number : (n : ℕ) (f : ℕ → ℕ) → Takes (number_field n f) (bytes n) (λ v. (v < 256 ^ n) × (f v ≡ 0))
unfolding number_field
takes_number n f at x v q r s e = after _ (takes_field n (λ b. f (num b))) s e (λ b _ _ t h e.
    rw (← got_what e, ← got_rest e, ← h.1) (rw (bytes_num b h.0) t, (num_bound b h.0, h.2)))

-- ---- the parts of a sound hall

-- a version or an entry after `last`, where numbers go up to `top` and `rooms` version rooms are left
abbrev FitVersion : (top last : ℕ) → Version → Type 0
FitVersion top last v = (last < v.number) × (v.number ≤ top) × (sound_payload v.payload ≡ true)

abbrev FitEntry : (top rooms : ℕ) (last : Bytes) → Entry → Type 0
FitEntry top rooms last e =
    (is_less (order last e.key) ≡ true)
    × (key_fits e.key ≡ true)
    × (1 ≤ length e.chain)
    × (length e.chain ≤ rooms)
    × (sound_chain 0 top e.chain ≡ true)

-- ---- what is accepted is a dump, and sound

-- where no fault is found, no test holds
pub fault_none : (b : Bool) (n : ℕ) (cs : List (Bool × ℕ)) → fault ((b, suc n) ∷ cs) ≡ 0 → (b ≡ false) × (fault cs ≡ 0)
unfolding fault
fault_none true n cs e = absurd (omega arith)
fault_none false n cs e = (refl, e)

pub takes_payload : Takes read_payload dump_payload (λ p. sound_payload p ≡ true)
unfolding read_payload dump_payload sound_payload value_fits
takes_payload at x p q r s e = after _ (takes_number _ _) s e (λ tag _ _ t f e.
    by_bool (eqb tag 0)
    (λ z.
    let g = rw z at e in
    rw (← got_what g, ← got_rest g) (rw (eqb-true tag 0 z) at t, refl))
    (λ z. after _ (takes_number _ _) t.rest (rw z at e) (λ len _ _ u g e. after _ (takes_field _ _) u.rest e (λ b _ _ v h e.
    let one : tag ≡ 1 = omega (arith, eqb-false tag 0 z, ltb-false 1 tag (fault_none _ _ _ f.1).0) in
    rw (← got_what e, ← got_rest e, h.1)
    (took_then (rw one at t) (took_then u v), and_intro (le-leb len max_value (ltb-false _ _ (fault_none _ _ _ g.1).0)) h.0)))))

takes_version : (top last : ℕ) → Takes (read_version (suc top) last) dump_version (FitVersion top last)
unfolding read_version dump_version
takes_version top last at x v q r s e = after _ (takes_number _ _) s e (λ n _ _ t f e. after _ takes_payload t.rest e (λ w _ _ u g e.
    let a = fault_none _ _ _ f.1 in
    let b = fault_none _ _ _ a.1 in
    rw (← got_what e, ← got_rest e) (took_then t u, (leb-false n last a.0, omega (arith, leb-false (suc top) n b.0), g))))

takes_chain : (top n last : ℕ) → Takes (read_chain (suc top) n last) dump_chain (λ vs. (length vs ≡ n) × (sound_chain last top vs ≡ true))
unfolding read_chain dump_chain sound_chain
takes_chain top zero last at x vs q r s e = rw (← got_what e, ← got_rest e) (record { whole = refl; rest = s }, (refl, refl))
takes_chain top (suc n) last at x vs q r s e =
    after _ (takes_version top last) s e (λ v _ _ t f e. after _ (takes_chain top n v.number) t.rest e (λ ws _ _ u g e.
    rw (← got_what e, ← got_rest e)
    (took_then t u, (ap suc g.0, all_every _ (lt-ltb _ _ f.0, (le-leb _ _ f.1, (f.2, (g.1, tt))))))))

-- a key that was read, and what went on behind it
pub after_key : {B Z : Type 0} {f : Bytes → Parser B} {x : Bytes} {b : B} {q : ℕ} {r : Bytes} (at : ℕ) (last : Bytes)
    → are_bytes x ≡ true → read_key last f at x ≡ got b q r
    → ((k : Bytes) (p : ℕ) (y : Bytes) → are_bytes y ≡ true → ((d z : Bytes) → Took y d z → Took x (dump_key k d) z)
    → is_less (order last k) ≡ true → key_fits k ≡ true → f k p y ≡ got b q r → Z) → Z
after_key at last s e g =
    after _ (takes_number _ _) s e (λ len _ _ t₁ f₁ e. after _ (takes_field _ _) t₁.rest e (λ k p y t₂ f₂ e.
    let a = fault_none _ _ _ f₁.1 in
    let b = fault_none _ _ _ a.1 in
    let w = f₂.1 in
    let lo = ltb-false _ _ a.0 in
    let hi = ltb-false _ _ b.0 in
    let c = fault_none _ _ _ f₂.2 in
    g k p y t₂.rest (λ d z t. rw f₂.1 (took_then t₁ (took_then t₂ t))) (not-false _ (fault_none _ _ _ c.1).0)
    (good_key k (rw w lo) (rw w hi) (not-false _ c.0)) e))

takes_entry : (top rooms : ℕ) (last : Bytes) → Takes (read_entry (suc top) rooms last) dump_entry (FitEntry top rooms last)
unfolding read_entry dump_entry
takes_entry top rooms last at x en q r s e =
    after_key at last s e (λ k _ _ s t₁ l g e.
    after _ (takes_number _ _) s e (λ n _ _ t₂ f₂ e. after _ (takes_chain top _ 0) t₂.rest e (λ vs _ _ t₃ f₃ e.
    let c = fault_none _ _ _ f₂.1 in
    let d = fault_none _ _ _ c.1 in
    rw (← got_what e, ← got_rest e, f₃.0) (t₁ _ _ (took_then t₂ t₃), (l, g, ltb-false _ _ c.0, ltb-false _ _ d.0, f₃.1)))))

takes_entries : (top n rooms : ℕ) (last : Bytes)
    → Takes (read_entries (suc top) n rooms last) dump_entries
    (λ es. (length es ≡ n) × (version_count es ≤ rooms) × (sound_entries last top es ≡ true))
unfolding read_entries dump_entries version_count sound_entries
takes_entries top zero rooms last at x es q r s e =
    rw (← got_what e, ← got_rest e) (record { whole = refl; rest = s }, (refl, omega arith, refl))
takes_entries top (suc n) rooms last at x es q r s e =
    after _ (takes_entry top rooms last) s e (λ en _ _ t f e.
    after _ (takes_entries top n (rooms - length en.chain) en.key) t.rest e (λ es _ _ u g e.
    rw (← got_what e, ← got_rest e)
    (took_then t u, (ap suc g.0, omega (arith, f.3, g.1), all_every _ (f.0, (f.1, (le-leb _ _ f.2, (f.4, (g.2, tt)))))))))

pub ends : {A : Type 0} {a : A} {q : ℕ} {r : Bytes} (f : Unit → Parser A) (at : ℕ) (x : Bytes)
    → bind (read_end at x) f ≡ got a q r → (x ≡ []) × (f tt at [] ≡ got a q r)
unfolding bind read_end
ends f at [] e = (refl, e)
ends f at (b ∷ x) e = bad_got e

-- what a load accepts is the dump of what it gives, which is sound and has its floor at its counter
pub load_dump : (ks vs ds : ℕ) (x : Bytes) (h : Hall) (q : ℕ) (r : Bytes) → are_bytes x ≡ true → sizes_fit ks vs ds ≡ true
    → read_hall ks vs ds 0 x ≡ got h q r → (dump_hall h ≡ x) × (sound_hall h ≡ true) × (h.floor ≡ h.counter)
unfolding read_hall dump_hall sound_hall
load_dump ks vs ds x h q r s z e =
    after _ (takes_field _ _) s e (λ o _ _ t₁ f₁ e. after _ (takes_number _ _) t₁.rest e (λ next _ _ t₂ f₂ e.
    after _ (takes_number _ _) t₂.rest e (λ n _ _ t₃ f₃ e.
    let back : suc (pred next) ≡ next = omega (arith, ltb-false next 1 (fault_none _ _ _ f₂.1).0) in
    after _ (takes_entries (pred next) n vs []) t₃.rest (rw (← back) at e) (λ es _ _ t₄ f₄ e.
    let w = ends _ _ _ e in
    let t = took_then t₁ (took_then t₂ (took_then t₃ t₄)) in
    let same : o ≡ magic = order_eq o magic (same_eq _ (not-false _ (fault_none _ _ _ f₁.2).0)) in
    let top : pred next ≤ last_number = omega (arith, f₂.0) in
    let low : pred next ≤ pred next = le_refl _ in
    let fits : length es ≤ ks = rw f₄.0 (ltb-false _ _ (fault_none _ _ _ f₃.1).0) in
    rw (← got_what w.1) (
      rw (t.whole, w.0, append-nil, same, back, f₄.0),
      all_every _ (z, (le-leb _ _ top, (f₄.2, (le-leb _ _ fits, (le-leb _ _ f₄.1, (le-leb _ _ low, tt)))))),
      refl,
    )))))

-- ---- the dump of a sound hall is accepted

-- m gets a out of x and leaves r
pub record Reads {A : Type 0} (m : Parser A) (x : Bytes) (a : A) (r : Bytes) : Type 0 where
  pub end : ℕ → ℕ
  pub gets : (at : ℕ) → m at x ≡ got a (end at) r

pub then : {A B : Type 0} {m : Parser A} (f : A → Parser B) {x y r : Bytes} {a : A} {b : B}
    → Reads m x a y → Reads (f a) y b r → Reads (λ at x. bind (m at x) f) x b r
unfolding bind
then f t u = record { end = λ at. u.end (t.end at); gets = λ at. rw (t.gets at) (u.gets (t.end at)) }

pub gives : {A : Type 0} {a : A} {x : Bytes} → Reads (give a) x a x
gives = record { end = λ at. at; gets = λ at. refl }

pub reads_field : (n : ℕ) (f : Bytes → ℕ) (b : Bytes) {r : Bytes} → length b ≡ n → f b ≡ 0 → Reads (field n f) (b ++ r) b r
unfolding field
reads_field n f b {r} l z = record {
  end = λ at. at + n;
  gets = λ at. rw (take_at b r n l, drop_at b r n l, z, length-append b r, le-ltb (length b + length r) n (omega arith));
}

pub reads_number : (n : ℕ) (f : ℕ → ℕ) (v : ℕ) {r : Bytes} → v < 256 ^ n → f v ≡ 0 → Reads (number_field n f) (bytes n v ++ r) v r
unfolding number_field
reads_number n f v h z =
    let same = num_bytes n v h in
    then _ (reads_field n (λ b. f (num b)) (bytes n v) (length_bytes n v) (rw same z)) (rw same gives)

pub reads_payload : (p : Payload) {r : Bytes} → sound_payload p ≡ true → Reads read_payload (dump_payload p ++ r) p r
unfolding read_payload dump_payload sound_payload value_fits fault
reads_payload deletion s = then _ (reads_number tag_width _ 0 (lit< tt) refl) gives
reads_payload (content b) s =
    let fits : length b ≤ max_value = leb-true _ _ (and_left (leb (length b) max_value) _ s) in
    simp append_assoc
    (then _ (reads_number tag_width _ 1 (lit< tt) refl)
    (then _ (reads_number count_width _ (length b) (omega arith) (rw (le-ltb max_value (length b) fits)))
    (then _ (reads_field (length b) _ b refl refl) gives)))

reads_version : (top last : ℕ) (v : Version) {r : Bytes} → top ≤ last_number → FitVersion top last v
    → Reads (read_version (suc top) last) (dump_version v ++ r) v r
unfolding read_version dump_version fault
reads_version top last v h f =
    let n = v.number in
    simp append_assoc
    (then _ (reads_number number_width _ n (omega arith) (rw (lt-leb n last f.0, lt-leb (suc top) n (omega arith))))
    (then _ (reads_payload v.payload f.2) gives))

reads_chain : (top last : ℕ) (vs : Chain) {r : Bytes} → top ≤ last_number → sound_chain last top vs ≡ true
    → Reads (read_chain (suc top) (length vs) last) (dump_chain vs ++ r) vs r
unfolding read_chain dump_chain sound_chain
reads_chain top last [] h s = gives
reads_chain top last (v ∷ vs) h s =
    let t = every_all _ s in
    simp append_assoc
    (then _ (reads_version top last v h (ltb-true _ _ t.0, leb-true _ _ t.1.0, t.1.1.0))
    (then _ (reads_chain top v.number vs h t.1.1.1.0) gives))

pub reads_key : {B : Type 0} (last k : Bytes) (f : Bytes → Parser B) {x r : Bytes} {b : B} → is_less (order last k) ≡ true → key_fits k ≡ true
    → Reads (f k) x b r → Reads (read_key last f) (dump_key k x) b r
unfolding fault
reads_key last k f l s g =
    let w = key_parts k s in
    then _ (reads_number count_width _ (length k) (omega arith) (rw (le-ltb (length k) 1 w.0, le-ltb max_key (length k) w.1)))
    (then _ (reads_field (length k) _ k refl (rw (w.2, l))) g)

reads_entry : (top rooms : ℕ) (last : Bytes) (e : Entry) {r : Bytes} → top ≤ last_number → rooms ≤ max_version_rooms → FitEntry top rooms last e
    → Reads (read_entry (suc top) rooms last) (dump_entry e ++ r) e r
unfolding read_entry dump_entry fault
reads_entry top rooms last e h g f =
    let n = length e.chain in
    simp append_assoc
    (reads_key last e.key _ f.0 f.1
    (then _ (reads_number count_width _ n (omega arith) (rw (le-ltb n 1 f.2, le-ltb rooms n f.3)))
    (then _ (reads_chain top 0 e.chain h f.4) gives)))

reads_entries : (top rooms : ℕ) (last : Bytes) (es : List Entry) {r : Bytes} → top ≤ last_number → rooms ≤ max_version_rooms
    → version_count es ≤ rooms → sound_entries last top es ≡ true
    → Reads (read_entries (suc top) (length es) rooms last) (dump_entries es ++ r) es r
unfolding read_entries dump_entries sound_entries version_count
reads_entries top rooms last [] h g c s = gives
reads_entries top rooms last (e ∷ es) h g c s =
    let t = every_all _ s in
    simp append_assoc
    (then _ (reads_entry top rooms last e h g (t.0, t.1.0, leb-true _ _ t.1.1.0, omega arith, t.1.1.1.0))
    (then _ (reads_entries top (rooms - length e.chain) e.key es h (omega arith) (omega arith) t.1.1.1.1.0) gives))

pub reads_end : Reads read_end [] tt []
unfolding read_end
reads_end = record { end = λ at. at; gets = λ at. refl }

-- the dump of a sound hall is accepted and gives that hall, with the counter as its floor
pub reads_hall : (h : Hall) → sound_hall h ≡ true
    → Reads (read_hall h.key_rooms h.version_rooms h.desk_count) (dump_hall h) (with_floor h h.counter) []
unfolding read_hall dump_hall sound_hall sizes_fit fault
reads_hall h s =
    let t = every_all _ s in
    let ks = h.key_rooms in
    let vs = h.version_rooms in
    let next = suc h.counter in
    let n = length h.entries in
    let k = within_le 1 max_key_rooms ks (and_left (within 1 max_key_rooms ks) _ t.0) in
    let v = within_le 1 max_version_rooms vs (and_left (within 1 max_version_rooms vs) _ (and_right (within 1 max_key_rooms ks) _ t.0)) in
    let top : h.counter ≤ last_number = leb-true _ _ t.1.0 in
    let fits : n ≤ ks = leb-true _ _ t.1.1.1.0 in
    let es = reads_entries h.counter vs [] h.entries {r = []} top v.1 (leb-true _ _ t.1.1.1.1.0) t.1.1.0 in
    then _ (reads_field (length magic) _ magic refl (rw (order_refl magic)))
    (then _ (reads_number number_width _ next (omega arith) (rw (le-ltb next 1 (omega arith))))
    (then _ (reads_number count_width _ n (omega arith) (rw (le-ltb ks n fits)))
    (then _ (rw append-nil at es) (then _ reads_end gives))))
