-- Entries: each key's chain, the keys and the counts after a publish, and the counts after a sweep.
use Rattle.std.specs.declared.cmp.Ordering.TheVariants.{Less}
use Prim.Native.Nat.{ℕ, suc, ◌+◌, ◌≤◌, ◌<◌}
use native.Mathlib.Nat.{le_refl}
use native.Mathlib.Omega.{arith}
use mathlib.Core.Path.{◌≡◌, refl, sym, ap, ◌∙◌}
use mathlib.Core.Bool.{true}
use mathlib.Core.List.{List, [], ◌∷◌, ◌++◌, map, append_assoc, append-nil}
use Rattle.std.specs.Prelude.{Option, None, Some}
use lib.ListN.{length, length-append, length-map}
use borrow.Author.Tests.{lt-leb}
use Rattle.model.specs.Bytes.{Bytes, order, pick, is_same}
use Rattle.model.specs.State.{Payload, Version, Chain, Entry, Writes, or_else, given, is_some, look, visible, newest_of, version_count, find, put_write, add, publish}
use Rattle.model.specs.Sweeps.{Rule, trim, with_chain, trim_all}
use Rattle.model.specs.Sound.{key_fits, sound_payload}
use Rattle.model.specs.History.{stamp}
use Rattle.model.proofs.Cases.{by_order}
use Rattle.model.proofs.Order.{order_eq, order_trans, order_flip}
use Rattle.model_laws.proofs.Trim.{length_trim}

-- ---- each key's chain

-- at key k: the list l where j is k, nothing elsewhere
abbrev pub at {ℓ} : {A : Type ℓ} → Bytes → Bytes → List A → List A
at k j l = pick (order k j) [] l []

pub look_add : (k j : Bytes) (v : Version) (es : List Entry) → look k (add j v es) ≡ look k es ++ at k j (v ∷ [])
unfolding look add
look_add k j v [] = refl
look_add k j v (e ∷ es) =
    by_order (order j e.key)
    (λ p. by_order (order k j)
    (λ q. rw (p, q, order_trans k j e.key q p))
    (λ q. rw (p, q, ap (λ x. order x e.key) (order_eq k j q) ∙ p))
    (λ q. rw (p, q) (sym (append-nil _))))
    (λ p. by_order (order k e.key)
    (λ q. rw (p, order_eq j e.key p, q))
    (λ q. rw (p, order_eq j e.key p, q))
    (λ q. rw (p, order_eq j e.key p, q) (sym (append-nil _))))
    (λ p. by_order (order k e.key)
    (λ q. rw (p, q, order_trans k e.key j q (order_flip j e.key p)))
    (λ q. rw (p, q, ap (λ x. order x j) (order_eq k e.key q) ∙ order_flip j e.key p) (sym (append-nil _)))
    (λ q. rw (p, q) (look_add k j v es)))

-- the versions that the writes ws make of key k under number n
unfoldable pub made : Bytes → ℕ → Writes → Chain
made k n [] = []
made k n (w ∷ ws) = at k w.key (record { number = n; payload = w.payload } ∷ []) ++ made k n ws

pub look_publish : (k : Bytes) (n : ℕ) (ws : Writes) (es : List Entry) → look k (publish n ws es) ≡ look k es ++ made k n ws
unfolding publish made
look_publish k n [] es = sym (append-nil _)
look_publish k n (w ∷ ws) es = rw (look_publish k n ws, look_add) (append_assoc (look k es) _ _)

-- what is published is above every start before it
pub visible_made : (t : ℕ) (k : Bytes) (n : ℕ) (ws : Writes) → t < n → visible t (made k n ws) ≡ None
unfolding visible made
visible_made t k n [] h = refl
visible_made t k n (w ∷ ws) h =
    by_order (order k w.key)
    (λ p. rw p (visible_made t k n ws h))
    (λ p. rw (p, lt-leb n t h, visible_made t k n ws h))
    (λ p. rw p (visible_made t k n ws h))

-- ---- sound writes make at most one version of a key

-- sound writes that strictly ascend by key, all after `last`
abbrev pub SoundWrites : (last : Bytes) → Writes → Type 0
SoundWrites last [] = Unit {0}
SoundWrites last (w ∷ ws) =
    (order last w.key ≡ Less) × (key_fits w.key ≡ true) × (sound_payload w.payload ≡ true) × SoundWrites w.key ws

pub writes_after : (j k : Bytes) (ws : Writes) → order j k ≡ Less → SoundWrites k ws → SoundWrites j ws
writes_after j k [] h s = tt
writes_after j k (w ∷ ws) h s = (order_trans j k w.key h s.0, s.1, s.2, s.3)

pub writes_put : (last k : Bytes) (p : Payload) (ws : Writes) → order last k ≡ Less → key_fits k ≡ true → sound_payload p ≡ true
    → SoundWrites last ws → SoundWrites last (put_write k p ws)
unfolding put_write
writes_put last k p [] h a b s = (h, a, b, tt)
writes_put last k p (w ∷ ws) h a b s =
    by_order (order k w.key)
    (λ q. rw q (h, a, b, (q, s.1, s.2, s.3)))
    (λ q. rw q (h, a, b, rw (← order_eq k w.key q) at s.3))
    (λ q. rw q (s.0, s.1, s.2, writes_put w.key k p ws (order_flip k w.key q) a b s.3))

made_none : (k : Bytes) (n : ℕ) (ws : Writes) → SoundWrites k ws → made k n ws ≡ []
unfolding made
made_none k n [] s = refl
made_none k n (w ∷ ws) s = rw s.0 (made_none k n ws (writes_after k w.key ws s.0 s.3))

pub made_find : (k : Bytes) (n : ℕ) (last : Bytes) (ws : Writes) → SoundWrites last ws → made k n ws ≡ stamp (Some n) (find k ws)
unfolding made find stamp
made_find k n last [] s = refl
made_find k n last (w ∷ ws) s =
    by_order (order k w.key)
    (λ q. rw q (made_none k n ws (writes_after k w.key ws q s.3)))
    (λ q. rw (q, made_none k n ws (rw (← order_eq k w.key q) at s.3)))
    (λ q. rw q (made_find k n w.key ws s.3))

pub find_none : (k : Bytes) (ws : Writes) → SoundWrites k ws → find k ws ≡ None
unfolding find
find_none k [] s = refl
find_none k (w ∷ ws) s = rw s.0

-- a write is found under its key, and leaves the others as they were
pub find_put : (k j : Bytes) (p : Payload) (ws : Writes) → find k (put_write j p ws) ≡ or_else (given (is_same (order k j)) p) (find k ws)
unfolding find put_write
find_put k j p [] = by_order (order k j) (λ q. rw q) (λ q. rw q) (λ q. rw q)
find_put k j p (w ∷ ws) =
    by_order (order j w.key)
    (λ a. by_order (order k j)
    (λ q. rw (a, q, order_trans k j w.key q a))
    (λ q. rw (a, q))
    (λ q. rw (a, q)))
    (λ a. by_order (order k w.key)
    (λ q. rw (a, order_eq j w.key a, q))
    (λ q. rw (a, order_eq j w.key a, q))
    (λ q. rw (a, order_eq j w.key a, q)))
    (λ a. by_order (order k w.key)
    (λ q. rw (a, q, order_trans k w.key j q (order_flip j w.key a)))
    (λ q. rw (a, q, ap (λ x. order x j) (order_eq k w.key q) ∙ order_flip j w.key a))
    (λ q. rw (a, q) (find_put k j p ws)))

-- ---- keys

unfoldable pub keys_of : List Entry → List Bytes
keys_of es = map (λ (e : Entry). e.key) es

unfoldable pub insert_key : Bytes → List Bytes → List Bytes
insert_key k [] = k ∷ []
insert_key k (j ∷ js) = pick (order k j) (k ∷ j ∷ js) (j ∷ js) (j ∷ insert_key k js)

unfoldable pub insert_keys : Writes → List Bytes → List Bytes
insert_keys [] ks = ks
insert_keys (w ∷ ws) ks = insert_keys ws (insert_key w.key ks)

keys_add : (k : Bytes) (v : Version) (es : List Entry) → keys_of (add k v es) ≡ insert_key k (keys_of es)
unfolding keys_of add insert_key
keys_add k v [] = refl
keys_add k v (e ∷ es) =
    by_order (order k e.key) (λ q. rw q) (λ q. rw q) (λ q. rw q (ap (λ r. e.key ∷ r) (keys_add k v es)))

pub keys_publish : (n : ℕ) (ws : Writes) (es : List Entry) → keys_of (publish n ws es) ≡ insert_keys ws (keys_of es)
unfolding publish insert_keys
keys_publish n [] es = refl
keys_publish n (w ∷ ws) es = rw (keys_publish n ws, keys_add)

pub length_keys : (es : List Entry) → length (keys_of es) ≡ length es
unfolding keys_of
length_keys es = length-map es _

-- ---- counts

pub count_add : (k : Bytes) (v : Version) (es : List Entry) → version_count (add k v es) ≡ suc (version_count es)
unfolding version_count add
count_add k v [] = refl
count_add k v (e ∷ es) =
    by_order (order k e.key)
    (λ q. rw q (omega arith))
    (λ q. rw (q, length-append) (omega arith))
    (λ q. rw (q, count_add k v es) (omega arith))

pub count_publish : (n : ℕ) (ws : Writes) (es : List Entry) → version_count (publish n ws es) ≡ version_count es + length ws
unfolding publish
count_publish n [] es = omega arith
count_publish n (w ∷ ws) es = rw (count_publish n ws, count_add) (omega arith)

some_stays : (a b : Option Version) → is_some a ≡ true → is_some (or_else b a) ≡ true
some_stays a None h = h
some_stays a (Some v) h = refl

pub newest_some : (l : Chain) → 1 ≤ length l → is_some (newest_of l) ≡ true
unfolding newest_of
newest_some [] h = absurd (omega arith)
newest_some (v ∷ l) h = some_stays (Some v) (newest_of l) refl

-- ---- what a rule leaves

pub count_with : (k : Bytes) (l : Chain) (es : List Entry)
    → version_count (with_chain k l es) ≡ length l + version_count es
unfolding version_count with_chain
count_with k [] es = omega arith
count_with k (v ∷ vs) es = refl

pub count_trim_all : (g : Rule) (es : List Entry) → version_count (trim_all g es) ≤ version_count es
unfolding version_count trim_all
count_trim_all g [] = le_refl _
count_trim_all g (e ∷ es) =
    rw (count_with e.key (trim g e.chain) (trim_all g es))
    (omega (arith, length_trim g e.chain, count_trim_all g es))
