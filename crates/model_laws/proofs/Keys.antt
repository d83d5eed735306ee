-- Entries whose keys ascend: what they hold of a key after a change, and how many keys there are.
use Rattle.std.specs.declared.cmp.Ordering.TheVariants.{Less, Equal, Greater}
use Prim.Native.Nat.{ℕ, suc, ◌+◌, ◌≤◌}
use native.Mathlib.Nat.{le_refl}
use native.Mathlib.Omega.{arith}
use mathlib.Core.Path.{◌≡◌, refl, sym, ap, ◌∙◌}
use mathlib.Core.Logic.{◌⊎◌, inl, inr, ⊎_elim}
use mathlib.Core.Bool.{true, cond}
use mathlib.Core.List.Memᴰ
use mathlib.Core.List.{List, [], ◌∷◌, append-nil, Memᴰ}
use Rattle.std.specs.Prelude.{Option, None, Some}
use lib.ListN.{length, length-append}
use Rattle.model.specs.Bytes.{Bytes, order, pick}
use Rattle.model.specs.State.{Version, Chain, Entry, Writes, or_else, is_some, look, newest_of, written_keys, add, publish}
use Rattle.model.specs.Sweeps.{Rule, trim, with_chain, trim_all}
use Rattle.model.specs.Sound.{key_fits}
use Rattle.model.specs.Calls.{new_keys}
use Rattle.model.proofs.Cases.{by_bool, by_order, true_false, lt_eq}
use Rattle.model.proofs.Order.{order_refl, order_eq, order_trans, order_flip}
use Rattle.model_laws.proofs.Chains.{newest_append}
use Rattle.model_laws.proofs.Entries.{at, made, look_add, look_publish, SoundWrites, writes_after, keys_of, insert_key, insert_keys, keys_publish, newest_some}

-- good keys that strictly ascend, all after `last`
abbrev pub Ascending : Bytes → List Bytes → Type 0
Ascending last [] = Unit {0}
Ascending last (k ∷ ks) = (order last k ≡ Less) × (key_fits k ≡ true) × Ascending k ks

-- each key has a version
abbrev pub NonEmpty : List Entry → Type 0
NonEmpty [] = Unit {0}
NonEmpty (e ∷ es) = (1 ≤ length e.chain) × NonEmpty es

-- key k has a version
abbrev pub Has : Bytes → List Entry → Type 0
Has k es = is_some (newest_of (look k es)) ≡ true

-- ---- keys ascend after a publish, and after a sweep

pub after_nil : (k : Bytes) → key_fits k ≡ true → order [] k ≡ Less
unfolding order key_fits
after_nil [] g = true_false (sym g)
after_nil (x ∷ k) g = refl

asc_insert : (last k : Bytes) (ks : List Bytes) → order last k ≡ Less → key_fits k ≡ true → Ascending last ks
    → Ascending last (insert_key k ks)
unfolding insert_key
asc_insert last k [] h g a = (h, g, tt)
asc_insert last k (j ∷ js) h g a =
    by_order (order k j)
    (λ q. rw q (h, g, (q, a.1, a.2)))
    (λ q. rw q a)
    (λ q. rw q (a.0, a.1, asc_insert j k js (order_flip k j q) g a.2))

asc_inserts : (last : Bytes) (ws : Writes) (ks : List Bytes) → SoundWrites last ws → Ascending [] ks
    → Ascending [] (insert_keys ws ks)
unfolding insert_keys
asc_inserts last [] ks g a = a
asc_inserts last (w ∷ ws) ks g a =
    asc_inserts w.key ws _ g.3 (asc_insert [] w.key ks (after_nil w.key g.1) g.1 a)

pub asc_publish : (n : ℕ) (ws : Writes) (es : List Entry) → SoundWrites [] ws → Ascending [] (keys_of es)
    → Ascending [] (keys_of (publish n ws es))
asc_publish n ws es w a = rw (keys_publish n ws es) (asc_inserts [] ws _ w a)

pub asc_after : (j k : Bytes) (ks : List Bytes) → order j k ≡ Less → Ascending k ks → Ascending j ks
asc_after j k [] h a = a
asc_after j k (i ∷ ks) h a = (order_trans j k i h a.0, a.1, a.2)

pub asc_written : (last : Bytes) (ws : Writes) → SoundWrites last ws → Ascending last (written_keys ws)
asc_written last [] s = tt
asc_written last (w ∷ ws) s = (s.0, s.1, asc_written w.key ws s.3)

asc_with : (last k : Bytes) (l : Chain) (es : List Entry) → order last k ≡ Less → key_fits k ≡ true
    → Ascending k (keys_of es) → Ascending last (keys_of (with_chain k l es))
unfolding with_chain keys_of
asc_with last k [] es h g a = asc_after last k (keys_of es) h a
asc_with last k (v ∷ vs) es h g a = (h, g, a)

pub asc_trim_all : (last : Bytes) (g : Rule) (es : List Entry) → Ascending last (keys_of es)
    → Ascending last (keys_of (trim_all g es))
unfolding trim_all keys_of
asc_trim_all last g [] a = a
asc_trim_all last g (e ∷ es) a =
    asc_with last e.key (trim g e.chain) (trim_all g es) a.0 a.1 (asc_trim_all e.key g es a.2)

-- ---- what they hold of a key

pub look_none : (k last : Bytes) (es : List Entry) → order k last ≡ Less ⊎ (k ≡ last)
    → Ascending last (keys_of es) → look k es ≡ []
unfolding look keys_of
look_none k last [] h a = refl
look_none k last (e ∷ es) (inl q) a = rw (order_trans k last e.key q a.0)
look_none k last (e ∷ es) (inr q) a = rw (q, a.0)

pub look_tail : (P : Chain → Type 0) → P [] → (e : Entry) (es : List Entry) → Ascending e.key (keys_of es)
    → ((k : Bytes) → P (look k (e ∷ es))) → (k : Bytes) → P (look k es)
unfolding look
look_tail P z e es a h k =
    by_order (order k e.key)
    (λ q. rw (look_none k e.key es (inl q) a) z)
    (λ q. rw (look_none k e.key es (inr (order_eq k e.key q)) a) z)
    (λ q. rw q at (h k))

look_with : (k j : Bytes) (l : Chain) (es : List Entry) → Ascending j (keys_of es)
    → look k (with_chain j l es) ≡ pick (order k j) [] l (look k es)
unfolding look with_chain
look_with k j [] es a =
    by_order (order k j)
    (λ q. rw q (look_none k j es (inl q) a))
    (λ q. rw q (look_none k j es (inr (order_eq k j q)) a))
    (λ q. rw q)
look_with k j (v ∷ vs) es a = refl

pub look_trim_all : (k : Bytes) (g : Rule) (last : Bytes) (es : List Entry) → Ascending last (keys_of es)
    → look k (trim_all g es) ≡ trim g (look k es)
unfolding look trim_all trim keys_of
look_trim_all k g last [] a = refl
look_trim_all k g last (e ∷ es) a =
    look_with k e.key (trim g e.chain) (trim_all g es) (asc_trim_all e.key g es a.2)
    ∙ by_order (order k e.key) (λ q. rw q) (λ q. rw q) (λ q. rw q (look_trim_all k g e.key es a.2))

-- the keys of entries after j come after j
has_after : (k j : Bytes) (es : List Entry) → Ascending j (keys_of es) → Has k es → order k j ≡ Greater
unfolding newest_of
has_after k j es a h =
    by_order (order k j)
    (λ q. true_false (sym (rw (look_none k j es (inl q) a) at h)))
    (λ q. true_false (sym (rw (look_none k j es (inr (order_eq k j q)) a) at h)))
    (λ q. q)

-- an entry is what they hold of its key
pub look_mem : (last : Bytes) (es : List Entry) → Ascending last (keys_of es) → NonEmpty es
    → (e : Entry) → Memᴰ e es → (look e.key es ≡ e.chain) × (1 ≤ length e.chain)
unfolding look keys_of
look_mem last [] a n e m = absurd (Memᴰ.not-nil m)
look_mem last (x ∷ es) a n e m =
    ⊎_elim
    (λ q.
    let o : order e.key x.key ≡ Equal = rw q (order_refl x.key) in
    let l : e.chain ≡ x.chain = ap (λ (y : Entry). y.chain) q in
    rw o (sym l, rw l n.0))
    (λ r.
    let i = look_mem x.key es a.2 n.1 e r in
    let h : Has e.key es = rw i.0 (newest_some e.chain i.1) in
    rw (has_after e.key x.key es a.2 h) i)
    (Memᴰ.cases_cons m)

-- ---- how many keys

full_add : (k : Bytes) (v : Version) (es : List Entry) → NonEmpty es → NonEmpty (add k v es)
unfolding add
full_add k v [] h = (omega arith, tt)
full_add k v (e ∷ es) h =
    by_order (order k e.key)
    (λ q. rw q (omega arith, h))
    (λ q. rw q (rw (length-append e.chain (v ∷ [])) (omega arith), h.1))
    (λ q. rw q (h.0, full_add k v es h.1))

pub full_publish : (n : ℕ) (ws : Writes) (es : List Entry) → NonEmpty es → NonEmpty (publish n ws es)
unfolding publish
full_publish n [] es h = h
full_publish n (w ∷ ws) es h = full_publish n ws _ (full_add _ _ es h)

-- a key takes a key room exactly if it has no version
length_add : (k : Bytes) (v : Version) (es : List Entry) → NonEmpty es
    → length (add k v es) ≡ length es + cond (is_some (newest_of (look k es))) 0 1
unfolding add look newest_of
length_add k v [] f = refl
length_add k v (e ∷ es) f =
    by_order (order k e.key)
    (λ q. rw q (omega arith))
    (λ q. rw (q, newest_some e.chain f.0) (omega arith))
    (λ q. rw q (omega (arith, length_add k v es f.1)))

-- the later writes are of other keys
new_keys_add : (j : Bytes) (v : Version) (ws : Writes) (es : List Entry) → SoundWrites j ws
    → new_keys ws (add j v es) ≡ new_keys ws es
unfolding new_keys
new_keys_add j v [] es s = refl
new_keys_add j v (w ∷ ws) es s =
    let other : at w.key j (v ∷ []) ≡ [] =
    by_order (order w.key j)
    (λ q. rw q)
    (λ q. lt_eq (sym (rw (order_eq w.key j q) at s.0) ∙ order_refl j))
    (λ q. rw q) in
    rw (
      look_add w.key j v es,
      other,
      append-nil (look w.key es),
      new_keys_add j v ws es (writes_after j w.key ws s.0 s.3),
    )

pub new_keys_few : (ws : Writes) (es : List Entry) → new_keys ws es ≤ length ws
unfolding new_keys
new_keys_few [] es = le_refl _
new_keys_few (w ∷ ws) es =
    let i = new_keys_few ws es in
    by_bool (is_some (newest_of (look w.key es))) (λ p. rw p (omega arith)) (λ p. rw p (omega arith))

-- a publish takes the key rooms that were counted
pub length_publish : (n : ℕ) (last : Bytes) (ws : Writes) (es : List Entry) → SoundWrites last ws → NonEmpty es
    → length (publish n ws es) ≡ length es + new_keys ws es
unfolding publish new_keys
length_publish n last [] es s f = omega arith
length_publish n last (w ∷ ws) es s f =
    let v : Version = record { number = n; payload = w.payload } in
    let e = length_publish n w.key ws (add w.key v es) s.3 (full_add w.key v es f) in
    let k = new_keys_add w.key v ws es s.3 in
    let a = length_add w.key v es f in
    by_bool (is_some (newest_of (look w.key es)))
    (λ p. rw p (omega (arith, e, k, rw p at a)))
    (λ p. rw p (omega (arith, e, k, rw p at a)))

full_with : (k : Bytes) (l : Chain) (es : List Entry) → NonEmpty es → NonEmpty (with_chain k l es)
unfolding with_chain
full_with k [] es h = h
full_with k (v ∷ vs) es h = (omega arith, h)

pub full_trim_all : (g : Rule) (es : List Entry) → NonEmpty (trim_all g es)
unfolding trim_all
full_trim_all g [] = tt
full_trim_all g (e ∷ es) = full_with e.key (trim g e.chain) (trim_all g es) (full_trim_all g es)

length_with : (k : Bytes) (l : Chain) (es : List Entry) → length (with_chain k l es) ≤ suc (length es)
unfolding with_chain
length_with k [] es = omega arith
length_with k (v ∷ vs) es = le_refl _

pub length_trim_all : (g : Rule) (es : List Entry) → length (trim_all g es) ≤ length es
unfolding trim_all
length_trim_all g [] = le_refl _
length_trim_all g (e ∷ es) =
    omega (arith, length_with e.key (trim g e.chain) (trim_all g es), length_trim_all g es)

-- ---- entries es whose keys others, fs, have too

-- they are no more than those
fewer_keys : (last last' : Bytes) (es fs : List Entry) → Ascending last (keys_of es) → Ascending last' (keys_of fs)
    → NonEmpty es → ((k : Bytes) → Has k es → Has k fs) → length es ≤ length fs
unfolding look newest_of keys_of
fewer_keys last last' [] fs a b n h = omega arith
fewer_keys last last' (e ∷ es) [] a b n h =
    true_false (sym (h e.key (rw (order_refl e.key) (newest_some e.chain n.0))))
fewer_keys last last' (e ∷ es) (f ∷ fs) a b n h =
    by_order (order e.key f.key)
    (λ q. true_false (sym (rw q at (h e.key (rw (order_refl e.key) (newest_some e.chain n.0))))))
    (λ q.
    let g : Ascending f.key (keys_of es) = rw (← order_eq e.key f.key q) a.2 in
    omega (
      arith,
      fewer_keys e.key f.key es fs a.2 b.2 n.1
          (λ k p. rw (has_after k f.key es g p) at (h k (rw (has_after k e.key es a.2 p) p))),
    ))
    (λ q. omega (
      arith,
      fewer_keys last f.key (e ∷ es) fs a b.2 n
          (λ k p. rw (has_after k f.key (e ∷ es) (order_flip e.key f.key q, a.1, a.2) p) at (h k p)),
    ))

has_or_else : (a b b' : Option Version) → (is_some b ≡ true → is_some b' ≡ true) → is_some (or_else a b) ≡ true
    → is_some (or_else a b') ≡ true
has_or_else None b b' f = f
has_or_else (Some v) b b' f = λ e. e

pub has_publish : (n : ℕ) (ws : Writes) (es fs : List Entry) → ((k : Bytes) → Has k es → Has k fs)
    → (k : Bytes) → Has k (publish n ws es) → Has k (publish n ws fs)
has_publish n ws es fs f k =
    rw (look_publish k n ws es, look_publish k n ws fs, newest_append (look k es), newest_append (look k fs))
    (has_or_else (newest_of (made k n ws)) _ _ (f k))

-- and with the writes ws they need no more key rooms than those
pub fewer_rooms : (ws : Writes) (es fs : List Entry) → SoundWrites [] ws → Ascending [] (keys_of es)
    → Ascending [] (keys_of fs) → NonEmpty es → NonEmpty fs → ((k : Bytes) → Has k es → Has k fs)
    → length es + new_keys ws es ≤ length fs + new_keys ws fs
fewer_rooms ws es fs w a b f g h =
    omega (
      arith,
      length_publish 0 [] ws es w f,
      length_publish 0 [] ws fs w g,
      fewer_keys [] [] (publish 0 ws es) (publish 0 ws fs) (asc_publish 0 ws es w a) (asc_publish 0 ws fs w b)
          (full_publish 0 ws es f) (has_publish 0 ws es fs h),
    )
