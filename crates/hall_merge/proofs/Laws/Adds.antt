-- Ascending writes: published from the last to the first, and those of known keys before those of new ones.
-- Assumes nothing.
use mathlib.Core.Path.{◌≡◌, refl, sym, ap, ◌∙◌}
use mathlib.Core.Bool.{Bool, not}
use mathlib.Core.List.{List, [], ◌∷◌}
use Rattle.std.specs.declared.cmp.Ordering.TheVariants.{Less, Equal, Greater}
use Prim.Native.Nat.{ℕ, suc}
use Rattle.model.specs.Bytes.{Bytes, order, pick}
use Rattle.model.specs.State.{Version, Entry, Write, Writes, add, publish}
use Rattle.model.proofs.Cases.{by_bool, by_order, zero_one}
use Rattle.model.proofs.Order.{order_refl, order_eq, order_trans}
use Rattle.model_laws.proofs.Entries.{SoundWrites, keys_of}
use Rattle.memory.specs.Rows.{Each}
use Rattle.cells.specs.Rows.{place_of}
use Rattle.hall_merge.specs.Merge.{version_of, adds}

-- ---- orders

pub order_back : (a b : Bytes) → order a b ≡ Less → order b a ≡ Greater
order_back a b h =
    by_order (order b a)
    (λ o. zero_one (cc (order_trans a b a h o, order_refl a)))
    (λ o. zero_one (cc (order_eq b a o, order_refl b)))
    (λ o. o)

-- k is above x, or x itself, and below j
pub order_over : (j k x : Bytes) → order k j ≡ Less → order k x ≡ Greater → order j x ≡ Greater
order_over j k x h g =
    by_order (order j x)
    (λ o. zero_one (cc (order_trans k j x h o)))
    (λ o. zero_one (cc (order_eq j x o)))
    (λ o. o)

pub order_past : (j k x : Bytes) → order k j ≡ Less → order k x ≡ Equal → order j x ≡ Greater
order_past j k x h g = rw (← order_eq k x g) (order_back k j h)

-- key k is below each of the writes
abbrev pub Under : Bytes → Writes → Type 0
Under k ws = Each (λ (w : Write). order k w.key ≡ Less) ws

pub under : (k : Bytes) (ws : Writes) → SoundWrites k ws → Under k ws
under k [] s = tt
under k (w ∷ ws) s = (s.0, lower k w.key ws s.0 (under w.key ws s.3))
  where
    lower : (k j : Bytes) (ws : Writes) → order k j ≡ Less → Under j ws → Under k ws
    lower k j [] o u = tt
    lower k j (w ∷ ws) o u = (order_trans k j w.key o u.0, lower k j ws o u.1)

-- ---- two keys added

module _ (k j : Bytes) (v u : Version) (o : order k j ≡ Less) where
  swap : (es : List Entry) → add k v (add j u es) ≡ add j u (add k v es)
  unfolding add
  swap [] = rw (o, order_back k j o)
  swap (e ∷ es) =
      by_order (order k e.key)
      (λ p.
      by_order (order j e.key)
      (λ q. rw (p, q, o, order_back k j o))
      (λ q. rw (p, q, p, order_back k j o))
      (λ q. rw (p, q, p, order_back k j o)))
      (λ p. rw (order_past j k e.key o p, p, order_past j k e.key o p))
      (λ p. rw (order_over j k e.key o p, p, order_over j k e.key o p, swap es))

  pub place_add : (i : ℕ) (es : List Entry) → place_of k i (keys_of (add j u es)) ≡ place_of k i (keys_of es)
  unfolding add place_of keys_of
  place_add i [] = rw o
  place_add i (e ∷ es) =
      by_order (order j e.key)
      (λ q. rw (q, o, order_trans k j e.key o q))
      (λ q. rw q)
      (λ q. rw q (ap (pick (order k e.key) _ _) (place_add (suc i) es)))

module _ (f : Write → Bool) (x : ℕ) where
  pub add_adds : (k : Bytes) (v : Version) (ws : Writes) (es : List Entry) → Under k ws → add k v (adds f x ws es) ≡ adds f x ws (add k v es)
  unfolding adds
  add_adds k v [] es u = refl
  add_adds k v (w ∷ ws) es u =
      by_bool (f w)
      (λ p. rw p (swap k w.key v (version_of x w) u.0 (adds f x ws es) ∙ ap (add w.key (version_of x w)) (add_adds k v ws es u.1)))
      (λ p. rw p (add_adds k v ws es u.1))

  pub place_adds : (k : Bytes) (ws : Writes) (es : List Entry) → Under k ws → place_of k 0 (keys_of (adds f x ws es)) ≡ place_of k 0 (keys_of es)
  unfolding adds
  place_adds k [] es u = refl
  place_adds k (w ∷ ws) es u =
      by_bool (f w)
      (λ p. rw p (place_add k w.key (version_of x w) (version_of x w) u.0 0 (adds f x ws es) ∙ place_adds k ws es u.1))
      (λ p. rw p (place_adds k ws es u.1))

-- those of which f holds first
pub publish_adds : (f : Write → Bool) (x : ℕ) (last : Bytes) (ws : Writes) (es : List Entry) → SoundWrites last ws
    → publish x ws es ≡ adds (λ w. not (f w)) x ws (adds f x ws es)
unfolding publish adds
publish_adds f x last [] es s = refl
publish_adds f x last (w ∷ ws) es s =
    let g : Write → Bool = λ w. not (f w) in
    let u = under w.key ws s.3 in
    let v : Version = version_of x w in
    publish_adds f x w.key ws (add w.key v es) s.3 ∙ ap (adds g x ws) (sym (add_adds f x w.key v ws es u))
    ∙ by_bool (f w) (λ p. rw p) (λ p. rw p (sym (add_adds g x w.key v ws (adds f x ws es) u)))
