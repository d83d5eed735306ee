-- Keys whose newest version goes: a sweep drops them whole, and no other key.
use Prim.Native.Nat.{ℕ, suc, ◌+◌, ◌-◌, ◌≤◌}
use native.Mathlib.Omega.{arith}
use mathlib.Core.Path.{◌≡◌, refl, sym, ap, ◌∙◌}
use mathlib.Core.Bool.{Bool, true, false, cond}
use mathlib.Core.List.{List, [], ◌∷◌, Memᴰ}
use Rattle.std.specs.Prelude.{Option, None, Some}
use lib.ListN.{length}
use lib.Dec.{ltb}
use borrow.Author.Tests.{le-ltb}
use Rattle.model.specs.Bytes.{Bytes}
use Rattle.model.specs.State.{Version, Chain, Entry, Hall, Writes, is_deletion, is_some, look, newest_of, version_count}
use Rattle.model.specs.Sweeps.{Rule, is_read, is_clear, is_covered, goes, trim, with_chain, trim_all}
use Rattle.model.specs.Journal.{Commit, dump_commit}
use Rattle.model.specs.Calls.{Clashes, refusal, check, new_keys, is_spent, room_checks, commit_as, settle}
use Rattle.model.specs.History.{Rising, is_full}
use Rattle.model.specs.Demands.{is_gone, gone_keys}
use Rattle.model.proofs.Cases.{by_bool, true_false, and_right}
use Rattle.model.proofs.Order.{order_refl}
use Rattle.model_laws.proofs.Chains.{or_else_full}
use Rattle.model_laws.proofs.Trim.{length_trim}
use Rattle.model_laws.proofs.Readers.{Clear, is_clear_lem, clear_is}
use Rattle.model_laws.proofs.Entries.{keys_of, newest_some, count_with}
use Rattle.model_laws.proofs.Keys.{Ascending, NonEmpty, look_tail, look_trim_all, look_mem, asc_trim_all, full_trim_all, new_keys_few}

-- ---- a chain whose newest version goes

newest_next : (v w : Version) (ws : Chain) → newest_of (v ∷ w ∷ ws) ≡ newest_of (w ∷ ws)
unfolding newest_of
newest_next v w ws = or_else_full (newest_of ws) w (Some v)

abbrev pub newest_goes : Rule → (newest : Option Version) → Bool
newest_goes g None = false
newest_goes g (Some v) = g v []

-- what does not go stays, by any rule
pub newest_left : (g : Rule) (v : Version) (vs : Chain) → newest_goes g (newest_of (v ∷ vs)) ≡ false
    → newest_of (trim g (v ∷ vs)) ≡ newest_of (v ∷ vs)
unfolding trim newest_of
newest_left g v [] p = rw p
newest_left g v (w ∷ ws) p =
    let e = newest_next v w ws in
    let i = newest_left g w ws (rw e at p) in
    by_bool (g v (w ∷ ws)) (λ q. rw q (i ∙ sym e)) (λ q. rw (q, i))

module _ (c : ℕ) (ts : List ℕ) where
  last_clear : (v : Version) → goes c ts v [] ≡ true → Clear c ts 0 v.number
  unfolding goes is_covered
  last_clear v p = is_clear_lem c ts 0 v.number (and_right (is_deletion v.payload) (is_clear c ts 0 v.number) p)

  gone_clear : (lo hi : ℕ) (v : Version) (vs : Chain) → Rising lo hi (v ∷ vs)
      → newest_goes (goes c ts) (newest_of (v ∷ vs)) ≡ true → Clear c ts 0 v.number
  unfolding newest_of
  gone_clear lo hi v [] r p = last_clear v p
  gone_clear lo hi v (w ∷ ws) r p =
      let k = gone_clear v.number hi w ws r.1 (rw (newest_next v w ws) at p) in
      (omega (arith, r.1.0, k.0), λ t m l. omega (arith, r.1.0, k.1 t m l))

  next_goes : (v w : Version) (ws : Chain) → Clear c ts 0 w.number → goes c ts v (w ∷ ws) ≡ true
  unfolding goes is_covered
  next_goes v w ws k = rw (clear_is c ts v.number w.number (k.0, λ t m l. k.1 t m (omega arith)))

  -- with its newest version the whole chain goes
  pub chain_gone : (lo hi : ℕ) (l : Chain) → Rising lo hi l → newest_goes (goes c ts) (newest_of l) ≡ true
      → trim (goes c ts) l ≡ []
  unfolding trim newest_of
  chain_gone lo hi [] r p = refl
  chain_gone lo hi (v ∷ []) r p = rw p
  chain_gone lo hi (v ∷ w ∷ ws) r p =
      let q : newest_goes (goes c ts) (newest_of (w ∷ ws)) ≡ true = rw (newest_next v w ws) at p in
      rw (next_goes v w ws (gone_clear v.number hi w ws r.1 q)) (chain_gone v.number hi (w ∷ ws) r.1 q)

-- ---- all keys

-- how many keys one key more is
with_gone : (k : Bytes) (l : Chain) (es : List Entry) → l ≡ [] → length (with_chain k l es) ≡ length es
unfolding with_chain
with_gone k l es e = rw e

with_left : (k : Bytes) (l : Chain) (es : List Entry) → is_some (newest_of l) ≡ true
    → length (with_chain k l es) ≡ suc (length es)
unfolding with_chain newest_of
with_left k [] es e = true_false (sym e)
with_left k (v ∷ vs) es e = refl

left_some : (g : Rule) (l : Chain) → 1 ≤ length l → newest_goes g (newest_of l) ≡ false
    → is_some (newest_of (trim g l)) ≡ true
left_some g [] h p = absurd (omega arith)
left_some g (v ∷ vs) h p = rw (newest_left g v vs p) (newest_some (v ∷ vs) (omega arith))

-- the keys whose newest version goes
unfoldable pub leavers : Rule → List Entry → ℕ
leavers g [] = 0
leavers g (e ∷ es) = cond (newest_goes g (newest_of e.chain)) 1 0 + leavers g es

gone_goes : (c : ℕ) (o : Option Version) → is_gone c o ≡ newest_goes (goes c []) o
unfolding goes is_covered is_clear is_read
gone_goes c None = refl
gone_goes c (Some v) = refl

gone_leavers : (c : ℕ) (es : List Entry) → gone_keys c es ≡ leavers (goes c []) es
unfolding gone_keys leavers
gone_leavers c [] = refl
gone_leavers c (e ∷ es) = rw (gone_goes c (newest_of e.chain), gone_leavers c es)

module _ (c : ℕ) (ts : List ℕ) (hi : ℕ) where
  abbrev pub Rise : List Entry → Type 0
  Rise es = (k : Bytes) → Rising 0 hi (look k es)

  pub rise_head : (e : Entry) (es : List Entry) → Rise (e ∷ es) → Rising 0 hi e.chain
  unfolding look
  rise_head e es r = rw (order_refl e.key) at (r e.key)

  pub rise_tail : (e : Entry) (es : List Entry) → Ascending e.key (keys_of es) → Rise (e ∷ es) → Rise es
  rise_tail e es a r = look_tail (λ l. Rising 0 hi l) (omega arith) e es a r

  -- each of them frees its key room, and no other does
  pub leavers_keys : (last : Bytes) (es : List Entry) → Ascending last (keys_of es) → NonEmpty es → Rise es
      → leavers (goes c ts) es + length (trim_all (goes c ts) es) ≡ length es
  unfolding leavers trim_all keys_of
  leavers_keys last [] a n r = refl
  leavers_keys last (e ∷ es) a n r =
      let i = leavers_keys e.key es a.2 n.1 (rise_tail e es a.2 r) in
      let l = trim (goes c ts) e.chain in
      let fs = trim_all (goes c ts) es in
      by_bool (newest_goes (goes c ts) (newest_of e.chain))
      (λ p. rw p (omega (arith, i, with_gone e.key l fs (chain_gone c ts 0 hi e.chain (rise_head e es r) p))))
      (λ p. rw p (omega (arith, i, with_left e.key l fs (left_some (goes c ts) e.chain n.0 p))))

  -- and a version room at least
  pub leavers_versions : (last : Bytes) (es : List Entry) → Ascending last (keys_of es) → NonEmpty es → Rise es
      → leavers (goes c ts) es + version_count (trim_all (goes c ts) es) ≤ version_count es
  unfolding leavers trim_all keys_of version_count
  leavers_versions last [] a n r = omega arith
  leavers_versions last (e ∷ es) a n r =
      let i = leavers_versions e.key es a.2 n.1 (rise_tail e es a.2 r) in
      let l = trim (goes c ts) e.chain in
      let w = count_with e.key l (trim_all (goes c ts) es) in
      by_bool (newest_goes (goes c ts) (newest_of e.chain))
      (λ p.
      let z : length l ≡ 0 = ap length (chain_gone c ts 0 hi e.chain (rise_head e es r) p) in
      rw (p, w) (omega (arith, i, z, n.0)))
      (λ p. rw (p, w) (omega (arith, i, length_trim (goes c ts) e.chain)))

  -- none of them is held
  pub leavers_left : (es : List Entry) → Ascending [] (keys_of es) → NonEmpty es → Rise es
      → (e : Entry) → Memᴰ e (trim_all (goes c ts) es)
      → newest_goes (goes c ts) (newest_of (look e.key es)) ≡ false
  leavers_left es a n r e m =
      let g = goes c ts in
      let f = look_mem [] (trim_all g es) (asc_trim_all [] g es a) (full_trim_all g es) e m in
      let q = sym f.0 ∙ look_trim_all e.key g [] es a in
      by_bool (newest_goes g (newest_of (look e.key es)))
      (λ p. absurd (omega (arith, f.1, ap length (q ∙ chain_gone c ts 0 hi (look e.key es) (r e.key) p))))
      (λ p. p)

-- ---- the sweep at a cutoff

module _ (c hi : ℕ) (es : List Entry) (a : Ascending [] (keys_of es)) (n : NonEmpty es) (r : Rise c [] hi es) where
  pub keys_back : gone_keys c es + length (trim_all (goes c []) es) ≡ length es
  keys_back = rw (gone_leavers c es) (leavers_keys c [] hi [] es a n r)

  pub versions_back : gone_keys c es + version_count (trim_all (goes c []) es) ≤ version_count es
  versions_back = rw (gone_leavers c es) (leavers_versions c [] hi [] es a n r)

  pub gone_left : (e : Entry) → Memᴰ e (trim_all (goes c []) es) → is_gone c (newest_of (look e.key es)) ≡ false
  gone_left e m = gone_goes c (newest_of (look e.key es)) ∙ leavers_left c [] hi es a n r e m

-- a commit that fits is not refused for room
pub room_enough : (h : Hall) (j : Option ℕ) (t : ℕ) (ws : Writes) (l : Clashes)
    → length ws ≤ h.key_rooms - length h.entries → length ws ≤ h.version_rooms - version_count h.entries
    → is_full (settle h j t ws l).answer ≡ false
unfolding settle room_checks check is_full refusal
room_enough h j t [] l k v = refl
room_enough h j t (w ∷ ws) (c ∷ l) k v = refl
room_enough h j t (w ∷ ws) [] k v =
    let n = new_keys (w ∷ ws) h.entries in
    let few : n ≤ h.key_rooms - length h.entries = omega (arith, new_keys_few (w ∷ ws) h.entries) in
    by_bool (is_spent h)
    (λ p. rw p)
    (λ p. rw (p, le-ltb (h.key_rooms - length h.entries) n few, le-ltb _ (length (w ∷ ws)) v)
    (short j (record { number = suc h.counter; writes = w ∷ ws })))
  where
    -- a short output is no lack of room
    short : (j : Option ℕ) (c : Commit) → is_full (commit_as j t c).answer ≡ false
    short None c = refl
    short (Some room) c = by_bool (ltb room (length (dump_commit c))) (λ p. rw p) (λ p. rw p)
