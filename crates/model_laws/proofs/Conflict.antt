-- A commit is refused for conflict exactly if a key it writes has a version above its start; all such keys are listed.
use Rattle.std.specs.declared.cmp.Ordering.TheVariants.{Less, Equal}
use Prim.Native.Nat.{ℕ}
use mathlib.Core.Path.{◌≡◌, refl, sym, ap, ◌∙◌}
use mathlib.Core.Logic.{⊎_elim}
use mathlib.Core.Bool.{true}
use mathlib.Core.List.{List, [], ◌∷◌, Memᴰ}
use Rattle.std.specs.Prelude.{Option, Some}
use Rattle.model.specs.Bytes.{Bytes, order}
use Rattle.model.specs.State.{Hall, Writes, Store, is_some, or_empty, look, newest_of, find, written_keys, writes_of}
use Rattle.model.specs.Calls.{commit_to, on, Clashes, conflict, closes, Outcome, answering, check, above, clashes, settle, act, decide, answer}
use Rattle.model.specs.Demands.{Ascend}
use Rattle.model.proofs.Cases.{by_order, by_option, true_false, zero_one, lt_eq}
use Rattle.model.proofs.Order.{order_eq, order_refl, order_trans}
use Rattle.model_laws.proofs.Entries.{SoundWrites, writes_after, find_none}
use Rattle.model_laws.proofs.Keys.{Ascending, asc_after, asc_written}
use Rattle.model_laws.proofs.Desks.{Seated}
use Rattle.model_laws.proofs.Effects.{checked, through}

-- ---- the keys of the writes

find_written : (k : Bytes) (ws : Writes) → is_some (find k ws) ≡ true → Memᴰ k (written_keys ws)
unfolding find
find_written k [] f = true_false (sym f)
find_written k (w ∷ ws) f =
    by_order (order k w.key)
    (λ q. true_false (sym (rw q at f)))
    (λ q. mathlib.Core.List.Memᴰ.head (order_eq k w.key q))
    (λ q. mathlib.Core.List.Memᴰ.tail (find_written k ws (rw q at f)))

written_find : (k last : Bytes) (ws : Writes) → SoundWrites last ws → Memᴰ k (written_keys ws)
    → is_some (find k ws) ≡ true
unfolding find
written_find k last [] s m = absurd (mathlib.Core.List.Memᴰ.not-nil m)
written_find k last (w ∷ ws) s m =
    ⊎_elim
    (λ e. let q : order k w.key ≡ Equal = ap (λ (j : Bytes). order j w.key) e ∙ order_refl w.key in rw q)
    (λ i.
    let f = written_find k w.key ws s.3 i in
    by_order (order k w.key)
    (λ q. true_false (sym (rw (find_none k ws (writes_after k w.key ws q s.3)) at f)))
    (λ q. rw q)
    (λ q. rw q f))
    (mathlib.Core.List.Memᴰ.cases_cons m)

-- ---- the search

not_first : (c : Bytes × ℕ) (k : Bytes) (n : ℕ) → (k, n) ≡ c → order k c.0 ≡ Less → ⊥
not_first c k n e q = lt_eq (sym q ∙ ap (λ (x : Bytes × ℕ). order x.0 c.0) e ∙ order_refl c.0)

-- no key is below the first of an ascending list
pub not_below : (c : Bytes × ℕ) (l : Clashes) → Ascend c.0 l → (k : Bytes) (n : ℕ) → Memᴰ (k, n) (c ∷ l)
    → order k c.0 ≡ Less → ⊥
not_below c [] a k n m q = ⊎_elim (λ e. not_first c k n e q) (λ i. mathlib.Core.List.Memᴰ.not-nil i) (mathlib.Core.List.Memᴰ.cases_cons m)
not_below c (d ∷ l) a k n m q =
    ⊎_elim
    (λ e. not_first c k n e q)
    (λ i. not_below d l a.1 k n i (order_trans k c.0 d.0 q a.0))
    (mathlib.Core.List.Memᴰ.cases_cons m)

-- the newest number of key k, if it is above t
abbrev pub Above : ℕ → Bytes → Hall → Option ℕ
Above t k h = above t (newest_of (look k h.entries))

module _ (t : ℕ) (h : Hall) where
  clashes_every : (k : Bytes) (n : ℕ) (ks : List Bytes) → Memᴰ k ks → Above t k h ≡ Some n
      → Memᴰ (k, n) (clashes t ks h)
  unfolding clashes
  clashes_every k n [] m a = absurd (mathlib.Core.List.Memᴰ.not-nil m)
  clashes_every k n (j ∷ ks) m a =
      ⊎_elim
      (λ e. rw (← e, a) (mathlib.Core.List.Memᴰ.head refl))
      (λ i. let f = clashes_every k n ks i a in
      by_option (Above t j h) (λ p. rw p f) (λ x p. rw p (mathlib.Core.List.Memᴰ.tail f)))
      (mathlib.Core.List.Memᴰ.cases_cons m)

  clashes_only : (k : Bytes) (n : ℕ) (ks : List Bytes) → Memᴰ (k, n) (clashes t ks h)
      → Memᴰ k ks × (Above t k h ≡ Some n)
  unfolding clashes
  clashes_only k n [] m = absurd (mathlib.Core.List.Memᴰ.not-nil m)
  clashes_only k n (j ∷ ks) m =
      let more : Memᴰ (k, n) (clashes t ks h) → Memᴰ k (j ∷ ks) × (Above t k h ≡ Some n) =
      λ i. let f = clashes_only k n ks i in (mathlib.Core.List.Memᴰ.tail f.0, f.1) in
      by_option (Above t j h)
      (λ p. more (rw p at m))
      (λ x p. ⊎_elim
      (λ e.
      let q : k ≡ j = ap (λ (y : Bytes × ℕ). y.0) e in
      let z : n ≡ x = ap (λ (y : Bytes × ℕ). y.1) e in
      (mathlib.Core.List.Memᴰ.head q, rw (q, z) p))
      more (mathlib.Core.List.Memᴰ.cases_cons (rw p at m)))

  clashes_ascend : (last : Bytes) (ks : List Bytes) → Ascending last ks → Ascend last (clashes t ks h)
  unfolding clashes
  clashes_ascend last [] a = tt
  clashes_ascend last (j ∷ ks) a =
      by_option (Above t j h)
      (λ p. rw p (clashes_ascend last ks (asc_after last j ks a.0 a.2)))
      (λ n p. rw p (a.0, clashes_ascend j ks a.2))

-- ---- the commit

settle_clash : (h : Hall) (j : Option ℕ) (t : ℕ) (ws : Writes) (k : Bytes) (c : Bytes × ℕ) (l : Clashes) → is_some (find k ws) ≡ true
    → settle h j t ws (c ∷ l) ≡ answering (conflict (c ∷ l)) (closes t)
unfolding settle find
settle_clash h j t [] k c l f = true_false (sym f)
settle_clash h j t (w ∷ ws) k c l f = refl

settle_conflict : (h : Hall) (j : Option ℕ) (t : ℕ) (ws : Writes) (m l : Clashes)
    → (settle h j t ws m).answer ≡ conflict l
    → (m ≡ l) × (l ≡ [] → ⊥)
unfolding settle
settle_conflict h j t [] m l e = zero_one (cc e)
settle_conflict h j t (w ∷ ws) (c ∷ m) l e = (cc, λ z. zero_one (cc))
settle_conflict h j t (w ∷ ws) [] l e =
    absurd (checked (λ o. o.answer ≡ conflict l → ⊥) (λ m q. zero_one (cc q)) _ _
    (λ a. checked (λ o. o.answer ≡ conflict l → ⊥) (λ m q. zero_one (cc q)) _ _ (λ b q. zero_one (cc q))) e)

pub commit_open : (s : Store) (j : Option ℕ) (t : ℕ) → Seated t s.desks
    → decide s (on t (commit_to j))
    ≡ settle s.hall j t (or_empty (writes_of t s.desks))
    (clashes t (written_keys (or_empty (writes_of t s.desks))) s.hall)
unfolding decide act check
commit_open s j t o = rw o

-- what a refusal for conflict says of transaction t with the writes ws
pub record Found (t : ℕ) (ws : Writes) (h : Hall) (l : Clashes) : Type 0 where
  pub filled : l ≡ [] → ⊥
  pub ascend : Ascend [] l
  pub every : (k : Bytes) (n : ℕ) → is_some (find k ws) ≡ true → Above t k h ≡ Some n → Memᴰ (k, n) l
  pub only : (k : Bytes) (n : ℕ) → Memᴰ (k, n) l → (is_some (find k ws) ≡ true) × (Above t k h ≡ Some n)

module _ (s : Store) (to : Option ℕ) (t : ℕ) where
  ws : Writes
  ws = or_empty (writes_of t s.desks)

  pub commit_refused : Seated t s.desks → (k : Bytes) (n : ℕ)
      → is_some (find k (or_empty (writes_of t s.desks))) ≡ true → Above t k s.hall ≡ Some n → (l : Clashes) × (answer s (on t (commit_to to)) ≡ conflict l)
  unfolding ws
  commit_refused o k n f a = by_list (clashes t (written_keys ws) s.hall) refl
    where
      by_list : (l : Clashes) → clashes t (written_keys ws) s.hall ≡ l
          → (l : Clashes) × (answer s (on t (commit_to to)) ≡ conflict l)
      by_list [] p =
          absurd (mathlib.Core.List.Memᴰ.not-nil (rw p at (clashes_every t s.hall k n (written_keys ws) (find_written k ws f) a)))
      by_list (c ∷ l) p = (
        c ∷ l,
        ap (λ (x : Outcome). x.answer)
            (commit_open s to t o ∙ ap (settle s.hall to t ws) p ∙ settle_clash s.hall to t ws k c l f),
      )

  pub commit_lists : SoundWrites [] (or_empty (writes_of t s.desks)) → (l : Clashes)
      → answer s (on t (commit_to to)) ≡ conflict l → Found t (or_empty (writes_of t s.desks)) s.hall l
  unfolding decide act ws
  commit_lists g l e =
      let o = sym (through _ _ (conflict l) (λ m q. zero_one (cc q)) e) in
      let c = settle_conflict s.hall to t _ _ l (ap (λ (o : Outcome). o.answer) o ∙ e) in
      let ks = written_keys ws in
      record {
        filled = c.1;
        ascend = rw c.0 at (clashes_ascend t s.hall [] ks (asc_written [] ws g));
        every = λ k n f b. rw c.0 at (clashes_every t s.hall k n ks (find_written k ws f) b);
        only = λ k n m.
            let f = clashes_only t s.hall k n ks (rw (← c.0) at m) in
            (written_find k [] ws g f.0, f.1);
      }
