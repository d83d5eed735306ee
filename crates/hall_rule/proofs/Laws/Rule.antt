-- The rule of both sweeps, by a version's tag and number, its successor's number, and the readers.
-- Assumes nothing.
use mathlib.Core.Path.{◌≡◌, refl, sym, ap, ◌∙◌}
use mathlib.Core.Bool.{Bool, true, false, not, ◌&&◌, ◌||◌}
use mathlib.Core.List.{List, [], ◌∷◌}
use Prim.Native.Nat.{ℕ, zero, suc, ◌+◌, ◌*◌, ◌≤◌, ◌<◌, min}
use native.Mathlib.Nat.{le_refl}
use native.Mathlib.Numerals.{add-one}
use native.Mathlib.Omega.{arith}
use borrow.Author.Tests.{le-leb, lt-leb, le-ltb, leb-true, leb-false, ltb-true, ltb-false}
use lib.Dec.{leb, ltb, eqb}
use lib.ListN.{length, get_or, drop, drop_of_length-le}
use lib.Seq.{drop-cons}
use Rattle.model.specs.Sizes.{number_width}
use Rattle.model.specs.Bytes.{Bytes, part}
use Rattle.model.specs.State.{Payload, Version, is_deletion}
use Rattle.model.specs.Sweeps.{is_read, is_clear, is_covered, goes}
use Rattle.model.proofs.Cases.{by_bool, and_false}
use Rattle.model_laws.proofs.Readers.{is_clear_lem, clear_is}
use Rattle.memory.proofs.Laws.Parts.{get_d_part}
use Rattle.cells.specs.Cells.{payload_width, payload_from}
use Rattle.hall.specs.Layout.{version_width, version_base, key_rooms_in, versions_in}
use Rattle.hall.specs.Tables.{Shaped, version_at}
use Rattle.hall.proofs.Laws.Rows.{payload_told}
use Rattle.hall_rule.specs.Readers.{Upward, lowest, Readers, Upto, IsClear, Reaches}

cell_tag : (c : Bytes) → eqb (get_or c 0 0) 0 ≡ is_deletion (payload_from c)
unfolding payload_from
cell_tag c = by_bool (eqb (get_or c 0 0) 0) (λ p. rw p) (λ p. rw p)

module _ (m : Bytes) (s : Shaped m) (j : ℕ) (h : j < length (versions_in m)) where
  pub tag_told : {at : ℕ} → at ≡ version_base (key_rooms_in m) + version_width * j + number_width
      → eqb (get_or m at 0) 0 ≡ is_deletion (version_at j (versions_in m)).payload
  tag_told {at} e =
      let z : at + 0 ≡ at = omega arith in
      let a : get_or (part m at payload_width) 0 0 ≡ get_or m at 0 = rw z at (get_d_part m at payload_width 0 (omega arith)) in
      ap (λ (x : ℕ). eqb x 0) (sym a) ∙ cell_tag (part m at payload_width)
      ∙ ap (λ (p : Payload). is_deletion p) (ap (λ (x : ℕ). payload_from (part m x payload_width)) e ∙ payload_told m s j h)

module _ (c : ℕ) (v : Version) where
  -- with nothing after it, where there are no readers
  pub value_stays : is_deletion v.payload ≡ false → false ≡ goes c [] v []
  unfolding goes is_covered is_clear is_read
  value_stays p = ap (λ (b : Bool). b && leb v.number c) (sym p)

  pub deletion_goes : {x : ℕ} → is_deletion v.payload ≡ true → x ≡ v.number → leb x c ≡ goes c [] v []
  unfolding goes is_covered is_clear is_read
  deletion_goes p e = ap (λ (n : ℕ). leb n c) e ∙ ap (λ (b : Bool). b && leb v.number c) (sym p)

-- ---- the readers between two numbers, walked up

none_from : (lo hi from : ℕ) (ts : List ℕ) → hi ≤ from → Upward from ts → is_read lo hi ts ≡ false
unfolding is_read
none_from lo hi from [] h a = refl
none_from lo hi from (t ∷ ts) h a =
    rw (le-ltb t hi (omega arith), none_from lo hi t ts (omega arith) a.1, ← and_false (leb lo t))

upward_drop : (from : ℕ) (ts : List ℕ) (p : ℕ) → Upward from ts → (lo : ℕ) × Upward lo (drop p ts)
upward_drop from ts zero a = (from, a)
upward_drop from [] (suc p) a = (from, a)
upward_drop from (t ∷ ts) (suc p) a = upward_drop t ts p a.1

-- those before place p are below lo
pub record Passed (lo : ℕ) (ts : List ℕ) (p : ℕ) : Type 0 where
  pub same : (hi : ℕ) → is_read lo hi (drop p ts) ≡ is_read lo hi ts

pub pass_start : {lo : ℕ} {ts : List ℕ} → Passed lo ts 0
pass_start = record { same = λ hi. refl }

not_above : (c t w : ℕ) → leb w (min c t) ≡ (not (ltb t w) && leb w c)
not_above c t w =
    by_bool (ltb t w)
    (λ p. rw p (lt-leb w (min c t) (omega (arith, ltb-true t w p))))
    (λ p. let h = ltb-false t w p in
    rw p (by_bool (leb w c)
    (λ q. rw q (le-leb w (min c t) (omega (arith, leb-true w c q))))
    (λ q. rw q (lt-leb w (min c t) (omega (arith, leb-false w c q))))))

module _ {lo : ℕ} {ts : List ℕ} {p : ℕ} (g : Passed lo ts p) where
  pub pass_more : p < length ts → get_or ts p 0 < lo → Passed lo ts (p + 1)
  unfolding is_read
  pass_more h l =
      let e : (hi : ℕ) → is_read lo hi (drop p ts) ≡ is_read lo hi (drop (p + 1) ts) =
      λ hi. rw (drop-cons ts p 0 h, add-one p, lt-leb lo (get_or ts p 0) l) in
      record { same = λ hi. sym (e hi) ∙ g.same hi }

  here : Upward 0 ts → p < length ts → lo ≤ get_or ts p 0 → (hi : ℕ) → ltb (get_or ts p 0) hi ≡ is_read lo hi ts
  unfolding is_read
  here a h l hi =
      let t : ℕ = get_or ts p 0 in
      let e = drop-cons ts p 0 h in
      let d = upward_drop 0 ts p a in
      let u : (d.0 ≤ t) × Upward t (drop (suc p) ts) = rw e at d.1 in
      let r : is_read lo hi (drop p ts) ≡ (ltb t hi || is_read lo hi (drop (suc p) ts)) = rw (e, le-leb lo t l) in
      let f : Bool → Bool = λ b. b || is_read lo hi (drop (suc p) ts) in
      by_bool (ltb t hi)
      (λ q. q ∙ ap f (sym q) ∙ sym r ∙ g.same hi)
      (λ q.
      let n = none_from lo hi t (drop (suc p) ts) (ltb-false t hi q) u.1 in
      q ∙ sym n ∙ ap f (sym q) ∙ sym r ∙ g.same hi)

  module _ (c : ℕ) where
    pub pass_found : Upward 0 ts → p < length ts → lo ≤ get_or ts p 0 → {r : ℕ} → r ≡ min c (get_or ts p 0) → Upto c ts lo r
    unfolding is_clear
    pass_found a h l e w = rw (e, ← here a h l w) (not_above c (get_or ts p 0) w)

    pub pass_end : length ts ≤ p → Upto c ts lo c
    unfolding is_clear is_read
    pass_end h w =
        let n : false ≡ is_read lo w ts = rw (drop_of_length-le ts {i = p} h) at (g.same w) in
        rw (← n)

-- ---- the rule with readers

no_read : (c x lo : ℕ) (ts : List ℕ) → x ≤ lowest c ts → (is_read lo x ts ≡ false) × (x ≤ c)
unfolding is_read lowest
no_read c x lo [] h = (refl, h)
no_read c x lo (t ∷ ts) h =
    let i = no_read c x lo ts (omega arith) in
    (rw (le-ltb t x (omega arith), i.0, ← and_false (leb lo t)), i.1)

not_clear : (c x : ℕ) (ts : List ℕ) → lowest c ts < x → is_clear c ts 0 x ≡ false
unfolding is_clear is_read lowest
not_clear c x [] h = lt-leb x c h
not_clear c x (t ∷ ts) h =
    by_bool (ltb t x)
    (λ p. rw (le-leb 0 t (omega arith), p))
    (λ p. rw (le-leb 0 t (omega arith), p) (not_clear c x ts (omega (arith, ltb-false t x p))))

module _ {c k : ℕ} {ts : List ℕ} (g : Readers c k ts) where
  low_clear : (lo x : ℕ) → x ≤ k → is_clear c ts lo x ≡ true
  unfolding is_clear
  low_clear lo x h =
      let n = no_read c x lo ts (omega arith) in
      rw (n.0, le-leb x c n.1)

  -- from 0 on: a deletion goes by the least reader alone
  clear_alone : Upto c ts 0 k
  clear_alone x =
      by_bool (leb x k)
      (λ p. p ∙ sym (low_clear 0 x (leb-true x k p)))
      (λ p. p ∙ sym (not_clear c x ts (omega (arith, leb-false x k p))))

  pub goes_alone : (v : Version) → goes k [] v [] ≡ goes c ts v []
  unfolding goes is_covered is_clear is_read
  goes_alone v = rw (clear_alone v.number)

  -- from any version on all is clear up to k
  pub clear_first : (v : Version) → IsClear c ts v k
  clear_first v = low_clear v.number k (le_refl k)

  pub told_goes : (v w : Version) {x h : ℕ} {r : Bool} → x ≡ w.number → Reaches c ts v x h
      → r ≡ (leb x h || goes k [] v []) → r ≡ goes c ts v (w ∷ [])
  unfolding goes is_covered
  told_goes v w {x} {h} q t e =
      let a : leb x h ≡ is_clear c ts v.number w.number = t.tells ∙ rw q in
      e ∙ rw (a, goes_alone v)

-- ---- how far all is clear

module _ (c : ℕ) (ts : List ℕ) where
  -- further in it is clear too
  clear_inner : (lo hi a b : ℕ) → is_clear c ts lo hi ≡ true → lo ≤ a → b ≤ hi → is_clear c ts a b ≡ true
  clear_inner lo hi a b k h l =
      let x = is_clear_lem c ts lo hi k in
      clear_is c ts a b (omega arith, λ t m q. omega (arith, x.1 t m (omega arith)))

  pub clear_later : (v w : Version) (h : ℕ) → v.number ≤ w.number → IsClear c ts v h → IsClear c ts w h
  clear_later v w h l k = clear_inner v.number h w.number h k l (le_refl h)

  module _ (v : Version) {x h : ℕ} (k : IsClear c ts v h) where
    pub reach_told : x ≤ h → Reaches c ts v x h
    reach_told l =
        let z = clear_inner v.number h v.number x k (le_refl v.number) l in
        record { clear = k; tells = le-leb x h l ∙ sym z }

    pub reach_over : h < x → c < x → Reaches c ts v x h
    unfolding is_clear
    reach_over l o =
        let z : is_clear c ts v.number x ≡ false = rw (lt-leb x c o) (sym (and_false (not (is_read v.number x ts)))) in
        record { clear = k; tells = lt-leb x h l ∙ sym z }

  pub reach_from : (v : Version) {n x r : ℕ} → n ≡ v.number → Upto c ts n r → Reaches c ts v x r
  reach_from v {n} {x} {r} e u =
      let w : Upto c ts v.number r = rw e at u in
      record { clear = sym (w r) ∙ le-leb r r (le_refl r); tells = w x }

-- ---- a version goes by its successor, or alone

module _ (x h k : ℕ) (v : Version) where
  pub goes_next : x ≤ h → true ≡ (leb x h || goes k [] v [])
  goes_next p = rw (le-leb x h p)

  pub goes_itself : h < x → {r : Bool} → r ≡ goes k [] v [] → r ≡ (leb x h || goes k [] v [])
  goes_itself p q = rw (lt-leb x h p) q
