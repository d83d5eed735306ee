-- Clashes gathered in an output: none, and one more, which goes after the others if there is room for it.
-- Assumes nothing.
use mathlib.Core.Path.{◌≡◌, refl, sym, ap, ◌∙◌}
use mathlib.Core.List.{[], ◌∷◌, ◌++◌, map, map-append, append-nil}
use Prim.Native.Nat.{ℕ, ◌+◌, ◌*◌, ◌/◌, ◌≤◌, ◌<◌}
use native.Mathlib.Nat.{zero-add}
use native.Mathlib.Omega.{arith}
use borrow.Author.Tests.{ltb-true, ltb-false, lt-ltb, le-ltb}
use lib.Dec.{ltb}
use lib.ListN.{length, take, length-append, length-map, length-take}
use lib.Seq.{sets, take_all, take-append-le}
use Rattle.model.specs.Sizes.{max_key, number_width}
use Rattle.model.specs.Bytes.{Bytes, bytes}
use Rattle.model.specs.Calls.{Clashes}
use Rattle.model.proofs.Cases.{by_bool}
use Rattle.memory.specs.Rows.{joined, Each, Sized}
use Rattle.memory.specs.Spans.{overlay}
use Rattle.memory.proofs.Laws.Each.{each_append, each_take}
use Rattle.memory.proofs.Laws.Numbers.{length_bytes}
use Rattle.memory.proofs.Laws.Parts.{sets_append}
use Rattle.memory.proofs.Laws.Rows.{joined_append, length_joined}
use Rattle.memory.proofs.Laws.Spans.{length_over, over_sets}
use Rattle.cells.specs.Cells.{key_bytes, clash_width, clash_bytes, listed}
use Rattle.cells.proofs.Laws.Cells.{length_clash, nothing_over}
use Rattle.hall_conflict.specs.Clashes.{put_clash, Gathered}

abbrev Short : Bytes × ℕ → Type 0
Short c = length c.0 ≤ max_key

pub gathered_none : (out : Bytes) → Gathered out out [] 0
gathered_none out = record { short = tt; count = refl; output = sym (nothing_over _ out) }

sized : (cs : Clashes) → Each Short cs → Sized clash_width (map clash_bytes cs)
unfolding Sized
sized [] s = tt
sized (c ∷ cs) s = (length_clash c s.0, sized cs s.1)

length_records : (cs : Clashes) → Each Short cs → length (joined (map clash_bytes cs)) ≡ clash_width * length cs
length_records cs s = length_joined _ _ (sized cs s) ∙ ap (λ (n : ℕ). clash_width * n) (length-map cs clash_bytes)

records_more : (cs : Clashes) (c : Bytes × ℕ) → joined (map clash_bytes (cs ++ c ∷ [])) ≡ joined (map clash_bytes cs) ++ clash_bytes c
unfolding joined
records_more cs c =
    rw (map-append clash_bytes cs (c ∷ []), joined_append (map clash_bytes cs) (clash_bytes c ∷ []), append-nil (clash_bytes c))

-- where the records have room, they are the records of all clashes; where the last has none, it changes nothing
listed_all : (n : ℕ) (cs : Clashes) → length cs ≤ n / clash_width → listed n cs ≡ joined (map clash_bytes cs)
unfolding listed
listed_all n cs h = rw take_all

listed_full : (n : ℕ) (cs : Clashes) (c : Bytes × ℕ) → n / clash_width ≤ length cs → listed n (cs ++ c ∷ []) ≡ listed n cs
unfolding listed
listed_full n cs c h = rw take-append-le

length_listed : (n : ℕ) (cs : Clashes) → Each Short cs → length (listed n cs) ≤ n
unfolding listed
length_listed n cs s =
    omega (
      arith,
      length_records (take (n / clash_width) cs) (each_take Short (n / clash_width) cs s),
      length-take (n / clash_width) cs,
    )

module _ (out : Bytes) (cs : Clashes) (c : Bytes × ℕ) (s : Each Short cs) (h : Short c) where
  abbrev n : ℕ
  n = length out

  -- the record after those of cs
  more_room : length cs < n / clash_width
      → sets (overlay (listed n cs) out) (clash_width * length cs) (clash_bytes c) ≡ overlay (listed n (cs ++ c ∷ [])) out
  more_room l =
      let bs : Bytes = joined (map clash_bytes cs) in
      let e : listed n cs ≡ bs = listed_all n cs (omega arith) in
      let f : listed n (cs ++ c ∷ []) ≡ bs ++ clash_bytes c =
      listed_all n _ (simp length-append (omega arith)) ∙ records_more cs c in
      let k : length bs ≡ clash_width * length cs = length_records cs s in
      let w : length (clash_bytes c) ≡ clash_width = length_clash c h in
      rw (e, f, ← over_sets out bs (omega arith), ← over_sets out (bs ++ clash_bytes c) (simp length-append (omega arith)), ← k)
      (sym (rw (zero-add (length bs)) at (sets_append out 0 bs (clash_bytes c))))

pub gathered_long : {before after : Bytes} {cs : Clashes} {n : ℕ} → Gathered before after cs n → length after ≡ length before
gathered_long {before} {after} {cs} g = ap length g.output ∙ length_over _ _ (length_listed _ cs g.short)

pub gathered_more : {before after out : Bytes} {cs : Clashes} {n : ℕ} (c : Bytes × ℕ) → Gathered before after cs n → length c.0 ≤ max_key
    → out ≡ put_clash after n c → Gathered before out (cs ++ c ∷ []) (n + 1)
gathered_more {before} {after} {out} {cs} {n} c g h e =
    let l : length after ≡ length before = gathered_long g in
    let m : n ≡ length cs = g.count in
    record {
      short = each_append Short cs (c ∷ []) g.short (h, tt);
      count = simp length-append (omega (arith, m));
      output = e ∙ rw (l, m, g.output)
          (by_bool (ltb (length cs) (length before / clash_width))
          (λ p. rw p (more_room before cs c g.short h (ltb-true _ _ p)))
          (λ p. rw (p, listed_full (length before) cs c (ltb-false _ _ p))));
    }

-- ---- one record

pub clash_written : (out : Bytes) (i : ℕ) {k : Bytes} {n at key_at : ℕ} {o₁ o₂ : Bytes} (c : Bytes × ℕ)
    → i < length out / clash_width → at ≡ clash_width * i → key_at ≡ clash_width * i + number_width → n ≡ c.1 → k ≡ c.0
    → o₁ ≡ sets out at (bytes number_width n) → o₂ ≡ sets o₁ key_at (key_bytes k) → o₂ ≡ put_clash out i c
unfolding clash_bytes
clash_written out i c l a b e f p q = q ∙ rw (p, e, f, a, b, lt-ltb, sets_append, length_bytes)

pub clash_left_out : (out : Bytes) (i : ℕ) (c : Bytes × ℕ) → length out / clash_width ≤ i → out ≡ put_clash out i c
clash_left_out out i c l = rw le-ltb
