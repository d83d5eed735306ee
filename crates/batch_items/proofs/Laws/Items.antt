-- Items by their kind: what the decoder makes of the operands that code finds.
-- Assumes nothing.
use mathlib.Core.Path.{◌≡◌, refl, sym, ap, ◌∙◌}
use mathlib.Core.Bool.{true, false}
use mathlib.Core.List.{List}
use Prim.Native.Nat.{ℕ, ◌+◌, ◌-◌, ◌/◌, ◌%◌, ◌≤◌, ◌<◌}
use native.Mathlib.Omega.{arith}
use lib.ListN.{length, drop}
use borrow.Author.Tests.{ne_eqb}
use Rattle.model.specs.Sizes.{mark_width, number_width}
use Rattle.model.specs.Bytes.{Bytes, part, num}
use Rattle.model.specs.Sound.{within}
use Rattle.model.specs.Load.{bind, fault}
use Rattle.model.specs.Calls.{read, put, delete, commit, abort}
use Rattle.model_batch.specs.Items.{Item, begins, acts, sweeps, marker}
use Rattle.model_batch.specs.Decoder.{mark_fault, read_text, read_who, read_act, read_operands, read_item}
use Rattle.batch_items.specs.declared.Who.{Who}
use Rattle.batch_items.specs.declared.items.Mark.{Mark}
use Rattle.batch_items.specs.declared.items.Mark.TheVariants as mark
use Rattle.batch_items.specs.declared.Fault.{Fault}
use Rattle.batch_items.specs.declared.Fault.TheVariants.{Malformed, Reserved}
use Rattle.batch_items.specs.Papers.{paper_who, paper_fault}
use Rattle.batch_items.specs.Clauses.{Ends, Told, paper_mark, read_act_of}
use Rattle.batch_items.proofs.Laws.Fields.{told_bind, ends_then, ends_give, number_cut, number_faulty, number_is}

-- ---- what a transaction does

module _ (x : Bytes) (at : ℕ) (w : Who) where
  pub read_cut : {n : ℕ} → n ≡ 17 → Told 18 (read_text at (drop at x)) → Told 18 (read_act_of w n at (drop at x))
  unfolding read_act
  read_cut e t = rw e (told_bind _ _ (told_bind _ _ t))

  pub read_whole : {n : ℕ} {k : Bytes} {p : ℕ} → n ≡ 17 → Ends x (read_text at (drop at x)) k p
      → Ends x (read_act_of w n at (drop at x)) (acts (paper_who w) (read k)) p
  unfolding read_act
  read_whole e t = rw e (ends_give (acts (paper_who w)) (ends_give read t))

  pub delete_cut : {n : ℕ} → n ≡ 19 → Told 18 (read_text at (drop at x)) → Told 18 (read_act_of w n at (drop at x))
  unfolding read_act
  delete_cut e t = rw e (told_bind _ _ (told_bind _ _ t))

  pub delete_whole : {n : ℕ} {k : Bytes} {p : ℕ} → n ≡ 19 → Ends x (read_text at (drop at x)) k p
      → Ends x (read_act_of w n at (drop at x)) (acts (paper_who w) (delete k)) p
  unfolding read_act
  delete_whole e t = rw e (ends_give (acts (paper_who w)) (ends_give delete t))

  pub put_keyless : Told 18 (read_text at (drop at x)) → Told 18 (read_act_of w 18 at (drop at x))
  unfolding read_act
  put_keyless t = told_bind _ _ (told_bind _ _ t)

  module _ {k : Bytes} {p : ℕ} (t : Ends x (read_text at (drop at x)) k p) where
    pub put_valueless : Told 18 (read_text p (drop p x)) → Told 18 (read_act_of w 18 at (drop at x))
    unfolding read_act
    put_valueless u = told_bind _ _ (rw (ends_then _ t) (told_bind _ _ u))

    pub put_whole : {v : Bytes} {q : ℕ} → Ends x (read_text p (drop p x)) v q
        → Ends x (read_act_of w 18 at (drop at x)) (acts (paper_who w) (put k v)) q
    unfolding read_act
    put_whole u = ends_give (acts (paper_who w)) (rw (ends_then _ t) (ends_give (put k) u))

  pub put_kind : {n : ℕ} → n ≡ 18 → read_act_of w 18 at (drop at x) ≡ read_act_of w n at (drop at x)
  put_kind e = rw e

  pub commit_whole : {n : ℕ} → n ≡ 20 → at ≤ length x → Ends x (read_act_of w n at (drop at x)) (acts (paper_who w) commit) at
  unfolding read_act bind
  commit_whole e h = rw e (record { is = refl; inside = h })

  pub abort_whole : {n : ℕ} → (n ≡ 17 → ⊥) → (n ≡ 18 → ⊥) → (n ≡ 19 → ⊥) → (n ≡ 20 → ⊥) → at ≤ length x
      → Ends x (read_act_of w n at (drop at x)) (acts (paper_who w) abort) at
  unfolding read_act bind
  abort_whole {n} a b c d h = record { is = rw (ne_eqb n 17 a, ne_eqb n 18 b, ne_eqb n 19 c, ne_eqb n 20 d); inside = h }

-- ---- operands

module _ (x : Bytes) (at : ℕ) (earlier : List Item) {n : ℕ} where
  pub begin_whole : n ≡ 16 → at ≤ length x → Ends x (read_operands earlier n at (drop at x)) begins at
  unfolding read_operands
  begin_whole e h = rw e (record { is = refl; inside = h })

  pub sweep_cut : n ≡ 22 → length x - at < number_width → Told 18 (read_operands earlier n at (drop at x))
  unfolding read_operands
  sweep_cut e l = rw e (told_bind _ _ (number_cut x at number_width _ l))

  pub sweep_whole : n ≡ 22 → number_width ≤ length x - at → {v : ℕ} → v ≡ num (part x at number_width)
      → Ends x (read_operands earlier n at (drop at x)) (sweeps v) (at + number_width)
  unfolding read_operands
  sweep_whole e l i =
      rw e (ends_give sweeps (record { is = number_is x at number_width (λ n. 0) l i refl; inside = omega arith }))

  module _ (b : n ≡ 16 → ⊥) (s : n ≡ 22 → ⊥) where
    pub act_unnamed : Told 18 (read_who earlier at (drop at x)) → Told 18 (read_operands earlier n at (drop at x))
    unfolding read_operands
    act_unnamed t = rw (ne_eqb n 16 b, ne_eqb n 22 s) (told_bind _ _ t)

    pub act_named : (w : Who) {p : ℕ} → Ends x (read_who earlier at (drop at x)) (paper_who w) p
        → read_act_of w n p (drop p x) ≡ read_operands earlier n at (drop at x)
    unfolding read_operands
    act_named w t = rw (ne_eqb n 16 b, ne_eqb n 22 s) (sym (ends_then _ t))

-- ---- a mark

module _ (n : ℕ) where
  pub unmarked : (n % 256 ≡ marker → ⊥) → 18 ≡ mark_fault n
  unfolding mark_fault fault
  unmarked m = rw (ne_eqb (n % 256) marker m)

  module _ (m : n % 256 ≡ marker) where
    pub reserved : within 23 31 (n / 256) ≡ true → 19 ≡ mark_fault n
    unfolding mark_fault fault
    reserved r = rw (m, r)

    pub known : within 23 31 (n / 256) ≡ false → within 16 22 (n / 256) ≡ true → 0 ≡ mark_fault n
    unfolding mark_fault fault
    known r k = rw (m, r, k)

    pub unknown : within 23 31 (n / 256) ≡ false → within 16 22 (n / 256) ≡ false → 18 ≡ mark_fault n
    unfolding mark_fault fault
    unknown r k = rw (m, r, k)

-- ---- the whole record

module _ (x : Bytes) (at : ℕ) (earlier : List Item) where
  pub mark_cut : length x - at < mark_width → Told 18 (read_item earlier at (drop at x))
  unfolding read_item
  mark_cut l = told_bind _ _ (number_cut x at mark_width _ l)

  module _ (l : mark_width ≤ length x - at) {n : ℕ} (e : n ≡ num (part x at mark_width)) where
    faulty : (f : Fault) → mark_fault n ≡ paper_fault f → Told (paper_fault f) (read_item earlier at (drop at x))
    unfolding read_item
    faulty Malformed g = told_bind _ _ (λ at'. rw (number_faulty x at mark_width mark_fault l e (rw g), g))
    faulty Reserved g = told_bind _ _ (λ at'. rw (number_faulty x at mark_width mark_fault l e (rw g), g))

    module _ {k : Mark} (i : paper_mark k ≡ mark_fault n) where
      pub mark_wrong : {f : Fault} → k ≡ mark.Wrong f → Told (paper_fault f) (read_item earlier at (drop at x))
      mark_wrong {f} z = faulty f (sym i ∙ ap (λ (k : Mark). paper_mark k) z)

      pub marked : k ≡ mark.Kind
          → read_operands earlier (n / 256) (at + mark_width) (drop (at + mark_width) x) ≡ read_item earlier at (drop at x)
      unfolding read_item bind
      marked z = sym (rw (number_is x at mark_width mark_fault l e (sym i ∙ ap (λ (k : Mark). paper_mark k) z)))
