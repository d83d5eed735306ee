-- A record by its frame: cut, without its mark, or with its body, which is that of a lawful commit or not.
-- Assumes nothing.
use mathlib.Core.Path.{◌≡◌, refl, sym, ap, subst, ◌∙◌}
use mathlib.Core.Bool.{true}
use Rattle.std.specs.Prelude.{None, Some}
use mathlib.Core.List.{[], ◌++◌, append_assoc}
use Prim.Native.Nat.{ℕ, ◌+◌, ◌-◌, ◌^◌, ◌≤◌, ◌<◌}
use native.Mathlib.Omega.{arith}
use lib.ListN.{length, drop, length-drop, take-append-drop}
use lib.Seq.{drop-drop}
use Rattle.model.specs.Sizes.{mark_width, count_width}
use Rattle.model.specs.Bytes.{Bytes, are_bytes, part, num, bytes}
use Rattle.model.specs.Load.{Parsed, got, bad}
use Rattle.model.specs.Journal.{Commit, mark, framed, dump_commit, read_body}
use Rattle.model.specs.Recovery.{in_mark, in_length, in_body}
use Rattle.model.proofs.Cases.{none_some}
use Rattle.model_laws.proofs.Journal.{takes_body, reads_body, body_bad, mark_bad, torn_read}
use Rattle.model_laws.proofs.Recovery.{lawful_tests}
use Rattle.memory.proofs.Laws.Numbers.{are_bytes_part}
use Rattle.memory.proofs.Laws.Parts.{length_part, num_low, bytes_part}
use Rattle.journal_fields.specs.Places.{frame_width}
use Rattle.journal_fields.proofs.Laws.{length_mark, mark_number, mark_bytes}
use Rattle.journal_check.specs.declared.Judged.TheVariants.{Cut, Spoiled}
use Rattle.journal_check.specs.Records.{end_of, IsWhole, Judges}

split : (x : Bytes) (at n : ℕ) → drop at x ≡ part x at n ++ drop (at + n) x
unfolding part
split x at n = sym (take-append-drop n (drop at x)) ∙ ap (λ (y : Bytes). part x at n ++ y) (drop-drop n at x)

-- a record with its mark and the length n of its body
pub record Measured (x : Bytes) (at n : ℕ) : Type 0 where
  pub known : are_bytes x ≡ true
  pub small : n < 256 ^ count_width
  pub long : at + frame_width ≤ length x
  pub bytes : drop at x ≡ mark ++ (bytes count_width n ++ drop (at + frame_width) x)

module _ (x : Bytes) (at : ℕ) (s : are_bytes x ≡ true) where
  pub marked : mark_width ≤ length x - at → {m : ℕ} → m ≡ num (part x at mark_width) → m ≡ 332
      → drop at x ≡ mark ++ drop (at + mark_width) x
  marked l e i = split x at mark_width ∙ rw (← bytes_part x at mark_width s (omega arith), ← e, i, mark_bytes)

  pub measured : drop at x ≡ mark ++ drop (at + mark_width) x → frame_width ≤ length x - at
      → {n : ℕ} → n ≡ num (part x (at + mark_width) count_width) → Measured x at n
  measured i k e =
      let p : ℕ = at + mark_width in
      let z : at + frame_width ≡ p + count_width = omega arith in
      record {
        known = s;
        small = rw e (num_low x p count_width s (omega arith));
        long = omega arith;
        bytes = i ∙ rw (z, split x p count_width, e, bytes_part x p count_width s (omega arith));
      }

module _ (counter : ℕ) (x : Bytes) (at : ℕ) where
  pub cut_mark : length x - at < mark_width → Judges counter x at Cut
  cut_mark l full = torn_read counter full at _ (in_mark (drop at x) (omega (arith, length-drop at x, length_mark)))

  pub unmarked : mark_width ≤ length x - at → {m : ℕ} → m ≡ num (part x at mark_width) → (m ≡ 332 → ⊥)
      → Judges counter x at Spoiled
  unmarked l e d full =
      rw (split x at mark_width)
      (mark_bad counter full at (part x at mark_width) (drop (at + mark_width) x)
      (length_part x at mark_width (omega arith) ∙ sym length_mark) (λ i. d (e ∙ ap num i ∙ mark_number)))

  pub cut_length : drop at x ≡ mark ++ drop (at + mark_width) x → length x - at < frame_width → Judges counter x at Cut
  cut_length i k full =
      rw i (torn_read counter full at _ (in_length _ (omega (arith, length-drop (at + mark_width) x))))

  module _ {n : ℕ} (k : Measured x at n) where
    pub cut_body : length x - at - frame_width < n → Judges counter x at Cut
    cut_body j full =
        rw k.bytes
        (torn_read counter full at _ (in_body n _ k.small (omega (arith, length-drop (at + frame_width) x))))

    module _ (j : n ≤ length x - at - frame_width) {b : Bytes} (f : b ≡ part x (at + frame_width) n) where
      inside : at + frame_width + n ≤ length x
      inside = omega (arith, k.long)

      body_length : length b ≡ n
      body_length = rw f (length_part x (at + frame_width) n inside)

      body_bytes : are_bytes b ≡ true
      body_bytes = rw f (are_bytes_part x (at + frame_width) n k.known)

      enclosed : drop at x ≡ framed b ++ drop (at + frame_width + n) x
      unfolding framed
      enclosed = k.bytes ∙ rw (split x (at + frame_width) n, ← f, body_length) (simp append_assoc)

      pub spoiled : None ≡ end_of (read_body counter 0 b) → Judges counter x at Spoiled
      spoiled r full =
          rw enclosed
          (body_bad counter full at b _ (rw body_length k.small) body_bytes (λ c p l d.
          let v = reads_body counter c p l in
          let w : read_body counter 0 b ≡ got c (v.end 0) [] =
          subst (λ (b : Bytes). read_body counter 0 b ≡ got c (v.end 0) []) d (v.gets 0) in
          none_some (r ∙ ap (λ (m : Parsed Commit). end_of m) w)))

      pub whole : {p : ℕ} → Some p ≡ end_of (read_body counter 0 b) → IsWhole counter x at n
      unfolding dump_commit
      whole {p} r = taken (read_body counter 0 b) refl r
        where
          taken : (m : Parsed Commit) → read_body counter 0 b ≡ m → Some p ≡ end_of m → IsWhole counter x at n
          taken (got c q y) w r =
              let t = takes_body counter 0 b c q y body_bytes w in
              record {
                commit = c;
                lawful = lawful_tests counter c t.1 t.2;
                body = sym f ∙ sym t.0;
                bytes = rw t.0 enclosed;
                inside = inside;
              }
          taken (bad k q) w r = none_some (sym r)
