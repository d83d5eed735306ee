-- What a function found, by the variant that it answered.
-- Assumes nothing.
use mathlib.Core.Path.{◌≡◌, subst}
use Prim.Native.Nat.{ℕ, ◌≤◌}
use lib.ListN.{length}
use Rattle.model.specs.Bytes.{Bytes}
use Rattle.model.specs.Load.{Parsed}
use Rattle.model_batch.specs.Items as paper
use Rattle.batch_items.specs.declared.Who.{Who}
use Rattle.batch_items.specs.declared.Span.{Span}
use Rattle.batch_items.specs.declared.Item.{Item}
use Rattle.batch_items.specs.declared.operands.Text.{Text}
use Rattle.batch_items.specs.declared.operands.Text.TheVariants as text
use Rattle.batch_items.specs.declared.operands.Named.{Named}
use Rattle.batch_items.specs.declared.operands.Named.TheVariants as named
use Rattle.batch_items.specs.declared.Fault.{Fault}
use Rattle.batch_items.specs.declared.Decoded.{Decoded}
use Rattle.batch_items.specs.declared.Decoded.TheVariants as decoded
use Rattle.batch_items.specs.Papers.{text_of, Within, paper_who, paper_item, Spans, paper_fault}
use Rattle.batch_items.specs.Clauses.{Ends, Told, Reads, Names, Stops, Decodes}

module _ (x : Bytes) where
  pub text_cut : (m : Parsed Bytes) {t : Text} → Reads x m t → t ≡ text.Cut → Told 18 m
  text_cut m r e = subst (λ (t : Text). Reads x m t) e r

  pub text_whole : (m : Parsed Bytes) {t : Text} {s : Span} {end : ℕ} → Reads x m t → t ≡ text.Whole s end
      → Ends x m (text_of x s) end × Within x s
  text_whole m r e = subst (λ (t : Text). Reads x m t) e r

  pub named_not : (m : Parsed paper.Who) {n : Named} → Names x m n → n ≡ named.Malformed → Told 18 m
  named_not m r e = subst (λ (n : Named). Names x m n) e r

  pub named_as : (m : Parsed paper.Who) {n : Named} {w : Who} {end : ℕ} → Names x m n → n ≡ named.As w end
      → Ends x m (paper_who w) end
  named_as m r e = subst (λ (n : Named). Names x m n) e r

  pub named_inside : (m : Parsed paper.Who) (n : Named) → Names x m n → Stops x n
  named_inside m (named.As w end) r = r.inside
  named_inside m named.Malformed r = tt

  pub stops_as : {n : Named} {w : Who} {end : ℕ} → Stops x n → n ≡ named.As w end → end ≤ length x
  stops_as r e = subst (λ (n : Named). Stops x n) e r

  pub item_wrong : (m : Parsed paper.Item) {d : Decoded} {f : Fault} → Decodes x m d → d ≡ decoded.Wrong f → Told (paper_fault f) m
  item_wrong m r e = subst (λ (d : Decoded). Decodes x m d) e r

  pub item_whole : (m : Parsed paper.Item) {d : Decoded} {i : Item} {end : ℕ} → Decodes x m d → d ≡ decoded.Item i end
      → Ends x m (paper_item x i) end × Spans x i
  item_whole m r e = subst (λ (d : Decoded). Decodes x m d) e r
