-- The keys of a desk's writes, one after the other: the clashes of the first ones are gathered, and then of one more.
-- Assumes nothing.
use mathlib.Core.Path.{◌≡◌, refl, ◌∙◌}
use mathlib.Core.List.{List, [], ◌∷◌, ◌++◌, append_assoc, append-nil}
use Rattle.std.specs.Prelude.{None, Some}
use Prim.Native.Nat.{ℕ, ◌+◌, ◌≤◌, ◌<◌}
use native.Mathlib.Numerals.{add-one}
use native.Mathlib.Omega.{arith}
use lib.ListN.{length, take, get_or, length-map, get_or-map}
use lib.Seq.{take-suc, take_all}
use Rattle.model.specs.Sizes.{max_key}
use Rattle.model.specs.Bytes.{Bytes}
use Rattle.model.specs.State.{Hall, Write, Writes, look, newest_of, written_keys}
use Rattle.model.specs.Calls.{above, clashes}
use Rattle.desk_writes.specs.Writes.{no_write, write_at}
use Rattle.hall_conflict.specs.Clashes.{put_clash, Gathered}
use Rattle.hall_conflict.proofs.Laws.Records.{gathered_none, gathered_more}

module _ (t : ℕ) (h : Hall) where
  clashes_append : (ks js : List Bytes) → clashes t (ks ++ js) h ≡ clashes t ks h ++ clashes t js h
  unfolding clashes
  clashes_append [] js = refl
  clashes_append (k ∷ ks) js = rw (clashes_append ks js, append_assoc)

-- the output holds the clashes of the first i keys of the writes ws, n of them
pub record Upto (t : ℕ) (ws : Writes) (h : Hall) (before after : Bytes) (i n : ℕ) : Type 0 where
  pub gathered : Gathered before after (clashes t (take i (written_keys ws)) h) n

pub none_yet : {t : ℕ} {ws : Writes} {h : Hall} {out : Bytes} → Upto t ws h out out 0 0
unfolding clashes
none_yet {out = out} = record { gathered = gathered_none out }

module _ {t : ℕ} {ws : Writes} {h : Hall} {before after : Bytes} {i n : ℕ} (g : Upto t ws h before after i n) where
  pub all_seen_lem : length ws ≤ i → Gathered before after (clashes t (written_keys ws) h) n
  all_seen_lem l = rw (take_all i (written_keys ws) (simp length-map (omega arith))) at g.gathered

  module _ (l : i < length ws) where
    abbrev x : Bytes
    x = (write_at ws i).key

    one_more : clashes t (take (i + 1) (written_keys ws)) h
        ≡ clashes t (take i (written_keys ws)) h ++ clashes t ((write_at ws i).key ∷ []) h
    one_more =
        let e : get_or (written_keys ws) i [] ≡ x = get_or-map (λ (w : Write). w.key) ws i no_write in
        rw (add-one i, take-suc (written_keys ws) i [] (simp length-map (omega arith)), e) (clashes_append t h _ _)

    pub passes : above t (newest_of (look (write_at ws i).key h.entries)) ≡ None → Upto t ws h before after (i + 1) n
    unfolding clashes
    passes a = record { gathered = rw (one_more, a, append-nil (clashes t _ h)) g.gathered }

    -- it is put after those that are there
    pub finds : (c : Bytes × ℕ) {after' out : Bytes} {i' n' : ℕ} → after' ≡ after → n' ≡ n → i' ≡ i
        → c.0 ≡ (write_at ws i).key → length c.0 ≤ max_key
        → above t (newest_of (look (write_at ws i).key h.entries)) ≡ Some c.1
        → out ≡ put_clash after' n' c → Upto t ws h before out (i' + 1) (n' + 1)
    unfolding clashes
    finds c p q r k s a e =
        rw (q, r) (record { gathered = rw (one_more, a, ← k) (gathered_more c g.gathered s (e ∙ rw (p, q))) })
