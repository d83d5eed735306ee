-- The older versions of all keys swept.
-- Assumes nothing.
use mathlib.Core.Path.{◌≡◌, refl, sym, ap, ◌∙◌}
use mathlib.Core.List.{List, [], ◌∷◌, ◌++◌, append_assoc, append-nil}
use Prim.Native.Nat.{ℕ, suc, ◌+◌, ◌-◌, ◌≤◌, ◌<◌}
use native.Mathlib.Numerals.{add-one}
use native.Mathlib.Omega.{arith}
use lib.ListN.{length, take, drop, get_or, length-append, length-take, length-drop, drop_of_length-le, take-append-drop, get_or-append}
use lib.Seq.{sets, drop-cons, take_at, drop_at, get_or_at, get_or-take, get_or-drop, set_at}
use Rattle.model.specs.Bytes.{Bytes}
use Rattle.model.specs.State.{Version, Entry}
use Rattle.model.specs.Sweeps.{Rule}
use Rattle.model.specs.History.{Rising}
use Rattle.model_laws.proofs.Sound.{NonEmpty}
use Rattle.model_laws.proofs.Tested.{hall_parts}
use Rattle.memory.proofs.Laws.Parts.{sets_mid}
use Rattle.hall.specs.Layout.{Row, older, rows_of, newests_of, olders_of, versions_of, keys_in, versions_in, hall_in, Sound}
use Rattle.hall.specs.Tables.{Shaped, no_row, no_version, no_entry, row_at, version_at, end_before, set_end, between}
use Rattle.hall.proofs.Laws.Halls.{older_more, length_older, newests_total, rows_total}
use Rattle.hall.proofs.Laws.Sound.{sound_shaped, keys_are, versions_are, keys_counted}
use Rattle.hall.proofs.Laws.Chains.{entry_at_lem}
use Rattle.hall_rows.specs.Held.{Holds}
use Rattle.hall_rows.specs.Runs.{EndStorable}
use Rattle.hall_trim.specs.Trim.{kept, trim_olders}
use Rattle.hall_moves.specs.Moves.{Stored}
use Rattle.hall_trim.specs.Held.{Rises, OldersFit, kept_of, KeyFits, kept_of_key, KeySwept, Trimmed}
use Rattle.hall_trim.proofs.Laws.Rising.{all_rising, rising_at, rising_next}
use Rattle.hall_trim.proofs.Laws.Trim.{kept_short, older_trimmed, older_left, newests_trimmed}
use Rattle.hall_rows.proofs.Laws.Held.{holds_same, holds_as, holds_keys, holds_versions, holds_shaped, holds_then}

-- ---- one key: its older versions swept, then its end set

pub olders_fit : {m : Bytes} {i from to w : ℕ} → KeyFits m i from to w → (n : ℕ) → n ≡ length (keys_in m)
    → OldersFit m i (n + from) (n + to) (n + w)
olders_fit f n e =
    rw e (record {
      shaped = f.shaped;
      newest = omega (arith, f.row);
      low = omega (arith, f.low);
      fits = f.fits;
      rises = f.rises;
    })

module _ (rule : Rule) {m : Bytes} {i from to w : ℕ} (f : KeyFits m i from to w) (n : ℕ) (e : n ≡ length (keys_in m)) where
  abbrev s : Shaped m
  s = f.shaped

  abbrev left : List Version
  left = kept_of rule m i (n + from) (n + to)

  left_short : length left ≤ to - from
  left_short =
      let b : List Version = between (n + from) (n + to) (versions_in m) in
      let l : length b ≤ to - from = rw length-take (omega arith) in
      omega (arith, kept_short rule (version_at i (versions_in m)) b)

  module _ {m₁ : Bytes} {r : ℕ} (a : Stored m (n + w) (kept_of rule m i (n + from) (n + to)) m₁ r) where
    pub end_fits : EndStorable m₁ i (r - n)
    end_fits =
        let h = a.holds in
        record {
          shaped = holds_shaped m s h;
          below = rw (holds_keys m s h) f.row;
          low = omega (arith, a.place, left_short, f.low, f.rise, f.fits, s.good.versions_fit, s.good.few_versions);
        }

    pub key_done : {m₂ : Bytes} → Holds m₁ (set_end i (r - n) (keys_in m₁)) (versions_in m₁) m₂ → KeySwept rule m i from to w m₂ (r - n)
    key_done {m₂} b =
        let h = a.holds in
        let d : r - n ≡ w + length left = omega (arith, a.place) in
        let k : Holds m (set_end i (r - n) (keys_in m)) (sets (versions_in m) (n + w) left) m₂ =
        holds_as (ap (set_end i (r - n)) (holds_keys m s h)) (holds_versions m s h) (holds_then m s h b) in
        record { end = rw (← e) d; holds = rw (← e) k }

-- ---- all keys: at key i, the rows and older versions that are done, what stands over, then the entries to come

abbrev entries_in : Bytes → List Entry
entries_in m = (hall_in m).entries

pub record Walking (m₀ : Bytes) (r : Rule) (n : ℕ) (m : Bytes) (from w i : ℕ) : Type 0 where
  pub sound : Sound m₀
  pub count : n ≡ length (keys_in m₀)
  pub rows : List Row
  pub olders : List Version
  pub over : List Version
  pub holds : Holds m₀ (rows ++ rows_of from (drop i (entries_in m₀)))
      (newests_of (entries_in m₀) ++ (olders ++ (over ++ olders_of (drop i (entries_in m₀))))) m
  pub passed : length rows ≡ i
  pub place : length olders ≡ w
  pub start : w + length over ≡ from
  pub rows_done : rows ++ rows_of w (trim_olders r (drop i (entries_in m₀))) ≡ rows_of 0 (trim_olders r (entries_in m₀))
  pub olders_done : olders ++ olders_of (trim_olders r (drop i (entries_in m₀))) ≡ olders_of (trim_olders r (entries_in m₀))

pub walk_start : {m : Bytes} {r : Rule} {n : ℕ} → Sound m → n ≡ length (keys_in m) → Walking m r n m 0 0 0
walk_start {m} s e =
    record {
      sound = s;
      count = e;
      rows = [];
      olders = [];
      over = [];
      holds = holds_as (keys_are m s) (versions_are m s) (holds_same m (sound_shaped m s));
      passed = refl;
      place = refl;
      start = refl;
      rows_done = refl;
      olders_done = refl;
    }

-- a shorter run stored over what stands between a and c
store_over : (a b c x : List Version) (at : ℕ) → length a ≡ at → length x ≤ length b → sets (a ++ (b ++ c)) at x ≡ (a ++ x) ++ (drop (length x) b ++ c)
store_over a b c x at e h =
    let n : ℕ = length x in
    let f : length (take n b) ≡ n = rw length-take (omega arith) in
    ap (λ (l : List Version). sets (a ++ (l ++ c)) at x) (sym (take-append-drop n b))
    ∙ rw (append_assoc (take n b) (drop n b) c, append_assoc a x (drop n b ++ c)) (sets_mid a (take n b) (drop n b ++ c) x at e f)

module _ {m₀ : Bytes} {r : Rule} {n : ℕ} {m : Bytes} {from w i : ℕ} (g : Walking m₀ r n m from w i) where
  abbrev es : List Entry
  es = entries_in m₀

  abbrev shaped : Shaped m₀
  shaped = sound_shaped m₀ g.sound

  full : NonEmpty es
  full = (hall_parts (hall_in m₀) g.sound.hall).non_empty

  newests_long : length (newests_of es) ≡ n
  newests_long = newests_total es full ∙ sym (g.count ∙ keys_counted m₀ g.sound)

  pub walk_shaped : Shaped m
  walk_shaped = holds_shaped m₀ shaped g.holds

  pub cut_fits : n + w ≤ length (versions_in m)
  cut_fits = rw (holds_versions m₀ shaped g.holds) (simp length-append (omega (arith, newests_long, g.place)))

  module _ (h : i < n) where
    abbrev e : Entry
    e = get_or es i no_entry

    abbrev rest : List Entry
    rest = drop (suc i) es

    abbrev row : Row
    row = record { key = e.key; end = from + (length e.chain - 1) }

    abbrev newest : Version
    newest = version_at i (versions_in m₀)

    entry : drop i es ≡ e ∷ rest
    entry = drop-cons es i no_entry (omega (arith, g.count, keys_counted m₀ g.sound))

    rows_now : keys_in m ≡ g.rows ++ (row ∷ rows_of row.end rest)
    unfolding rows_of
    rows_now = rw (holds_keys m₀ shaped g.holds, entry)

    versions_now : versions_in m ≡ newests_of es ++ (g.olders ++ (g.over ++ (older e.chain ++ olders_of rest)))
    unfolding olders_of
    versions_now = rw (holds_versions m₀ shaped g.holds, entry)

    row_now : row_at i (keys_in m) ≡ row
    row_now = rw rows_now (get_or_at g.rows row (rows_of row.end rest) no_row i g.passed)

    pub count_now : length (keys_in m) ≡ n
    count_now = rw rows_now (simp (length-append, rows_total, length-drop) (omega (arith, g.passed, g.count, keys_counted m₀ g.sound)))

    newest_now : version_at i (versions_in m) ≡ newest
    newest_now =
        let a : (l : List Version) → version_at i (newests_of es ++ l) ≡ version_at i (newests_of es) =
        λ l. get_or-append (newests_of es) l no_version i (omega (arith, newests_long)) in
        rw (versions_now, versions_are m₀ g.sound) (a (g.olders ++ (g.over ++ (older e.chain ++ olders_of rest))) ∙ sym (a (olders_of es)))

    chain_split : e.chain ≡ older e.chain ++ newest ∷ []
    chain_split =
        let k : i < length (keys_in m₀) = omega (arith, g.count) in
        let ks : List Row = keys_in m₀ in
        let b : List Version = between (length ks + end_before 0 i ks) (length ks + (row_at i ks).end) (versions_in m₀) in
        let q : e.chain ≡ b ++ newest ∷ [] = ap (λ (x : Entry). x.chain) (entry_at_lem m₀ g.sound i k) in
        q ∙ ap (λ (l : List Version). l ++ newest ∷ []) (sym (ap older q ∙ older_more b newest))

    pub walk_row : i < length (keys_in m)
    walk_row = omega (arith, count_now)

    module _ (to : ℕ) (p : to ≡ (row_at i (keys_in m)).end) where
      to_is : to ≡ from + length (older e.chain)
      to_is = p ∙ ap (λ (x : Row). x.end) row_now ∙ ap (λ (k : ℕ). from + k) (sym (length_older e.chain))

      olders_now : between (length (keys_in m) + from) (length (keys_in m) + to) (versions_in m) ≡ older e.chain
      olders_now =
          let o : List Version = older e.chain in
          let k : length (keys_in m) + to - (length (keys_in m) + from) ≡ length o = omega (arith, to_is) in
          let x : List Version = newests_of es ++ (g.olders ++ g.over) in
          let f : length x ≡ length (keys_in m) + from = simp length-append (omega (arith, newests_long, count_now, g.place, g.start)) in
          let a : versions_in m ≡ x ++ (o ++ olders_of rest) = versions_now ∙ simp append_assoc in
          rw (k, a, drop_at x (o ++ olders_of rest) (length (keys_in m) + from) f) (take_at o (olders_of rest) (length o) refl)

      -- a version among them
      older_now : (a : ℕ) → length (keys_in m) + from ≤ a → a < length (keys_in m) + to
          → version_at a (versions_in m) ≡ version_at (a - (length (keys_in m) + from)) (older e.chain)
      older_now a h l =
          let s : ℕ = length (keys_in m) + from in
          let k : ℕ = length (keys_in m) + to - s in
          let z : s + (a - s) ≡ a = omega arith in
          rw (← olders_now)
          (sym (get_or-take k (drop s (versions_in m)) (a - s) no_version (omega arith) ∙ rw z at (get_or-drop s (versions_in m) (a - s) no_version)))

      rises_now : Rises m (length (keys_in m) + from) (length (keys_in m) + to)
      rises_now a u l =
          let s : ℕ = length (keys_in m) + from in
          let o : List Version = older e.chain in
          let p = hall_parts (hall_in m₀) g.sound.hall in
          let hi : ℕ = (hall_in m₀).counter in
          let r = rising_at hi es (all_rising hi [] es p.ascending p.rising) i (omega (arith, g.count, keys_counted m₀ g.sound)) in
          let r' : Rising 0 hi (o ++ newest ∷ []) = rw chain_split at r in
          let q : suc a - s ≡ suc (a - s) = omega arith in
          rw (older_now a u (omega arith), older_now (suc a) (omega arith) l, q)
          (rising_next 0 hi o (newest ∷ []) r' (a - s) (omega (arith, to_is)))

      pub walk_fits : KeyFits m i from to w
      walk_fits =
          let l : n + to ≤ length (versions_in m) = rw versions_now (simp length-append (omega (arith, to_is, newests_long, g.place, g.start))) in
          record { shaped = walk_shaped; row = walk_row; low = omega (arith, g.start); rise = omega (arith, to_is); fits = rw count_now l; rises = rises_now }

      abbrev t : List Version
      t = kept r (older e.chain) newest

      t_is : kept_of_key r m i from to ≡ t
      t_is = λ j. kept r (olders_now j) (newest_now j)

      t_short : length t ≤ length (g.over ++ older e.chain)
      t_short = rw length-append (omega (arith, kept_short r newest (older e.chain)))

      rows_after : (k : ℕ) → set_end i k (keys_in m) ≡ (g.rows ++ (record { key = e.key; end = k } ∷ [])) ++ rows_of to rest
      unfolding set_end
      rows_after k =
          let x : Row = record { key = e.key; end = k } in
          let q : row.end ≡ to = sym (p ∙ ap (λ (x : Row). x.end) row_now) in
          rw (row_now, rows_now, set_at g.rows row (rows_of row.end rest) x i g.passed, append_assoc g.rows (x ∷ []) (rows_of to rest), q)

      versions_after : sets (versions_in m) (length (keys_in m) + w) t
          ≡ newests_of es ++ ((g.olders ++ t) ++ (drop (length t) (g.over ++ older e.chain) ++ olders_of rest))
      versions_after =
          let o : List Version = g.over ++ older e.chain in
          let x : List Version = newests_of es ++ g.olders in
          let f : length x ≡ length (keys_in m) + w = rw length-append (omega (arith, newests_long, count_now, g.place)) in
          let a : versions_in m ≡ x ++ (o ++ olders_of rest) = versions_now ∙ simp append_assoc in
          ap (λ (l : List Version). sets l (length (keys_in m) + w) t) a
          ∙ store_over x o (olders_of rest) t (length (keys_in m) + w) f t_short
          ∙ simp append_assoc

      done_rows : (g.rows ++ (record { key = e.key; end = w + length t } ∷ [])) ++ rows_of (w + length t) (trim_olders r rest) ≡ rows_of 0 (trim_olders r es)
      unfolding rows_of trim_olders
      done_rows = append_assoc g.rows _ _ ∙ rw (entry, older_left r e.chain newest chain_split) at g.rows_done

      done_olders : (g.olders ++ t) ++ olders_of (trim_olders r rest) ≡ olders_of (trim_olders r es)
      unfolding olders_of trim_olders
      done_olders = append_assoc g.olders t _ ∙ rw (entry, older_trimmed r e.chain newest chain_split) at g.olders_done

      pub walk_step : {m₁ : Bytes} {w₁ : ℕ} → KeySwept r m i from to w m₁ w₁ → Walking m₀ r n m₁ to w₁ (i + 1)
      walk_step {m₁} {w₁} k =
          let u : w₁ ≡ w + length t = k.end ∙ ap (λ (l : List Version). w + length l) t_is in
          let v = ap (λ (l : List Version). sets (versions_in m) (length (keys_in m) + w) l) t_is ∙ versions_after in
          let a = length-append g.over (older e.chain) in
          let b = length-drop (length t) (g.over ++ older e.chain) in
          rw add-one (record {
            sound = g.sound;
            count = g.count;
            rows = g.rows ++ (record { key = e.key; end = w₁ } ∷ []);
            olders = g.olders ++ t;
            over = drop (length t) (g.over ++ older e.chain);
            holds = holds_as (rows_after w₁) v (holds_then m₀ shaped g.holds k.holds);
            passed = rw length-append (omega (arith, g.passed));
            place = rw length-append (omega (arith, g.place));
            start = omega (arith, g.start, to_is, t_short);
            rows_done = rw u done_rows;
            olders_done = done_olders;
          })

  -- after the last key
  module _ (h : n ≤ i) where
    none : drop i es ≡ []
    none = drop_of_length-le es {i = i} (omega (arith, g.count, keys_counted m₀ g.sound))

    rows_end : keys_in m ≡ rows_of 0 (trim_olders r es)
    unfolding rows_of trim_olders
    rows_end = rw (holds_keys m₀ shaped g.holds, none) (rw none at g.rows_done)

    olders_end : g.olders ≡ olders_of (trim_olders r es)
    unfolding olders_of trim_olders
    olders_end = rw (none, append-nil) at g.olders_done

    versions_end : take (n + w) (versions_in m) ≡ versions_of (trim_olders r es)
    versions_end =
        let x : List Version = newests_of es ++ g.olders in
        let y : List Version = g.over ++ olders_of (drop i es) in
        let a : versions_in m ≡ x ++ y = holds_versions m₀ shaped g.holds ∙ simp append_assoc in
        let f : length x ≡ n + w = rw length-append (omega (arith, newests_long, g.place)) in
        rw (a, take_at x y (n + w) f, newests_trimmed r es full, ← olders_end)

    pub walk_end : {m₁ : Bytes} → Holds m (keys_in m) (take (n + w) (versions_in m)) m₁ → Trimmed r m₀ m₁
    walk_end k = holds_as rows_end versions_end (holds_then m₀ shaped g.holds k)
