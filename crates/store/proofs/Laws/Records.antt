-- What a commit lists and writes into its journal, over bytes.
use Prim.Native.Nat.{ℕ, suc, ◌≤◌, ◌<◌}
use native.Mathlib.Omega.{arith}
use mathlib.Core.Path.{◌≡◌, refl, sym, ap, ◌∙◌}
use mathlib.Core.List.{[], ◌∷◌}
use Rattle.std.specs.Prelude.{Option, None, Some}
use lib.ListN.{length, take}
use lib.Seq.{take-append_seam}
use lib.Dec.{ltb}
use borrow.Author.Tests.{ltb-true, ltb-false}
use Rattle.model.specs.Bytes.{Bytes}
use Rattle.model.specs.State.{Hall, Writes, or_empty, writes_of}
use Rattle.model.specs.Journal.{Commit, dump_commit}
use Rattle.model.specs.Calls.{commit, commit_to, Call, on, Clashes, Answer, refused, conflict, faulty, began, found, done, committed, closed, swept, thinned, counted, dumped, replayed, refusal, clashes_of, Effect, stays, Outcome, answering, Checks, check, room_checks, commit_as, settle, act, decide, apply}
use Rattle.model.specs.History.{is_commit}
use Rattle.model.proofs.Cases.{by_bool, zero_one}
use Rattle.model_laws.proofs.Effects.{checked}
use Rattle.memory.specs.Spans.{overlay}
use Rattle.cells.specs.Cells.{listed}
use Rattle.cells.proofs.Laws.Cells.{nothing_over}
use Rattle.hall.specs.Layout.{put_hall}
use Rattle.desk.specs.Layout.{desks_in, put_desks}
use Rattle.answers.specs.declared.Recorded.{Recorded}
use Rattle.bridge.specs.Store.{store_in, looks_at_desks, outcome_on, hall_after, desk_after, are_sound}
use Rattle.bridge.specs.Clauses.{record_on, Recording}
use Rattle.bridge.proofs.Laws.Memories.{sound_of, outcome_unsound, unsound, outcome_sound, hall_left, desk_left}
use Rattle.store.specs.Demands
use Rattle.store.specs.Recovery
use Rattle.store.specs.Recovery.{recorded_on}
use Rattle.store.proofs.Laws.Demands.{bytes_empty}

-- ---- the list of clashes

-- only a conflict lists any
none_listed : (a : Answer) → (refusal a ≡ 9 → ⊥) → clashes_of a ≡ []
unfolding clashes_of refusal
none_listed (refused n) g = refl
none_listed (conflict cs) g = absurd (g refl)
none_listed (faulty n at) g = refl
none_listed (began t d) g = refl
none_listed (found k) g = refl
none_listed done g = refl
none_listed (committed n) g = refl
none_listed closed g = refl
none_listed (swept c d) g = refl
none_listed (thinned d) g = refl
none_listed (counted k v d) g = refl
none_listed (dumped n) g = refl
none_listed (replayed n) g = refl

pub list_kept : Demands.ListKept
list_kept j h d h' d' before after t r x g =
    x.output
    ∙ ap (λ (l : Clashes). overlay (listed (length before) l) before) (none_listed _ (λ e. g (ap refusal x.called.answer ∙ e)))
    ∙ nothing_over (length before) before

-- ---- no record

module _ {j : Option ℕ} {h d h' d' before after blank filled : Bytes} {t : ℕ} {r : Recorded} (x : Recording j h d h' d' before after blank filled t r) where
  unrecorded : record_on j h d t ≡ [] → (filled ≡ blank) × (r.length ≡ 0)
  unfolding overlay
  unrecorded e = (x.output ∙ ap (λ (b : Bytes). overlay b blank) e, x.size ∙ ap length e)

pub refused_record : Recovery.RefusedRecord
refused_record j h d h' d' before after blank filled t r n x e =
    unrecorded x (bytes_empty h d (on t (commit_to j)) n (ap refusal (sym x.commits.called.answer) ∙ e))

settle_empty : (h : Hall) (j : Option ℕ) (t : ℕ) (ws : Writes) (l : Clashes) → ws ≡ [] → (settle h j t ws l).bytes ≡ []
unfolding settle
settle_empty h j t ws l e = rw e refl

pub empty_record : Recovery.EmptyRecord
unfolding decide act store_in looks_at_desks
empty_record j h d h' d' before after blank filled t r x e =
    unrecorded x
    (by_bool (are_sound h d)
    (λ p. ap (λ (o : Outcome). o.bytes) (outcome_sound h d (sound_of h d p) (on t (commit_to j)))
    ∙ checked (λ (o : Outcome). o.bytes ≡ []) (λ n. refl) _ _ (λ a. settle_empty _ j t _ _ e))
    (λ p. ap (λ (o : Outcome). o.bytes) (outcome_unsound h d (on t (commit_to j)) refl p)))

-- ---- with a journal and without

-- of the same commit of writes ws, with a journal of that room and without one: the same, or 12 since the record is too long
data Beside (room : ℕ) (ws : Writes) (o p : Outcome) : Type 0 where
  alike : o.answer ≡ p.answer → o.effect ≡ p.effect → (refusal p.answer ≡ 12 → ⊥)
      → ((n : ℕ) → p.answer ≡ committed n
      → (o.bytes ≡ dump_commit (record { number = n; writes = ws })) × (length (dump_commit (record { number = n; writes = ws })) ≤ room))
      → Beside room ws o p
  short : (n : ℕ) → o ≡ answering (refused 12) stays → p.answer ≡ committed n → room < length (dump_commit (record { number = n; writes = ws }))
      → Beside room ws o p

-- checks that do not refuse 12
abbrev Others : Checks → Type 0
Others [] = Unit {0}
Others (c ∷ cs) = (c.1 ≡ 12 → ⊥) × Others cs

module _ (room : ℕ) (ws : Writes) where
  -- the same answer to both, which is no commit's
  same_both : (a : Answer) (e : Effect) → (refusal a ≡ 12 → ⊥) → ((n : ℕ) → a ≡ committed n → ⊥) → Beside room ws (answering a e) (answering a e)
  same_both a e g k = alike refl refl g (λ n q. absurd (k n q))

  check_both : (cs : Checks) (o p : Outcome) → Others cs → Beside room ws o p → Beside room ws (check cs o) (check cs p)
  unfolding check refusal
  check_both [] o p g b = b
  check_both (c ∷ cs) o p g b =
      by_bool c.0
      (λ q. rw q (same_both (refused c.1) stays g.0 (λ n e. zero_one (cc e))))
      (λ q. rw q (check_both cs o p g.1 b))

settle_both : (room : ℕ) (h : Hall) (t : ℕ) (ws : Writes) (l : Clashes) → Beside room ws (settle h (Some room) t ws l) (settle h None t ws l)
unfolding settle room_checks check refusal
settle_both room h t [] l = same_both room [] closed _ (λ e. omega arith) (λ n e. zero_one (cc e))
settle_both room h t (w ∷ ws) (c ∷ l) = same_both room (w ∷ ws) (conflict (c ∷ l)) _ (λ e. omega arith) (λ n e. zero_one (cc e))
settle_both room h t (w ∷ ws) [] =
    let c : Commit = record { number = suc h.counter; writes = w ∷ ws } in
    check_both room (w ∷ ws) (room_checks h (w ∷ ws)) (commit_as (Some room) t c) (commit_as None t c) (omega arith)
    (by_bool (ltb room (length (dump_commit c)))
    (λ q. rw q (short (suc h.counter) refl refl (ltb-true room _ q)))
    (λ q. rw q (alike refl refl (λ e. omega arith) (λ n e. let z : suc h.counter ≡ n = cc e in rw (← z) (refl, ltb-false room _ q)))))

module _ (h d : Bytes) (t room : ℕ) where
  -- the commit with a journal
  kept : Call
  kept = on t (commit_to (Some room))

  both_on : Beside room (or_empty (writes_of t (desks_in d))) (outcome_on h d kept) (outcome_on h d (on t commit))
  unfolding kept decide act store_in refusal looks_at_desks
  both_on =
      let ws = or_empty (writes_of t (desks_in d)) in
      by_bool (are_sound h d)
      (λ p.
      let s = sound_of h d p in
      rw (outcome_sound h d s (on t (commit_to (Some room))), outcome_sound h d s (on t commit))
      (check_both room ws _ _ _ (omega arith) (settle_both room _ t ws _)))
      (λ p.
      rw (outcome_unsound h d (on t (commit_to (Some room))) refl p, outcome_unsound h d (on t commit) refl p)
      (same_both room ws (refused 1) stays (λ e. omega arith) (λ n e. zero_one (cc e))))

-- ---- what follows of two such outcomes

module _ {room : ℕ} {ws : Writes} {o p : Outcome} where
  exact_of : Beside room ws o p → (n : ℕ) → o.answer ≡ committed n
      → (o.bytes ≡ dump_commit (record { number = n; writes = ws })) × (length (dump_commit (record { number = n; writes = ws })) ≤ room)
  exact_of (alike a e g f) n q = f n (sym a ∙ q)
  exact_of (short m z a l) n q = zero_one (cc (sym (ap (λ (o : Outcome). o.answer) z) ∙ q))

  short_of : Beside room ws o p → refusal o.answer ≡ 12
      → (n : ℕ) × (p.answer ≡ committed n) × (room < length (dump_commit (record { number = n; writes = ws })))
  short_of (alike a e g f) q = absurd (g (ap refusal (sym a) ∙ q))
  short_of (short n z a l) q = (n, a, l)

  is_short_lem : Beside room ws o p → (n : ℕ) → p.answer ≡ committed n → room < length (dump_commit (record { number = n; writes = ws }))
      → o.answer ≡ refused 12
  is_short_lem (alike a e g f) n q l = absurd (omega (arith, (f n q).1, l))
  is_short_lem (short m z a k) n q l = ap (λ (o : Outcome). o.answer) z

  aside : Beside room ws o p → (refusal o.answer ≡ 12 → ⊥) → (o.answer ≡ p.answer) × (o.effect ≡ p.effect)
  unfolding refusal
  aside (alike a e g f) k = (a, e)
  aside (short n z a l) k = absurd (k (ap (λ (o : Outcome). refusal o.answer) z))

pub record_exact : Recovery.RecordExact
unfolding kept
record_exact h d h' d' before after blank filled t n r x e =
    let w = exact_of (both_on h d t (length blank)) n (sym x.commits.called.answer ∙ e) in
    (x.output ∙ ap (λ (b : Bytes). overlay b blank) w.0, x.size ∙ ap length w.0, w.1)

pub short_exact : Recovery.ShortExact
unfolding kept
short_exact h d t room = (short_of (both_on h d t room), is_short_lem (both_on h d t room))

pub journal_aside : Recovery.JournalAside
unfolding kept looks_at_desks
journal_aside h d t room k =
    let a = aside (both_on h d t room) k in
    by_bool (are_sound h d)
    (λ p.
    let s = sound_of h d p in
    let hall : (c : Call) → hall_after h d c ≡ put_hall h (apply (store_in h d) (outcome_on h d c).effect).hall =
    λ c. hall_left h d s c ∙ ap (λ (o : Outcome). put_hall h (apply (store_in h d) o.effect).hall) (sym (outcome_sound h d s c)) in
    let desk : (c : Call) → desk_after h d c ≡ put_desks d (apply (store_in h d) (outcome_on h d c).effect).desks =
    λ c. desk_left h d s c ∙ ap (λ (o : Outcome). put_desks d (apply (store_in h d) o.effect).desks) (sym (outcome_sound h d s c)) in (
      a.0,
      hall (on t (commit_to (Some room))) ∙ ap (λ (e : Effect). put_hall h (apply (store_in h d) e).hall) a.1 ∙ sym (hall (on t commit)),
      desk (on t (commit_to (Some room))) ∙ ap (λ (e : Effect). put_desks d (apply (store_in h d) e).desks) a.1 ∙ sym (desk (on t commit)),
    ))
    (λ p.
    let q = unsound h d (on t (commit_to (Some room))) refl p in
    let r = unsound h d (on t commit) refl p in
    (a.0, sym q.hall ∙ r.hall, sym q.desk ∙ r.desk))

pub record_kept : Recovery.RecordKept
unfolding recorded_on is_commit overlay
record_kept j h d h' d' before after blank filled t r x =
    let b = record_on j h d t in
    ap (λ (n : ℕ). take n filled) x.size ∙ ap (take (length b)) x.output ∙ take-append_seam b _
