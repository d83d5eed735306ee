-- Writes that nothing clashes with: what is found on the way says their outcome, and what is left in the memories.
-- Assumes nothing.
use Prim.Native.Nat.{ℕ, suc, ◌+◌, ◌-◌, ◌<◌}
use native.Mathlib.Numerals.{add-one}
use native.Mathlib.Omega.{arith}
use mathlib.Core.Path.{◌≡◌, refl, sym, ap, ◌∙◌}
use mathlib.Core.Bool.{Bool, false}
use mathlib.Core.List.{[], ◌∷◌}
use Rattle.std.specs.Prelude.{Option}
use lib.Dec.{leb, ltb}
use lib.ListN.{length, set}
use borrow.Author.Tests.{leb-false, ltb-false}
use Rattle.model.specs.Sizes.{last_number}
use Rattle.model.specs.Bytes.{Bytes}
use Rattle.model.specs.State.{Hall, Writes, free, version_count, publish, with_entries, redesk, vacated}
use Rattle.model.specs.Journal.{Commit}
use Rattle.model.specs.Load.{fault}
use Rattle.model.specs.Calls.{Checks, rooms, Clashes, refused, done, committed, stays, Outcome, answering, check, new_keys, is_spent, room_checks, commit_as, settle, apply}
use Rattle.model.proofs.Cases.{by_bool}
use Rattle.model_laws.proofs.Effects.{AllFalse, none_holds, passes, fails}
use Rattle.answers.specs.declared.Refusal.{Refusal}
use Rattle.answers.specs.declared.Refusal.TheVariants.{ShortOutput}
use Rattle.answers.specs.declared.Done.{Done}
use Rattle.answers.specs.declared.Done.TheVariants as told
use Rattle.answers.specs.declared.Committed.TheVariants as answers
use Rattle.answers.specs.Paper.{number_of, paper_done}
use Rattle.hall.specs.Layout.{counter_in, hall_in, put_hall}
use Rattle.hall.proofs.Laws.Sound as halls
use Rattle.desk.specs.Layout.{desks_in, put_desks}
use Rattle.desk.specs.Shape as shape
use Rattle.desk.proofs.Laws.Sound as desks
use Rattle.desk.proofs.Laws.Starts.{open_at, vacated_at}
use Rattle.desk_writes.proofs.Laws.Ordered.{writes_sound}
use Rattle.hall_sought.specs.Sought.{writes_in, Ready}
use Rattle.hall_merge.specs.Merge.{Publishable}
use Rattle.bridge.specs.Store.{store_in, Sound}
use Rattle.memory.specs.Spans.{overlay}
use Rattle.dump_write.specs.Over.{Wrote}
use Rattle.commit_writes.specs.Commits.{settle_at, commit_at, OpenDesk, Unopposed, Keeps, Ended}
use Rattle.commit_writes.specs.declared.Kept.{Kept}
use Rattle.commit_writes.specs.declared.Kept.TheVariants.{Record, Short}

-- ---- the checks of number and room

pub spent_told : (m : Bytes) {x : Bool} {a : ℕ} → a ≡ counter_in m → leb last_number a ≡ x → is_spent (hall_in m) ≡ x
unfolding is_spent
spent_told m e t = rw (halls.hall_counter m, ← e) t

-- the first check that holds refuses
faulted : (cs : Checks) (o : Outcome) (n : ℕ) → fault cs ≡ suc n → check cs o ≡ answering (refused (suc n)) stays
unfolding check fault
faulted [] o n e = absurd (omega (arith, e))
faulted (c ∷ cs) o n e =
    by_bool c.0 (λ p. let q : c.1 ≡ suc n = rw p at e in rw (p, q)) (λ p. rw p (faulted cs o n (rw p at e)))

-- what is lacking, where a number is left
module _ (g : Hall) (ws : Writes) (s : is_spent g ≡ false) where
  pub lack_told : (n : ℕ) → suc n ≡ fault (rooms g ws) → refused (suc n) ≡ (check (room_checks g ws) (answering done stays)).answer
  unfolding room_checks check
  lack_told n e = rw s (ap (λ (o : Outcome). o.answer) (sym (faulted (rooms g ws) (answering done stays) n (sym e))))

  pub none_lacks : {n : ℕ} → n ≡ fault (rooms g ws) → (n ≡ 10 → ⊥) → (n ≡ 11 → ⊥)
      → done ≡ (check (room_checks g ws) (answering done stays)).answer
  unfolding room_checks check fault
  none_lacks e x y =
      by_bool (ltb (g.key_rooms - length g.entries) (new_keys ws g.entries))
      (λ p. absurd (x (rw p at e)))
      (λ p. by_bool (ltb (g.version_rooms - version_count g.entries) (length ws)) (λ q. absurd (y (rw (p, q) at e))) (λ q. rw (s, p, q)))

-- ---- the model's commit

module _ (g : Hall) (j : Option ℕ) (t : ℕ) where
  settle_free : (ws : Writes) (cs : Clashes) → (length ws ≡ 0 → ⊥) → cs ≡ []
      → settle g j t ws cs ≡ check (room_checks g ws) (commit_as j t (record { number = suc g.counter; writes = ws }))
  unfolding settle
  settle_free [] cs z e = absurd (z refl)
  settle_free (w ∷ ws) cs z e = rw e

-- ---- what each effect leaves in sound memories

-- an outcome without bytes leaves the journal
pub none_kept : (out : Bytes) (o : Outcome) → o.bytes ≡ [] → Wrote o.bytes out out 0
unfolding overlay
none_kept out o e = rw e (record { count = refl; bytes = refl })

module _ {h d : Bytes} (s : Sound h d) where
  pub refused_ended : (r : Refusal) (out : Bytes) {o : Outcome} → o ≡ answering (refused (number_of r)) stays
      → Ended h d h d out out o (record { answer = answers.Refused r; length = 0 })
  unfolding apply store_in
  refused_ended r out {o} e =
      record {
        settled = rw e (record { answer = refl; count = tt; hall = s.hall.same; desk = s.desk.same });
        kept = none_kept out o (rw e);
      }

-- desk k of start t is open
module _ {h d : Bytes} {k t : ℕ} (p : OpenDesk h d k t) where
  pub desks_shaped : shape.Shaped d × (k < length (desks_in d))
  desks_shaped = (desks.sound_shaped (hall_in h) d p.sound.desk, (open_at t (desks_in d) k p.at).below)

  pub ready : Ready h d k
  ready = record { hall = p.sound.hall; desks = desks_shaped.0; below = desks_shaped.1 }

  pub desk_closed : redesk t vacated (desks_in d) ≡ set (desks_in d) k free
  desk_closed = vacated_at t (desks_in d) k (desks.sound_distinct (hall_in h) d p.sound.desk) p.at

-- nothing clashes; y is what the checks of number and room answered
module _ {h d : Bytes} {k t : ℕ} (u : Unopposed h d k t) where
  abbrev own : Writes
  own = writes_in d k

  -- the commit under the next number
  abbrev upcoming : Commit
  upcoming = commit_at d k (suc (hall_in h).counter)

  module _ (y : Done) (a : paper_done y ≡ (check (room_checks (hall_in h) own) (answering done stays)).answer) where
    free_settles : (j : Option ℕ) → settle_at j h d k t ≡ check (room_checks (hall_in h) own) (commit_as j t upcoming)
    free_settles j = settle_free (hall_in h) j t own _ u.writes u.clear

    pub no_room_ended : (j : Option ℕ) (r : Refusal) (out : Bytes) → y ≡ told.Refused r
        → Ended h d h d out out (settle_at j h d k t) (record { answer = answers.Refused r; length = 0 })
    no_room_ended j r out b = refused_ended u.desk.sound r out (free_settles j ∙ fails _ _ (number_of r) (sym a ∙ ap paper_done b))

    module _ (b : y ≡ told.Done) where
      all_clear : AllFalse (room_checks (hall_in h) own)
      all_clear = none_holds (room_checks (hall_in h) own) (sym a ∙ ap paper_done b)

      pub number_left : (hall_in h).counter < last_number
      unfolding room_checks is_spent
      number_left = leb-false last_number (hall_in h).counter all_clear.0

      room_settles : (j : Option ℕ) → settle_at j h d k t ≡ commit_as j t upcoming
      room_settles j = free_settles j ∙ passes _ (commit_as j t upcoming) all_clear

      module _ {m : ℕ} (v : m ≡ (hall_in h).counter) where
        numbered : m + 1 ≡ suc (hall_in h).counter
        numbered = add-one m ∙ ap suc v

        pub publishable : Publishable h d k (m + 1)
        unfolding room_checks
        publishable =
            record {
              ready = ready u.desk;
              later = omega (arith, v);
              low = omega (arith, number_left);
              writes = writes_sound (hall_in h) (desks_in d) k (desks.all_open (hall_in h) (desks_in d) u.desk.sound.desk.desks);
              key_room = ltb-false _ _ all_clear.1.0;
              version_room = ltb-false _ _ all_clear.1.1.0;
            }

        -- what `keep` answered of the record
        pub short_ended : (j : Option ℕ) (out : Bytes) {out' : Bytes} {z : Kept} → Keeps j (commit_at d k (m + 1)) out out' z → z ≡ Short
            → Ended h d h d out out' (settle_at j h d k t) (record { answer = answers.Refused ShortOutput; length = 0 })
        unfolding check
        short_ended j out {out'} e z =
            let w = rw (z, numbered) at e in
            rw w.1 (refused_ended u.desk.sound ShortOutput out (room_settles j ∙ rw w.0))

        pub committed_ended : (j : Option ℕ) {h' d' out out' : Bytes} {n : ℕ} {z : Kept} → Keeps j (commit_at d k (m + 1)) out out' z
            → z ≡ Record n
            → h' ≡ put_hall h (with_entries (hall_in h) (m + 1) (publish (m + 1) own (hall_in h).entries))
            → d' ≡ put_desks d (set (desks_in d) k free)
            → Ended h d h' d' out out' (settle_at j h d k t) (record { answer = answers.As (record { 0 = m + 1 }); length = n })
        unfolding apply store_in check
        committed_ended j e z p q =
            let w = rw (z, numbered) at e in
            rw (room_settles j, w.0)
            (record {
              settled =
                  record {
                    answer = ap committed numbered;
                    count = tt;
                    hall = rw numbered at p;
                    desk = rw (desk_closed u.desk) q;
                  };
              kept = w.1;
            })
