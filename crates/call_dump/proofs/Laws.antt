-- The dump: what each test on the way to an answer says of the outcome.
use mathlib.Core.Path.{◌≡◌, refl, ap, ◌∙◌}
use mathlib.Core.Bool.{true, false}
use mathlib.Core.List.{[], ◌∷◌}
use Prim.Native.Nat.{ℕ, ◌≤◌, ◌<◌}
use borrow.Author.Tests.{lt-ltb, le-ltb}
use lib.ListN.{length}
use lib.Dec.{ltb}
use Rattle.model.specs.Bytes.{Bytes}
use Rattle.model.specs.Dump.{dump_hall}
use Rattle.model.specs.Calls.{dump, ask, Answer, refused, dumped, Outcome, stays, answering, returning, check, reply, decide}
use Rattle.hall.specs.Layout.{is_sound, hall_in}
use Rattle.dump_write.specs.Over.{Wrote}
use Rattle.memory.specs.Spans.{overlay}
use Rattle.bridge.specs.Store.{store_in, asks_desks, looks_at_desks, is_sound_for, outcome_on}
use Rattle.bridge.specs.Clauses.{DumpCalled}
use Rattle.bridge.proofs.Laws.Memories.{unsound_hall}

-- the call whose outcome is o
called : (h out : Bytes) (o : Outcome) {out' : Bytes} {a : Answer} → outcome_on h [] (ask (dump (length out))) ≡ o → a ≡ o.answer → out' ≡ overlay o.bytes out
    → DumpCalled h out out' a
called h out o e a b = record { answer = cc; output = cc }

pub dump_sound : (h : Bytes) (room : ℕ) → is_sound h ≡ true
    → outcome_on h [] (ask (dump room)) ≡ check ((ltb room (length (dump_hall (hall_in h))), 12) ∷ []) (returning (dumped (length (dump_hall (hall_in h)))) (dump_hall (hall_in h)))
unfolding outcome_on is_sound_for looks_at_desks asks_desks store_in decide reply
dump_sound h room s = rw s

module _ (h out : Bytes) where
  abbrev bs : Bytes
  bs = dump_hall (hall_in h)

  pub dump_unsound : is_sound h ≡ false → DumpCalled h out out (refused 1)
  unfolding overlay
  dump_unsound e = called h out (answering (refused 1) stays) (unsound_hall h [] (ask (dump (length out))) e) refl refl

  module _ (s : is_sound h ≡ true) where
    pub dump_short : length out < length bs → DumpCalled h out out (refused 12)
    unfolding check overlay
    dump_short l = called h out (answering (refused 12) stays) (dump_sound h (length out) s ∙ rw (lt-ltb (length out) (length bs) l)) refl refl

    pub dump_written : {out' : Bytes} {n : ℕ} → length bs ≤ length out → Wrote bs out out' n → DumpCalled h out out' (dumped n)
    unfolding check
    dump_written l w = called h out (returning (dumped (length bs)) bs) (dump_sound h (length out) s ∙ rw (le-ltb (length out) (length bs) l)) (ap dumped w.count) w.bytes
