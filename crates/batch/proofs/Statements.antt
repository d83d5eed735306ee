-- Batches over bytes are the model's batches, and the single calls' memories and answers.
use Prim.Native.Nat.{ℕ, suc}
use native.Mathlib.Omega.{arith}
use mathlib.Core.Path.{◌≡◌, refl, sym, ap, subst, ◌∙◌}
use mathlib.Core.Bool.{true}
use mathlib.Core.List.{List, [], ◌∷◌, ◌++◌, map}
use borrow.Author.Tests.{le-ltb}
use lib.Dec.{ltb}
use Rattle.model.specs.Bytes.{Bytes, are_bytes}
use Rattle.model.specs.State.{Store}
use Rattle.model.specs.Load.{Parsed, got, bad}
use Rattle.model.specs.Calls.{Call, Answer, refusal, Outcome, answer, next}
use Rattle.model.specs.Runs.{run, response, responses}
use Rattle.model.specs.History.{in_bytes, all_in_bytes}
use Rattle.model.proofs.Cases.{by_bool, both, and_left, and_right}
use Rattle.model_batch.specs.Encoder.{item_in_bytes, items_in_bytes}
use Rattle.model_batch.specs.Items.{Item, call_of}
use Rattle.model_batch.specs.Decoder.{read_batch}
use Rattle.model_batch.specs.Answers.{answers_width, answers_bytes}
use Rattle.model_batch.specs.Batch.{calls_of, Batched, calls_in, makes, batch, read_out}
use Rattle.model_batch.proofs.Decoded.{batch_exact}
use Rattle.model_batch.proofs.Singles.{in_append, call_in_lem, batch_in}
use Rattle.model_batch.proofs.Seen.{read_out_lem}
use Rattle.answers.proofs.Paper.{same_batched}
use Rattle.bridge.specs.Store.{store_in, are_sound, response_on, Memories, after_call}
use Rattle.bridge.proofs.Laws.Memories.{sound_tests}
use Rattle.bridge.proofs.Laws.Kept.{is_sound_lem}
use Rattle.store.specs.Runs as runs
use Rattle.store.specs.Runs.{create_on, Step, call, create, steps_on, AllRefused, Steps, Hold}
use Rattle.store.specs.Demands.{responses_on}
use Rattle.store.proofs.Laws.Runs.{call_holds, steps_hold}
use Rattle.store.proofs.Laws.Demands.{answers_hold}
use Rattle.batch.specs.Batches.{Made, with_response, made_on, Batch, answered, read_on, batch_on}
use Rattle.batch.specs.Statements
use Rattle.batch.specs.Statements.{Turn, step, batched, turn_on, turns_on, Lawful, steps_in, singles_on, seen_on, all_seen_on}

pub unsound_first : Statements.UnsoundFirst
unfolding batch_on
unsound_first m room x e = rw e

-- ---- the items, made singly

-- the memories and responses of the calls cs made on m
abbrev called_on : Memories → List Call → Made
called_on m cs = record { memories = steps_on m (map call cs); responses = responses_on (λ c. true) m (map call cs) }

-- all that is said of the items made on m, which holds s
record Singly (m : Memories) (s : Store) (l : List Answer) (is : List Item) : Type 0 where
  called : made_on m l is ≡ called_on m (calls_of s l is)
  told : (made_on m l is).responses ≡ responses s (calls_of s l is)
  holds : Hold (made_on m l is).memories (run s (calls_of s l is))

response_holds : (m : Memories) (s : Store) → Hold m s → (c : Call) → response_on m.hall m.desk c ≡ response s c
response_holds m s h c = ap (λ (o : Outcome). (o.answer, o.bytes)) (answers_hold m s h c)

singly : (m : Memories) (s : Store) → Hold m s → (l : List Answer) (is : List Item) → items_in_bytes is ≡ true → Singly m s l is
unfolding made_on calls_of items_in_bytes steps_on responses_on responses run
singly m s h l [] b = record { called = refl; told = refl; holds = h }
singly m s h l (i ∷ is) b =
    let c = call_of l i in
    let e = response_holds m s h c in
    let k = call_holds m s c (call_in_lem l i (and_left (item_in_bytes i) (items_in_bytes is) b)) h in
    let r = singly (after_call m c) (next s c) k (l ++ answer s c ∷ []) is (and_right (item_in_bytes i) (items_in_bytes is) b) in
    let v = response_on m.hall m.desk c in
    let a : v.0 ≡ answer s c = ap (λ (r : Answer × Bytes). r.0) e in
    let same : made_on (after_call m c) (l ++ v.0 ∷ []) is ≡ made_on (after_call m c) (l ++ answer s c ∷ []) is =
    ap (λ a. made_on (after_call m c) (l ++ a ∷ []) is) a in
    record {
      called = ap (with_response v) (same ∙ r.called);
      told = λ k. e k ∷ (ap (λ (x : Made). x.responses) same ∙ r.told) k;
      holds = subst (λ (x : Made). Hold x.memories (run (next s c) (calls_of (next s c) (l ++ answer s c ∷ []) is))) (sym same) r.holds;
    }

-- ---- one batch

sound_read : (m : Memories) (s : Store) → Hold m s → (room : ℕ) (x : Bytes) → batch_on m room x ≡ read_on m room (read_batch x)
unfolding batch_on
sound_read m s h room x = rw (sound_tests m.hall m.desk h.sound)

-- what is read of a batch on m is what is read of it on s
record Matches (m : Memories) (s : Store) (room : ℕ) (w : Parsed (List Item)) : Type 0 where
  answer : (read_on m room w).answer ≡ (makes s room w).answer
  bytes : (read_on m room w).bytes ≡ (makes s room w).bytes
  holds : Hold (read_on m room w).memories (makes s room w).store

pub refused_kept : Statements.RefusedKept
unfolding batch_on read_on refusal
refused_kept m room x n e =
    by_bool (are_sound m.hall m.desk) (λ p. rw p (read_kept (read_batch x) (rw p at e))) (λ p. rw p (refl, refl))
  where
    read_kept : (w : Parsed (List Item)) → refusal (read_on m room w).answer ≡ suc n
        → ((read_on m room w).memories ≡ m) × ((read_on m room w).bytes ≡ [])
    read_kept (bad k at) e = (refl, refl)
    read_kept (got is at r) e = by_bool (ltb room (answers_width is)) (λ p. rw p (refl, refl)) (λ p. absurd (omega (arith, rw p at e)))

pub batch_singly : Statements.BatchSingly
unfolding read_on
batch_singly m s h room x b is at rest e f =
    sound_read m s h room x
    ∙ rw (e, le-ltb room (answers_width is) f) (ap (answered is) (singly m s h [] is (batch_exact x is at rest b e).2).called)

pub batch_models : Statements.BatchModels
unfolding batch read_on makes
batch_models m s h room x b =
    let y = reads (read_batch x) refl in
    let e = sound_read m s h room x in
    record {
      answer = ap (λ (b : Batch). b.answer) e ∙ y.answer;
      bytes = ap (λ (b : Batch). b.bytes) e ∙ y.bytes;
      holds = subst (λ (b : Batch). Hold b.memories (batch s room x).store) (sym e) y.holds;
    }
  where
    reads : (w : Parsed (List Item)) → read_batch x ≡ w → Matches m s room w
    reads (bad n at) e = record { answer = refl; bytes = refl; holds = h }
    reads (got is at r) e =
        let y = singly m s h [] is (batch_exact x is at r b e).2 in
        by_bool (ltb room (answers_width is))
        (λ p. record { answer = rw p; bytes = rw p; holds = rw p h })
        (λ p. record { answer = rw p; bytes = rw p (ap (answers_bytes is) y.told); holds = rw p y.holds })

pub fixed_batch : Statements.FixedBatch
fixed_batch m m₁ m₂ x before y z a b p q =
    (same_batched a b (p.answer ∙ sym q.answer), p.memories ∙ sym q.memories, p.output ∙ sym q.output)

-- ---- runs with batches

steps_append : (m : Memories) (a b : List Step) → steps_on m (a ++ b) ≡ steps_on (steps_on m a) b
unfolding steps_on
steps_append m [] b = refl
steps_append m (call c ∷ a) b = steps_append (after_call m c) a b
steps_append m (create o ∷ a) b = steps_append (create_on m o) a b

calls_append : (a b : List Step) → runs.calls_of (a ++ b) ≡ runs.calls_of a ++ runs.calls_of b
unfolding runs.calls_of
calls_append [] b = refl
calls_append (call c ∷ a) b = ap (λ cs. c ∷ cs) (calls_append a b)
calls_append (create o ∷ a) b = calls_append a b

refused_append : (m : Memories) (a b : List Step) → AllRefused m a → AllRefused (steps_on m a) b → AllRefused m (a ++ b)
unfolding AllRefused steps_on
refused_append m [] b p q = q
refused_append m (call c ∷ a) b p q = refused_append (after_call m c) a b p q
refused_append m (create o ∷ a) b p q = (p.0, refused_append (create_on m o) a b p.1 q)

steps_then : (m : Memories) (a b : List Step) → Steps m a → Steps (steps_on m a) b → Steps m (a ++ b)
steps_then m a b p q = record {
  calls = subst (λ cs. all_in_bytes cs ≡ true) (sym (calls_append a b)) (in_append (runs.calls_of a) (runs.calls_of b) p.calls q.calls);
  refused = refused_append m a b p.refused q.refused;
}

-- calls alone
calls_back : (cs : List Call) → runs.calls_of (map call cs) ≡ cs
unfolding runs.calls_of
calls_back [] = refl
calls_back (c ∷ cs) = ap (λ l. c ∷ l) (calls_back cs)

none_refused : (m : Memories) (cs : List Call) → AllRefused m (map call cs)
unfolding AllRefused
none_refused m [] = tt
none_refused m (c ∷ cs) = none_refused (after_call m c) cs

calls_steps : (m : Memories) (cs : List Call) → all_in_bytes cs ≡ true → Steps m (map call cs)
calls_steps m cs b = record { calls = rw (calls_back cs) b; refused = none_refused m cs }

-- their answers
answers_append : (m : Memories) (a b : List Step)
    → responses_on (λ c. true) m (a ++ b) ≡ responses_on (λ c. true) m a ++ responses_on (λ c. true) (steps_on m a) b
unfolding responses_on steps_on
answers_append m [] b = refl
answers_append m (call c ∷ a) b = ap (λ l. response_on m.hall m.desk c ∷ l) (answers_append (after_call m c) a b)
answers_append m (create o ∷ a) b = answers_append (create_on m o) a b

calls_told : (m : Memories) (s : Store) → Hold m s → (cs : List Call) → all_in_bytes cs ≡ true
    → responses_on (λ c. true) m (map call cs) ≡ responses s cs
unfolding responses_on responses all_in_bytes
calls_told m s h [] b = refl
calls_told m s h (c ∷ cs) b =
    let k = call_holds m s c (and_left (in_bytes c) (all_in_bytes cs) b) h in
    both (response_holds m s h c) (calls_told (after_call m c) (next s c) k cs (and_right (in_bytes c) (all_in_bytes cs) b))

-- what is read out goes by the answer and the bytes alone
read_same : (w : Parsed (List Item)) (b c : Batched) → b.answer ≡ c.answer → b.bytes ≡ c.bytes → read_out w b ≡ read_out w c
unfolding read_out
read_same (bad n at) b c e f = refl
read_same (got is at r) b c e f = rw (e, f)

-- ---- one turn

held : (m : Memories) (s : Store) → Hold m s → Hold m (store_in m.hall m.desk)
held m s h = record { sound = h.sound; store = refl }

read_steps : (m : Memories) (s : Store) → Hold m s → (room : ℕ) (x : Bytes) → are_bytes x ≡ true
    → (w : Parsed (List Item)) → read_batch x ≡ w → (read_on m room w).memories ≡ steps_on m (map call (calls_in s room w))
unfolding read_on calls_in steps_on
read_steps m s h room x b (bad n at) e = refl
read_steps m s h room x b (got is at r) e =
    by_bool (ltb room (answers_width is)) (λ p. rw p)
    (λ p. rw p (ap (λ (y : Made). y.memories) (singly m s h [] is (batch_exact x is at r b e).2).called))

module _ (m : Memories) (s : Store) (h : Hold m s) where
  turn_steps : (t : Turn) (ts : List Turn) → Lawful m (t ∷ ts) → (turn_on m t ≡ steps_on m (steps_in m t)) × Steps m (steps_in m t)
  unfolding turn_on steps_in Lawful
  turn_steps (step x) ts l = (refl, l.0)
  turn_steps (batched room x) ts l =
      let n = store_in m.hall m.desk in (
        ap (λ (b : Batch). b.memories) (sound_read m s h room x) ∙ read_steps m n (held m s h) room x l.0 (read_batch x) refl,
        calls_steps m (calls_in n room (read_batch x)) (batch_in n room x (read_batch x) refl l.0),
      )

  lawful_then : (t : Turn) (ts : List Turn) → Lawful m (t ∷ ts) → Lawful (turn_on m t) ts
  unfolding Lawful
  lawful_then (step x) ts l = l.1
  lawful_then (batched room x) ts l = l.1

  -- what the memories hold after it
  turn_holds : (t : Turn) (ts : List Turn) → Lawful m (t ∷ ts) → Hold (turn_on m t) (run s (runs.calls_of (steps_in m t)))
  turn_holds t ts l =
      let a = turn_steps t ts l in
      subst (λ (n : Memories). Hold n (run s (runs.calls_of (steps_in m t)))) (sym a.0) (steps_hold m s (steps_in m t) a.1 h)

  turn_seen : (t : Turn) (ts : List Turn) → Lawful m (t ∷ ts) → seen_on m t ≡ responses_on (λ c. true) m (steps_in m t)
  unfolding seen_on steps_in Lawful batch
  turn_seen (step x) ts l = refl
  turn_seen (batched room x) ts l =
      let n = store_in m.hall m.desk in
      let w = read_batch x in
      let same = batch_models m n (held m s h) room x l.0 in
      let cs = calls_in n room w in
      read_same w _ (makes n room w) same.answer same.bytes
      ∙ read_out_lem n room x w refl (is_sound_lem m.hall m.desk h.sound) l.0
      ∙ sym (calls_told m n (held m s h) cs (batch_in n room x w refl l.0))

pub turns_as_steps : Statements.TurnsAsSteps
unfolding turns_on singles_on steps_on AllRefused runs.calls_of all_in_bytes all_seen_on responses_on
turns_as_steps m s h [] l = record { memories = refl; steps = record { calls = refl; refused = tt }; seen = refl }
turns_as_steps m s h (t ∷ ts) l =
    let a = turn_steps m s h t ts l in
    let xs = steps_in m t in
    let ys = singles_on (turn_on m t) ts in
    let r = turns_as_steps (turn_on m t) _ (turn_holds m s h t ts l) ts (lawful_then m s h t ts l) in
    let seen = r.seen ∙ ap (λ (n : Memories). responses_on (λ c. true) n ys) a.0 in
    record {
      memories = r.memories ∙ ap (λ (n : Memories). steps_on n ys) a.0 ∙ sym (steps_append m xs ys);
      steps = steps_then m xs ys a.1 (subst (λ (n : Memories). Steps n ys) a.0 r.steps);
      seen = rw (turn_seen m s h t ts l, seen) (sym (answers_append m xs ys));
    }
