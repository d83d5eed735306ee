-- Runs: what begins one, and a list of calls on the store that it gives.
use Rattle.std.specs.Prelude.{ℕ, cond, List, [], ◌∷◌, Option, None, Some}
use Rattle.model.specs.Bytes.{Bytes}
use Rattle.model.specs.State.{Hall, Store, new_hall, vacant}
use Rattle.model.specs.Sound.{sizes_fit}
use Rattle.model.specs.Calls.{Call, Answer, refused, faulty, done, decide, next}
use Rattle.model.specs.Load.{Parsed, got, bad, read_hall}

pub data Creation : Type 0 where
  make : (key_rooms version_rooms desks : ℕ) → Creation
  load : (dump : Bytes) → (key_rooms version_rooms desks : ℕ) → Creation

-- the key rooms, version rooms and desks that a make or load asks for
abbrev pub sizes_of : Creation → ℕ × ℕ × ℕ
sizes_of (make ks vs ds) = (ks, vs, ds)
sizes_of (load x ks vs ds) = (ks, vs, ds)

-- the answer, and the store if it is accepted
abbrev pub Created : Type 0
Created = Answer × Option Store

unfoldable pub loaded : Parsed Hall → Created
loaded (got h at rest) = (done, Some (vacant h))
loaded (bad n at) = (faulty n at, None)

unfoldable pub created : Creation → Created
created (make ks vs ds) = cond (sizes_fit ks vs ds) (done, Some (vacant (new_hall ks vs ds))) (refused 2, None)
created (load x ks vs ds) = cond (sizes_fit ks vs ds) (loaded (read_hall ks vs ds 0 x)) (refused 2, None)

-- the store after the calls
unfoldable pub run : Store → List Call → Store
run s [] = s
run s (c ∷ cs) = run (next s c) cs

-- what a caller sees of a call: the answer, and the bytes handed back
abbrev pub response : Store → Call → Answer × Bytes
response s c = ((decide s c).answer, (decide s c).bytes)

-- what the callers see of a run
unfoldable pub responses : Store → List Call → List (Answer × Bytes)
responses s [] = []
responses s (c ∷ cs) = response s c ∷ responses (next s c) cs
