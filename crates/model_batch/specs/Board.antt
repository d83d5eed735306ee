-- Batches on the whiteboard: what is decoded, what is refused and where, what the items answer, and in which bytes.
use Rattle.std.specs.Prelude.{ℕ, ◌≡◌, refl, take, drop, replicate}
use mathlib.Core.List.{List, [], ◌∷◌, ◌++◌, map}
use Rattle.model.specs.Bytes.{Bytes, order, num, bytes}
use Rattle.model.specs.State.{Store, new_hall, vacant, look, visible, newest_of, version_count, add, publish, find, put_write, writes_of, free_desk, cutoff, seat, redesk}
use Rattle.model.specs.Sweeps.{is_read, is_clear, is_covered, goes, trim, with_chain, trim_all}
use Rattle.model.specs.Sound.{are_printable, key_fits, value_fits}
use Rattle.model.specs.Load.{got, bad, bind, fault, field, number_field}
use Rattle.model.specs.Calls.{read, put, delete, commit, abort, Answer, refused, conflict, faulty, began, found, own_value, hall_value, nothing_there, done, committed, closed, swept, refusal, clashes_of, dumped, check, read_outcome, above, clashes, new_keys, is_spent, room_checks, settle, is_too_many, act, drops, sweep_at, decide, apply}
use Rattle.model.specs.Runs.{responses}
use Rattle.model.specs.Faults.{A1, A2, u32, u64}
use Rattle.model_batch.specs.Items.{started, placed, Item, begins, acts, sweeps, act_kind, item_kind, is_begin, begins_at, start_of, start_at, resolve, call_of}
use Rattle.model_batch.specs.Decoder.{mark_fault, read_text, read_who, read_act, read_operands, read_item, read_items, read_batch}
use Rattle.model_batch.specs.Answers.{kind_flag, flag_of, numbers_of, head, heads, padded, clash_bytes, clashes_bytes, detail_of, kind_width, detail, details, answers_bytes, answers_width}
use Rattle.model_batch.specs.Batch.{calls_of, batch_calls, answers_to, turned_away, makes, batch}

-- ---- decoding

abbrev pub zeros : ℕ → Bytes
zeros n = replicate n 0

unfoldable pub night : Bytes
night =
    0x4C ∷ 16 ∷ []
    ++ 0x4C ∷ 18 ∷ 1 ∷ 0 ∷ 0 ∷ u32 2 ++ A1 ++ u32 1 ++ 7 ∷ []
    ++ 0x4C ∷ 20 ∷ 1 ∷ 0 ∷ 0 ∷ []
    ++ 0x4C ∷ 16 ∷ []
    ++ 0x4C ∷ 17 ∷ 0 ∷ u64 3 ++ u32 2 ++ A1
    ++ 0x4C ∷ 20 ∷ 1 ∷ 0 ∷ 0 ∷ []
    ++ 0x4C ∷ 22 ∷ u64 9

unfoldable pub night_items : List Item
night_items =
    begins ∷ acts (placed 0) (put A1 (7 ∷ [])) ∷ acts (placed 0) commit ∷ begins ∷ acts (started 3) (read A1)
    ∷ acts (placed 0) commit ∷ sweeps 9 ∷ []

-- the kinds that the night has none of; lengths are not looked at
unfoldable pub others : Bytes
others =
    0x4C ∷ 16 ∷ []
    ++ 0x4C ∷ 19 ∷ 1 ∷ 0 ∷ 0 ∷ u32 25 ++ zeros 25
    ++ 0x4C ∷ 18 ∷ 1 ∷ 0 ∷ 0 ∷ u32 0 ++ u32 97 ++ zeros 97
    ++ 0x4C ∷ 21 ∷ 0 ∷ u64 0

unfoldable pub other_items : List Item
other_items =
    begins ∷ acts (placed 0) (delete (zeros 25)) ∷ acts (placed 0) (put [] (zeros 97)) ∷ acts (started 0) abort ∷ []

pub decodes : (read_batch night ≡ got night_items 57 [])
    × (read_batch others ≡ got other_items 157 [])
    × (read_batch [] ≡ got [] 0 [])
unfolding night night_items others other_items bind fault field number_field num is_begin begins_at
    mark_fault read_text read_who read_act read_operands read_item read_items read_batch
decodes = (refl, refl, refl)

-- what stands behind the night, and how it is refused there
unfoldable pub endings : List (Bytes × ℕ)
endings =
    -- a lone byte, another mark, the kinds beside those that are known, reserved ones
    (0x4C ∷ [], 18)
    ∷ (0x4D ∷ 16 ∷ [], 18)
    ∷ (0x4C ∷ 15 ∷ [], 18)
    ∷ (0x4C ∷ 32 ∷ [], 18)
    ∷ (0x4C ∷ 23 ∷ [], 19)
    ∷ (0x4C ∷ 31 ∷ 0x4D ∷ [], 19)
    -- cut in a start, a length and a limit; a length past the end
    ∷ (0x4C ∷ 17 ∷ 0 ∷ 3 ∷ 0 ∷ [], 18)
    ∷ (0x4C ∷ 17 ∷ 1 ∷ 3 ∷ 0 ∷ 2 ∷ 0 ∷ 0 ∷ [], 18)
    ∷ (0x4C ∷ 22 ∷ 9 ∷ 0 ∷ 0 ∷ 0 ∷ 0 ∷ 0 ∷ 0 ∷ [], 18)
    ∷ (0x4C ∷ 19 ∷ 1 ∷ 3 ∷ 0 ∷ 0 ∷ 0 ∷ 0 ∷ 1 ∷ 0x41 ∷ [], 18)
    -- neither a start nor a place; the place of a commit, its own, a later begin's
    ∷ (0x4C ∷ 21 ∷ 2 ∷ 3 ∷ 0 ∷ [], 18)
    ∷ (0x4C ∷ 21 ∷ 1 ∷ 2 ∷ 0 ∷ [], 18)
    ∷ (0x4C ∷ 21 ∷ 1 ∷ 7 ∷ 0 ∷ 0x4C ∷ 16 ∷ [], 18)
    ∷ (0x4C ∷ 21 ∷ 1 ∷ 8 ∷ 0 ∷ 0x4C ∷ 16 ∷ [], 18)
    ∷ []

pub refusals : map (λ (e : Bytes × ℕ). read_batch (night ++ e.0)) endings
    ≡ map (λ (e : Bytes × ℕ). bad e.1 57) endings
unfolding night endings bind fault field number_field num is_begin begins_at
    mark_fault read_text read_who read_act read_operands read_item read_items read_batch
refusals = refl

-- ---- the single calls

-- a new store with that many desks
abbrev pub desked : (desks : ℕ) → Store
desked n = vacant (new_hall 8 8 n)

-- both put A1 and A2, and the second commits first
unfoldable pub clashing : List Item
clashing =
    begins ∷ begins ∷ acts (placed 1) (put A1 (7 ∷ [])) ∷ acts (placed 1) (put A2 []) ∷ acts (placed 1) commit
    ∷ acts (placed 0) (put A2 (8 ∷ [])) ∷ acts (placed 0) (put A1 []) ∷ acts (placed 0) commit
    ∷ acts (placed 0) (read A1) ∷ []

-- the begin at place 1 is refused where there is one desk: 3 and 4 come before 5
unfoldable pub crowded : List Item
crowded =
    begins ∷ begins ∷ acts (placed 1) (put A1 []) ∷ acts (placed 1) (put [] []) ∷ acts (placed 1) (put A1 (zeros 97))
    ∷ acts (placed 1) commit ∷ acts (placed 0) (read A1) ∷ acts (placed 0) commit ∷ acts (placed 0) abort ∷ []

-- the begin at place 11 is refused 6, which is the start of the one before
unfoldable pub sixth : List Item
sixth =
    begins ∷ acts (placed 0) abort ∷ begins ∷ acts (placed 2) abort ∷ begins ∷ acts (placed 4) abort
    ∷ begins ∷ acts (placed 6) abort ∷ begins ∷ acts (placed 8) abort
    ∷ begins ∷ begins ∷ acts (placed 11) abort ∷ []

-- the number of desks, a batch, and its answers
abbrev pub Board : Type 0
Board = ℕ × List Item × List Answer

unfoldable pub boards : List Board
boards =
    (4, night_items, began 1 0 ∷ done ∷ committed 2 ∷ began 3 0 ∷ found hall_value ∷ refused 5 ∷ swept 3 0 ∷ [])
    ∷ (
      4,
      clashing,
      began 1 0 ∷ began 2 1 ∷ done ∷ done ∷ committed 3
          ∷ done ∷ done ∷ conflict ((A1, 3) ∷ (A2, 3) ∷ []) ∷ refused 5 ∷ [],
    )
    ∷ (
      1,
      crowded,
      began 1 0 ∷ refused 6 ∷ refused 5 ∷ refused 3 ∷ refused 4
          ∷ refused 5 ∷ found nothing_there ∷ closed ∷ refused 5 ∷ [],
    )
    ∷ (
      1,
      sixth,
      began 1 0 ∷ done ∷ began 2 0 ∷ done ∷ began 3 0 ∷ done
          ∷ began 4 0 ∷ done ∷ began 5 0 ∷ done
          ∷ began 6 0 ∷ refused 6 ∷ refused 5 ∷ [],
    )
    ∷ []

pub answers : map (λ (b : Board). answers_to (desked b.0) (batch_calls (desked b.0) b.1)) boards
    ≡ map (λ (b : Board). b.2) boards
unfolding boards night_items clashing crowded sixth order
    look visible newest_of version_count add publish is_read is_clear is_covered goes trim with_chain trim_all
    find put_write writes_of free_desk cutoff seat redesk vacant are_printable key_fits value_fits
    check read_outcome above clashes new_keys is_spent room_checks settle is_too_many act
    drops sweep_at decide apply responses start_of start_at resolve call_of calls_of
answers = refl

-- ---- the bytes

-- a begin, a put, a read of the own write and a sweep
unfoldable pub short : List Item
short = begins ∷ acts (placed 0) (put A1 (7 ∷ [])) ∷ acts (placed 0) (read A1) ∷ sweeps 9 ∷ []

unfoldable pub short_bytes : Bytes
short_bytes =
    u64 1 ++ u64 0 ++ 0 ∷ 0 ∷ []
    ++ u64 0 ++ u64 0 ++ 0 ∷ 0 ∷ []
    ++ u64 0 ++ u64 0 ++ 0 ∷ 1 ∷ []
    ++ u64 1 ++ u64 0 ++ 0 ∷ 0 ∷ []
    ++ u32 1 ++ 7 ∷ zeros 95

pub laid_out : answers_bytes short (responses (desked 4) (batch_calls (desked 4) short)) ≡ short_bytes
unfolding short short_bytes order bytes
    look visible newest_of version_count is_read is_clear is_covered goes trim with_chain trim_all
    find put_write writes_of free_desk cutoff seat redesk vacant are_printable key_fits value_fits
    check read_outcome is_spent is_too_many act drops sweep_at decide apply
    responses start_of start_at resolve call_of calls_of refusal clashes_of
    kind_flag flag_of numbers_of head heads padded clashes_bytes
    act_kind item_kind kind_width detail_of detail details answers_bytes
laid_out = refl

-- refusal and flag, the end of an answer's head
unfoldable pub codes : List (Answer × Bytes)
codes =
    (refused 5, 5 ∷ 0 ∷ []) ∷ (began 1 0, 0 ∷ 0 ∷ []) ∷ (done, 0 ∷ 0 ∷ [])
    ∷ (found own_value, 0 ∷ 1 ∷ []) ∷ (found hall_value, 0 ∷ 2 ∷ []) ∷ (found nothing_there, 0 ∷ 0 ∷ [])
    ∷ (committed 3, 0 ∷ 0 ∷ []) ∷ (closed, 0 ∷ 1 ∷ [])
    ∷ []

pub coded : map (λ (c : Answer × Bytes). drop 16 (head c.0)) codes ≡ map (λ (c : Answer × Bytes). c.1) codes
unfolding codes bytes refusal kind_flag flag_of numbers_of head
coded = refl

-- a commit's number, and a sweep's cutoff and drops
pub fronts : map (λ a. take 16 (head a)) (committed 3 ∷ swept 4 2 ∷ [])
    ≡ (u64 3 ++ u64 0) ∷ (u64 4 ++ u64 2) ∷ []
unfolding bytes refusal kind_flag flag_of numbers_of head
fronts = refl

abbrev pub clashed : Answer
clashed = conflict ((A1, 3) ∷ (A2, 4) ∷ [])

pub listed : (head clashed ≡ u64 2 ++ u64 0 ++ 9 ∷ 0 ∷ [])
    × (detail (acts (placed 0) commit) (clashed, [])
    ≡ u64 3 ++ 2 ∷ A1 ++ zeros 22 ++ u64 4 ++ 2 ∷ A2 ++ zeros 22 ++ zeros 462)
unfolding bytes refusal clashes_of flag_of numbers_of head padded clash_bytes clashes_bytes
    act_kind item_kind kind_width detail_of detail
listed = (refl, refl)

-- 12 comes behind 18 and 19, and exactly enough room will do
pub rooms : ((batch (desked 4) 1282 night).answer ≡ dumped 1282)
    × (batch (desked 4) 1281 night ≡ turned_away (desked 4) (refused 12))
    × (batch (desked 4) 0 (night ++ 0x4C ∷ 23 ∷ []) ≡ turned_away (desked 4) (faulty 19 57))
unfolding night bind fault field number_field num is_begin begins_at
    mark_fault read_text read_who read_act read_operands read_item read_items read_batch
    act_kind item_kind kind_width answers_width makes batch
rooms = (refl, refl, refl)
