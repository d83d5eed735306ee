-- The table of cases that are proved of the definitions: a creation, calls, and what comes of them. First the starred
-- ones of docs/RULES.md, 9.1, then sweeps of deletions and between readers, journals, conflicts, then a row for each
-- edge of a size, order of two checks and fault of load.
use Rattle.std.specs.Prelude.{ℕ, zero, suc, ◌+◌, ◌-◌, ◌^◌, ◌≡◌, refl, true, false, take, replicate, Option, None, Some, option_map}
use mathlib.Core.List.{List, [], ◌∷◌, ◌++◌, map}
use Rattle.model.specs.Bytes.{Bytes, order, num, bytes}
use Rattle.model.specs.State.{deletion, Version, Desk, free, taken, Store, look, visible, newest_of, version_count, add, publish, find, put_write, writes_of, free_desk, open_desks, open_starts, cutoff, seat, redesk, vacant}
use Rattle.model.specs.Sweeps.{is_read, is_clear, is_covered, goes, trim, with_chain, trim_all}
use Rattle.model.specs.Sound.{every, are_printable, key_fits, value_fits, sizes_fit, sound_payload, sound_chain, sound_entries, sound_hall, in_chain, is_number, sound_writes, sound_open, sound_desks, sound}
use Rattle.model.specs.Dump.{magic, dump_payload, dump_version, dump_chain, dump_entry, dump_entries, dump_hall}
use Rattle.model.specs.Load.{bind, fault, field, number_field, read_payload, read_version, read_chain, read_entry, read_entries, read_end, read_hall}
use Rattle.model.specs.Journal.{with_commits, mark, dump_write, dump_writes, dump_body, framed, dump_commit, read_write, read_writes, read_body, mark_fault, read_frame, read_commit}
use Rattle.model.specs.Calls.{read, put, delete, commit, commit_to, abort, newest, as_of, counts, dump, Call, begin, on, ask, sweep, thin, replay, own_value, hall_value, nothing_there, Clashes, Answer, refused, conflict, faulty, began, found, done, committed, closed, swept, thinned, counted, dumped, replayed, check, read_outcome, above, clashes, new_keys, is_spent, room_checks, settle, go_on, replay_up_to, replay_of, replay_beside, is_too_many, act, reply, drops, sweep_at, thin_at, decide, apply}
use Rattle.model.specs.Runs.{Creation, make, load, Created, loaded, created, run, responses}
use Rattle.model.specs.Faults.{A1, A2, u32, u64, dsemvcc1, head, keyed, valued, emptied, deleted, faults, putting, deleting, marked, noted, once, spoils}

-- the response to each call, and the numbers that A1 holds at the end
pub record Result : Type 0 where
  pub responses : List (Answer × Bytes)
  pub holds : List ℕ

-- what a creation answers, and the result if it is accepted
abbrev pub Ending : Type 0
Ending = Answer × Option Result

unfoldable pub result_of : List Call → Store → Result
result_of cs s =
    record { responses = responses s cs; holds = map (λ (v : Version). v.number) (look A1 (run s cs).hall.entries) }

unfoldable pub ending_of : List Call → Created → Ending
ending_of cs o = (o.0, option_map (result_of cs) o.1)

pub record Case : Type 0 where
  pub creation : Creation
  pub calls : List Call
  pub ending : Ending

-- each case ends as its row says
unfoldable pub AllRight : List Case → Type 0
AllRight cs = map (λ (c : Case). ending_of c.calls (created c.creation)) cs ≡ map (λ (c : Case). c.ending) cs

-- ---- rows

abbrev pub case : Creation → List Call → List (Answer × Bytes) → List ℕ → Case
case o cs rs ns = record { creation = o; calls = cs; ending = (done, Some (record { responses = rs; holds = ns })) }

-- a call, its answer, and the bytes that it hands back
abbrev pub Exchange : Type 0
Exchange = Call × Answer × Bytes

-- a call that hands back no bytes
infix 70 ◌⇒◌
abbrev pub ◌⇒◌ : Call → Answer → Exchange
◌⇒◌ c a = (c, a, [])

abbrev pub row : Creation → List Exchange → List ℕ → Case
row o ss ns = case o (map (λ (s : Exchange). s.0) ss) (map (λ (s : Exchange). (s.1, s.2)) ss) ns

-- a creation that is refused
abbrev pub uncreated : Creation → Answer → Case
uncreated o a = record { creation = o; calls = []; ending = (a, None) }

-- with room for 8 keys and 8 versions, and 8 desks
abbrev pub new : Creation
new = make 8 8 8

-- without keys, the next number 2 ^ 64 - 256 + b
abbrev pub late : (b : ℕ) → Creation
late b = load (dsemvcc1 ++ b ∷ replicate 7 0xFF ++ u32 0) 8 8 64

-- the last number that is issued
abbrev pub last : ℕ
last = 2 ^ 64 - 2

-- the largest limit
abbrev pub end : ℕ
end = 2 ^ 64 - 1

-- ---- dumps

-- two keys that share number 3, the first a proper prefix of the second, with a deletion and an empty value
abbrev pub mixed : Bytes
mixed = head 9 2 ++ keyed A1 2 ++ valued 3 7 ++ deleted 8 ++ u32 3 ++ A1 ++ 0x30 ∷ u32 1 ++ emptied 3

-- a key of 24 bytes and a value of 96
abbrev pub longest : Bytes
longest = head 3 1 ++ u32 24 ++ replicate 24 0x41 ++ u32 1 ++ u64 2 ++ 1 ∷ u32 96 ++ replicate 96 7

-- ---- the starred cases

-- two begin, the first commits A1, the second reads it
unfoldable pub two : List Exchange
two =
    begin ⇒ began 1 0 ∷ begin ⇒ began 2 1 ∷ on 1 (put A1 (7 ∷ [])) ⇒ done ∷ on 1 commit ⇒ committed 3
    ∷ on 2 (read A1) ⇒ found nothing_there ∷ []

-- A1 committed at 2, 4 and, with 5 left open, 7
unfoldable pub three : List Exchange
three =
    begin ⇒ began 1 0 ∷ on 1 (put A1 (1 ∷ [])) ⇒ done ∷ on 1 commit ⇒ committed 2
    ∷ begin ⇒ began 3 0 ∷ on 3 (put A1 (2 ∷ [])) ⇒ done ∷ on 3 commit ⇒ committed 4
    ∷ begin ⇒ began 5 0 ∷ begin ⇒ began 6 1 ∷ on 6 (put A1 (3 ∷ [])) ⇒ done ∷ on 6 commit ⇒ committed 7 ∷ []

unfoldable pub starred : List Case
starred =
    -- a new store's dump
    row new
    ((
      ask (dump 20),
      dumped 20,
      0x44 ∷ 0x53 ∷ 0x45 ∷ 0x4D ∷ 0x56 ∷ 0x43 ∷ 0x43 ∷ 0x31 ∷ 1 ∷ 0 ∷ 0 ∷ 0 ∷ 0 ∷ 0 ∷ 0 ∷ 0 ∷ 0 ∷ 0 ∷ 0 ∷ 0 ∷ [],
    ) ∷ [])
    []
    -- the dump after one commit
    ∷ row new
    (begin ⇒ began 1 0 ∷ on 1 (put A1 (7 ∷ [])) ⇒ done ∷ on 1 commit ⇒ committed 2
    ∷ (
      ask (dump 44),
      dumped 44,
      0x44 ∷ 0x53 ∷ 0x45 ∷ 0x4D ∷ 0x56 ∷ 0x43 ∷ 0x43 ∷ 0x31 ∷ 3 ∷ 0 ∷ 0 ∷ 0 ∷ 0 ∷ 0 ∷ 0 ∷ 0 ∷ 1 ∷ 0 ∷ 0 ∷ 0
          ∷ 2 ∷ 0 ∷ 0 ∷ 0 ∷ 0x41 ∷ 0x31 ∷ 1 ∷ 0 ∷ 0 ∷ 0 ∷ 2 ∷ 0 ∷ 0 ∷ 0 ∷ 0 ∷ 0 ∷ 0 ∷ 0 ∷ 1 ∷ 1 ∷ 0 ∷ 0 ∷ 0 ∷ 7 ∷ [],
    ) ∷ [])
    (2 ∷ [])
    -- the second does not see what the first commits; it clashes on A1 and not on A2
    ∷ row new two (3 ∷ [])
    ∷ row new (two ++ on 2 (put A1 []) ⇒ done ∷ on 2 commit ⇒ conflict ((A1, 3) ∷ []) ∷ []) (3 ∷ [])
    ∷ row new (two ++ on 2 (put A2 []) ⇒ done ∷ on 2 commit ⇒ committed 4 ∷ []) (3 ∷ [])
    -- a deletion of its own
    ∷ row new
    (begin ⇒ began 1 0
    ∷ on 1 (put A1 (7 ∷ [])) ⇒ done ∷ on 1 (delete A1) ⇒ done ∷ on 1 (read A1) ⇒ found nothing_there ∷ [])
    []
    -- sweeps under an open start, at lower limits, and after the abort
    ∷ row new (three ++ sweep end ⇒ swept 5 1 ∷ []) (4 ∷ 7 ∷ [])
    ∷ row new (three ++ sweep 3 ⇒ swept 3 0 ∷ []) (2 ∷ 4 ∷ 7 ∷ [])
    ∷ row new (three ++ sweep 4 ⇒ swept 4 1 ∷ []) (4 ∷ 7 ∷ [])
    ∷ row new (three ++ on 5 abort ⇒ done ∷ sweep end ⇒ swept 7 2 ∷ []) (7 ∷ [])
    -- a commit without writes issues no number
    ∷ row new (begin ⇒ began 1 0 ∷ on 1 commit ⇒ closed ∷ begin ⇒ began 2 0 ∷ []) []
    -- the last number is issued, the commit after it refused, and the transaction still open
    ∷ row (late 0xFE)
    (begin ⇒ began last 0
    ∷ on last (put A1 []) ⇒ done ∷ on last commit ⇒ refused 8 ∷ on last (read A1) ⇒ found own_value ∷ [])
    []
    ∷ []

-- ---- sweeps of deletions

-- A1 committed at 2 and deleted at 4
unfoldable pub gone : List Exchange
gone =
    begin ⇒ began 1 0 ∷ on 1 (put A1 (1 ∷ [])) ⇒ done ∷ on 1 commit ⇒ committed 2
    ∷ begin ⇒ began 3 0 ∷ on 3 (delete A1) ⇒ done ∷ on 3 commit ⇒ committed 4 ∷ []

unfoldable pub deletions : List Case
deletions =
    -- a deletion at the cutoff goes, and its key with it
    row new
    (gone ++ ask counts ⇒ counted 1 2 0 ∷ sweep end ⇒ swept 4 2 ∷ ask counts ⇒ counted 0 0 0
    ∷ ask (newest A1) ⇒ found nothing_there ∷ (ask (dump 20), dumped 20, head 5 0) ∷ [])
    []
    -- not with a start below it, which reads the value and clashes with the deletion
    ∷ row new
    (begin ⇒ began 1 0 ∷ on 1 (put A1 (7 ∷ [])) ⇒ done ∷ on 1 commit ⇒ committed 2
    ∷ begin ⇒ began 3 0 ∷ begin ⇒ began 4 1 ∷ on 3 (delete A1) ⇒ done ∷ on 3 commit ⇒ committed 5
    ∷ sweep end ⇒ swept 4 0 ∷ (on 4 (read A1), found hall_value, 7 ∷ [])
    ∷ on 4 (put A1 []) ⇒ done ∷ on 4 commit ⇒ conflict ((A1, 5) ∷ []) ∷ [])
    (2 ∷ 5 ∷ [])
    -- also where a later version follows; the start between them reads nothing there, and clashes with the later one
    ∷ row new
    (gone ++ begin ⇒ began 5 0 ∷ begin ⇒ began 6 1 ∷ on 6 (put A1 (9 ∷ [])) ⇒ done ∷ on 6 commit ⇒ committed 7
    ∷ on 5 (read A1) ⇒ found nothing_there ∷ sweep end ⇒ swept 5 2 ∷ on 5 (read A1) ⇒ found nothing_there
    ∷ on 5 (put A1 []) ⇒ done ∷ on 5 commit ⇒ conflict ((A1, 7) ∷ []) ∷ [])
    (7 ∷ [])
    -- the one key room is free at once, and A1 is a new key from then on
    ∷ row (make 1 8 2)
    (gone ++ begin ⇒ began 5 0 ∷ on 5 (put A2 []) ⇒ done ∷ on 5 commit ⇒ refused 10
    ∷ sweep end ⇒ swept 5 2 ∷ on 5 commit ⇒ committed 6
    ∷ begin ⇒ began 7 0 ∷ on 7 (put A1 []) ⇒ done ∷ on 7 commit ⇒ refused 10 ∷ [])
    []
    -- a limit below the deletion; the number itself
    ∷ row new (gone ++ sweep 3 ⇒ swept 3 0 ∷ []) (2 ∷ 4 ∷ [])
    ∷ row new
    (gone ++ sweep 4 ⇒ swept 4 2 ∷ ask (as_of 3 A1) ⇒ refused 16 ∷ ask (as_of 4 A1) ⇒ found nothing_there ∷ [])
    []
    -- a deletion of a key never written; an empty value is none
    ∷ row new
    (begin ⇒ began 1 0 ∷ on 1 (delete A1) ⇒ done ∷ on 1 commit ⇒ committed 2 ∷ ask counts ⇒ counted 1 1 0
    ∷ sweep end ⇒ swept 2 1 ∷ ask counts ⇒ counted 0 0 0 ∷ [])
    []
    ∷ row new
    (begin ⇒ began 1 0 ∷ on 1 (put A1 []) ⇒ done ∷ on 1 commit ⇒ committed 2 ∷ sweep end ⇒ swept 2 0 ∷ [])
    (2 ∷ [])
    -- the last version room
    ∷ row (make 2 2 2)
    (gone ++ begin ⇒ began 5 0 ∷ on 5 (put A2 []) ⇒ done ∷ on 5 commit ⇒ refused 11
    ∷ sweep end ⇒ swept 5 2 ∷ on 5 commit ⇒ committed 6 ∷ ask counts ⇒ counted 1 1 0 ∷ [])
    []
    -- a loaded deletion stays until it is swept; the key beside it stays
    ∷ row (load mixed 2 3 2)
    (ask counts ⇒ counted 2 3 0 ∷ sweep 7 ⇒ swept 7 0 ∷ sweep end ⇒ swept 8 2 ∷ ask counts ⇒ counted 1 1 0
    ∷ ask (newest A1) ⇒ found nothing_there ∷ ask (newest (A1 ++ 0x30 ∷ [])) ⇒ found hall_value ∷ [])
    []
    ∷ []

-- ---- sweeps between readers

-- n commits of A1 at this desk, the first from this start
unfoldable pub saves : (n start desk : ℕ) → List Exchange
saves zero t d = []
saves (suc n) t d =
    begin ⇒ began t d ∷ on t (put A1 (t ∷ [])) ⇒ done ∷ on t commit ⇒ committed (suc t) ∷ saves n (suc (suc t)) d

unfoldable pub thinnings : List Case
thinnings =
    -- a console that holds start 9 for a week: every later version stays, until it is thinned out
    row (make 1 8 2)
    (saves 4 1 0 ++ begin ⇒ began 9 0 ∷ saves 3 10 1
    ++ sweep end ⇒ swept 9 3 ∷ ask counts ⇒ counted 1 4 1 ∷ thin end ⇒ thinned 2 ∷ ask counts ⇒ counted 1 2 1
    ∷ (on 9 (read A1), found hall_value, 7 ∷ []) ∷ (ask (newest A1), found hall_value, 14 ∷ [])
    ∷ ask (as_of 14 A1) ⇒ refused 16 ∷ (ask (as_of 15 A1), found hall_value, 14 ∷ [])
    ∷ on 9 (put A1 []) ⇒ done ∷ on 9 commit ⇒ conflict ((A1, 15) ∷ []) ∷ thin end ⇒ thinned 1 ∷ [])
    (15 ∷ [])
    -- of 2, 4, 7 and 9 those go that 5 does not read; one whose successor is above the limit stays
    ∷ row new
    (three ++ saves 1 8 1 ++ thin end ⇒ thinned 2 ∷ (on 5 (read A1), found hall_value, 2 ∷ []) ∷ [])
    (4 ∷ 9 ∷ [])
    ∷ row new
    (three ++ saves 1 8 1 ++ thin 8 ⇒ thinned 1
    ∷ ask (as_of 7 A1) ⇒ refused 16 ∷ (ask (as_of 8 A1), found hall_value, 3 ∷ []) ∷ [])
    (4 ∷ 7 ∷ 9 ∷ [])
    ∷ row new (three ++ saves 1 8 1 ++ thin 9 ⇒ thinned 2 ∷ []) (4 ∷ 9 ∷ [])
    -- a deletion that is then the oldest goes with its key, though a start reads it
    ∷ row (make 1 8 2)
    (gone ++ begin ⇒ began 5 0 ∷ thin 3 ⇒ thinned 0 ∷ thin end ⇒ thinned 2 ∷ on 5 (read A1) ⇒ found nothing_there
    ∷ ask counts ⇒ counted 0 0 1 ∷ on 5 (put A2 []) ⇒ done ∷ on 5 commit ⇒ committed 6 ∷ [])
    []
    ∷ row new
    (gone ++ begin ⇒ began 5 0 ∷ saves 1 6 1 ++ thin end ⇒ thinned 2 ∷ on 5 (read A1) ⇒ found nothing_there
    ∷ on 5 (put A1 []) ⇒ done ∷ on 5 commit ⇒ conflict ((A1, 7) ∷ []) ∷ [])
    (7 ∷ [])
    -- not with a start below it, which clashes with it
    ∷ row new
    (begin ⇒ began 1 0 ∷ saves 1 2 1 ++ begin ⇒ began 4 1 ∷ on 4 (delete A1) ⇒ done ∷ on 4 commit ⇒ committed 5
    ∷ thin end ⇒ thinned 1 ∷ on 1 (put A1 []) ⇒ done ∷ on 1 commit ⇒ conflict ((A1, 5) ∷ [])
    ∷ thin end ⇒ thinned 1 ∷ [])
    []
    -- each reader keeps one version, and the newest stays
    ∷ row new
    (saves 1 1 0 ++ begin ⇒ began 3 0 ∷ saves 2 4 1 ++ begin ⇒ began 8 1 ∷ saves 2 9 2 ++ thin end ⇒ thinned 2
    ∷ (on 3 (read A1), found hall_value, 1 ∷ []) ∷ (on 8 (read A1), found hall_value, 6 ∷ []) ∷ [])
    (2 ∷ 7 ∷ 12 ∷ [])
    -- an open start does not lower the floor, nor does a lower limit, nor a sweep
    ∷ row new
    (three ++ thin 6 ⇒ thinned 1 ∷ ask (as_of 5 A1) ⇒ refused 16 ∷ (ask (as_of 6 A1), found hall_value, 2 ∷ [])
    ∷ thin 3 ⇒ thinned 0 ∷ sweep end ⇒ swept 5 0 ∷ ask (as_of 5 A1) ⇒ refused 16
    ∷ (ask (as_of 6 A1), found hall_value, 2 ∷ []) ∷ thin end ⇒ thinned 0 ∷ ask (as_of 6 A1) ⇒ refused 16
    ∷ (ask (as_of 7 A1), found hall_value, 3 ∷ []) ∷ [])
    (4 ∷ 7 ∷ [])
    -- where nothing is held
    ∷ row new (thin end ⇒ thinned 0 ∷ ask (as_of 0 A1) ⇒ found nothing_there ∷ []) []
    ∷ []

-- a start is in the gap from version 4 to its successor 7 if it is at or above 4 and below 7
pub gap : map (λ (t : ℕ). is_read 4 7 (t ∷ [])) (3 ∷ 4 ∷ 6 ∷ 7 ∷ []) ≡ false ∷ true ∷ true ∷ false ∷ []
unfolding is_read
gap = refl

-- ---- conflicts

abbrev pub A3 : Bytes
A3 = 0x41 ∷ 0x33 ∷ []

-- n keys of one byte from 33 on are put under start t, the highest first
unfoldable pub puts : (t n : ℕ) → List Exchange
puts t zero = []
puts t (suc n) = on t (put ((33 + n) ∷ []) []) ⇒ done ∷ puts t n

-- n such keys from k up, all with the number c
unfoldable pub one_byte : (c k n : ℕ) → Clashes
one_byte c k zero = []
one_byte c k (suc n) = (k ∷ [], c) ∷ one_byte c (suc k) n

unfoldable pub conflicts : List Case
conflicts =
    -- none: what others wrote since is another key
    row new
    (begin ⇒ began 1 0 ∷ on 1 (put A1 []) ⇒ done ∷ on 1 (put A2 []) ⇒ done ∷ on 1 commit ⇒ committed 2
    ∷ begin ⇒ began 3 0 ∷ begin ⇒ began 4 1 ∷ on 4 (put A2 []) ⇒ done ∷ on 4 commit ⇒ committed 5
    ∷ on 3 (put A1 []) ⇒ done ∷ on 3 (put A3 []) ⇒ done ∷ on 3 commit ⇒ committed 6 ∷ [])
    (2 ∷ 6 ∷ [])
    -- two, in key order, whichever was written first
    ∷ row new
    (begin ⇒ began 1 0 ∷ begin ⇒ began 2 1
    ∷ on 1 (put A1 []) ⇒ done ∷ on 1 (put A2 []) ⇒ done ∷ on 1 commit ⇒ committed 3
    ∷ on 2 (put A2 []) ⇒ done ∷ on 2 (put A1 []) ⇒ done ∷ on 2 commit ⇒ conflict ((A1, 3) ∷ (A2, 3) ∷ []) ∷ [])
    (3 ∷ [])
    -- each with its newest number, a deletion's too
    ∷ row new
    (begin ⇒ began 1 0 ∷ begin ⇒ began 2 1
    ∷ on 2 (put A1 []) ⇒ done ∷ on 2 (put A2 []) ⇒ done ∷ on 2 commit ⇒ committed 3
    ∷ begin ⇒ began 4 1 ∷ on 4 (delete A1) ⇒ done ∷ on 4 commit ⇒ committed 5
    ∷ on 1 (put A1 []) ⇒ done ∷ on 1 (put A2 []) ⇒ done ∷ on 1 commit ⇒ conflict ((A1, 5) ∷ (A2, 3) ∷ []) ∷ [])
    (3 ∷ 5 ∷ [])
    -- one of three
    ∷ row new
    (begin ⇒ began 1 0 ∷ begin ⇒ began 2 1 ∷ on 1 (put A2 []) ⇒ done ∷ on 1 commit ⇒ committed 3
    ∷ on 2 (put A1 []) ⇒ done ∷ on 2 (put A2 []) ⇒ done ∷ on 2 (put A3 []) ⇒ done
    ∷ on 2 commit ⇒ conflict ((A2, 3) ∷ []) ∷ on 2 commit ⇒ refused 5 ∷ [])
    []
    -- sixteen
    ∷ row (make 16 16 2)
    (begin ⇒ began 1 0 ∷ begin ⇒ began 2 1 ∷ puts 1 16
    ++ on 1 commit ⇒ committed 3 ∷ puts 2 16 ++ on 2 commit ⇒ conflict (one_byte 3 33 16) ∷ [])
    []
    ∷ []

-- ---- journals

-- the same at 2 ^ 64 - 256 + b
abbrev pub once_late : (b : ℕ) → Bytes
once_late b = marked 24 ++ b ∷ replicate 7 0xFF ++ u32 1 ++ putting A1 7

unfoldable pub journals : List Case
journals =
    -- an output that is a byte too short, long enough, and longer; without writes there is no record
    row new
    (begin ⇒ began 1 0 ∷ on 1 (put A1 (7 ∷ [])) ⇒ done ∷ on 1 (commit_to (Some 29)) ⇒ refused 12
    ∷ (
      on 1 (commit_to (Some 30)),
      committed 2,
      0x4C ∷ 1 ∷ 24 ∷ 0 ∷ 0 ∷ 0 ∷ 2 ∷ 0 ∷ 0 ∷ 0 ∷ 0 ∷ 0 ∷ 0 ∷ 0 ∷ 1 ∷ 0 ∷ 0 ∷ 0
          ∷ 2 ∷ 0 ∷ 0 ∷ 0 ∷ 0x41 ∷ 0x31 ∷ 1 ∷ 1 ∷ 0 ∷ 0 ∷ 0 ∷ 7 ∷ [],
    )
    ∷ begin ⇒ began 3 0 ∷ on 3 (commit_to (Some 0)) ⇒ closed
    ∷ begin ⇒ began 4 0 ∷ on 4 (put A2 (9 ∷ [])) ⇒ done ∷ on 4 (delete A1) ⇒ done
    ∷ (on 4 (commit_to (Some 99)), committed 5, noted 31 5 2 ++ deleting A1 ++ putting A2 9) ∷ [])
    (2 ∷ 5 ∷ [])
    -- 9, 8, 10 and 11 before 12
    ∷ row new (two ++ on 2 (put A1 []) ⇒ done ∷ on 2 (commit_to (Some 0)) ⇒ conflict ((A1, 3) ∷ []) ∷ []) (3 ∷ [])
    ∷ row (late 0xFE)
    (begin ⇒ began last 0 ∷ on last (put A1 []) ⇒ done ∷ on last (commit_to (Some 0)) ⇒ refused 8 ∷ [])
    []
    ∷ row (make 1 1 2)
    (replay once ⇒ replayed 30 ∷ begin ⇒ began 3 0 ∷ on 3 (put A2 []) ⇒ done ∷ on 3 (commit_to (Some 0)) ⇒ refused 10
    ∷ on 3 abort ⇒ done ∷ begin ⇒ began 4 0 ∷ on 4 (put A1 []) ⇒ done ∷ on 4 (commit_to (Some 0)) ⇒ refused 11
    ∷ on 4 commit ⇒ refused 11 ∷ [])
    (2 ∷ [])
    -- what is replayed is there, and a second time it is 14; a mark without its end is a cut
    ∷ row new
    (replay (once ++ 0x4C ∷ []) ⇒ replayed 30 ∷ (ask (newest A1), found hall_value, 7 ∷ []) ∷ replay once ⇒ faulty 14 0
    ∷ begin ⇒ began 3 0 ∷ [])
    (2 ∷ [])
    -- cuts, whatever the bytes that are there say
    ∷ row new
    (replay [] ⇒ replayed 0 ∷ replay (9 ∷ []) ⇒ replayed 0 ∷ replay (take 2 once) ⇒ replayed 0
    ∷ replay (take 5 once) ⇒ replayed 0 ∷ replay (take 6 once) ⇒ replayed 0 ∷ replay (take 29 once) ⇒ replayed 0
    ∷ replay (0x4C ∷ 1 ∷ replicate 4 0xFF ++ once) ⇒ replayed 0 ∷ replay (once ++ take 29 once) ⇒ replayed 30 ∷ [])
    (2 ∷ [])
    -- 17 before the journal is looked at
    ∷ row new
    (begin ⇒ began 1 0 ∷ replay (9 ∷ 9 ∷ []) ⇒ refused 17 ∷ replay [] ⇒ refused 17 ∷ replay once ⇒ refused 17
    ∷ on 1 abort ⇒ done ∷ replay once ⇒ replayed 30 ∷ [])
    (2 ∷ [])
    -- numbers need not follow one another, the counter is the last, and the floor stays
    ∷ row new
    (three ++ on 5 abort ⇒ done ∷ sweep 6 ⇒ swept 6 1 ∷ replay (noted 24 9 1 ++ putting A1 8) ⇒ replayed 30
    ∷ ask (as_of 5 A1) ⇒ refused 16 ∷ (ask (as_of 8 A1), found hall_value, 3 ∷ [])
    ∷ (ask (as_of 9 A1), found hall_value, 8 ∷ []) ∷ ask (as_of 10 A1) ⇒ refused 16 ∷ begin ⇒ began 10 0 ∷ [])
    (4 ∷ 7 ∷ 9 ∷ [])
    ∷ row new (replay (once_late 0xFE) ⇒ replayed 30 ∷ begin ⇒ refused 8 ∷ []) (last ∷ [])
    -- 14 before 10, 10 before 11, each at its record; the commits before stand
    ∷ row (make 1 1 2)
    (replay (once ++ noted 24 2 1 ++ putting A2 8) ⇒ faulty 14 30
    ∷ replay (noted 24 3 1 ++ putting A2 8) ⇒ faulty 10 0 ∷ replay (noted 24 3 1 ++ putting A1 8) ⇒ faulty 11 0
    ∷ ask counts ⇒ counted 1 1 0 ∷ begin ⇒ began 3 0 ∷ [])
    (2 ∷ [])
    ∷ row (make 1 2 2)
    (replay (once ++ noted 19 3 1 ++ deleting A1 ++ noted 24 4 1 ++ putting A1 8) ⇒ faulty 11 55
    ∷ ask (newest A1) ⇒ found nothing_there ∷ begin ⇒ began 4 0 ∷ [])
    (2 ∷ 3 ∷ [])
    -- a hall rebuilt: its dump, and the journal since
    ∷ row (load (head 3 1 ++ keyed A1 1 ++ valued 2 7) 8 8 2)
    (replay (noted 31 4 2 ++ deleting A1 ++ putting A2 9) ⇒ replayed 37
    ∷ (ask (dump 77), dumped 77, head 5 2 ++ keyed A1 2 ++ valued 2 7 ++ deleted 4 ++ keyed A2 1 ++ valued 4 9) ∷ [])
    (2 ∷ 4 ∷ [])
    ∷ map (λ (x : Bytes). row new (replay (once ++ x) ⇒ faulty 14 30 ∷ begin ⇒ began 3 0 ∷ []) (2 ∷ [])) spoils

-- ---- what is read, counted and dumped

unfoldable pub views : List Case
views =
    -- a committed value, an empty one and a deletion
    row new
    (begin ⇒ began 1 0 ∷ on 1 (put A1 (7 ∷ [])) ⇒ done ∷ on 1 (put A2 []) ⇒ done ∷ on 1 commit ⇒ committed 2
    ∷ begin ⇒ began 3 0 ∷ (on 3 (read A1), found hall_value, 7 ∷ []) ∷ on 3 (read A2) ⇒ found hall_value
    ∷ on 3 (delete A1) ⇒ done ∷ on 3 commit ⇒ committed 4
    ∷ ask (newest A1) ⇒ found nothing_there ∷ ask (newest A2) ⇒ found hall_value
    ∷ begin ⇒ began 5 0 ∷ ask counts ⇒ counted 2 3 1
    ∷ (ask (dump 76), dumped 76, head 6 2 ++ keyed A1 2 ++ valued 2 7 ++ deleted 4 ++ keyed A2 1 ++ emptied 2) ∷ [])
    (2 ∷ 4 ∷ [])
    -- what is loaded, into rooms that it fills
    ∷ row (load mixed 2 3 2)
    (ask counts ⇒ counted 2 3 0 ∷ (ask (dump 77), dumped 77, mixed)
    ∷ begin ⇒ began 9 0 ∷ on 9 (read A1) ⇒ found nothing_there ∷ on 9 (read (A1 ++ 0x30 ∷ [])) ⇒ found hall_value ∷ [])
    (3 ∷ 8 ∷ [])
    ∷ row (load longest 1 1 1)
    (ask counts ⇒ counted 1 1 0 ∷ (ask (newest (replicate 24 0x41)), found hall_value, replicate 96 7) ∷ [])
    []
    ∷ []

-- ---- the map as it stood at a number

unfoldable pub stood : List Case
stood =
    -- never swept: from 0 to the counter, and nothing of what is only written
    row new
    (three ++ on 5 (put A1 (9 ∷ [])) ⇒ done
    ∷ ask (as_of 0 A1) ⇒ found nothing_there ∷ ask (as_of 1 A1) ⇒ found nothing_there
    ∷ (ask (as_of 2 A1), found hall_value, 1 ∷ []) ∷ (ask (as_of 3 A1), found hall_value, 1 ∷ [])
    ∷ (ask (as_of 6 A1), found hall_value, 2 ∷ []) ∷ (ask (as_of 7 A1), found hall_value, 3 ∷ [])
    ∷ ask (as_of 7 A2) ⇒ found nothing_there ∷ ask (as_of 8 A1) ⇒ refused 16 ∷ ask (as_of end A1) ⇒ refused 16 ∷ [])
    (2 ∷ 4 ∷ 7 ∷ [])
    -- from the cutoff on and not the limit; a lower one does not lower the floor, and a begin raises the counter
    ∷ row new
    (three ++ sweep end ⇒ swept 5 1 ∷ ask (as_of 4 A1) ⇒ refused 16 ∷ (ask (as_of 5 A1), found hall_value, 2 ∷ [])
    ∷ sweep 3 ⇒ swept 3 0 ∷ ask (as_of 4 A1) ⇒ refused 16 ∷ (ask (as_of 5 A1), found hall_value, 2 ∷ [])
    ∷ (ask (as_of 7 A1), found hall_value, 3 ∷ []) ∷ ask (as_of 8 A1) ⇒ refused 16
    ∷ begin ⇒ began 8 1 ∷ (ask (as_of 8 A1), found hall_value, 3 ∷ []) ∷ ask (as_of 9 A1) ⇒ refused 16 ∷ [])
    (4 ∷ 7 ∷ [])
    -- also where a sweep drops nothing
    ∷ row new
    (three ++ sweep 3 ⇒ swept 3 0 ∷ ask (as_of 2 A1) ⇒ refused 16 ∷ (ask (as_of 3 A1), found hall_value, 1 ∷ []) ∷ [])
    (2 ∷ 4 ∷ 7 ∷ [])
    -- what is loaded: from its counter on; 3 before 16
    ∷ row (load mixed 2 4 2)
    (ask (as_of 7 A1) ⇒ refused 16 ∷ ask (as_of 8 A1) ⇒ found nothing_there
    ∷ ask (as_of 8 (A1 ++ 0x30 ∷ [])) ⇒ found hall_value
    ∷ ask (as_of 9 A1) ⇒ refused 16 ∷ ask (as_of 9 []) ⇒ refused 3 ∷ ask (as_of 9 (0 ∷ [])) ⇒ refused 3
    ∷ begin ⇒ began 9 0 ∷ on 9 (put A1 (5 ∷ [])) ⇒ done ∷ on 9 commit ⇒ committed 10
    ∷ ask (as_of 8 A1) ⇒ found nothing_there ∷ ask (as_of 9 A1) ⇒ found nothing_there
    ∷ (ask (as_of 10 A1), found hall_value, 5 ∷ []) ∷ [])
    (3 ∷ 8 ∷ 10 ∷ [])
    -- the last number that is issued
    ∷ row (late 0xFF)
    (ask (as_of (last - 1) A1) ⇒ refused 16 ∷ ask (as_of last A1) ⇒ found nothing_there
    ∷ ask (as_of end A1) ⇒ refused 16 ∷ [])
    []
    ∷ []

-- ---- edges

-- the calls that take a key
abbrev pub fits : (key : Bytes) → List Exchange
fits k =
    begin ⇒ began 1 0 ∷ on 1 (delete k) ⇒ done ∷ on 1 (put k []) ⇒ done ∷ on 1 (read k) ⇒ found own_value
    ∷ ask (newest k) ⇒ found nothing_there ∷ ask (as_of 1 k) ⇒ found nothing_there ∷ []

abbrev pub does_not_fit : (key : Bytes) → List Exchange
does_not_fit k =
    begin ⇒ began 1 0 ∷ on 1 (delete k) ⇒ refused 3 ∷ on 1 (put k []) ⇒ refused 3 ∷ on 1 (read k) ⇒ refused 3
    ∷ ask (newest k) ⇒ refused 3 ∷ ask (as_of 1 k) ⇒ refused 3 ∷ []

-- n begins, the first with this start and desk
unfoldable pub begins : (n start desk : ℕ) → List Exchange
begins zero t d = []
begins (suc n) t d = begin ⇒ began t d ∷ begins n (suc t) (suc d)

unfoldable pub edges : List Case
edges =
    -- sizes; 2 ^ 32 + 1 is 1 in 32 bits
    row (make 1 1 1) [] []
    ∷ row (make 1024 65536 64) [] []
    ∷ uncreated (make 0 1 1) (refused 2)
    ∷ uncreated (make 1 0 1) (refused 2)
    ∷ uncreated (make 1 1 0) (refused 2)
    ∷ uncreated (make 1025 1 1) (refused 2)
    ∷ uncreated (make 1 65537 1) (refused 2)
    ∷ uncreated (make 1 1 65) (refused 2)
    ∷ uncreated (make (2 ^ 32 + 1) 1 1) (refused 2)
    ∷ uncreated (make 1 (2 ^ 32 + 1) 1) (refused 2)
    ∷ uncreated (make 1 1 (2 ^ 32 + 1)) (refused 2)
    -- 1, 2 and 63 desks; one that is free again is taken
    ∷ row (make 1 1 1)
    (begin ⇒ began 1 0 ∷ begin ⇒ refused 6 ∷ on 1 abort ⇒ done ∷ begin ⇒ began 2 0 ∷ ask counts ⇒ counted 0 0 1 ∷ [])
    []
    ∷ row (make 1 1 2)
    (begins 2 1 0 ++ begin ⇒ refused 6 ∷ on 1 abort ⇒ done ∷ begin ⇒ began 3 0 ∷ begin ⇒ refused 6 ∷ [])
    []
    ∷ row (load (head 1 0) 1 1 63) (begins 63 1 0 ++ begin ⇒ refused 6 ∷ ask counts ⇒ counted 0 0 63 ∷ []) []
    -- keys of 0, 1, 24 and 25 bytes
    ∷ row new (does_not_fit []) []
    ∷ row new (fits (0x21 ∷ [])) []
    ∷ row new (fits (replicate 24 0x7E)) []
    ∷ row new (does_not_fit (replicate 25 0x7E)) []
    -- byte 32, 127, 0 or 255 in a key, alone, at its beginning and at its end; 33 and 126 loaded
    ∷ row new (does_not_fit (0x20 ∷ [])) []
    ∷ row new (does_not_fit (0x7F ∷ [])) []
    ∷ row new (does_not_fit (0 ∷ [])) []
    ∷ row new (does_not_fit (0x20 ∷ A1)) []
    ∷ row new (does_not_fit (0x7F ∷ A1)) []
    ∷ row new (does_not_fit (A1 ++ 0x20 ∷ [])) []
    ∷ row new (does_not_fit (A1 ++ 0x7F ∷ [])) []
    ∷ row new (does_not_fit (A1 ++ 0 ∷ [])) []
    ∷ row new (does_not_fit (replicate 23 0x41 ++ 0xFF ∷ [])) []
    ∷ row (load (head 3 1 ++ keyed (0x21 ∷ 0x7E ∷ []) 1 ++ valued 2 7) 1 1 1)
    ((ask (newest (0x21 ∷ 0x7E ∷ [])), found hall_value, 7 ∷ []) ∷ [])
    []
    -- values of 0, 96 and 97 bytes
    ∷ row new
    (begin ⇒ began 1 0 ∷ on 1 (put A1 []) ⇒ done ∷ on 1 (read A1) ⇒ found own_value
    ∷ on 1 (put A1 (replicate 96 7)) ⇒ done ∷ on 1 (put A1 (replicate 97 8)) ⇒ refused 4
    ∷ (on 1 (read A1), found own_value, replicate 96 7) ∷ [])
    []
    -- the next number 2 ^ 64 - 1: the last has been issued
    ∷ row (late 0xFF) (begin ⇒ refused 8 ∷ (ask (dump 20), dumped 20, dsemvcc1 ++ replicate 8 0xFF ++ u32 0) ∷ []) []
    -- an output that is a byte too short, long enough, and longer
    ∷ row new
    (ask (dump 19) ⇒ refused 12 ∷ (ask (dump 20), dumped 20, head 1 0) ∷ (ask (dump 21), dumped 20, head 1 0) ∷ [])
    []
    ∷ []

-- ---- orders of two checks, and how many writes and desks

-- two versions of A1, the next number 5
abbrev pub twice : Bytes
twice = head 5 1 ++ keyed A1 2 ++ valued 2 7 ++ emptied 4

unfoldable pub orders : List Case
orders =
    -- load: 2 before 13, 14 and 15
    uncreated (load [] 0 1 1) (refused 2)
    ∷ uncreated (load (head 0 0) 1025 1 1) (refused 2)
    ∷ uncreated (load (head 3 3) 1 65537 1) (refused 2)
    ∷ uncreated (load [] 1 1 0) (refused 2)
    ∷ uncreated (load (head 0 0) 1 1 65) (refused 2)
    -- 3 before 4 and 5, for a key's length and for its bytes, 4 before 5
    ∷ row new
    (on 1 (put [] (replicate 97 7)) ⇒ refused 3 ∷ on 1 (put (0 ∷ []) (replicate 97 7)) ⇒ refused 3
    ∷ on 1 (put A1 (replicate 97 7)) ⇒ refused 4
    ∷ on 1 (put (0 ∷ []) []) ⇒ refused 3 ∷ on 1 (delete (0 ∷ [])) ⇒ refused 3 ∷ on 1 (read (0 ∷ [])) ⇒ refused 3
    ∷ on 1 (put [] []) ⇒ refused 3 ∷ on 1 (put A1 []) ⇒ refused 5
    ∷ on 1 (delete []) ⇒ refused 3 ∷ on 1 (delete A1) ⇒ refused 5
    ∷ on 1 (read []) ⇒ refused 3 ∷ on 1 (read A1) ⇒ refused 5
    ∷ on 1 commit ⇒ refused 5 ∷ on 1 abort ⇒ refused 5 ∷ [])
    []
    -- sixteen writes fill sixteen rooms, and one of them is written again; 3 and 4 before 7, which never meets 5
    ∷ row (make 16 16 1)
    (begin ⇒ began 1 0 ∷ puts 1 16
    ++ on 1 (put [] []) ⇒ refused 3 ∷ on 1 (put (0 ∷ []) []) ⇒ refused 3
    ∷ on 1 (put A1 (replicate 97 7)) ⇒ refused 4 ∷ on 1 (put A1 []) ⇒ refused 7
    ∷ on 1 (delete []) ⇒ refused 3 ∷ on 1 (delete A1) ⇒ refused 7
    ∷ on 1 (put (33 ∷ []) []) ⇒ done ∷ on 1 commit ⇒ committed 2 ∷ ask counts ⇒ counted 16 16 0 ∷ [])
    []
    -- 64 desks; one that is free again is taken; 6 before 8 where all are taken and the last number is issued
    ∷ row (late 0xBE)
    (begins 64 (last - 64) 0
    ++ begin ⇒ refused 6 ∷ ask counts ⇒ counted 0 0 64 ∷ on (last - 59) abort ⇒ done ∷ begin ⇒ began last 5
    ∷ begin ⇒ refused 6 ∷ on last abort ⇒ done ∷ begin ⇒ refused 8 ∷ ask counts ⇒ counted 0 0 63 ∷ [])
    []
    -- 9 before 8, and neither without writes
    ∷ row (late 0xFB)
    (begins 3 (last - 3) 0
    ++ on (last - 3) (put A1 []) ⇒ done ∷ on (last - 3) commit ⇒ committed last
    ∷ on (last - 2) (put A1 []) ⇒ done ∷ on (last - 2) commit ⇒ conflict ((A1, last) ∷ [])
    ∷ on (last - 1) commit ⇒ closed ∷ [])
    (last ∷ [])
    -- 9 before 10 and 11; the desk is closed
    ∷ row (make 1 1 2)
    (two
    ++ on 2 (put A1 []) ⇒ done ∷ on 2 (put A2 []) ⇒ done ∷ on 2 commit ⇒ conflict ((A1, 3) ∷ [])
    ∷ on 2 commit ⇒ refused 5 ∷ [])
    (3 ∷ [])
    -- 8 before 10 and 11
    ∷ row (load (dsemvcc1 ++ 0xFE ∷ replicate 7 0xFF ++ u32 1 ++ keyed A1 1 ++ valued 2 7) 1 1 2)
    (begin ⇒ began last 0 ∷ on last (put A2 []) ⇒ done ∷ on last commit ⇒ refused 8 ∷ [])
    (2 ∷ [])
    -- 10 before 11, and 11; the desk is still open, and a sweep makes room
    ∷ row (load twice 1 2 2)
    (begin ⇒ began 5 0 ∷ on 5 (put A2 []) ⇒ done ∷ on 5 commit ⇒ refused 10 ∷ on 5 (read A2) ⇒ found own_value
    ∷ on 5 abort ⇒ done
    ∷ begin ⇒ began 6 0 ∷ on 6 (put A1 []) ⇒ done ∷ on 6 commit ⇒ refused 11 ∷ on 6 (read A1) ⇒ found own_value
    ∷ sweep end ⇒ swept 6 1 ∷ on 6 commit ⇒ committed 7 ∷ [])
    (4 ∷ 7 ∷ [])
    -- neither, for a new key and its version in the last rooms
    ∷ row (load twice 2 3 2)
    (begin ⇒ began 5 0 ∷ on 5 (put A2 []) ⇒ done ∷ on 5 commit ⇒ committed 6 ∷ ask counts ⇒ counted 2 3 0 ∷ [])
    (2 ∷ 4 ∷ [])
    ∷ []

-- ---- soundness

-- two desks chosen, counter 3, and version 2 of a key
abbrev pub one_version : (key : Bytes) (floor : ℕ) → List Desk → Store
one_version k f ds =
    record {
      hall = record {
        key_rooms = 1;
        version_rooms = 1;
        desk_count = 2;
        counter = 3;
        floor = f;
        entries = record { key = k; chain = record { number = 2; payload = deletion } ∷ [] } ∷ [];
      };
      desks = ds;
    }

abbrev pub deletes : (start : ℕ) (key : Bytes) → Desk
deletes t k = taken (record { start = t; writes = record { key = k; payload = deletion } ∷ [] })

-- each but the first breaks one rule of docs/RULES.md, 3.2 and 3.3
unfoldable pub stores : List Store
stores =
    one_version A1 3 (deletes 3 A2 ∷ free ∷ [])
    -- a space in a key, held or written
    ∷ one_version (0x20 ∷ []) 3 (deletes 3 A2 ∷ free ∷ [])
    ∷ one_version A1 3 (deletes 3 (0x20 ∷ []) ∷ free ∷ [])
    -- a floor above the counter
    ∷ one_version A1 4 (deletes 3 A2 ∷ free ∷ [])
    -- a start above the counter, one that is a version's number, one at two desks
    ∷ one_version A1 3 (deletes 4 A2 ∷ free ∷ [])
    ∷ one_version A1 3 (deletes 2 A2 ∷ free ∷ [])
    ∷ one_version A1 3 (deletes 3 A2 ∷ deletes 3 A2 ∷ [])
    -- a desk fewer than was chosen, and one more
    ∷ one_version A1 3 (deletes 3 A2 ∷ [])
    ∷ one_version A1 3 (deletes 3 A2 ∷ free ∷ free ∷ [])
    ∷ []

pub first_is_sound : map sound stores ≡ true ∷ replicate 8 false
unfolding order writes_of every are_printable key_fits value_fits sizes_fit sound_payload sound_chain sound_entries
    version_count sound_hall in_chain is_number sound_writes sound_open sound_desks sound stores
first_is_sound = refl

-- ---- the table

unfoldable pub cases : List Case
cases =
    starred ++ deletions ++ thinnings ++ conflicts ++ journals ++ views ++ stood ++ edges ++ orders
    ++ map (λ (f : Bytes × Answer). uncreated (load f.0 2 3 2) f.1) faults

pub whiteboard : AllRight cases
unfolding order num bytes
    look visible newest_of version_count add publish is_read is_clear is_covered goes trim with_chain trim_all
    find put_write writes_of free_desk open_desks open_starts cutoff seat redesk vacant
    are_printable key_fits value_fits sizes_fit
    magic dump_payload dump_version dump_chain dump_entry dump_entries dump_hall
    bind fault field number_field read_payload read_version read_chain read_entry read_entries read_end read_hall
    mark dump_write dump_writes dump_body framed dump_commit with_commits
    read_write read_writes read_body mark_fault read_frame read_commit
    check read_outcome above clashes new_keys is_spent room_checks settle is_too_many act reply
    go_on replay_up_to replay_of replay_beside
    drops sweep_at thin_at decide apply
    loaded created run responses result_of ending_of AllRight
    two three gone saves puts one_byte begins starred deletions thinnings conflicts journals views stood edges orders
    faults spoils cases
whiteboard = refl
