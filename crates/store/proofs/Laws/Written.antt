-- What a sound store dumps and writes into its journal is bytes.
use Prim.Native.Nat.{ℕ, suc}
use native.Mathlib.Omega.{arith}
use mathlib.Core.Path.{◌≡◌, refl}
use mathlib.Core.Bool.{true}
use mathlib.Core.List.{List, [], ◌∷◌, ◌++◌}
use Rattle.std.specs.Prelude.{Option, None, Some}
use lib.ListN.{length}
use Rattle.model.specs.Sizes.{first_printable, last_printable, number_width, count_width, tag_width}
use Rattle.model.specs.Bytes.{Bytes, are_bytes}
use Rattle.model.specs.State.{Payload, deletion, content, Chain, Entry, Hall, Writes, Store, or_empty, writes_of}
use Rattle.model.specs.Sound.{is_printable, are_printable, key_fits, value_fits, sound_payload, sound_chain, sound_entries, sound_hall, sound_writes, sound}
use Rattle.model.specs.Dump.{magic, dump_payload, dump_version, dump_chain, dump_key, dump_entry, dump_entries, dump_hall}
use Rattle.model.specs.Journal.{Commit, mark, dump_write, dump_writes, dump_body, framed, dump_commit}
use Rattle.model.specs.Calls.{read, put, delete, commit_to, abort, Call, begin, on, ask, sweep, thin, replay, Clashes, Outcome, record_of, settle, act, decide, next}
use Rattle.model.specs.History.{in_bytes, all_in_bytes}
use Rattle.model.specs.Recovery.{recorded_by, journal_of}
use Rattle.model.proofs.Cases.{and_intro, and_left, and_right, every_all, within_le, key_parts}
use Rattle.model.proofs.Bytes.{are_bytes_cons}
use Rattle.model_laws.proofs.Effects.{checked}
use Rattle.model_laws.proofs.Sound.{tidy_of}
use Rattle.model_laws.proofs.Tested.{writes_tests, sound_parts}
use Rattle.model_laws.proofs.Demands.{keeps_sound}
use Rattle.memory.proofs.Laws.Numbers.{cons_are_bytes, are_bytes_bytes}

none_bytes : are_bytes [] ≡ true
unfolding are_bytes
none_bytes = refl

all_bytes : (a b : Bytes) → are_bytes a ≡ true → are_bytes b ≡ true → are_bytes (a ++ b) ≡ true
unfolding are_bytes
all_bytes [] b p q = q
all_bytes (x ∷ a) b p q = let f = are_bytes_cons x a p in and_intro f.0 (all_bytes a b f.1 q)

-- ---- what the dump and a record share

printable_bytes : (k : Bytes) → are_printable k ≡ true → are_bytes k ≡ true
unfolding are_printable are_bytes
printable_bytes [] e = refl
printable_bytes (b ∷ k) e =
    let p = within_le first_printable last_printable b (and_left (is_printable b) (are_printable k) e) in
    cons_are_bytes b k (omega (arith, p.1)) (printable_bytes k (and_right (is_printable b) (are_printable k) e))

key_bytes_lem : (k x : Bytes) → key_fits k ≡ true → are_bytes x ≡ true → are_bytes (dump_key k x) ≡ true
key_bytes_lem k x e p = all_bytes _ _ (are_bytes_bytes count_width (length k)) (all_bytes k x (printable_bytes k (key_parts k e).2) p)

payload_bytes_lem : (p : Payload) → sound_payload p ≡ true → are_bytes (dump_payload p) ≡ true
unfolding sound_payload dump_payload
payload_bytes_lem deletion e = are_bytes_bytes tag_width 0
payload_bytes_lem (content b) e =
    all_bytes _ _ (are_bytes_bytes tag_width 1) (all_bytes _ b (are_bytes_bytes count_width (length b)) (and_right (value_fits b) (are_bytes b) e))

-- ---- the dump

chain_bytes : (last top : ℕ) (l : Chain) → sound_chain last top l ≡ true → are_bytes (dump_chain l) ≡ true
unfolding sound_chain dump_chain dump_version
chain_bytes last top [] e = none_bytes
chain_bytes last top (v ∷ l) e =
    let a = every_all _ e in
    all_bytes _ (dump_chain l) (all_bytes _ _ (are_bytes_bytes number_width v.number) (payload_bytes_lem v.payload a.1.1.0))
    (chain_bytes v.number top l a.1.1.1.0)

entries_bytes : (last : Bytes) (top : ℕ) (es : List Entry) → sound_entries last top es ≡ true → are_bytes (dump_entries es) ≡ true
unfolding sound_entries dump_entries dump_entry
entries_bytes last top [] e = none_bytes
entries_bytes last top (x ∷ es) e =
    let a = every_all _ e in
    let c = all_bytes _ _ (are_bytes_bytes count_width (length x.chain)) (chain_bytes 0 top x.chain a.1.1.1.0) in
    all_bytes _ (dump_entries es) (key_bytes_lem x.key _ a.1.0 c) (entries_bytes x.key top es a.1.1.1.1.0)

magic_bytes : are_bytes magic ≡ true
unfolding magic are_bytes
magic_bytes = refl

pub dump_bytes : (h : Hall) → sound_hall h ≡ true → are_bytes (dump_hall h) ≡ true
unfolding sound_hall dump_hall
dump_bytes h e =
    let a = every_all _ e in
    all_bytes magic _ magic_bytes
    (all_bytes _ _ (are_bytes_bytes number_width (suc h.counter))
    (all_bytes _ _ (are_bytes_bytes count_width (length h.entries)) (entries_bytes [] h.counter h.entries a.1.1.0)))

-- ---- a record

writes_bytes : (last : Bytes) (ws : Writes) → sound_writes last ws ≡ true → are_bytes (dump_writes ws) ≡ true
unfolding sound_writes dump_writes dump_write
writes_bytes last [] e = none_bytes
writes_bytes last (w ∷ ws) e =
    let a = every_all _ e in
    all_bytes _ (dump_writes ws) (key_bytes_lem w.key _ a.1.0 (payload_bytes_lem w.payload a.1.1.0)) (writes_bytes w.key ws a.1.1.1.0)

mark_bytes : are_bytes mark ≡ true
unfolding mark are_bytes
mark_bytes = refl

commit_bytes : (c : Commit) → sound_writes [] c.writes ≡ true → are_bytes (dump_commit c) ≡ true
unfolding dump_commit framed dump_body
commit_bytes c e =
    all_bytes mark _ mark_bytes
    (all_bytes _ _ (are_bytes_bytes count_width _)
    (all_bytes _ _ (are_bytes_bytes number_width c.number)
    (all_bytes _ _ (are_bytes_bytes count_width (length c.writes)) (writes_bytes [] c.writes e))))

-- ---- the journal of a run

InBytes : Outcome → Type 0
InBytes o = are_bytes o.bytes ≡ true

record_bytes : (j : Option ℕ) (c : Commit) → sound_writes [] c.writes ≡ true → are_bytes (record_of j c) ≡ true
record_bytes None c e = none_bytes
record_bytes (Some room) c e = commit_bytes c e

settle_bytes : (h : Hall) (j : Option ℕ) (t : ℕ) (ws : Writes) → sound_writes [] ws ≡ true → (l : Clashes) → InBytes (settle h j t ws l)
unfolding settle InBytes
settle_bytes h j t [] e l = none_bytes
settle_bytes h j t (w ∷ ws) e (c ∷ l) = none_bytes
settle_bytes h j t (w ∷ ws) e [] =
    checked InBytes (λ n. none_bytes) _ _ (λ a. checked InBytes (λ n. none_bytes) _ _ (λ b. record_bytes j (record { number = suc h.counter; writes = w ∷ ws }) e))

recorded_bytes : (s : Store) → sound s ≡ true → (c : Call) → are_bytes (recorded_by s c) ≡ true
unfolding recorded_by decide act InBytes
recorded_bytes s g begin = none_bytes
recorded_bytes s g (on t (read k)) = none_bytes
recorded_bytes s g (on t (put k v)) = none_bytes
recorded_bytes s g (on t (delete k)) = none_bytes
recorded_bytes s g (on t (commit_to j)) =
    let ws = or_empty (writes_of t s.desks) in
    checked InBytes (λ n. none_bytes) _ _ (λ a. settle_bytes s.hall j t ws (writes_tests [] ws (tidy_of (sound_parts s g).desks t).sound) _)
recorded_bytes s g (on t abort) = none_bytes
recorded_bytes s g (ask q) = none_bytes
recorded_bytes s g (sweep l) = none_bytes
recorded_bytes s g (thin l) = none_bytes
recorded_bytes s g (replay x) = none_bytes

pub journal_bytes : (s : Store) → sound s ≡ true → (cs : List Call) → all_in_bytes cs ≡ true → are_bytes (journal_of s cs) ≡ true
unfolding journal_of all_in_bytes
journal_bytes s g [] b = none_bytes
journal_bytes s g (c ∷ cs) b =
    all_bytes _ _ (recorded_bytes s g c)
    (journal_bytes (next s c) (keeps_sound s c (and_left (in_bytes c) (all_in_bytes cs) b) g) cs (and_right (in_bytes c) (all_in_bytes cs) b))
