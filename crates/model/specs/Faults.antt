-- Dumps and journals written out by hand, and those that load and replay refuse (docs/RULES.md, 7 and 11).
use Rattle.std.specs.Prelude.{ℕ, List, [], ◌∷◌, ◌++◌, take, replicate}
use Rattle.model.specs.Bytes.{Bytes}
use Rattle.model.specs.Calls.{Answer, faulty}

-- ---- parts of a dump, for keys of two bytes and numbers below 256

abbrev pub A1 : Bytes
A1 = 0x41 ∷ 0x31 ∷ []

abbrev pub A2 : Bytes
A2 = 0x41 ∷ 0x32 ∷ []

abbrev pub u32 : ℕ → Bytes
u32 n = n ∷ 0 ∷ 0 ∷ 0 ∷ []

abbrev pub u64 : ℕ → Bytes
u64 n = n ∷ 0 ∷ 0 ∷ 0 ∷ 0 ∷ 0 ∷ 0 ∷ 0 ∷ []

-- `DSEMVCC1`
abbrev pub dsemvcc1 : Bytes
dsemvcc1 = 0x44 ∷ 0x53 ∷ 0x45 ∷ 0x4D ∷ 0x56 ∷ 0x43 ∷ 0x43 ∷ 0x31 ∷ []

-- 20 bytes: the magic, next number and key count
abbrev pub head : (next count : ℕ) → Bytes
head next count = dsemvcc1 ++ u64 next ++ u32 count

-- 10 bytes: the key's length, the key and its version count
abbrev pub keyed : Bytes → (count : ℕ) → Bytes
keyed k count = u32 2 ++ k ++ u32 count

-- 14 bytes: the number, the tag, the value's length and the value
abbrev pub valued : (number byte : ℕ) → Bytes
valued n b = u64 n ++ 1 ∷ u32 1 ++ b ∷ []

-- 13 bytes: the same with no value bytes
abbrev pub emptied : (number : ℕ) → Bytes
emptied n = u64 n ++ 1 ∷ u32 0

-- 9 bytes: the number and the tag
abbrev pub deleted : (number : ℕ) → Bytes
deleted n = u64 n ++ 0 ∷ []

-- ---- whole dumps, and such as are whole up to here

-- a field starts at 0, 8, 16; 20, 24, 26; 30, 38, 39 and 43
abbrev pub whole : Bytes
whole = head 3 1 ++ keyed A1 1 ++ valued 2 7

-- the next key's length starts at 39, its bytes at 43, its version count at 45
abbrev pub first : Bytes → Bytes
first k = head 9 2 ++ keyed k 1 ++ deleted 4

-- the next number starts at 39
abbrev pub older : Bytes
older = head 9 1 ++ keyed A1 2 ++ deleted 4

-- three versions; the next key's version count starts at 63
abbrev pub full : Bytes
full = head 9 2 ++ keyed A1 3 ++ deleted 1 ++ deleted 2 ++ deleted 3

-- ---- what 2 key rooms and 3 version rooms refuse, with the number and the offset

unfoldable pub faults : List (Bytes × Answer)
faults =
    -- a field that is not wholly there
    ([], faulty 13 0)
    ∷ (take 7 whole, faulty 13 0)
    ∷ (take 15 whole, faulty 13 8)
    ∷ (take 19 whole, faulty 13 16)
    ∷ (take 23 whole, faulty 13 20)
    ∷ (take 25 whole, faulty 13 24)
    ∷ (take 29 whole, faulty 13 26)
    ∷ (take 37 whole, faulty 13 30)
    ∷ (take 38 whole, faulty 13 38)
    ∷ (take 42 whole, faulty 13 39)
    ∷ (take 43 whole, faulty 13 43)
    -- also where the bytes that are there are wrong
    ∷ (0 ∷ [], faulty 13 0)
    ∷ (dsemvcc1 ++ replicate 7 0, faulty 13 8)
    ∷ (take 16 whole ++ replicate 3 9, faulty 13 16)
    ∷ (take 20 whole ++ replicate 3 0, faulty 13 20)
    ∷ (take 24 whole ++ 0 ∷ [], faulty 13 24)
    ∷ (first A1 ++ u32 2 ++ 0x40 ∷ [], faulty 13 43)
    ∷ (take 26 whole ++ replicate 3 0, faulty 13 26)
    ∷ (take 30 whole ++ replicate 7 0, faulty 13 30)
    ∷ (take 39 whole ++ replicate 3 9, faulty 13 39)
    -- wrong magic; next number 0, and the first of two faults
    ∷ (take 7 dsemvcc1 ++ 0x32 ∷ [], faulty 14 0)
    ∷ (head 0 3, faulty 14 8)
    -- key length 0, 25 and 2 ^ 24 + 2
    ∷ (head 3 1 ++ u32 0, faulty 14 20)
    ∷ (head 3 1 ++ u32 25, faulty 14 20)
    ∷ (head 3 1 ++ 2 ∷ 0 ∷ 0 ∷ 1 ∷ [], faulty 14 20)
    -- a key with byte 32, 127, 0 or 255, at its beginning and at its end
    ∷ (head 3 1 ++ keyed (0x20 ∷ 0x31 ∷ []) 1, faulty 14 24)
    ∷ (head 3 1 ++ keyed (0x7F ∷ 0x31 ∷ []) 1, faulty 14 24)
    ∷ (head 3 1 ++ keyed (0x41 ∷ 0x20 ∷ []) 1, faulty 14 24)
    ∷ (head 3 1 ++ keyed (0x41 ∷ 0x7F ∷ []) 1, faulty 14 24)
    ∷ (head 3 1 ++ keyed (0x41 ∷ 0 ∷ []) 1, faulty 14 24)
    ∷ (head 3 1 ++ keyed (0x41 ∷ 0xFF ∷ []) 1, faulty 14 24)
    -- the length before the bytes; the bytes of a key that is lower too, and before the version count
    ∷ (head 3 1 ++ u32 25 ++ replicate 25 0, faulty 14 20)
    ∷ (first A1 ++ keyed (0x41 ∷ 0 ∷ []) 0, faulty 14 43)
    ∷ (first A1 ++ keyed (0x7F ∷ 0x41 ∷ []) 3, faulty 14 43)
    -- a key that is the last, lower, or its proper prefix
    ∷ (first A1 ++ keyed A1 1, faulty 14 43)
    ∷ (first A2 ++ keyed A1 1, faulty 14 43)
    ∷ (first A1 ++ u32 1 ++ 0x41 ∷ [], faulty 14 43)
    -- version count 0
    ∷ (head 3 1 ++ keyed A1 0, faulty 14 26)
    -- a number that is 0, the last, lower, the next number, above it
    ∷ (head 3 1 ++ keyed A1 1 ++ deleted 0, faulty 14 30)
    ∷ (older ++ deleted 4, faulty 14 39)
    ∷ (older ++ deleted 3, faulty 14 39)
    ∷ (head 3 1 ++ keyed A1 1 ++ deleted 3, faulty 14 30)
    ∷ (head 3 1 ++ keyed A1 1 ++ deleted 4, faulty 14 30)
    -- tag 2, value length 97
    ∷ (head 3 1 ++ keyed A1 1 ++ u64 2 ++ 2 ∷ [], faulty 14 38)
    ∷ (head 3 1 ++ keyed A1 1 ++ u64 2 ++ 1 ∷ u32 97, faulty 14 39)
    -- bytes after the end
    ∷ (whole ++ 0 ∷ [], faulty 14 44)
    ∷ (head 1 0 ++ 7 ∷ 7 ∷ [], faulty 14 20)
    -- key count 3; version count 4, and 3 where 2 are left
    ∷ (head 3 3, faulty 15 16)
    ∷ (head 9 1 ++ keyed A1 4, faulty 15 26)
    ∷ (first A1 ++ keyed A2 3, faulty 15 45)
    -- where no room is left, version count 1 is too big and 0 is malformed
    ∷ (full ++ keyed A2 1, faulty 15 63)
    ∷ (full ++ keyed A2 0, faulty 14 63)
    ∷ []

-- ---- parts of a journal

-- 12 bytes: the key's length, the key, the tag, the value's length and the value
abbrev pub putting : Bytes → (byte : ℕ) → Bytes
putting k b = u32 2 ++ k ++ 1 ∷ u32 1 ++ b ∷ []

-- 7 bytes: the key's length, the key and the tag
abbrev pub deleting : Bytes → Bytes
deleting k = u32 2 ++ k ++ 0 ∷ []

-- 6 bytes: the mark and the body's length
abbrev pub marked : (length : ℕ) → Bytes
marked n = 0x4C ∷ 1 ∷ u32 n

-- 18 bytes: the same, the number and how many writes
abbrev pub noted : (length number count : ℕ) → Bytes
noted len n count = marked len ++ u64 n ++ u32 count

-- 30 bytes: A1 = 07 at 2
abbrev pub once : Bytes
once = noted 24 2 1 ++ putting A1 7

-- ---- records that a replay stops at with 14, after that one

unfoldable pub spoils : List Bytes
spoils =
    -- a mark that is another
    (0x4C ∷ 2 ∷ [])
    ∷ (0x4D ∷ 1 ∷ [])
    -- a body shorter than its number and its count
    ∷ marked 0
    ∷ (marked 11 ++ replicate 11 9)
    -- a number that is the counter, lower, 2 ^ 64 - 1
    ∷ (noted 24 2 1 ++ putting A1 8)
    ∷ (noted 24 1 1 ++ putting A1 8)
    ∷ (marked 24 ++ replicate 8 0xFF ++ u32 1 ++ putting A1 8)
    -- no write, 17 writes, one too few, one too many
    ∷ noted 12 3 0
    ∷ noted 12 3 17
    ∷ (noted 24 3 2 ++ putting A1 8)
    ∷ (noted 36 3 1 ++ putting A1 8 ++ putting A2 8)
    -- key length 0; the same key again, a lower one
    ∷ (noted 17 3 1 ++ u32 0 ++ 0 ∷ [])
    ∷ (noted 36 3 2 ++ putting A1 8 ++ putting A1 9)
    ∷ (noted 36 3 2 ++ putting A2 8 ++ putting A1 9)
    -- tag 2; a value that ends after the body
    ∷ (noted 19 3 1 ++ u32 2 ++ A1 ++ 2 ∷ [])
    ∷ (noted 23 3 1 ++ putting A1 8)
    ∷ []
