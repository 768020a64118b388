-- What the number of a crash chooses to leave of each step. Numbers are drawn for the place of a byte in a step by a
-- multiplicative hash at 64 bits. This project's own.
use Rattle.std.specs.Prelude.{ℕ, ◌+◌, ◌-◌, ◌*◌, ◌/◌, ◌%◌, ◌^◌, bit_xor, nat_eq, nat_le, List, [], ◌∷◌, ◌++◌, length, take, drop, replicate, slice_index_or, if◌then◌else◌, bytes_eq}
use Rattle.kdb_outside.specs.Files.{written}
use Rattle.disk_memory.specs.declared.changes.Change.{Change}
use Rattle.disk_memory.specs.declared.changes.Step.{Step}
use Rattle.disk_memory.specs.declared.changes.Step.TheVariants.{Wrote, Cut, Synced}
use Rattle.disk_memory.specs.declared.torn.Choice.{Choice}
use Rattle.disk_memory.specs.declared.torn.Way.{Way}
use Rattle.disk_memory.specs.declared.torn.Way.TheVariants.{Out, Whole, Torn}
use Rattle.disk_memory.specs.Steps.{after}

-- the number drawn for a place of a step
abbrev pub drawn : Choice → ℕ → ℕ
drawn choice place =
    let spread = (place + choice.step * 1000003 % 2 ^ 64) % 2 ^ 64 * 11400714819323198485 % 2 ^ 64 in
    let mixed = bit_xor choice.number spread * 13787848793156543929 % 2 ^ 64 in
    bit_xor mixed (mixed / 2 ^ 31)

-- of four steps one is left out, one is whole and two are torn
abbrev pub way_by : ℕ → Way
way_by number = if nat_eq (number % 4) 0 then Out else if nat_eq (number % 4) 1 then Whole else Torn

-- 0 leaves each step out, 1 leaves it whole, and any other number leaves it in one of the three ways
abbrev pub way : Choice → Way
way choice =
    if nat_eq choice.number 0 then Out else if nat_eq choice.number 1 then Whole else way_by (drawn choice (2 ^ 64 - 1))

-- a byte of a torn write: the former one, the written one or any other; one that was written over with itself stays
abbrev pub torn_byte : ℕ → ℕ → ℕ → ℕ
torn_byte number former byte =
    if nat_eq former byte then former else if nat_eq (number % 3) 0 then former else if nat_eq (number % 3) 1 then byte else number / 3 % 256

-- these bytes, torn from a place on over the former ones; where there was none, it counts as 0
abbrev pub torn_bytes : Choice → ℕ → List ℕ → List ℕ → List ℕ
torn_bytes choice place former [] = []
torn_bytes choice place former (byte ∷ bytes) =
    torn_byte (drawn choice place) (slice_index_or former 0 0) byte ∷ torn_bytes choice (place + 1) (drop 1 former) bytes

-- how many bytes of a torn write are there: those that the content had room for, and any number of those behind its end
abbrev pub kept_of_write : Choice → ℕ → ℕ → ℕ → ℕ
kept_of_write choice at count size = count - drawn choice (at + count) % (at + count - size + 1)

-- what is left of a content by a torn write
abbrev pub torn_write : Choice → ℕ → List ℕ → List ℕ → List ℕ
torn_write choice at bytes content =
    written content at (torn_bytes choice at (drop at content) (take (kept_of_write choice at (length bytes) (length content)) bytes))

-- how many of the bytes that a torn cut takes off are there: any number
abbrev pub kept_of_cut : Choice → ℕ → ℕ → ℕ
kept_of_cut choice new_length size = drawn choice new_length % (size - new_length + 1)

-- what is left of a content by a torn cut: those bytes are torn as by a write of zeros
abbrev pub torn_cut : Choice → ℕ → List ℕ → List ℕ
torn_cut choice new_length content =
    take new_length content ++ torn_bytes choice new_length (drop new_length content) (replicate (kept_of_cut choice new_length (length content)) 0)

-- what is left of a content by a write that begins within it
abbrev pub write_by_way : Way → Choice → ℕ → List ℕ → List ℕ → List ℕ
write_by_way Out choice at bytes content = content
write_by_way Whole choice at bytes content = written content at bytes
write_by_way Torn choice at bytes content = torn_write choice at bytes content

-- a content that ends before the place of a write stays as it is
abbrev pub left_of_write : Choice → ℕ → List ℕ → List ℕ → List ℕ
left_of_write choice at bytes content =
    if nat_le at (length content) then write_by_way (way choice) choice at bytes content else content

-- what is left of a content by a cut
abbrev pub cut_by_way : Way → Choice → ℕ → List ℕ → List ℕ
cut_by_way Out choice new_length content = content
cut_by_way Whole choice new_length content = take new_length content
cut_by_way Torn choice new_length content = torn_cut choice new_length content

-- what is left behind a step, where a read gave and the crash left those bytes before
abbrev pub left_of_step : Choice → Step → List ℕ → List ℕ → List ℕ
left_of_step choice (Wrote at bytes) seen former = left_of_write choice at bytes former
left_of_step choice (Cut new_length) seen former = cut_by_way (way choice) choice new_length former
left_of_step choice Synced seen former = seen

-- what is left of a file behind these changes. The changes of all files are numbered together, so that files which were
-- changed alike are torn each in its own way
abbrev pub left_along : ℕ → List ℕ → ℕ → List ℕ → List ℕ → List Change → List ℕ
left_along number file count seen left [] = left
left_along number file count seen left (change ∷ rest) =
    if bytes_eq change.file file
    then left_along number file (count + 1) (after seen change.step) (left_of_step (record { number = number; step = count }) change.step seen left) rest
    else left_along number file (count + 1) seen left rest
