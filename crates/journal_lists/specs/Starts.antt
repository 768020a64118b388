-- What the bytes before a list tell, and the place that is told of bytes behind others. This project's own.
use Rattle.std.specs.Prelude.{◌≡◌, ℕ, ◌+◌, ◌≤◌, List, length, take, drop, Option, Some, None, if◌then◌else◌, ◌&&◌, ◌==◌, nat_le}
use Rattle.journal_codec.specs.declared.faults.DecodeFault.{DecodeFault}
use Rattle.journal_codec.specs.declared.faults.DecodeFault.TheVariants.{BadJournal as BadBytes, Memory as OutOfMemory}
use Rattle.journal_steps.specs.declared.faults.JournalFault.{JournalFault}
use Rattle.journal_steps.specs.declared.faults.JournalFault.TheVariants.{BadJournal, Memory}
use Rattle.journal_steps.specs.JournalBytes.{gate}
use Rattle.journal_lists.specs.declared.starts.Head.{Head}
use Rattle.journal_lists.specs.declared.starts.Start.{Start}
use Rattle.journal_lists.specs.Grammar.{head_size}
use Rattle.journal_lists.specs.Heads.{head_start, version_of, header_size}
use Rattle.journal_lists.specs.Rules.{start_of}

-- the version, and the length of the header, behind an open gate
unfoldable pub start_of_head : List ℕ → Option Start
start_of_head c =
    if nat_le head_start (length c) && (gate c == 1)
    then Some (record { version = version_of c; size = header_size c })
    else None

-- a list's first gate stands behind such a head
pub record IsBefore (head : Head) : Type 0 where
  pub start_is : head.start ≡ start_of head.names
  pub near : head.start ≤ 6471

-- the bytes from a gate on at this place of the list, and behind it what is there of a body of this size
abbrev pub from_gate : Head → ℕ → List ℕ → List ℕ
from_gate head place c = drop (head.start + place) c

abbrev pub body_at : Head → ℕ → ℕ → List ℕ → List ℕ
body_at head place size c = take size (drop head_size (from_gate head place c))

-- the fault of bytes that stand so many bytes behind the first one that is counted
abbrev pub told_fault : ℕ → DecodeFault → JournalFault
told_fault before (BadBytes at) = BadJournal (before + at)
told_fault before OutOfMemory = Memory
