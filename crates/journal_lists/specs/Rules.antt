-- What a list may hold, by the file that it stands in: how a body reads, and which place is told where one isn't whole.
-- This project's own.
use Rattle.std.specs.Prelude.{◌≡◌, ℕ, ◌+◌, List, Option, Some, None}
use Rattle.journal_codec.specs.declared.files.FileText.{FileText}
use Rattle.journal_codec.specs.Entry.{IsEntry}
use Rattle.journal_codec.specs.Forms.{uncounted, spelled_on}
use Rattle.journal_codec.specs.Listed.{read_listed}
use Rattle.journal_lists.specs.Heads.{front_size}
use Rattle.journal_codec.specs.Reading.{Reading, Reads, read_body}

-- how a body reads, its count included; the place that is told of a body that isn't whole, by the place of the gate
-- before it and the place in the body; and the one that is told of an entry past the limits
pub record Rule : Type 0 where
  pub read : List ℕ → Reading
  pub told : ℕ → ℕ → ℕ
  pub late : ℕ → ℕ

-- in `journal`: with either form of the count, and places in the body
abbrev pub plain : Rule
plain = record { read = λ body. read_body (uncounted body); told = λ place at. at; late = λ place. 0 }

-- in `journal2`, behind a header that names these files: each body says that a gate follows, and names these files
-- alone; places are counted from the file's first byte, and of an entry past the limits it is that of its length
abbrev pub listed : List (List ℕ) → Rule
listed names = record {
  read = read_listed names;
  told = λ place at. front_size names + place + 5 + at;
  late = λ place. front_size names + place + 1;
}

-- the rule of a list behind a header, or without one
abbrev pub rule_of : Option (List (List ℕ)) → Rule
rule_of None = plain
rule_of (Some names) = listed names

-- and the place of its first gate
abbrev pub start_of : Option (List (List ℕ)) → ℕ
start_of None = 0
start_of (Some names) = front_size names

-- an entry that is read again as it is written, with a gate behind it
pub record IsAllowed (rule : Rule) (entry : List FileText) : Type 0 where
  pub is_entry : IsEntry entry
  pub again : rule.read (spelled_on entry) ≡ Reads entry
