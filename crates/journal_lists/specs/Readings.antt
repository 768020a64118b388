-- The open entries of a list, or the place where one isn't whole: what is read from its first gate on, where each byte
-- at a gate that is neither 0 nor 1 counts as 0. This project's own.
use Rattle.std.specs.Prelude.{◌≡◌, ◌++◌, ℕ, zero, suc, ◌+◌, Bool, true, false, List, [], ◌∷◌, take, drop, Option, Some, None, Result, Ok, Err}
use Rattle.journal_codec.specs.declared.files.FileText.{FileText}
use Rattle.journal_steps.specs.JournalBytes.{open_length}
use Rattle.journal_codec.specs.Forms.{followed}
use Rattle.journal_lists.specs.Grammar.{most_entries, head_size, size_of, rest_of, entry_or_place}
use Rattle.journal_lists.specs.Rules.{Rule}

-- an entry before those that were read
abbrev pub with_first : List FileText → Result (List (List FileText)) ℕ → Result (List (List FileText)) ℕ
with_first entry (Ok entries) = Ok (entry ∷ entries)
with_first entry (Err at) = Err at

-- an entry, if it is whole, with what stands behind it, if another gate does
abbrev pub joined : Result (List FileText) ℕ → Bool → Result (List (List FileText)) ℕ → Result (List (List FileText)) ℕ
joined (Err at) goes_on rest = Err at
joined (Ok entry) false rest = Ok (entry ∷ [])
joined (Ok entry) true rest = with_first entry rest

-- behind the most entries no open one is whole
abbrev pub past_last : Rule → ℕ → Option ℕ → Result (List (List FileText)) ℕ
past_last rule place None = Ok []
past_last rule place (Some size) = Err (rule.late place)

-- from a gate on that is shut, or open on a body of this size
abbrev pub at_gate : Rule → Option ℕ → ℕ → List ℕ → Result (List (List FileText)) ℕ → Result (List (List FileText)) ℕ
at_gate rule None place c rest = Ok []
at_gate rule (Some size) place c rest =
    joined (entry_or_place rule place size (take size (drop head_size c))) (followed (take size (drop head_size c))) rest

-- from a gate on at this place, where so many entries are left
abbrev pub reading : Rule → ℕ → ℕ → List ℕ → Result (List (List FileText)) ℕ
reading rule zero place c = past_last rule place (open_length c)
reading rule (suc left) place c =
    at_gate rule (open_length c) place c (reading rule left (place + head_size + size_of (drop 1 c)) (rest_of (drop 1 c)))

-- the open entries of a list, or the place that is told of the first one that isn't whole
unfoldable pub list_in : Rule → List ℕ → Result (List (List FileText)) ℕ
list_in rule c = reading rule most_entries 0 c

-- what is read from a gate on, where so many entries are left (its own name for `reading`, since that unfolds at each
-- number)
unfoldable pub rest_in : Rule → ℕ → ℕ → List ℕ → Result (List (List FileText)) ℕ
rest_in rule left place c = reading rule left place c

-- to a list came what was expected
abbrev pub Adds : Result (List (List FileText)) ℕ → List (List FileText) → List (List FileText) → Type 0
Adds expected old new = (more : List (List FileText)) × (expected ≡ Ok more) × (new ≡ old ++ more)
