-- The bytes of a list of entries: a gate, the length of a body and the body, and behind a body whose count says so the
-- next gate. This project's own.
use Rattle.std.specs.Prelude.{◌≡◌, ℕ, ◌+◌, ◌<◌, ◌≤◌, List, length, take, drop, Result, Ok, Err, if◌then◌else◌, nat_le}
use Rattle.journal_codec.specs.declared.files.FileText.{FileText}
use Rattle.journal_codec.specs.Entry.{number_of}
use Rattle.journal_steps.specs.JournalBytes.{body_or_place}
use Rattle.journal_lists.specs.Rules.{Rule}

-- a list has no more entries
abbrev pub most_entries : ℕ
most_entries = 32

-- each entry of a list ends here or before, counted from the first gate
abbrev pub last_place : ℕ
last_place = 67200005

-- how many bytes a gate and a length have
abbrev pub head_size : ℕ
head_size = 5

-- of the bytes behind a gate: the length of a body, the body or what is there of it, and the bytes behind the body
abbrev pub size_of : List ℕ → ℕ
size_of tail = number_of (take 4 tail)

abbrev pub body_of : List ℕ → List ℕ
body_of tail = take (size_of tail) (drop 4 tail)

abbrev pub rest_of : List ℕ → List ℕ
rest_of tail = drop (size_of tail) (drop 4 tail)

-- the entry that a body of this size spells, or the place in the body where it isn't whole
abbrev pub body_in : Rule → ℕ → List ℕ → Result (List FileText) ℕ
body_in rule size there = body_or_place (rule.read there) size (length there)

-- the same with the place that is told, of the body behind a gate at this place
abbrev pub placed : Rule → ℕ → Result (List FileText) ℕ → Result (List FileText) ℕ
placed rule place (Ok entry) = Ok entry
placed rule place (Err at) = Err (rule.told place at)

-- the same of an entry that stands at this place: one that ends too late isn't whole from its beginning on
unfoldable pub entry_or_place : Rule → ℕ → ℕ → List ℕ → Result (List FileText) ℕ
entry_or_place rule place size there =
    if nat_le (place + head_size + size) last_place then placed rule place (body_in rule size there) else Err (rule.late place)

-- behind a gate at this place, with so many entries before it, stands this entry: not one too many, within the last
-- place, and whole
pub record IsWhole (rule : Rule) (number place : ℕ) (tail : List ℕ) (entry : List FileText) : Type 0 where
  pub few : number < most_entries
  pub within : place + head_size + size_of tail ≤ last_place
  pub body : body_in rule (size_of tail) (body_of tail) ≡ Ok entry
