-- An index of commits by the names that they change: of each name the numbers and handles of the commits that change
-- it, in their order. (This project's own.)
use Rattle.std.specs.Prelude.{◌≡◌, ℕ, ◌+◌, ◌≤◌, nat_eq, nat_lt, Bool, not, ◌&&◌, if◌then◌else◌, List, [], ◌∷◌, ◌++◌, length, take, Option, Some, None}
use Rattle.std.specs.BTreeMap.{BTreeMap, get}
use Rattle.std.specs.List.{AllByRecursion}
use Rattle.std.specs.Option.{option_map_or}
use Rattle.std.specs.declared.alloc.Global.{Global}
use Rattle.std.specs.declared.vec.Vec.{Vec}
use Rattle.model_names.specs.Name.{Name}
use Rattle.model_names.specs.Order.{name_cmp, name_eq}
use Rattle.model_history.specs.Changes.{Change}
use Rattle.model_history.specs.History.{Commit}

-- what a commit leaves at a name that it changes, once for each change of it: its number, and the handle that made it
abbrev pub marks_of : Name → ℕ × ℕ → List Change → List (ℕ × ℕ)
marks_of name mark [] = []
marks_of name mark (change ∷ changes) =
    if name_eq name change.0 then mark ∷ marks_of name mark changes else marks_of name mark changes

-- what some commits leave there, numbered from a number on
abbrev pub marks_in : Name → ℕ → List Commit → List (ℕ × ℕ)
marks_in name number [] = []
marks_in name number (commit ∷ commits) =
    marks_of name (number, commit.handle) commit.changes ++ marks_in name (number + 1) commits

-- another handle left it, behind a front
abbrev pub is_later_of_others : ℕ → ℕ → ℕ × ℕ → Bool
is_later_of_others front handle mark = nat_lt front mark.0 && not (nat_eq handle mark.1)

-- the number of the first mark that another handle left behind a front
abbrev pub first_mark : List (ℕ × ℕ) → ℕ → ℕ → Option ℕ
first_mark [] front handle = None
first_mark (mark ∷ marks) front handle =
    if is_later_of_others front handle mark then Some mark.0 else first_mark marks front handle

-- no number falls
abbrev pub AreRising : List (ℕ × ℕ) → Type 0
AreRising [] = Unit {0}
AreRising (mark ∷ marks) = AllByRecursion (λ later. mark.0 ≤ later.0) marks × AreRising marks

-- an index by names
abbrev pub Names : Type 0
Names = BTreeMap Name (Vec (ℕ × ℕ) Global)

-- what it has at a name
abbrev pub marks_at : Names → Name → List (ℕ × ℕ)
marks_at names name = option_map_or (λ marks. marks.items) (get name_cmp names name) []

-- it has what the first commits leave at each name
pub record IsNaming (history : List Commit) (covered : ℕ) (names : Names) : Type 0 where
  pub within : covered ≤ length history
  pub each : (name : Name) → marks_at names name ≡ marks_in name 1 (take covered history)
