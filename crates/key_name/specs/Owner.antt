-- Where files are mounted, and to which of these points, each of which has all that is below it, a name belongs. (After
-- Elektra's page on mounting.)
use Rattle.std.specs.Prelude.{◌≡◌, ℕ, nat_le, Bool, true, not, ◌&&◌, ◌||◌, List, length, Option}
use Rattle.std.specs.List.{list_all, position}
use Rattle.std.specs.List.Sorted.{IsStrictlySortedBy}
use Rattle.model_names.specs.Below.{is_at_or_below}
use Rattle.model_names.specs.Name.{Name}
use Rattle.model_names.specs.Namespaces.{has_files}
use Rattle.model_names.specs.Order.{name_cmp}

-- the points of mounts, which are numbered in this order: names that ascend, each in a namespace whose keys are in
-- files
pub record IsPoints (points : List Name) : Type 0 where
  pub ascending : IsStrictlySortedBy name_cmp points
  pub in_files : list_all (λ point. has_files point.namespace) points ≡ true

-- a point is the longest one for a name: it is the name or above it, and no other such point has more parts
abbrev pub is_longest : List Name → Name → Name → Bool
is_longest points name point =
    is_at_or_below point name && list_all (λ other. not (is_at_or_below other name) || nat_le (length other.parts) (length point.parts)) points

-- the owner of a name: the number of the longest point that is the name or above it; none where no point is
abbrev pub owner_of : List Name → Name → Option ℕ
owner_of points name = position (is_longest points name) points
