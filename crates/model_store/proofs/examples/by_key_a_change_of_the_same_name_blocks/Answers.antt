-- By the one change of the set.
use Rattle.std.proofs.Common.{◌≡◌, ℕ, ◌+◌, ◌&&◌, List, [], ◌∷◌, drop, Option, None, ap, ◌∙◌}
use Rattle.std.specs.FinMap as map
use Rattle.std.specs.FinMap.Entries.{put}
use Rattle.std.specs.List.{list_any, position_from}
use Rattle.general_words.proofs.Maps.{entries-empty}
use Rattle.model_names.specs.Name.{Name}
use Rattle.model_names.specs.Order.{name_cmp}
use Rattle.model_names.proofs.OrderLemmas.{name_cmp_total}
use Rattle.model_maps.specs.Entry.{Entry}
use Rattle.model_history.specs.Changes.{Change}
use Rattle.model_history.specs.History.{Commit, changes_beside}
use Rattle.model_store.specs.Worked.{by_turns, name_b, name_c, one_point}
use Rattle.model_store.proofs.examples.by_key_a_change_of_the_same_name_blocks.Goals as goal
use Rattle.set_split.specs.Involved.{owns}

one_change : (name : Name) (new : Option Entry)
    → map.entries (map.insert (map.empty {R = name_cmp}) name new) ≡ (name, new) ∷ []
one_change name new =
    map.entries-insert name_cmp_total map.empty name new
    ∙ ap (put name_cmp name new) (entries-empty name_cmp (Option Entry))

-- the first commit behind a front that changes one of some names, and that is not the first handle's
abbrev first_of : List Change → ℕ → Option ℕ
first_of changes front =
    position_from (λ (commit : Commit). list_any (λ (change : Change). owns one_point 0 change.0 && changes_beside change.0 1 commit) changes) (front + 1) (drop front by_turns)

pub returns-clause-same : goal.returns-clause-same
returns-clause-same c = ap (λ changes. first_of changes 0) (one_change name_b None)

pub returns-clause-own : goal.returns-clause-own
returns-clause-own c = ap (λ changes. first_of changes 0) (one_change name_c None)

pub returns-clause-seen : goal.returns-clause-seen
returns-clause-seen c = ap (λ changes. first_of changes 2) (one_change name_b None)
