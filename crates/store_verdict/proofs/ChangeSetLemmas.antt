-- What a change of the changes in name order is in the map that they make.
use Rattle.std.proofs.Common.{◌≡◌, ℕ, ◌+◌, T, List, [], ◌∷◌, ◌++◌, take, map as over, slice_get, Option, Some, sym, ap, subst, ◌∙◌}
use Rattle.std.proofs.lemmas.List.{map-append}
use Rattle.general_words.proofs.Lists.{take-next}
use Rattle.model_maps.specs.KeyMap.{KeyMap}
use Rattle.model_history.specs.Changes.{Change, changed, changed_by}
use Rattle.model_history.proofs.ChangeLemmas.{changed_by-snoc}
use Rattle.std.specs.FinMap as finite
use Rattle.std.specs.FinMap.{is_sorted}
use Rattle.std.specs.FinMap.Entries.{put}
use Rattle.std.specs.Option.{option_map}
use Rattle.general_words.proofs.Maps.{from_sorted-put}
use Rattle.key_set.specs.EntryView.{entry_of}
use Rattle.key_set.specs.declared.entries.Entry as code
use Rattle.model_names.specs.Name.{Name}
use Rattle.model_names.specs.Order.{name_cmp}
use Rattle.model_names.proofs.OrderLemmas.{name_cmp_total}
use Rattle.sorted_map.proofs.SeenLemmas.{seen, is_sorted-seen, put-seen}
use Rattle.store_verdict.specs.Changing.{changes_in}

sorted_seen : (changes : List (Name × Option code.Entry)) → T (is_sorted name_cmp changes)
    → T (is_sorted name_cmp (seen name_cmp (option_map entry_of) changes))
sorted_seen changes h = subst T (sym (is_sorted-seen name_cmp (option_map entry_of) changes)) h

pub entries-changes : (changes : List (Name × Option code.Entry)) → T (is_sorted name_cmp changes)
    → finite.entries (changes_in changes) ≡ seen name_cmp (option_map entry_of) changes
entries-changes changes h =
    finite.entries-from_sorted name_cmp (seen name_cmp (option_map entry_of) changes) (sorted_seen changes h)

pub put-changes : (changes : List (Name × Option code.Entry)) (name : Name) (entry : Option code.Entry)
    → T (is_sorted name_cmp changes)
    → changes_in (put name_cmp name entry changes) ≡ finite.insert (changes_in changes) name (option_map entry_of entry)
put-changes changes name entry h =
    ap (finite.from_sorted {R = name_cmp}) (sym (put-seen name_cmp (option_map entry_of) name entry changes))
    ∙ from_sorted-put name_cmp name_cmp_total (seen name_cmp (option_map entry_of) changes) name (option_map entry_of entry) (sorted_seen changes h)

-- ---- changes made

abbrev pub seen_change : Name × Option code.Entry → Change
seen_change change = (change.0, option_map entry_of change.1)

-- one change more
pub seen-next : (changes : List (Name × Option code.Entry)) (i : ℕ) (change : Name × Option code.Entry)
    → Some change ≡ slice_get changes i
    → over seen_change (take (i + 1) changes) ≡ over seen_change (take i changes) ++ seen_change change ∷ []
seen-next changes i change there =
    ap (over seen_change) (take-next changes i change there) ∙ map-append seen_change (take i changes) (change ∷ [])

pub made-next : (changes : List (Name × Option code.Entry)) (i : ℕ) (change : Name × Option code.Entry) (keys : KeyMap)
    → Some change ≡ slice_get changes i
    → changed_by (over seen_change (take (i + 1) changes)) keys
    ≡ changed (changed_by (over seen_change (take i changes)) keys) (seen_change change)
made-next changes i change keys there =
    ap (λ cs. changed_by cs keys) (seen-next changes i change there)
    ∙ changed_by-snoc (over seen_change (take i changes)) (seen_change change) keys
