-- Keys that are brought to other names, one after the other.
use Rattle.std.proofs.Common.{◌≡◌, ℕ, Bool, true, false, cond, List, [], ◌∷◌, Option, Some, None, All, zero, suc, ◌<◌, slice_index_or, arith, refl, sym, ap, subst, ◌∙◌, inl}
use Rattle.std.specs.Option.{option_or}
use Rattle.std.specs.FinMap as map
use Rattle.std.specs.FinMap.Entries.{put}
use Rattle.std.specs.Ordering.{eq_by_cmp}
use Rattle.std.proofs.lemmas.List.Elements.{filter_passes}
use Rattle.model_names.specs.Name.{Name}
use Rattle.model_names.specs.Below.{is_at_or_below}
use Rattle.model_names.specs.Order.{name_cmp}
use Rattle.model_names.proofs.BelowLemmas.{is_at_or_below-Decides}
use Rattle.model_names.proofs.OrderLemmas.{name_cmp_total, name_cmp-IsAntisymmetric}
use Rattle.model_maps.specs.Entry.{Entry}
use Rattle.model_maps.specs.KeyMap.{KeyMap, no_keys}
use Rattle.key_set.specs.WithAll.{with_all, with_keys}
use Rattle.key_set.proofs.WithAllLemmas.{get-with_all}
use Rattle.tool_words.specs.declared.extents.Extent.{Extent}
use Rattle.tool_words.specs.declared.extents.Extent.TheVariants.{Alone, WithBelow}
use Rattle.tool_commands.specs.Commands.Trees.{brought, with_brought, sources}
use Rattle.tool_commands.proofs.TreeLemmas.{entries-below}
use Rattle.general_words.proofs.Maps.{entries-empty}

-- to set a key and others is to set the key and those with it
insert-with_all : (others keys : KeyMap) (name : Name) (entry : Entry)
    → map.insert (with_all others keys) name entry ≡ with_all (map.insert others name entry) keys
insert-with_all others keys name entry = map.same_map name_cmp_total name_cmp-IsAntisymmetric _ _ (λ other.
    map.get-insert name_cmp_total (with_all others keys) name entry other
    ∙ ap (cond (eq_by_cmp name_cmp other name) (Some entry)) (get-with_all others keys other)
    ∙ either (eq_by_cmp name_cmp other name) (map.get others other) (map.get keys other)
    ∙ ap (λ found. option_or found (map.get keys other)) (sym (map.get-insert name_cmp_total others name entry other))
    ∙ sym (get-with_all (map.insert others name entry) keys other))
  where
    either : (b : Bool) (found former : Option Entry)
        → cond b (Some entry) (option_or found former) ≡ option_or (cond b (Some entry) found) former
    either true found former = refl
    either false found former = refl

brought-with_all : (from to : Name) (others keys : KeyMap) (taken : List (Name × Entry))
    → with_all (with_brought from to others taken) keys ≡ with_brought from to (with_all others keys) taken
brought-with_all from to others keys [] = refl
brought-with_all from to others keys (key ∷ more) =
    brought-with_all from to (map.insert others (brought from to key.0) key.1) keys more
    ∙ ap (λ set. with_brought from to set more) (sym (insert-with_all others keys (brought from to key.0) key.1))

-- keys that are brought into a map of their own are set with it
pub brought-together : (from to : Name) (keys : KeyMap) (taken : List (Name × Entry))
    → with_all (with_brought from to no_keys taken) keys ≡ with_brought from to keys taken
brought-together from to keys taken =
    brought-with_all from to no_keys keys taken
    ∙ ap (λ es. with_brought from to (with_keys es keys) taken) (entries-empty name_cmp Entry)

-- each of the keys that a command is for is at or below its name
at_or_below_itself : (name : Name) → is_at_or_below name name ≡ true
at_or_below_itself name = (is_at_or_below-Decides name name).1 (inl refl)

all_none : {A : Type 0} (P : A → Type 0) → All P []
all_none P = λ k d within. absurd (omega (arith, within))

all_one : {A : Type 0} (P : A → Type 0) (x : A) → P x → All P (x ∷ [])
all_one {A = A} P x p = by_place
  where
    by_place : (k : ℕ) (d : A) → k < 1 → P (slice_index_or (x ∷ []) k d)
    by_place zero d within = p
    by_place (suc k) d within = absurd (omega (arith, within))

pub sources-below : (extent : Extent) (name : Name) (keys : KeyMap)
    → All (λ key. is_at_or_below name key.0 ≡ true) (map.entries (sources extent name keys))
sources-below WithBelow name keys =
    subst (All (λ key. is_at_or_below name key.0 ≡ true)) (sym (entries-below name keys)) (filter_passes (λ (key : Name × Entry). is_at_or_below name key.0) (map.entries keys))
sources-below Alone name keys = by_found (map.get keys name)
  where
    by_found : (found : Option Entry)
        → All (λ key. is_at_or_below name key.0 ≡ true) (map.entries (elim found [ None ↦ no_keys | Some entry ↦ map.insert no_keys name entry ]))
    by_found None =
        subst (All (λ key. is_at_or_below name key.0 ≡ true)) (sym (entries-empty name_cmp Entry)) (all_none (λ (key : Name × Entry). is_at_or_below name key.0 ≡ true))
    by_found (Some entry) =
        subst (All (λ key. is_at_or_below name key.0 ≡ true)) (sym (map.entries-insert name_cmp_total no_keys name entry ∙ ap (put name_cmp name entry) (entries-empty name_cmp Entry))) (all_one (λ (key : Name × Entry). is_at_or_below name key.0 ≡ true) (name, entry) (at_or_below_itself name))
