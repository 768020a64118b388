-- What the names of merged keys are, and what is told of a merge.
use Rattle.std.specs.Prelude.{◌≡◌, ℕ, suc, zero, ◌+◌, ◌<◌, Bool, true, false, cond, List, [], ◌∷◌, ◌++◌, length, take, slice_index_or, slice_get, Option, Some, None, All}
use Rattle.std.proofs.Common.{refl, sym, ap, subst, ◌∙◌, arith}
use Rattle.std.specs.FinMap as map
use Rattle.std.specs.List.{flat_map}
use Rattle.std.proofs.lemmas.List.Elements.{Contains-get_or}
use Rattle.key_merge.specs.Merged.{conflicts, merged}
use Rattle.key_merge.specs.Merging.{AreConflicts, IsMerged, choice_of, is_taken_from_their, merged_entry}
use Rattle.key_merge.specs.declared.strategies.Strategy.{Strategy}
use Rattle.key_merge.specs.declared.strategies.Strategy.TheVariants.{Abort, Our, Their}
use Rattle.key_merge.specs.declared.choices.Choice.TheVariants as choice
use Rattle.key_merge.specs.Refusing.{HasConflicts, RefusesMerge}
use Rattle.key_merge.specs.declared.merging.Merge3Fault.{Merge3Fault}
use Rattle.key_merge.specs.declared.merging.Merge3Fault.TheVariants.{Conflicts, Memory}
use Rattle.key_merge.proofs.MergedLemmas.{conflicts-are, merged-is, no_conflicts}
use Rattle.key_name.specs.Joining.{joined}
use Rattle.key_set.specs.Sound.{AreCascading, AreSound}
use Rattle.key_set.specs.Whole.{relative}
use Rattle.model_maps.specs.Entry.{Entry}
use Rattle.model_maps.specs.KeyMap.{KeyMap, not_below}
use Rattle.model_names.specs.Below.{is_at_or_below}
use Rattle.model_names.specs.declared.namespaces.Namespace.TheVariants.{Cascading}
use Rattle.model_names.specs.Name.{Name}
use Rattle.general_words.proofs.Lists.{appended, flat_map-more}
use Rattle.general_words.proofs.Maps.{get-at}
use Rattle.model_names.proofs.OrderLemmas.{name_cmp_total}
use Rattle.tool_commands.specs.Commands.Merging.{by_conflicts, conflicts_told, merged_in, told_of, way_root}
use Rattle.tool_commands.specs.Commands.Trees.{brought_over}
use Rattle.tool_commands.specs.Lines.{line_of_conflict}

-- what stands at a place within a list
at_place : {A : Type 0} (xs : List A) (i : ℕ) (d : A) → i < length xs → Some (slice_index_or xs i d) ≡ slice_get xs i
at_place [] i d within = absurd (omega (arith, within))
at_place (x ∷ xs) zero d within = refl
at_place (x ∷ xs) (suc i) d within = at_place xs i d (omega (arith, within))

-- ---- the names of what was merged

-- keys under the names that lead to them have cascading names
pub sound-cascading : (point : Name) (keys : KeyMap) → AreSound point keys → AreCascading keys
sound-cascading point keys sound name entry found = (sound name entry found).cascading

-- a cascading name is at or below the first of them
pub below_root : (name : Name) → name.namespace ≡ Cascading → is_at_or_below way_root name ≡ true
below_root name is = ap (λ namespace. is_at_or_below way_root (record { namespace = namespace; parts = name.parts })) is

-- a merged key is one of a side
side : (strategy : Strategy) (b o t : Option Entry) (entry : Entry) (P : Type 0) → ((e : Entry) → o ≡ Some e → P)
    → ((e : Entry) → t ≡ Some e → P) → merged_entry strategy b o t ≡ Some entry → P
side strategy b o t entry P ours theirs is = by (is_taken_from_their strategy (choice_of b o t)) is
  where
    by : (taken : Bool) → cond taken t o ≡ Some entry → P
    by true found = theirs entry found
    by false found = ours entry found

pub merged-ways : (strategy : Strategy) (base our their keys : KeyMap) → AreCascading our → AreCascading their
    → IsMerged strategy base our their keys → AreCascading keys
merged-ways strategy base our their keys ours theirs is name entry found =
    side strategy (map.get base name) (map.get our name) (map.get their name) entry (name.namespace ≡ Cascading) (λ e. ours name e) (λ e. theirs name e) (sym (is.each name) ∙ found)

pub all-below_root : (keys : KeyMap) → AreCascading keys
    → All (λ key. is_at_or_below way_root key.0 ≡ true) (map.entries keys)
all-below_root keys each = λ k d within.
    let key = slice_index_or (map.entries keys) k d in
    below_root key.0 (each key.0 key.1 (get-at name_cmp_total keys k key (at_place (map.entries keys) k d within)))

-- so is a name in conflict
in_conflict : (name : Name) (b o t : Option Entry) → ((e : Entry) → o ≡ Some e → name.namespace ≡ Cascading)
    → ((e : Entry) → t ≡ Some e → name.namespace ≡ Cascading) → choice_of b o t ≡ choice.Conflict
    → name.namespace ≡ Cascading
in_conflict name b None None ours theirs is = absurd cc
in_conflict name b (Some e) t ours theirs is = ours e refl
in_conflict name b None (Some e) ours theirs is = theirs e refl

pub conflicts-ways : (base our their : KeyMap) (names : List Name) → AreCascading our → AreCascading their
    → AreConflicts base our their names → All (λ name. name.namespace ≡ Cascading) names
conflicts-ways base our their names ours theirs are = λ k d within.
    let name = slice_index_or names k d in
    in_conflict name (map.get base name) (map.get our name) (map.get their name) (ours name) (theirs name) (are.only name (Contains-get_or names k d within))

-- the same of trees that are the same
pub merged-of : (strategy : Strategy) (base our their base_too our_too their_too keys : KeyMap) → base ≡ base_too
    → our ≡ our_too → their ≡ their_too → IsMerged strategy base our their keys
    → IsMerged strategy base_too our_too their_too keys
merged-of strategy base our their base_too our_too their_too keys eb eo et is =
    subst (λ (b : KeyMap). IsMerged strategy b our_too their_too keys) eb (subst (λ (o : KeyMap). IsMerged strategy base o their_too keys) eo (subst (λ (t : KeyMap). IsMerged strategy base our t keys) et is))

pub conflicts-of : (base our their base_too our_too their_too : KeyMap) (names : List Name) → base ≡ base_too
    → our ≡ our_too → their ≡ their_too → AreConflicts base our their names
    → AreConflicts base_too our_too their_too names
conflicts-of base our their base_too our_too their_too names eb eo et are =
    subst (λ (b : KeyMap). AreConflicts b our_too their_too names) eb (subst (λ (o : KeyMap). AreConflicts base o their_too names) eo (subst (λ (t : KeyMap). AreConflicts base our t names) et are))

-- a merge that was refused for conflicts tells them, under abort
pub refused-conflicts : (strategy : Strategy) (base our their : KeyMap) (fault : Merge3Fault) (names : List Name)
    → fault ≡ Conflicts names → RefusesMerge strategy base our their fault
    → (strategy ≡ Abort) × AreConflicts base our their names
refused-conflicts strategy base our their fault names is refuses =
    let has : HasConflicts strategy base our their fault = refuses (λ e. let clash : Conflicts names ≡ Memory = sym is ∙ e in absurd cc) in
    let told : Conflicts has.names ≡ Conflicts names = sym has.is ∙ is in
    let same : has.names ≡ names = cc in
    (has.abort, subst (AreConflicts base our their) same has.conflicts)

-- ---- what is told

-- the lines so far, and then one more
pub line-next : (into : Name) (names : List Name) (i : ℕ) (name : Name) (before now after : List ℕ)
    → Some name ≡ slice_get names i
    → now ≡ before ++ flat_map (λ name. line_of_conflict (joined into name)) (take i names)
    → after ≡ now ++ line_of_conflict (joined into name)
    → after ≡ before ++ flat_map (λ name. line_of_conflict (joined into name)) (take (i + 1) names)
line-next into names i name before now after there so_far step =
    appended before now after (flat_map (λ name. line_of_conflict (joined into name)) (take i names)) (line_of_conflict (joined into name)) so_far step
    ∙ ap (λ ys. before ++ ys) (sym (flat_map-more (λ name. line_of_conflict (joined into name)) names i name there))

none_told : (strategy : Strategy) (names : List Name) → (strategy ≡ Abort → names ≡ []) → told_of strategy names ≡ []
none_told Abort names none = none refl
none_told Our names none = refl
none_told Their names none = refl

-- merged keys are set where no conflict is told
pub merged-set : (strategy : Strategy) (our their base into : Name) (keys made : KeyMap)
    → IsMerged strategy (relative base keys) (relative our keys) (relative their keys) made
    → brought_over way_root into (map.entries made) (not_below into keys) ≡ merged_in keys strategy our their base into
merged-set strategy our their base into keys made is =
    ap (λ (m : KeyMap). brought_over way_root into (map.entries m) (not_below into keys)) (merged-is strategy (relative base keys) (relative our keys) (relative their keys) made is)
    ∙ ap (by_conflicts into (merged strategy (relative base keys) (relative our keys) (relative their keys)) keys) (sym (none_told strategy (conflicts (relative base keys) (relative our keys) (relative their keys)) (λ abort. no_conflicts (relative base keys) (relative our keys) (relative their keys) (is.agreed abort))))

told : (into : Name) (made keys : KeyMap) (names : List Name) → (names ≡ [] → ⊥)
    → conflicts_told into names ≡ by_conflicts into made keys names
told into made keys [] some = absurd (some refl)
told into made keys (name ∷ names) some = refl

-- all conflicts are told where there are some
pub merged-told : (strategy : Strategy) (our their base into : Name) (keys : KeyMap) (names : List Name)
    → strategy ≡ Abort → AreConflicts (relative base keys) (relative our keys) (relative their keys) names
    → conflicts_told into names ≡ merged_in keys strategy our their base into
merged-told strategy our their base into keys names abort are =
    told into (merged strategy (relative base keys) (relative our keys) (relative their keys)) keys names are.some
    ∙ ap (by_conflicts into (merged strategy (relative base keys) (relative our keys) (relative their keys)) keys) (conflicts-are (relative base keys) (relative our keys) (relative their keys) names are ∙ ap (λ s. told_of s (conflicts (relative base keys) (relative our keys) (relative their keys))) (sym abort))
