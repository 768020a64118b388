-- What a record keeps of the involved mounts, and what a merge makes of a set with it: a name that no involved mount
-- owns stays as it was.
use Rattle.std.proofs.Common.{◌≡◌, ℕ, ◌+◌, Bool, true, false, cond, not, List, [], ◌∷◌, map as over, take, slice_get, Option, Some, None, refl, sym, ap, ap₂, subst, ◌∙◌}
use Rattle.std.specs.FinMap as map
use Rattle.std.specs.List.{list_any}
use Rattle.std.specs.Option.{option_map, option_or, unwrap_or}
use Rattle.std.proofs.lemmas.Bool.{or_parts}
use Rattle.std.proofs.lemmas.List.{map-append}
use Rattle.general_words.proofs.Lists.{take-next}
use Rattle.general_words.proofs.Maps.{get-retain}
use Rattle.key_merge.specs.Merging.{AreConflicts, IsConflict, IsMerged, choice_of, merged_entry}
use Rattle.key_merge.specs.declared.choices.Choice.TheVariants as choice
use Rattle.key_merge.specs.declared.strategies.Strategy.{Strategy}
use Rattle.key_merge.specs.declared.strategies.Strategy.TheVariants.{Abort}
use Rattle.key_set.specs.WithAll.{with_all}
use Rattle.key_set.proofs.WithAllLemmas.{get-with_all}
use Rattle.kdb_handle.specs.Remaking.{AreInTheWay, IsKept, IsRemade}
use Rattle.model_history.specs.History.{Commit, is_among}
use Rattle.model_maps.specs.Entry.{Entry}
use Rattle.model_maps.specs.KeyMap.{KeyMap, no_keys}
use Rattle.model_names.specs.Name.{Name}
use Rattle.model_names.specs.Order.{name_cmp}
use Rattle.model_names.proofs.OrderLemmas.{name_cmp_total, name_cmp-IsAntisymmetric}
use Rattle.model_store.specs.Cores.{keeping}
use Rattle.model_store.specs.Records.{Fetched, IsRecord, Record, fetched_at, seen_from}
use Rattle.model_store.specs.Sets.{front_in, kept, wants}
use Rattle.model_store.specs.Store.{Store, counts_keys, points_of}
use Rattle.model_store.proofs.Members.{among-first, among-rest}
use Rattle.model_store.proofs.Owners.{get-other}
use Rattle.set_split.specs.Involved.{involved_in, owns}
use Rattle.set_split.specs.Parts.{in_reach, is_reached, left_aside, owned_by}
use Rattle.set_split.specs.Union.{IsUnion, last_entry}
use Rattle.set_split.proofs.UnionLemmas.{IsUnion-next, united-again}

-- ---- what a record keeps

-- the keys of a mount are added, if some are kept
module _ (rec : Record) (m : ℕ) (old : KeyMap) where
  pub kept-some : (keys new : KeyMap) → option_map (λ (f : Fetched). f.kept) (rec.fetched m) ≡ Some keys
      → new ≡ with_all keys old → (name : Name)
      → map.get new name ≡ option_or (map.get (kept rec m) name) (map.get old name)
  kept-some keys new there is name =
      ap (λ (k : KeyMap). map.get k name) is ∙ get-with_all keys old name
      ∙ ap (λ (o : Option KeyMap). option_or (map.get (unwrap_or o no_keys) name) (map.get old name)) (sym there)

  pub kept-none : option_map (λ (f : Fetched). f.kept) (rec.fetched m) ≡ None → (name : Name)
      → map.get old name ≡ option_or (map.get (kept rec m) name) (map.get old name)
  kept-none none name =
      sym (ap (λ (o : Option KeyMap). option_or (map.get (unwrap_or o no_keys) name) (map.get old name)) none ∙ ap (λ (o : Option Entry). option_or o (map.get old name)) (map.get-empty name_cmp name))

-- those of one mount more
pub kept-next : (rec : Record) (mounts : List ℕ) (i m : ℕ) (before after : KeyMap) → Some m ≡ slice_get mounts i
    → IsUnion (over (kept rec) (take i mounts)) before
    → ((name : Name) → map.get after name ≡ option_or (map.get (kept rec m) name) (map.get before name))
    → IsUnion (over (kept rec) (take (i + 1) mounts)) after
kept-next rec mounts i m before after there is adds =
    subst (λ (maps : List KeyMap). IsUnion maps after) (sym (ap (over (kept rec)) (take-next mounts i m there) ∙ map-append (kept rec) (take i mounts) (m ∷ [])))
    (IsUnion-next (over (kept rec) (take i mounts)) before (kept rec m) after is adds)

module _ (points : List Name) where
  -- what no mount of some owns, none of them keeps, where each keeps what it owns alone
  last-none : (rec : Record) → ((m : ℕ) (name : Name) → owns points m name ≡ false → map.get (kept rec m) name ≡ None)
      → (mounts : List ℕ) (name : Name) → list_any (λ m. owns points m name) mounts ≡ false
      → last_entry (over (kept rec) mounts) name ≡ None
  last-none rec each [] name none = refl
  last-none rec each (m ∷ mounts) name none =
      let parts = or_parts (owns points m name) (list_any (λ n. owns points n name) mounts) none in
      ap₂ option_or (last-none rec each mounts name parts.1) (each m name parts.0)

-- a record keeps of a mount what it owns alone
keeps-owned : (store : Store) (history : List Commit) (handle : ℕ) (rec : Record)
    → IsRecord store history handle (front_in rec) rec → (m : ℕ) (name : Name) → owns (points_of store) m name ≡ false
    → map.get (kept rec m) name ≡ None
keeps-owned store history handle rec is m name off = by (front_in rec m) (is.is m)
  where
    by : (front : Option ℕ) → rec.fetched m ≡ option_map (fetched_at store history handle m) front
        → map.get (kept rec m) name ≡ None
    by None there =
        ap (λ (o : Option Fetched). map.get (unwrap_or (option_map (λ (f : Fetched). f.kept) o) no_keys) name) there
        ∙ map.get-empty name_cmp name
    by (Some front) there =
        ap (λ (o : Option Fetched). map.get (unwrap_or (option_map (λ (f : Fetched). f.kept) o) no_keys) name) there
        ∙ get-other (points_of store) m (seen_from (counts_keys store m) store.start history handle front) name off

-- what no involved mount owns isn't in the base
pub base-outside : (store : Store) (history : List Commit) (handle : ℕ) (rec : Record) (parent : Name) (base : KeyMap)
    → IsRecord store history handle (front_in rec) rec → IsKept (points_of store) parent rec base → (name : Name)
    → is_reached (points_of store) parent name ≡ false → map.get base name ≡ None
base-outside store history handle rec parent base is base_is name off =
    base_is name
    ∙ last-none (points_of store) rec (keeps-owned store history handle rec is) (involved_in (points_of store) parent) name off

-- what is kept of mounts that were just got is what they own
each-alike : (f g : ℕ → KeyMap) (mounts : List ℕ) → ((m : ℕ) → is_among mounts m ≡ true → f m ≡ g m)
    → over f mounts ≡ over g mounts
each-alike f g [] all = refl
each-alike f g (m ∷ mounts) all =
    ap₂ (λ (k : KeyMap) (ks : List KeyMap). k ∷ ks) (all m (among-first m mounts)) (each-alike f g mounts (λ n among. all n (among-rest m n mounts among)))

pub kept-now : (points : List Name) (parent : Name) (front : ℕ) (present : KeyMap) (old new : Record) (theirs : KeyMap)
    → new ≡ keeping (involved_in points parent) front (wants points present) old → IsKept points parent new theirs
    → theirs ≡ in_reach points parent present
kept-now points parent front present old new theirs is kept_is =
    united-again points parent present theirs
    (subst (λ (maps : List KeyMap). IsUnion maps theirs) (each-alike (kept new) (λ m. owned_by points m present) (involved_in points parent) each ∙ seen (involved_in points parent)) kept_is)
  where
    each : (m : ℕ) → is_among (involved_in points parent) m ≡ true → kept new m ≡ owned_by points m present
    each m among =
        ap (λ (r : Record). kept r m) is
        ∙ ap (λ (b : Bool). unwrap_or (option_map (λ (f : Fetched). f.kept) (cond b (Some (record { front = front; kept = owned_by points m present })) (old.fetched m))) no_keys) among

    seen : (mounts : List ℕ)
        → over (λ m. owned_by points m present) mounts
        ≡ over (λ (part : ℕ × KeyMap). part.1) (over (λ m. (m, owned_by points m present)) mounts)
    seen [] = refl
    seen (m ∷ mounts) = ap (λ (ks : List KeyMap). owned_by points m present ∷ ks) (seen mounts)

-- ---- what is made

module _ (points : List Name) (parent : Name) where
  abbrev reached : Name → Bool
  reached name = is_reached points parent name

  get-reach : (keys : KeyMap) (name : Name)
      → map.get (in_reach points parent keys) name ≡ cond (reached name) (map.get keys name) None
  get-reach keys name = get-retain name_cmp_total name_cmp-IsAntisymmetric keys (is_reached points parent) name

  pub reach-outside : (keys : KeyMap) (name : Name) → reached name ≡ false
      → map.get (in_reach points parent keys) name ≡ None
  reach-outside keys name off = get-reach keys name ∙ ap (λ (b : Bool). cond b (map.get keys name) None) off

  get-aside : (keys : KeyMap) (name : Name)
      → map.get (left_aside points parent keys) name ≡ cond (not (reached name)) (map.get keys name) None
  get-aside keys name =
      get-retain name_cmp_total name_cmp-IsAntisymmetric keys (λ (n : Name). not (is_reached points parent n)) name

  module _ (strategy : Strategy) (base ours theirs : KeyMap) (no_base : (name : Name) → reached name ≡ false → map.get base name ≡ None) (no_theirs : (name : Name) → reached name ≡ false → map.get theirs name ≡ None) where
    -- ours are kept where neither the base nor theirs has the name
    ours-stay : (o : Option Entry) → merged_entry strategy None o None ≡ o
    ours-stay None = refl
    ours-stay (Some entry) = refl

    no-conflict : (o : Option Entry) → choice_of None o None ≡ choice.Conflict → ⊥
    no-conflict None is = absurd cc
    no-conflict (Some entry) is = absurd cc

    -- a name is in conflict among what the involved mounts own, if it is at all
    pub conflict-reached : (name : Name) → IsConflict base ours theirs name
        → IsConflict base (in_reach points parent ours) theirs name
    conflict-reached name is = by (reached name) refl
      where
        by : (b : Bool) → reached name ≡ b → IsConflict base (in_reach points parent ours) theirs name
        by true on =
            ap (λ (o : Option Entry). choice_of (map.get base name) o (map.get theirs name)) (get-reach ours name ∙ ap (λ (b : Bool). cond b (map.get ours name) None) on)
            ∙ is
        by false off =
            absurd (no-conflict (map.get ours name) (sym (ap₂ (λ (b t : Option Entry). choice_of b (map.get ours name) t) (no_base name off) (no_theirs name off)) ∙ is))

    pub reached-conflict : (name : Name) → IsConflict base (in_reach points parent ours) theirs name
        → IsConflict base ours theirs name
    reached-conflict name is = by (reached name) refl
      where
        by : (b : Bool) → reached name ≡ b → IsConflict base ours theirs name
        by true on =
            sym (ap (λ (o : Option Entry). choice_of (map.get base name) o (map.get theirs name)) (get-reach ours name ∙ ap (λ (b : Bool). cond b (map.get ours name) None) on))
            ∙ is
        by false off =
            absurd (no-conflict (map.get (in_reach points parent ours) name) (sym (ap₂ (λ (b t : Option Entry). choice_of b (map.get (in_reach points parent ours) name) t) (no_base name off) (no_theirs name off)) ∙ is))

    -- a merge of whole sets is one of what the involved mounts own, and leaves the other keys aside as they were
    pub remade : (next : KeyMap) → IsMerged strategy base ours theirs next
        → IsRemade points parent strategy base ours theirs next
    remade next is = record {
      reached = record { each = λ name. in_reach_of name (reached name) refl; agreed = λ abort name conflict. is.agreed abort name (reached-conflict name conflict) };
      aside = map.same_map name_cmp_total name_cmp-IsAntisymmetric (left_aside points parent next) (left_aside points parent ours) (λ name. get-aside next name ∙ outside name (reached name) refl ∙ sym (get-aside ours name));
    }
      where
        without : (name : Name) → reached name ≡ false → (o : Option Entry)
            → merged_entry strategy (map.get base name) o (map.get theirs name) ≡ o
        without name off o =
            ap₂ (λ (b t : Option Entry). merged_entry strategy b o t) (no_base name off) (no_theirs name off)
            ∙ ours-stay o

        in_reach_of : (name : Name) (b : Bool) → reached name ≡ b
            → map.get (in_reach points parent next) name
            ≡ merged_entry strategy (map.get base name) (map.get (in_reach points parent ours) name) (map.get theirs name)
        in_reach_of name true on =
            get-reach next name ∙ ap (λ (b : Bool). cond b (map.get next name) None) on ∙ is.each name
            ∙ sym (ap (λ (o : Option Entry). merged_entry strategy (map.get base name) o (map.get theirs name)) (get-reach ours name ∙ ap (λ (b : Bool). cond b (map.get ours name) None) on))
        in_reach_of name false off =
            get-reach next name ∙ ap (λ (b : Bool). cond b (map.get next name) None) off
            ∙ sym (without name off (map.get (in_reach points parent ours) name) ∙ get-reach ours name ∙ ap (λ (b : Bool). cond b (map.get ours name) None) off)

        outside : (name : Name) (b : Bool) → reached name ≡ b
            → cond (not (reached name)) (map.get next name) None ≡ cond (not (reached name)) (map.get ours name) None
        outside name true on =
            ap (λ (b : Bool). cond (not b) (map.get next name) None) on
            ∙ sym (ap (λ (b : Bool). cond (not b) (map.get ours name) None) on)
        outside name false off =
            ap (λ (o : Option Entry). cond (not (reached name)) o None) (is.each name ∙ without name off (map.get ours name))

    pub in_the_way : strategy ≡ Abort → (names : List Name) → AreConflicts base ours theirs names
        → AreInTheWay points parent strategy base ours theirs names
    in_the_way abort names are = record {
      abort = abort;
      conflicts = record {
        some = are.some;
        ascending = are.ascending;
        each = λ name conflict. are.each name (reached-conflict name conflict);
        only = λ name has. conflict-reached name (are.only name has);
      };
    }
