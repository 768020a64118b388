-- The laws of the format.
use Rattle.std.specs.Prelude.{◌≡◌, ◌⊎◌, ℕ, ◌≤◌, false, List, [], ◌∷◌, length, map, None}
use Rattle.std.proofs.Common.{refl, sym, ap, subst, ◌∙◌, arith, inl, inr}
use Rattle.std.specs.FinMap as finite
use Rattle.std.specs.List.{AllByRecursion}
use Rattle.std.proofs.lemmas.Bool.{true≢false}
use Rattle.std.proofs.lemmas.List.{length-map}
use Rattle.general_words.proofs.Lists.{none_is_no_some}
use Rattle.model_names.specs.ArrayPart.{last_index}
use Rattle.model_names.specs.Name.{Name}
use Rattle.model_maps.specs.Entry.{Entry}
use Rattle.model_maps.specs.KeyMap.{KeyMap, no_keys}
use Rattle.model_maps.specs.Limits.{IsLimited}
use Rattle.model_formats.specs.Format.{IsLawful}
use Rattle.model_formats.proofs.HoldingLemmas.{EachHas-entries}
use Rattle.model_lines.proofs.EachKey.{found_nowhere, EachHas-no_keys}
use Rattle.model_maps.proofs.MapLemmas.{weight-no_keys}
use Rattle.json.specs.Json.{value}
use Rattle.json.specs.Lex.{lex, punctuate}
use Rattle.serde_json.specs.Data.{Data, object}
use Rattle.serde_json.specs.Read.{read}
use Rattle.model_json.specs.Leaves.{Leaf}
use Rattle.model_json.specs.Tree.{leaf_of, tree, tree_of, Fits, members_in}
use Rattle.model_json.specs.Keys.{most_parts, begins_as_item, IsJsonKey, IsStorable}
use Rattle.model_json.specs.Reading.{key_of, ReadsObject, Reads, IsBadAt}
use Rattle.model_json.specs.Text.{json_files}
use Rattle.model_json.proofs.TreeReads.{Goes}
use Rattle.model_json.proofs.Rising.{read-rises}
use Rattle.model_json.proofs.ReadTrees.{value-fits, members-fit}
use Rattle.model_json.proofs.KeyLeaves.{leaves-of, many-weigh}
use Rattle.model_json.proofs.TextReads.{text-reads}
use Rattle.model_json.proofs.JsonTelling.{readings-once, map-told, json_key-told}

-- ---- what reads can be stored

few-leaves : (keys : KeyMap) (found : List Leaf) → finite.entries keys ≡ map key_of found → IsLimited keys
    → length found ≤ last_index
few-leaves keys found all limited =
    let heavy = many-weigh (finite.entries keys) in
    let light = limited.light in
    let same : length (finite.entries keys) ≡ length found = ap length all ∙ length-map found key_of in
    omega arith

-- what a leaf that was read has
record IsKeptLeaf (leaf : Leaf) (whole : Data) : Type 0 where
  go : Goes leaf.0 (members_in whole)
  is_member : begins_as_item leaf.0 ≡ false
  few : length leaf.0 ≤ most_parts
  fits : Fits leaf.0 whole

kept-leaves : (found : List Leaf) (whole : Data)
    → AllByRecursion (λ (leaf : Leaf). Goes leaf.0 (members_in whole)) found
    → AllByRecursion (λ (leaf : Leaf). begins_as_item leaf.0 ≡ false) found
    → AllByRecursion (λ (leaf : Leaf). length leaf.0 ≤ most_parts) found
    → AllByRecursion (λ (leaf : Leaf). Fits leaf.0 whole) found
    → AllByRecursion (λ (leaf : Leaf). IsKeptLeaf leaf whole) found
kept-leaves [] whole go member few fits = tt
kept-leaves (leaf ∷ found) whole go named few fits =
    (record { go = go.0; is_member = named.0; few = few.0; fits = fits.0 }, kept-leaves found whole go.1 named.1 few.1 fits.1)

goes-on : (leaf : Leaf) (whole : Data) → Goes leaf.0 (members_in whole) → leaf.0 ≡ [] → ⊥
goes-on ([], text) whole go none = go
goes-on (part ∷ parts, text) whole go none = absurd cc

kept-keys : (keys : KeyMap) (whole : Data) → whole ≡ tree_of keys → (found : List Leaf)
    → AllByRecursion (λ (leaf : Leaf). IsKeptLeaf leaf whole) found
    → AllByRecursion (λ (key : Name × Entry). IsJsonKey keys key.0 key.1) (map key_of found)
kept-keys keys whole is [] kept = tt
kept-keys keys whole is (leaf ∷ found) kept = (
  record { no_meta = refl; some_part = goes-on leaf whole kept.0.go; few_parts = kept.0.few; is_member = kept.0.is_member; fits = subst (Fits leaf.0) is kept.0.fits },
  kept-keys keys whole is found kept.1,
)

object-storable : (bytes : List ℕ) (keys : KeyMap) → ReadsObject bytes keys → IsStorable keys
object-storable bytes keys r =
    let few = few-leaves keys r.found r.all r.limited in
    let rises = read-rises bytes (object r.members) r.is_object in
    let fit = members-fit r.members r.found r.are_leaves rises few in
    let fits = value-fits (object r.members) r.found r.are_leaves rises few in
    let is : tree r.found ≡ tree_of keys = ap tree (sym (leaves-of r.found)) ∙ ap (λ es. tree (map leaf_of es)) (sym r.all) in
    EachHas-entries (IsJsonKey keys) keys (subst (AllByRecursion (λ (key : Name × Entry). IsJsonKey keys key.0 key.1)) (sym r.all)
    (kept-keys keys (tree r.found) is r.found (kept-leaves r.found (tree r.found) fit.go fit.no_items r.few_parts fits)))

reads-storable : (bytes : List ℕ) (keys : KeyMap) → Reads bytes keys → IsStorable keys
reads-storable bytes keys (inl none) = subst IsStorable (sym none.1) (EachHas-no_keys (IsJsonKey no_keys))
reads-storable bytes keys (inr r) = object-storable bytes keys r

pub no-limits : IsLimited no_keys
no-limits =
    record { each = λ name entry found. absurd (found_nowhere name entry found); light = omega (arith, weight-no_keys) }

reads-limited : (bytes : List ℕ) (keys : KeyMap) → Reads bytes keys → IsLimited keys
reads-limited bytes keys (inl none) = subst IsLimited (sym none.1) no-limits
reads-limited bytes keys (inr r) = r.limited

-- ---- one reading

pub nothing-read : read [] ≡ None
unfolding lex punctuate value
nothing-read = refl

not-empty : (bytes : List ℕ) (keys : KeyMap) → bytes ≡ [] → ReadsObject bytes keys → ⊥
not-empty bytes keys none r = none_is_no_some (object r.members) (sym nothing-read ∙ ap read (sym none) ∙ r.is_object)

reads-once : (bytes : List ℕ) (keys other : KeyMap) → Reads bytes keys → Reads bytes other → keys ≡ other
reads-once bytes keys other (inl p) (inl q) = p.1 ∙ sym q.1
reads-once bytes keys other (inl p) (inr q) = absurd (not-empty bytes other p.0 q)
reads-once bytes keys other (inr p) (inl q) = absurd (not-empty bytes keys q.0 p)
reads-once bytes keys other (inr p) (inr q) = readings-once bytes keys other p q

some-bytes : (bytes : List ℕ) (keys : KeyMap) → (bytes ≡ [] → ⊥) → Reads bytes keys → ReadsObject bytes keys
some-bytes bytes keys some (inl none) = absurd (some none.0)
some-bytes bytes keys some (inr r) = r

reads-or-bad : (bytes : List ℕ) → ((keys : KeyMap) × Reads bytes keys) ⊎ ((line : ℕ) × IsBadAt bytes line)
reads-or-bad [] = inl (no_keys, inl (refl, refl))
reads-or-bad (b ∷ bytes) = elim (map-told (b ∷ bytes)) [
  | inl has ↦ inl (has.0, inr has.1)
  | inr none ↦ inr (1, (refl, λ keys reads. none (keys, some-bytes (b ∷ bytes) keys (λ e. absurd cc) reads)))
]

pub json_files-lawful : IsLawful json_files
json_files-lawful = record {
  text_reads = text-reads;
  one_reading = reads-once;
  read_is_storable = reads-storable;
  read_is_limited = reads-limited;
  empty_reads = inl (refl, refl);
  reads_or_bad = reads-or-bad;
  read_is_not_bad = λ bytes keys line reads bad. bad.1 keys reads;
  one_line = λ bytes line other p q. p.0 ∙ sym q.0;
  holds_or_not = json_key-told;
  held_alone = λ _ _ name entry keywise held. absurd (true≢false (sym keywise));
}
