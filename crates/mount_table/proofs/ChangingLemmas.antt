-- What an entry that is added or removed changes.
use Rattle.std.proofs.Common.{◌≡◌, ℕ, ◌+◌, ◌*◌, ◌≤◌, Bool, true, false, cond, not, ◌&&◌, T, List, [], ◌∷◌, ◌++◌, length, drop, slice_get, is_some, Option, Some, None, Ok, Err, refl, sym, ap, ap₂, subst, ◌∙◌, inl, inr, ◌⊎◌, codes, arith, length-append, Bor}
use Rattle.std.specs.FinMap as map
use Rattle.std.specs.FinMap.{find, is_sorted}
use Rattle.std.specs.FinMap.Entries.{put}
use Rattle.std.specs.List.{AllByRecursion}
use Rattle.std.specs.Option.{option_copied, option_map}
use Rattle.std.proofs.lemmas.Bool.{cond-true, cond-false, cases_Bool}
use Rattle.std.proofs.lemmas.Cmp.{nat_list_cmp_total}
use Rattle.general_words.proofs.Texts.{text_cmp-IsAntisymmetric}
use Rattle.model_names.specs.declared.namespaces.Namespace.{Namespace}
use Rattle.model_names.specs.declared.namespaces.Namespace.TheVariants.{Cascading, Spec, Proc, Dir, User, System, Default}
use Rattle.model_names.specs.ArrayPart.{is_array_like, is_canonical}
use Rattle.model_names.specs.Below.{is_at_or_below}
use Rattle.model_names.specs.Name.{Name, Part}
use Rattle.model_names.specs.Spelling.{spelling, spelled, path, word_of, path_of_parts}
use Rattle.model_names.specs.Spells.{Spells, longest_path}
use Rattle.model_names.specs.WellFormed.{IsName, IsPart}
use Rattle.model_names.proofs.BelowLemmas.{at_or_below-rest}
use Rattle.model_names.proofs.OrderLemmas.{name_cmp_total, name_cmp-IsAntisymmetric}
use Rattle.model_names.proofs.RefusesLemmas.{position-no_nul}
use Rattle.general_words.specs.Texts.{text_cmp}
use Rattle.model_maps.specs.Entry.{plain_entry}
use Rattle.model_maps.specs.KeyMap.{KeyMap}
use Rattle.kdb_outside.specs.Kind.{kind_word}
use Rattle.kdb_outside.specs.declared.kinds.Kind.{Kind}
use Rattle.key_name.specs.Children.{child_of, child_refusal, is_misspelled}
use Rattle.key_name.proofs.ChildLemmas.{child_refusal-none}
use Rattle.key_name.proofs.WellFormedLemmas.{length-slashed-append}
use Rattle.mount_table.specs.Changing.{added, HasNames}
use Rattle.mount_table.specs.Entries.{entries_of, has_entry, said_added, said_by, value_at, with_entry, with_file}
use Rattle.mount_table.specs.Counting.{keys_word}
use Rattle.mount_table.specs.Places.{mountpoints, entry_name, child_name, path_word, plugin_word, conflicts_word}
use Rattle.mount_table.specs.Points.{longest_point}
use Rattle.mount_table.specs.Reading.{◌>>=◌}
use Rattle.mount_table.specs.Table.{table_of}
use Rattle.mount_table.specs.declared.entries.MountEntry.{MountEntry}
use Rattle.mount_table.specs.declared.faults.TableFault.{TableFault}
use Rattle.mount_table.specs.declared.faults.TableFault.TheVariants.{AlreadyMounted}
use Rattle.mount_table.specs.declared.mounts.Mount.{Mount}
use Rattle.mount_table.proofs.EntryLemmas.{get-entries_of, entries_of-child, free-child}
use Rattle.mount_table.proofs.TableLemmas.{is_some-copied, entry-brings, table-is}
use Rattle.general_words.proofs.Maps.{get-insert_same, insert-insert, from_sorted-put}
use Rattle.general_words.proofs.Lists.{some_is}
use Rattle.general_words.proofs.Lookups.{get-elsewhere}
use Rattle.general_words.proofs.Orders.{itself}
use Rattle.key_name.proofs.MeasureLemmas.{length-spelled}

-- ---- an entry among the keys

-- it is there where it is found among those that were collected
pub has_entry-found : (entries : List (Part × MountEntry)) (keys : KeyMap) (text : Part)
    (found : Option (Bor MountEntry)) → T (is_sorted text_cmp entries)
    → map.from_sorted {R = text_cmp} entries ≡ entries_of keys → option_copied found ≡ find text_cmp text entries
    → is_some found ≡ has_entry keys text
has_entry-found entries keys text found sorted is copied =
    sym (is_some-copied found)
    ∙ ap is_some (copied ∙ sym (map.get-from_sorted text_cmp entries text sorted) ∙ ap (λ m. map.get m text) is ∙ get-entries_of keys text)
    ∙ by (has_entry keys text)
  where
    by : (b : Bool) → is_some (cond b (Some (said_by keys text)) None) ≡ b
    by true = refl
    by false = refl

-- a child that is added leaves what others say
module _ (keys : KeyMap) (text word : Part) (value : List ℕ) where
  says_now : value_at (map.insert keys (child_name text word) (plain_entry value)) (child_name text word) ≡ Some value
  says_now =
      ap (option_map (λ e. e.value)) (get-insert_same name_cmp_total keys (child_name text word) (plain_entry value))

  says_still : (other : Part) → (other ≡ word → ⊥)
      → value_at (map.insert keys (child_name text word) (plain_entry value)) (child_name text other)
      ≡ value_at keys (child_name text other)
  says_still other apart =
      ap (option_map (λ e. e.value)) (get-elsewhere name_cmp_total name_cmp-IsAntisymmetric keys (child_name text word) (plain_entry value) (child_name text other) (λ e. apart (some_is other word (ap (λ name. slice_get name.parts 3) e))))

module _ (keys : KeyMap) (text : Part) (file : List ℕ) (kind : Kind) where
  abbrev one : KeyMap
  one = map.insert keys (child_name text path_word) (plain_entry file)

  abbrev two : KeyMap
  two = with_file keys text file kind

  path_apart : path_word ≡ plugin_word → ⊥
  path_apart e = absurd cc

  path_beside : path_word ≡ conflicts_word → ⊥
  path_beside e = absurd cc

  plugin_beside : plugin_word ≡ conflicts_word → ⊥
  plugin_beside e = absurd cc

  path_beyond : conflicts_word ≡ path_word → ⊥
  path_beyond e = absurd cc

  plugin_beyond : conflicts_word ≡ plugin_word → ⊥
  plugin_beyond e = absurd cc

  says_path : value_at two (child_name text path_word) ≡ Some file
  says_path = says_still one text plugin_word (kind_word kind) path_word path_apart ∙ says_now keys text path_word file

  says_plugin : value_at two (child_name text plugin_word) ≡ Some (kind_word kind)
  says_plugin = says_now one text plugin_word (kind_word kind)

  -- what an entry says that is added where there was none
  said_by-with : (by_key : Bool) → has_entry keys text ≡ false
      → said_by (with_entry keys text file kind by_key) text ≡ said_added file kind by_key
  said_by-with true free i = record {
    path = (says_still two text conflicts_word keys_word path_word path_beside ∙ says_path) i;
    plugin = (says_still two text conflicts_word keys_word plugin_word plugin_beside ∙ says_plugin) i;
    conflicts = says_now two text conflicts_word keys_word i;
  }
  said_by-with false free i = record {
    path = says_path i;
    plugin = says_plugin i;
    conflicts = (says_still one text plugin_word (kind_word kind) conflicts_word plugin_beyond ∙ says_still keys text path_word file conflicts_word path_beyond ∙ free-child keys text conflicts_word free) i;
  }

  entries_of-file : entries_of two ≡ map.insert (entries_of keys) text (said_by two text)
  entries_of-file =
      entries_of-child one text plugin_word (plain_entry (kind_word kind))
      ∙ ap (λ es. map.insert es text (said_by two text)) (entries_of-child keys text path_word (plain_entry file))
      ∙ insert-insert nat_list_cmp_total text_cmp-IsAntisymmetric (entries_of keys) text (said_by one text) (said_by two text)

  entries_of-all : (by_key : Bool)
      → entries_of (with_entry keys text file kind by_key)
      ≡ map.insert (entries_of keys) text (said_by (with_entry keys text file kind by_key) text)
  entries_of-all true =
      let all = with_entry keys text file kind true in
      entries_of-child two text conflicts_word (plain_entry keys_word)
      ∙ ap (λ es. map.insert es text (said_by all text)) entries_of-file
      ∙ insert-insert nat_list_cmp_total text_cmp-IsAntisymmetric (entries_of keys) text (said_by two text) (said_by all text)
  entries_of-all false = entries_of-file

  -- the entries of keys to which one is added
  pub entries_of-with : (by_key : Bool) → has_entry keys text ≡ false
      → entries_of (with_entry keys text file kind by_key)
      ≡ map.insert (entries_of keys) text (said_added file kind by_key)
  entries_of-with by_key free =
      entries_of-all by_key ∙ ap (map.insert (entries_of keys) text) (said_by-with by_key free)

-- ---- what is looked at before an entry is added

pub added-there : (keys : KeyMap) (text entry : Part) (file : List ℕ) (kind : Kind) (by_key : Bool)
    → has_entry keys text ≡ true → entry ≡ text → added keys text file kind by_key ≡ Err (AlreadyMounted entry)
added-there keys text entry file kind by_key there same =
    cond-true _ _ _ there ∙ ap (λ t. Err (AlreadyMounted t)) (sym same)

module _ (keys : KeyMap) (text : Part) (file : List ℕ) (kind : Kind) (by_key : Bool) (free : has_entry keys text ≡ false) where
  abbrev with : KeyMap
  with = with_entry keys text file kind by_key

  pub added-err : (fault : TableFault) → table_of with ≡ Err fault → added keys text file kind by_key ≡ Err fault
  added-err fault h = cond-false _ _ _ free ∙ ap (λ r. r >>= (λ _. Ok with)) h

  pub added-ok : (table : List Mount) → table_of with ≡ Ok table → added keys text file kind by_key ≡ Ok with
  added-ok table h = cond-false _ _ _ free ∙ ap (λ r. r >>= (λ _. Ok with)) h

  -- the entries that were collected, with the one that is added
  pub entries-with : (before after : List (Part × MountEntry)) (t : Part) (said : MountEntry)
      → T (is_sorted text_cmp before) → map.from_sorted {R = text_cmp} before ≡ entries_of keys → t ≡ text
      → said ≡ said_added file kind by_key → after ≡ put text_cmp t said before
      → map.from_sorted {R = text_cmp} after ≡ entries_of with
  entries-with before after t said sorted is same whole more =
      let all = said_added file kind by_key in
      ap map.from_sorted (more ∙ ap₂ (λ u s. put text_cmp u s before) same whole)
      ∙ from_sorted-put text_cmp nat_list_cmp_total before text all sorted
      ∙ ap (λ m. map.insert m text all) is
      ∙ sym (entries_of-with keys text file kind by_key free)

  -- an entry that a table takes has a short mountpoint
  pub short_entry : (table : List Mount) → table_of with ≡ Ok table → length text ≤ longest_point
  short_entry table ok =
      let es = entries_of with in
      let all = said_added file kind by_key in
      let there : map.get es text ≡ Some all = ap (λ m. map.get m text) (entries_of-with keys text file kind by_key free) ∙ map.get-insert nat_list_cmp_total (entries_of keys) text all text ∙ cond-true _ _ _ (itself nat_list_cmp_total text) in
      let read = table-is with table ok in
      entry-brings (λ _. length text ≤ longest_point) text (λ mounts mount short. short) (λ mounts mount next. next.short) es read.all read.made (inr (ap is_some there))

-- ---- names of an entry

pub is_part-refusal : (above : Name) (part : Part) → IsPart part → length (path (child_of above part)) ≤ longest_path
    → child_refusal above part ≡ None
is_part-refusal above part is limit =
    child_refusal-none above part (spelled_well (cases_Bool (is_array_like part))) (position-no_nul part is.no_nul) limit
  where
    spelled_well : (is_array_like part ≡ true) ⊎ (is_array_like part ≡ false) → is_misspelled part ≡ false
    spelled_well (inl like) = ap₂ (λ a c. a && not c) like (is.canonical like)
    spelled_well (inr unlike) = ap (λ a. a && not (is_canonical part)) unlike

-- an entry to which some name belongs has a name
pub entry-refusal : (text : Part) (name : Name) → IsName name → is_at_or_below (entry_name text) name ≡ true
    → child_refusal mountpoints text ≡ None
entry-refusal text name is below =
    let rest = (at_or_below-rest (entry_name text) name below).1 in
    let parts : AllByRecursion IsPart (codes "elektra" ∷ codes "mountpoints" ∷ text ∷ drop 3 name.parts) = subst (AllByRecursion IsPart) rest is.parts in
    let limit : length (path_of_parts (codes "elektra" ∷ codes "mountpoints" ∷ text ∷ drop 3 name.parts)) ≤ longest_path = subst (λ ps. length (path_of_parts ps) ≤ longest_path) rest is.limit in
    is_part-refusal mountpoints text parts.1.1.0 (omega (arith, limit, length-slashed-append (codes "elektra" ∷ codes "mountpoints" ∷ text ∷ []) (drop 3 name.parts)))

not_array : (at : Name) → is_array_like (spelling at) ≡ false
not_array at = by at.namespace at.parts
  where
    by : (n : Namespace) (parts : List Part) → is_array_like (word_of n ++ path_of_parts parts) ≡ false
    by Cascading [] = refl
    by Cascading (part ∷ parts) = refl
    by Spec parts = refl
    by Proc parts = refl
    by Dir parts = refl
    by User parts = refl
    by System parts = refl
    by Default parts = refl

-- a short mountpoint's entry and its children have names
pub HasNames-spelling : (at : Name) → Spells (spelling at) at → length (spelling at) ≤ longest_point
    → HasNames (spelling at)
HasNames-spelling at spells short =
    let text = spelling at in
    let few : length (spelled text) ≤ 2 * longest_point + 1 = omega (arith, length-spelled text) in
    record {
      entry = child_refusal-none mountpoints text (ap (λ a. a && not (is_canonical text)) (not_array at)) (position-no_nul text spells.no_nul) (omega (arith, few, length-append (spelled text) []));
      path = child_refusal-none (entry_name text) path_word refl refl (omega (arith, few, length-append (spelled text) (47 ∷ path_word)));
      plugin = child_refusal-none (entry_name text) plugin_word refl refl (omega (arith, few, length-append (spelled text) (47 ∷ plugin_word)));
      conflicts = child_refusal-none (entry_name text) conflicts_word refl refl (omega (arith, few, length-append (spelled text) (47 ∷ conflicts_word)));
    }
