-- The names of a table's files are a header, and those of each entry are among them.
use Rattle.std.proofs.Common.{◌≡◌, inl, inr, ℕ, zero, suc, ◌+◌, ◌≤◌, Bool, true, false, cond, ◌||◌, ◌&&◌, bytes_eq, List, [], ◌∷◌, length, map as over, slice_get, Option, Some, None, refl, sym, ap, ap₂, subst, ◌∙◌, arith, T}
use Rattle.std.specs.Bool.{one_answer}
use Rattle.std.specs.FinMap as map
use Rattle.std.specs.FinMap.{find, is_sorted}
use Rattle.std.specs.FinMap.Entries.{below_all}
use Rattle.std.specs.List.{AllByRecursion, list_any}
use Rattle.std.specs.List.Sorted.{IsStrictlySortedBy}
use Rattle.std.specs.Option.{is_some}
use Rattle.std.specs.Ordering.{eq_by_cmp}
use Rattle.std.specs.declared.cmp.Ordering.TheVariants.{Less}
use Rattle.std.proofs.lemmas.List.Elements.{All-from_recursion}
use Rattle.std.proofs.lemmas.Slice.Eq.{bytes_eq-Decides}
use Rattle.general_words.specs.Texts.{text_cmp}
use Rattle.general_words.proofs.Lists.{all_from_places, all_map, some_is}
use Rattle.general_words.proofs.Lookups.{get-cases}
use Rattle.general_words.proofs.Maps.{get-at, get-insert_same}
use Rattle.general_words.proofs.Orders.{less}
use Rattle.general_words.proofs.Tests.{first, second}
use Rattle.general_words.proofs.Texts.{text_cmp-total, text_cmp-IsAntisymmetric}
use Rattle.journal_codec.specs.Header.{IsHeader, IsHeaderName}
use Rattle.journal_codec.specs.Listed.{is_listed, are_listed}
use Rattle.model_maps.specs.KeyMap.{KeyMap}
use Rattle.model_history.specs.Changes.{changed_by}
use Rattle.model_history.specs.History.{Commit}
use Rattle.model_store.specs.Store.{Store, Formats}
use Rattle.model_files.specs.Files.{HaveFiles, file_names, table_files}
use Rattle.model_files.specs.Texts.{texts_at, as_file, entry_of}
use Rattle.model_files.proofs.EntryLemmas.{length-over, texts_are}
use Rattle.model_files.proofs.TextLemmas.{text_tied}
use Rattle.mount_table.specs.declared.mounts.Mount.{Mount}

-- ---- the names of mounts

-- a name is that of a mount's file
record IsNameOf (mounts : List Mount) (file : List ℕ) : Type 0 where
  number : ℕ
  mount : Mount
  there : slice_get mounts number ≡ Some mount
  file_is : mount.file ≡ file

name_of : (mounts : List Mount) (file : List ℕ) → map.get (file_names mounts) file ≡ Some tt → IsNameOf mounts file
name_of [] file e = let none : map.get (file_names []) file ≡ None = map.get-empty text_cmp file in absurd cc
name_of (mount ∷ mounts) file e = elim (get-cases text_cmp-total text_cmp-IsAntisymmetric (file_names mounts) mount.file tt file tt e) [
  | inl before ↦ let old = name_of mounts file before in record { number = suc old.number; mount = old.mount; there = old.there; file_is = old.file_is }
  | inr new ↦ record { number = 0; mount = mount; there = refl; file_is = sym new.0 }
]

either_way : (b : Bool) (o : Option Unit) → cond b o o ≡ o
either_way true o = refl
either_way false o = refl

has_name : (mounts : List Mount) (i : ℕ) (mount : Mount) → slice_get mounts i ≡ Some mount
    → map.get (file_names mounts) mount.file ≡ Some tt
has_name [] zero mount e = absurd cc
has_name [] (suc i) mount e = absurd cc
has_name (one ∷ mounts) zero mount e =
    subst (λ (m : Mount). map.get (file_names (one ∷ mounts)) m.file ≡ Some tt) (some_is one mount e) (get-insert_same text_cmp-total (file_names mounts) one.file tt)
has_name (one ∷ mounts) (suc i) mount e =
    map.get-insert text_cmp-total (file_names mounts) one.file tt mount.file
    ∙ ap (λ (o : Option Unit). cond (eq_by_cmp text_cmp mount.file one.file) (Some tt) o) (has_name mounts i mount e)
    ∙ either_way (eq_by_cmp text_cmp mount.file one.file) (Some tt)

few_names : (mounts : List Mount) → map.len (file_names mounts) ≤ length mounts
few_names [] = let none = map.len-empty text_cmp Unit in omega (arith, none)
few_names (mount ∷ mounts) =
    let names = file_names mounts in
    let rest = few_names mounts in
    subst (λ l. l ≤ suc (length mounts)) (sym (map.len-insert text_cmp-total names mount.file tt))
    (elim (map.contains_key names mount.file) as (λ b. cond b (map.len names) (map.len names + 1) ≤ suc (length mounts)) [ true ↦ omega (arith, rest) | false ↦ omega (arith, rest) ])

-- ---- the names are a header

keys_behind : (name : List ℕ) (es : List (List ℕ × Unit)) → T (below_all text_cmp name es)
    → AllByRecursion (λ other. text_cmp name other ≡ Less) (over (λ e. e.0) es)
keys_behind name [] h = tt
keys_behind name (e ∷ es) h = (less _ (first _ _ h), keys_behind name es (second _ _ h))

keys_ascend : (es : List (List ℕ × Unit)) → T (is_sorted text_cmp es) → IsStrictlySortedBy text_cmp (over (λ e. e.0) es)
unfolding IsStrictlySortedBy
keys_ascend [] h = tt
keys_ascend (e ∷ es) h = (keys_behind e.0 es (first _ _ h), keys_ascend es (second _ _ h))

some_key : (es : List (List ℕ × Unit)) (file : List ℕ) → find text_cmp file es ≡ Some tt → 1 ≤ length es
some_key [] file e = absurd cc
some_key (x ∷ es) file e = omega arith

module _ (mounts : List Mount) (have : HaveFiles mounts) where
  header_name : (file : List ℕ) → map.get (file_names mounts) file ≡ Some tt → IsHeaderName file
  header_name file e =
      let name = name_of mounts file e in
      subst (λ (f : List ℕ). IsHeaderName f) name.file_is
      (record { is_name = have.named name.number name.mount name.there; not_journal = have.free name.number name.mount name.there })

  some_name : 1 ≤ length mounts → 1 ≤ length (map.entries (file_names mounts))
  some_name some = by mounts refl some
    where
      by : (all : List Mount) → mounts ≡ all → 1 ≤ length all → 1 ≤ length (map.entries (file_names mounts))
      by [] is one = absurd (omega arith)
      by (mount ∷ others) is one =
          some_key (map.entries (file_names mounts)) mount.file
          (sym (map.get-entries (file_names mounts) mount.file) ∙ has_name mounts 0 mount (ap (λ (ms : List Mount). slice_get ms 0) is))

  pub names_are_header : 1 ≤ length mounts → IsHeader (map.keys (file_names mounts))
  names_are_header some =
      let names = file_names mounts in
      let size = length-over (λ (e : List ℕ × Unit). e.0) (map.entries names) in
      let count = map.len-entries names in
      let few = few_names mounts in
      let one = some_name some in
      let table = have.few in
      record {
        not_empty = omega (arith, size, one);
        not_many = omega (arith, size, count, few, table);
        ascending = keys_ascend (map.entries names) (map.entries_sorted names);
        each = All-from_recursion IsHeaderName (map.keys names)
            (all_map IsHeaderName (λ e. e.0) (map.entries names)
            (all_from_places (λ e. IsHeaderName e.0) (map.entries names) (λ i e there. header_name e.0 (get-at text_cmp-total names i e there))));
      }

-- ---- an entry names files of the table

listed_by : (names : List (List ℕ)) (name : List ℕ) → is_listed names name ≡ list_any (eq_by_cmp text_cmp name) names
listed_by [] name = refl
listed_by (one ∷ names) name =
    ap₂ ◌||◌ (one_answer (bytes_eq one name) (eq_by_cmp text_cmp name one) (bytes_eq-Decides one name) (text_tied one name)) (listed_by names name)

all_files : (names : List (List ℕ)) (es : List (List ℕ × List ℕ)) → AllByRecursion (λ e. is_listed names e.0 ≡ true) es
    → are_listed names (over as_file es) ≡ true
all_files names [] all = refl
all_files names (e ∷ es) all = ap₂ ◌&&◌ all.0 (all_files names es all.1)

-- the file of a mount is among the names
mount_listed : (mounts : List Mount) (i : ℕ) (mount : Mount) → slice_get mounts i ≡ Some mount
    → is_listed (map.keys (file_names mounts)) mount.file ≡ true
mount_listed mounts i mount there =
    listed_by (map.keys (file_names mounts)) mount.file ∙ sym (map.contains_key-keys (file_names mounts) mount.file)
    ∙ ap (λ o. is_some o) (has_name mounts i mount there)

pub entry_listed : (formats : Formats) (store : Store) (before : KeyMap) (commit : Commit)
    → are_listed (table_files store) (entry_of formats store before commit) ≡ true
entry_listed formats store before commit =
    let keys = changed_by commit.changes before in
    let texts = texts_at formats store keys commit.touched in
    all_files (table_files store) (map.entries texts)
    (all_from_places (λ e. is_listed (table_files store) e.0 ≡ true) (map.entries texts) (λ i e there.
    let text = texts_are formats store keys commit.touched e.0 e.1 (get-at text_cmp-total texts i e there) in
    subst (λ (f : List ℕ). is_listed (table_files store) f ≡ true) text.file_is (mount_listed store.mounts text.number text.mount text.there)))
