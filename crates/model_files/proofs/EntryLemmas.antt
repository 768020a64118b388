-- The texts of a legal commit are an entry of a journal.
use Rattle.std.proofs.Common.{◌≡◌, ◌≢◌, ◌⊎◌, inl, inr, ℕ, suc, ◌+◌, ◌<◌, ◌≤◌, true, false, cond, nat_lt, List, [], ◌∷◌, length, map as over, slice_get, Option, Some, None, refl, sym, ap, subst, ◌∙◌, arith, T, ltb-false}
use Rattle.std.specs.FinMap as map
use Rattle.std.specs.FinMap.{find, is_sorted}
use Rattle.std.specs.FinMap.Entries.{below_all}
use Rattle.std.specs.List.{AllByRecursion}
use Rattle.std.specs.List.Sorted.{IsStrictlySortedBy}
use Rattle.std.specs.Prelude.{option_and_then}
use Rattle.std.specs.declared.cmp.Ordering.TheVariants.{Less}
use Rattle.std.proofs.lemmas.List.Elements.{All-from_recursion}
use Rattle.std.proofs.lemmas.List.Quantifiers.{position-Some}
use Rattle.std.proofs.lemmas.Map.Views.{length-le_from_below}
use Rattle.backend_files.specs.WholeFile.{longest_file}
use Rattle.general_words.specs.Texts.{text_cmp}
use Rattle.general_words.proofs.Lists.{all_from_places}
use Rattle.general_words.proofs.Lookups.{get-cases}
use Rattle.general_words.proofs.Maps.{get-at}
use Rattle.general_words.proofs.Orders.{less}
use Rattle.general_words.proofs.Tests.{first, second, is_number, cond_off}
use Rattle.general_words.proofs.Texts.{text_cmp-total, text_cmp-IsAntisymmetric}
use Rattle.journal_codec.specs.Entry.{IsEntry, IsEntryFile, names_of}
use Rattle.journal_codec.specs.declared.files.FileText.{FileText}
use Rattle.key_name.specs.Owner.{owner_of, is_longest}
use Rattle.model_maps.specs.KeyMap.{KeyMap}
use Rattle.model_history.specs.Changes.{changed_by}
use Rattle.model_history.specs.History.{Commit, is_among}
use Rattle.model_store.specs.Fitting.{Fits, too_long, long_text}
use Rattle.model_store.specs.Legal.{HasChange, IsLegalCommit}
use Rattle.model_store.specs.Store.{Store, Formats, points_of, contents}
use Rattle.model_store.proofs.Members.{among-first, among-rest, from_all}
use Rattle.model_files.specs.Files.{HaveFiles, text_of}
use Rattle.model_files.specs.Texts.{with_text, texts_at, as_file, as_entry, entry_of}
use Rattle.general_words.proofs.Places.{there_is}
use Rattle.model_files.proofs.TextLemmas.{get-texts}
use Rattle.mount_table.specs.declared.mounts.Mount.{Mount}
use Rattle.set_split.specs.Parts.{owned_by}

-- ---- lists

pub length-over : {A B : Type 0} (f : A → B) (xs : List A) → length (over f xs) ≡ length xs
length-over f [] = refl
length-over f (x ∷ xs) = ap suc (length-over f xs)

all_files : (es : List (List ℕ × List ℕ)) → AllByRecursion (λ e. IsEntryFile (as_file e)) es
    → AllByRecursion IsEntryFile (over as_file es)
all_files [] all = tt
all_files (e ∷ es) all = (all.0, all_files es all.1)

names_behind : (name : List ℕ) (es : List (List ℕ × List ℕ)) → T (below_all text_cmp name es)
    → AllByRecursion (λ other. text_cmp name other ≡ Less) (names_of (over as_file es))
names_behind name [] h = tt
names_behind name (e ∷ es) h = (less _ (first _ _ h), names_behind name es (second _ _ h))

names_ascend : (es : List (List ℕ × List ℕ)) → T (is_sorted text_cmp es)
    → IsStrictlySortedBy text_cmp (names_of (over as_file es))
unfolding IsStrictlySortedBy
names_ascend [] h = tt
names_ascend (e ∷ es) h = (names_behind e.0 es (first _ _ h), names_ascend es (second _ _ h))

some_entry : (es : List (List ℕ × List ℕ)) (file bytes : List ℕ) → find text_cmp file es ≡ Some bytes → 1 ≤ length es
some_entry [] file bytes e = absurd cc
some_entry (x ∷ es) file bytes e = omega arith

not_long : (m : ℕ) (bytes : List ℕ) → long_text m bytes ≡ None → length bytes ≤ longest_file
not_long m bytes e = ltb-false longest_file (length bytes) (cond_off (nat_lt longest_file (length bytes)) _ e)

module _ (formats : Formats) (store : Store) (keys : KeyMap) where
  -- ---- whose a text is

  pub record IsTextOf (mounts : List ℕ) (file bytes : List ℕ) : Type 0 where
    pub number : ℕ
    pub mount : Mount
    pub among : is_among mounts number ≡ true
    pub there : slice_get store.mounts number ≡ Some mount
    pub file_is : mount.file ≡ file
    pub is : text_of formats store keys number mount ≡ bytes

  pub texts_are : (mounts : List ℕ) (file bytes : List ℕ)
      → map.get (texts_at formats store keys mounts) file ≡ Some bytes → IsTextOf mounts file bytes
  texts_are [] file bytes e =
      let none : map.get (map.empty {X = List ℕ} {R = text_cmp}) file ≡ None = map.get-empty text_cmp file in absurd cc
  texts_are (n ∷ mounts) file bytes e = by (slice_get store.mounts n) refl (texts_are mounts file bytes) e
    where
      more : IsTextOf mounts file bytes → IsTextOf (n ∷ mounts) file bytes
      more old =
          record {
            number = old.number;
            mount = old.mount;
            among = among-rest n old.number mounts old.among;
            there = old.there;
            file_is = old.file_is;
            is = old.is;
          }

      cases : (other : Mount) → slice_get store.mounts n ≡ Some other
          → (map.get (texts_at formats store keys mounts) file ≡ Some bytes → IsTextOf mounts file bytes)
          → (map.get (texts_at formats store keys mounts) file ≡ Some bytes)
          ⊎ ((file ≡ other.file) × (text_of formats store keys n other ≡ bytes))
          → IsTextOf (n ∷ mounts) file bytes
      cases other is rest (inl old) = more (rest old)
      cases other is rest (inr new) =
          record {
            number = n;
            mount = other;
            among = among-first n mounts;
            there = is;
            file_is = sym new.0;
            is = new.1;
          }

      by : (o : Option Mount) → slice_get store.mounts n ≡ o
          → (map.get (texts_at formats store keys mounts) file ≡ Some bytes → IsTextOf mounts file bytes)
          → map.get (with_text formats store keys n o (texts_at formats store keys mounts)) file ≡ Some bytes
          → IsTextOf (n ∷ mounts) file bytes
      by None is rest h = more (rest h)
      by (Some other) is rest h =
          cases other is rest (get-cases text_cmp-total text_cmp-IsAntisymmetric (texts_at formats store keys mounts) other.file (text_of formats store keys n other) file bytes h)

  few_texts : (mounts : List ℕ) → map.len (texts_at formats store keys mounts) ≤ length mounts
  few_texts [] = let none = map.len-empty text_cmp (List ℕ) in omega (arith, none)
  few_texts (n ∷ mounts) = by (slice_get store.mounts n) (few_texts mounts)
    where
      by : (o : Option Mount) → map.len (texts_at formats store keys mounts) ≤ length mounts
          → map.len (with_text formats store keys n o (texts_at formats store keys mounts)) ≤ suc (length mounts)
      by None rest = omega (arith, rest)
      by (Some other) rest =
          let texts = texts_at formats store keys mounts in
          subst (λ l. l ≤ suc (length mounts)) (sym (map.len-insert text_cmp-total texts other.file (text_of formats store keys n other)))
          (elim (map.contains_key texts other.file) as (λ b. cond b (map.len texts) (map.len texts + 1) ≤ suc (length mounts)) [ true ↦ omega (arith, rest) | false ↦ omega (arith, rest) ])

  short_text : (m : ℕ) (mount : Mount) → slice_get store.mounts m ≡ Some mount
      → too_long formats store (λ n. owned_by (points_of store) n keys) m ≡ None
      → length (text_of formats store keys m mount) ≤ longest_file
  short_text m mount there none =
      not_long m (text_of formats store keys m mount)
      (sym (ap (option_and_then (λ (one : Mount). long_text m (formats.text one.kind (contents store m one (owned_by (points_of store) m keys))))) there) ∙ none)

-- ---- a legal commit

module _ (formats : Formats) (store : Store) (have : HaveFiles store.mounts) (before : KeyMap) (commit : Commit) (legal : IsLegalCommit formats store before commit) where
  is_mount : (m : ℕ) → HasChange (points_of store) commit.changes m → m < length store.mounts
  is_mount m change =
      let owner : owner_of (points_of store) change.name ≡ Some m = is_number (owner_of (points_of store) change.name) m change.owned in
      subst (λ n. m < n) (length-over (λ (mount : Mount). mount.at) store.mounts) (position-Some (is_longest (points_of store) change.name) (points_of store) m change.name owner).0

  all_mounts : (ms : List ℕ) → AllByRecursion (HasChange (points_of store) commit.changes) ms
      → AllByRecursion (λ m. m < length store.mounts) ms
  all_mounts [] all = tt
  all_mounts (m ∷ ms) all = (is_mount m all.0, all_mounts ms all.1)

  entry_file : (file bytes : List ℕ)
      → map.get (texts_at formats store (changed_by commit.changes before) commit.touched) file ≡ Some bytes
      → IsEntryFile (record { file = file; bytes = bytes })
  entry_file file bytes e =
      let text = texts_are formats store (changed_by commit.changes before) commit.touched file bytes e in
      let fits = from_all (Fits formats store (λ m. owned_by (points_of store) m (changed_by commit.changes before))) commit.touched text.number legal.fits text.among in
      let short = short_text formats store (changed_by commit.changes before) text.number text.mount text.there fits.short in
      subst (λ (f : FileText). IsEntryFile f) (λ i. record { file = text.file_is i; bytes = text.is i })
      (record { is_name = have.named text.number text.mount text.there; not_journal = have.free text.number text.mount text.there; not_long = short })

  some_text : (ms : List ℕ) → ms ≢ [] → AllByRecursion (λ m. m < length store.mounts) ms
      → 1 ≤ length (map.entries (texts_at formats store (changed_by commit.changes before) ms))
  some_text [] some all = absurd (some refl)
  some_text (m ∷ ms) some all =
      let found = there_is store.mounts m all.0 in
      let texts = texts_at formats store (changed_by commit.changes before) (m ∷ ms) in
      some_entry (map.entries texts) found.0.file (text_of formats store (changed_by commit.changes before) m found.0)
      (sym (map.get-entries texts found.0.file) ∙ get-texts formats store (changed_by commit.changes before) have.own (m ∷ ms) m found.0 found.1 ∙ ap (λ b. cond b (Some (text_of formats store (changed_by commit.changes before) m found.0)) None) (among-first m ms))

  pub is_entry : IsEntry (entry_of formats store before commit)
  is_entry =
      let texts = texts_at formats store (changed_by commit.changes before) commit.touched in
      let mounts = all_mounts commit.touched legal.each in
      let size = length-over as_file (map.entries texts) in
      let count = map.len-entries texts in
      let few = few_texts formats store (changed_by commit.changes before) commit.touched in
      let most = length-le_from_below (length store.mounts) commit.touched legal.ascending (All-from_recursion (λ m. m < length store.mounts) commit.touched mounts) in
      let table = have.few in
      let one = some_text commit.touched legal.some mounts in
      record {
        not_empty = omega (arith, size, one);
        not_many = omega (arith, size, count, few, most, table);
        ascending = names_ascend (map.entries texts) (map.entries_sorted texts);
        each = All-from_recursion IsEntryFile (as_entry texts) (all_files (map.entries texts) (all_from_places (λ e. IsEntryFile (as_file e)) (map.entries texts) (λ i e there. entry_file e.0 e.1 (get-at text_cmp-total texts i e there))));
      }
