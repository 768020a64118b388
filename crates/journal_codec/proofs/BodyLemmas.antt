-- Whole bodies: spelling and reading undo each other.
use Rattle.std.proofs.Common.{◌≡◌, ℕ, ◌≤◌, Bool, true, false, cond, eqb, leb, List, [], ◌∷◌, ◌++◌, length, Result, Ok, Err, refl, sym, ap, ap₂, subst, ◌∙◌, arith}
use Rattle.std.specs.List.{flat_map, AllByRecursion}
use Rattle.std.proofs.lemmas.Bool.{eqb-true, leb-true, le-leb, and_parts, and_from}
use Rattle.std.proofs.lemmas.List.{append-nil, nil_from_length}
use Rattle.std.proofs.lemmas.List.Elements.{All-from_recursion, recursion_from_All}
use Rattle.journal_codec.specs.declared.files.FileText.{FileText}
use Rattle.journal_codec.specs.Entry.{most_files, spelled_file, spelled, IsEntryFile, names_of, IsEntry}
use Rattle.journal_codec.specs.Reading.{Reads, Field, ◌>>=◌, checked, byte_at, is_count, count_at, counted, is_next_name, files_at, all_of, reading_of, read_body}
use Rattle.journal_codec.proofs.FieldLemmas.{IsBytes, IsBytes-behind, bind_ok, bind_is, checked_ok, byte_takes}
use Rattle.journal_codec.proofs.NameLemmas.{sorted_from_rises, rises_from_nothing}
use Rattle.journal_codec.proofs.ItemLemmas.{ItemsReader}
use Rattle.journal_codec.proofs.FileLemmas.{files_takes, files_again}

-- a count that was read
pub record TakesCount (body : List ℕ) (count : ℕ) (rest : List ℕ) : Type 0 where
  pub parts : body ≡ count ∷ rest
  pub not_empty : 1 ≤ count
  pub not_many : count ≤ most_files

abbrev pub checked_count : List ℕ → ℕ × List ℕ → Field ℕ
checked_count body count = checked (is_count count.0) body count

pub count_takes : (body : List ℕ) (x : ℕ × List ℕ) → count_at body ≡ Ok x → TakesCount body x.0 x.1
unfolding count_at
count_takes body x e =
    let b = bind_ok (byte_at body) (checked_count body) x e in
    let c = checked_ok (is_count b.0.0) body b.0 x b.2 in
    let both = and_parts (leb 1 b.0.0) (leb b.0.0 most_files) c.0 in
    let taken : TakesCount body b.0.0 b.0.1 = record { parts = byte_takes body b.0 b.1; not_empty = leb-true 1 b.0.0 both.0; not_many = leb-true b.0.0 most_files both.1 } in
    subst (λ (p : ℕ × List ℕ). TakesCount body p.0 p.1) c.1 taken

pub count_again : (count : ℕ) (rest : List ℕ) → 1 ≤ count → count ≤ most_files
    → count_at (count ∷ rest) ≡ Ok (count, rest)
unfolding count_at
count_again count rest some few =
    rw (and_from (leb 1 count) (leb count most_files) (le-leb 1 count some) (le-leb count most_files few)) refl

-- what is read behind the count and behind the items
abbrev pub at_end : {A : Type 0} → List A × List ℕ → Result (List A) ℕ
at_end items = cond (eqb (length items.1) 0) (Ok items.0) (Err (length items.1))

abbrev pub after_count : {A : Type 0} → ItemsReader A → ℕ × List ℕ → Result (List A) ℕ
after_count items_of count = items_of count.0 [] count.1 >>= at_end

-- nothing stands behind the items
ended : {A : Type 0} (b : Bool) (items y : List A) (left : ℕ) → cond b (Ok items) (Err left) ≡ Ok y
    → (b ≡ true) × (items ≡ y)
ended true items y left e = (refl, cc)
ended false items y left e = absurd cc

-- a count and so many items that were read
pub record TakesAll {A : Type 0} (items_of : ItemsReader A) (bytes : List ℕ) (items : List A) : Type 0 where
  pub count : ℕ
  pub behind : List ℕ
  pub first : count_at bytes ≡ Ok (count, behind)
  pub others : items_of count [] behind ≡ Ok (items, [])

pub counted_takes : {A : Type 0} (items_of : ItemsReader A) (bytes : List ℕ) (items : List A)
    → counted items_of bytes ≡ Ok items → TakesAll items_of bytes items
counted_takes {A} items_of bytes items e =
    let c = bind_ok (count_at bytes) (after_count items_of) items e in
    let f = bind_ok (items_of c.0.0 [] c.0.1) at_end items c.2 in
    let nothing = ended (eqb (length f.0.1) 0) f.0.0 items (length f.0.1) f.2 in
    let rest : f.0.1 ≡ [] = nil_from_length f.0.1 (eqb-true (length f.0.1) 0 nothing.0) in
    record {
      count = c.0.0;
      behind = c.0.1;
      first = c.1;
      others = f.1 ∙ ap₂ (λ (xs : List A) (bs : List ℕ). Ok (xs, bs)) nothing.1 rest;
    }

pub counted_again : {A : Type 0} (items_of : ItemsReader A) (bytes : List ℕ) (items : List A) (count : ℕ)
    (behind : List ℕ)
    → count_at bytes ≡ Ok (count, behind) → items_of count [] behind ≡ Ok (items, [])
    → counted items_of bytes ≡ Ok items
counted_again items_of bytes items count behind first others =
    bind_is (count_at bytes) (after_count items_of) (count, behind) (Ok items) first
    (bind_is (items_of count [] behind) at_end (items, []) (Ok items) others refl)

pub spelling_is : {A : Type 0} (spelled_item : A → List ℕ) (bytes behind : List ℕ) (count : ℕ) (items : List A)
    → bytes ≡ count ∷ behind → behind ≡ flat_map spelled_item items ++ [] → length items ≡ count
    → length items ∷ flat_map spelled_item items ≡ bytes
spelling_is spelled_item bytes behind count items e₁ e₂ l =
    rw (e₁, e₂, append-nil (flat_map spelled_item items), l) refl

-- a body that was read is its entry's spelling
pub record IsRead (body : List ℕ) (files : List FileText) : Type 0 where
  pub entry : IsEntry files
  pub spelling : IsBytes body → spelled files ≡ body

pub all_takes : (body : List ℕ) (files : List FileText) → all_of is_next_name body ≡ Ok files → IsRead body files
unfolding all_of
all_takes body files e =
    let all = counted_takes (files_at is_next_name) body files e in
    let count = count_takes body (all.count, all.behind) all.first in
    let taken = files_takes all.count [] all.behind (files, []) all.others in
    record {
      entry = record {
        not_empty = omega (arith, taken.number, count.not_empty);
        not_many = omega (arith, taken.number, count.not_many);
        ascending = sorted_from_rises [] (names_of files) taken.rises;
        each = All-from_recursion IsEntryFile files taken.fits;
      };
      spelling = λ is_bytes.
          let behind : IsBytes all.behind = IsBytes-behind (all.count ∷ []) all.behind (subst IsBytes count.parts is_bytes) in
          spelling_is spelled_file body all.behind all.count files count.parts (taken.parts behind) taken.number;
    }

pub some_names : (files : List FileText) → AllByRecursion IsEntryFile files
    → AllByRecursion (λ name. 1 ≤ length name) (names_of files)
some_names [] fits = tt
some_names (f ∷ files) fits = (fits.0.is_name.not_empty, some_names files fits.1)

pub all_again : (files : List FileText) → IsEntry files → all_of is_next_name (spelled files) ≡ Ok files
unfolding all_of
all_again files entry =
    let body = flat_map spelled_file files in
    let each = recursion_from_All IsEntryFile files entry.each in
    let rises = rises_from_nothing (names_of files) (some_names files each) entry.ascending in
    let read : files_at is_next_name (length files) [] body ≡ Ok (files, []) =
    ap (files_at is_next_name (length files) []) (sym (append-nil body)) ∙ files_again [] files [] rises each in
    counted_again (files_at is_next_name) (length files ∷ body) files (length files) body (count_again (length files) body entry.not_empty entry.not_many) read

pub reads_by : (size : ℕ) (read : Result (List FileText) ℕ) (files : List FileText) → reading_of size read ≡ Reads files
    → read ≡ Ok files
reads_by size (Ok found) files e = cc
reads_by size (Err left) files e = absurd cc

pub is_read : (body : List ℕ) (files : List FileText) → read_body body ≡ Reads files → IsRead body files
unfolding read_body
is_read body files e = all_takes body files (reads_by (length body) (all_of is_next_name body) files e)

pub is_read_again : (files : List FileText) → IsEntry files → read_body (spelled files) ≡ Reads files
unfolding read_body
is_read_again files entry = ap (reading_of (length (spelled files))) (all_again files entry)

same_files : (files others : List FileText) → Reads files ≡ Reads others → files ≡ others
same_files files others e = cc

-- no two entries share a spelling
pub spelled_apart : (files others : List FileText) → IsEntry files → IsEntry others → spelled files ≡ spelled others
    → files ≡ others
spelled_apart files others one other e =
    same_files files others (sym (is_read_again files one) ∙ ap read_body e ∙ is_read_again others other)
