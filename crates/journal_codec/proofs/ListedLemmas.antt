-- A body whose files are all of a header is read as it is where any file may stand.
use Rattle.std.proofs.Common.{◌≡◌, ℕ, zero, suc, ◌<◌, Bool, true, false, cond, ◌||◌, ◌∷◌, List, [], length, slice_index_or, nat_eq, Some, Result, Ok, refl, sym, ap, ap₂, subst, ◌∙◌, arith}
use Rattle.std.specs.Bool.{Decides}
use Rattle.std.specs.List.{Contains}
use Rattle.std.specs.Cmp.Lexicographic.{pointwise, same_text, nat_list_eq_equiv}
use Rattle.journal_codec.specs.declared.files.FileText.{FileText}
use Rattle.journal_codec.specs.Entry.{IsEntry}
use Rattle.journal_codec.specs.Forms.{followed, uncounted, spelled_on}
use Rattle.journal_codec.specs.Reading.{Reads, Fails, NameRule, byte_at, number_at, bytes_at, is_next_name, is_content, file_at, files_at, all_of, reading_of, read_body}
use Rattle.journal_codec.specs.Listed.{is_listed, are_listed, is_next_of, read_listed}
use Rattle.journal_codec.proofs.FieldLemmas.{IsBytes, bind_ok, bind_is, ok_is, bytes_takes, bytes_again}
use Rattle.journal_codec.proofs.NameLemmas.{next_of_keeps, next_of_from, among_from}
use Rattle.journal_codec.proofs.ItemLemmas.{items_keep, items_alike}
use Rattle.journal_codec.proofs.FileLemmas.{after_content, after_length, after_name, after_size}
use Rattle.journal_codec.proofs.BodyLemmas.{counted_takes, counted_again, reads_by, is_read}
use Rattle.journal_codec.proofs.FormLemmas.{followed-spelled_on, read_again_on, spelled_so, IsBytes-uncounted}

-- the test of a name tells whether it is one of some names
contains_listed : (names : List (List ℕ)) (name : List ℕ) → is_listed names name ≡ true → Contains names name
contains_listed [] name e = absurd cc
contains_listed (first ∷ names) name e = elim (pointwise nat_eq first name) as (λ b. pointwise nat_eq first name ≡ b → (b || is_listed names name) ≡ true → Contains (first ∷ names) name) [
  | true ↦ λ same e. (0, omega arith, same_text first name (sym same))
  | false ↦ λ other e.
      let there = contains_listed names name e in
      (suc there.0, omega (arith, there.1), there.2)
] refl e

listed_at : (names : List (List ℕ)) (name : List ℕ) (k : ℕ) → k < length names → slice_index_or names k name ≡ name
    → is_listed names name ≡ true
listed_at [] name k lt is = absurd (omega arith)
listed_at (first ∷ names) name zero lt is =
    ap (λ (text : List ℕ). pointwise nat_eq text name || is_listed names name) is
    ∙ ap (λ (b : Bool). b || is_listed names name) (nat_list_eq_equiv.refl name)
listed_at (first ∷ names) name (suc k) lt is = elim (pointwise nat_eq first name) as (λ b. (b || is_listed names name) ≡ true) [
  | true ↦ refl
  | false ↦ listed_at names name k (omega arith) is
]

pub is_listed-Decides : (names : List (List ℕ)) (name : List ℕ) → Decides (is_listed names name) (Contains names name)
is_listed-Decides names name = (contains_listed names name, λ there. listed_at names name there.0 there.1 there.2)

-- bytes that were read by one rule are read by another that they keep
bytes_by : (rule other : List ℕ → Bool) (size : ℕ) (bytes : List ℕ) (x : List ℕ × List ℕ)
    → bytes_at rule size bytes ≡ Ok x → other x.0 ≡ true → bytes_at other size bytes ≡ Ok x
bytes_by rule other size bytes x e good =
    let taken = bytes_takes rule size bytes x e in
    ap₂ (bytes_at other) (sym taken.count) taken.parts ∙ bytes_again other x.0 x.1 good

-- a file's name keeps the rule that it was read by, and the file is read by any rule that its name keeps
pub record IsReadBy (rule : NameRule) (previous bytes : List ℕ) (x : FileText × List ℕ) : Type 0 where
  pub keeps : rule previous x.0.file ≡ true
  pub others : (other : NameRule) → other previous x.0.file ≡ true → file_at other previous bytes ≡ Ok x

file_by : (rule : NameRule) (previous bytes : List ℕ) (x : FileText × List ℕ) → file_at rule previous bytes ≡ Ok x
    → IsReadBy rule previous bytes x
unfolding file_at
file_by rule previous bytes x e =
    let s = bind_ok (byte_at bytes) (after_size rule previous) x e in
    let n = bind_ok (bytes_at (rule previous) s.0.0 s.0.1) after_name x s.2 in
    let l = bind_ok (number_at n.0.1) (after_length n.0) x n.2 in
    let c = bind_ok (bytes_at is_content l.0.0 l.0.1) (after_content n.0) x l.2 in
    let name : n.0.0 ≡ x.0.file = ap (λ (p : FileText × List ℕ). p.0.file) {x = (record { file = n.0.0; bytes = c.0.0 }, c.0.1)} (ok_is (record { file = n.0.0; bytes = c.0.0 }, c.0.1) x c.2) in
    record {
      keeps = subst (λ (text : List ℕ). rule previous text ≡ true) name (bytes_takes (rule previous) s.0.0 s.0.1 n.0 n.1).good;
      others = λ other good.
          let read = bytes_by (rule previous) (other previous) s.0.0 s.0.1 n.0 n.1 (subst (λ (text : List ℕ). other previous text ≡ true) (sym name) good) in
          bind_is (byte_at bytes) (after_size other previous) s.0 (Ok x) s.1
          (bind_is (bytes_at (other previous) s.0.0 s.0.1) after_name n.0 (Ok x) read n.2);
    }

-- the rule of a header's names
abbrev of_names : List (List ℕ) → NameRule
of_names names = is_next_of (Some names)

file_listed : (names : List (List ℕ)) (previous bytes : List ℕ) (x : FileText × List ℕ)
    → file_at (of_names names) previous bytes ≡ Ok x → is_listed names x.0.file ≡ true
file_listed names previous bytes x e =
    among_from (Some names) previous x.0.file (file_by (of_names names) previous bytes x e).keeps

file_plain : (names : List (List ℕ)) (previous bytes : List ℕ) (x : FileText × List ℕ)
    → file_at (of_names names) previous bytes ≡ Ok x → is_listed names x.0.file ≡ true
    → file_at is_next_name previous bytes ≡ Ok x
file_plain names previous bytes x e listed =
    let read = file_by (of_names names) previous bytes x e in
    read.others is_next_name (next_of_keeps (Some names) previous x.0.file read.keeps)

file_of_names : (names : List (List ℕ)) (previous bytes : List ℕ) (x : FileText × List ℕ)
    → file_at is_next_name previous bytes ≡ Ok x → is_listed names x.0.file ≡ true
    → file_at (of_names names) previous bytes ≡ Ok x
file_of_names names previous bytes x e listed =
    let read = file_by is_next_name previous bytes x e in
    read.others (of_names names) (next_of_from (Some names) previous x.0.file read.keeps listed)

-- a body that is read by the names of a header
pub record IsAllOf (names : List (List ℕ)) (body : List ℕ) (files : List FileText) : Type 0 where
  pub listed : are_listed names files ≡ true
  pub plain : all_of is_next_name body ≡ Ok files

all_plain : (names : List (List ℕ)) (body : List ℕ) (files : List FileText) → all_of (of_names names) body ≡ Ok files
    → IsAllOf names body files
unfolding all_of files_at
all_plain names body files e =
    let all = counted_takes (files_at (of_names names)) body files e in
    let listed = items_keep (file_at (of_names names)) (λ f. f.file) (λ f. is_listed names f.file) (file_listed names) all.count [] all.behind (files, []) all.others in
    let others = items_alike (file_at (of_names names)) (file_at is_next_name) (λ f. f.file) (λ f. is_listed names f.file) (file_plain names) all.count [] all.behind (files, []) all.others listed in
    record {
      listed = listed;
      plain = counted_again (files_at is_next_name) body files all.count all.behind all.first others;
    }

all_of_names : (names : List (List ℕ)) (body : List ℕ) (files : List FileText) → IsAllOf names body files
    → all_of (of_names names) body ≡ Ok files
unfolding all_of files_at
all_of_names names body files is =
    let all = counted_takes (files_at is_next_name) body files is.plain in
    let others = items_alike (file_at is_next_name) (file_at (of_names names)) (λ f. f.file) (λ f. is_listed names f.file) (file_of_names names) all.count [] all.behind (files, []) all.others is.listed in
    counted_again (files_at (of_names names)) body files all.count all.behind all.first others

-- what a body reads as that says that another gate follows, and one that doesn't
pub listed_reads : (names : List (List ℕ)) (body : List ℕ) (read : Result (List FileText) ℕ) → followed body ≡ true
    → all_of (of_names names) (uncounted body) ≡ read
    → read_listed names body ≡ reading_of (length body) read
unfolding read_listed
listed_reads names body read goes_on e =
    ap (λ (b : Bool). cond b (reading_of (length body) (all_of (of_names names) (uncounted body))) (Fails 0)) goes_on
    ∙ ap (reading_of (length body)) e

pub listed_ends : (names : List (List ℕ)) (body : List ℕ) → followed body ≡ false → read_listed names body ≡ Fails 0
unfolding read_listed
listed_ends names body ends =
    ap (λ (b : Bool). cond b (reading_of (length body) (all_of (of_names names) (uncounted body))) (Fails 0)) ends

-- what is read of a body of a header's files
pub record IsListedBody (names : List (List ℕ)) (body : List ℕ) (files : List FileText) : Type 0 where
  pub goes_on : followed body ≡ true
  pub listed : are_listed names files ≡ true
  pub plain : read_body (uncounted body) ≡ Reads files

pub listed_is_read : (names : List (List ℕ)) (body : List ℕ) (files : List FileText)
    → read_listed names body ≡ Reads files → IsListedBody names body files
unfolding read_listed read_body
listed_is_read names body files e = elim (followed body) as (λ b. followed body ≡ b → cond b (reading_of (length body) (all_of (of_names names) (uncounted body))) (Fails 0) ≡ Reads files → IsListedBody names body files) [
  | true ↦ λ goes_on e.
      let all = all_plain names (uncounted body) files (reads_by (length body) (all_of (of_names names) (uncounted body)) files e) in
      record { goes_on = goes_on; listed = all.listed; plain = ap (reading_of (length (uncounted body))) all.plain }
  | false ↦ λ ends e. absurd cc
] refl e

pub listed_from : (names : List (List ℕ)) (body : List ℕ) (files : List FileText) → IsListedBody names body files
    → read_listed names body ≡ Reads files
unfolding read_body
listed_from names body files is =
    let plain = reads_by (length (uncounted body)) (all_of is_next_name (uncounted body)) files is.plain in
    listed_reads names body (Ok files) is.goes_on (all_of_names names (uncounted body) files (record { listed = is.listed; plain = plain }))

pub listed_spelled : (names : List (List ℕ)) (body : List ℕ) (entry : List FileText) → IsBytes body
    → read_listed names body ≡ Reads entry
    → IsEntry entry × (are_listed names entry ≡ true) × (spelled_on entry ≡ body)
listed_spelled names body entry bytes e =
    let is = listed_is_read names body entry e in
    let read = is_read (uncounted body) entry is.plain in
    (read.entry, is.listed, spelled_so body entry is.goes_on (read.spelling (IsBytes-uncounted body bytes)))

-- what is spelled of such files is read again
pub listed_again : (names : List (List ℕ)) (entry : List FileText) → IsEntry entry → are_listed names entry ≡ true
    → read_listed names (spelled_on entry) ≡ Reads entry
listed_again names entry is listed =
    listed_from names (spelled_on entry) entry (record { goes_on = followed-spelled_on entry is; listed = listed; plain = read_again_on entry is })
