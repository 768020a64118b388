-- Files: what is read of them is spelled so, and what is spelled is read again.
use Rattle.std.proofs.Common.{◌≡◌, ℕ, List, [], ◌∷◌, ◌++◌, length, Ok, refl, sym, ap, subst, ◌∙◌, append_assoc, arith}
use Rattle.std.specs.List.{flat_map, AllByRecursion}
use Rattle.std.specs.Ordering.{nat_cmp}
use Rattle.std.specs.declared.cmp.Ordering.TheVariants.{Less}
use Rattle.std.specs.Cmp.Lexicographic.{slice_cmp}
use Rattle.std.proofs.lemmas.Bool.{leb-true, le-leb}
use Rattle.journal_codec.specs.declared.files.FileText.{FileText}
use Rattle.journal_codec.specs.Entry.{length_bytes, spelled_file, IsEntryFile, names_of, longest_content}
use Rattle.journal_codec.specs.Reading.{Field, ◌>>=◌, NameRule, byte_at, number_at, bytes_at, is_next_name, is_content, file_at, files_at}
use Rattle.journal_codec.proofs.FieldLemmas.{IsBytes, IsBytes-behind, bind_ok, bind_is, ok_is, byte_takes, number_takes, number_again, bytes_takes, bytes_again}
use Rattle.journal_codec.proofs.NameLemmas.{next_name_is, next_name_from, Rises}
use Rattle.journal_codec.proofs.ItemLemmas.{TakesItem, TakesItems, items_takes, items_again}

-- what is read behind each field of a file
abbrev pub after_content : List ℕ × List ℕ → List ℕ × List ℕ → Field FileText
after_content name content = Ok (record { file = name.0; bytes = content.0 }, content.1)

abbrev pub after_length : List ℕ × List ℕ → ℕ × List ℕ → Field FileText
after_length name size = bytes_at is_content size.0 size.1 >>= after_content name

abbrev pub after_name : List ℕ × List ℕ → Field FileText
after_name name = number_at name.1 >>= after_length name

abbrev pub after_size : NameRule → List ℕ → ℕ × List ℕ → Field FileText
after_size rule previous size = bytes_at (rule previous) size.0 size.1 >>= after_name

regrouped : (head name content rest : List ℕ)
    → (name ++ (head ++ content)) ++ rest ≡ name ++ (head ++ (content ++ rest))
regrouped head name content rest = simp append_assoc

-- the fields of a file one behind the other, with head for how a length is spelled
joined : (head : ℕ → List ℕ) (bytes behind_size name behind_name behind_length content rest : List ℕ)
    (name_size size : ℕ)
    → bytes ≡ name_size ∷ behind_size → behind_size ≡ name ++ behind_name → length name ≡ name_size
    → behind_name ≡ head size ++ behind_length → behind_length ≡ content ++ rest → length content ≡ size
    → bytes ≡ (length name ∷ (name ++ (head (length content) ++ content))) ++ rest
joined head bytes behind_size name behind_name behind_length content rest name_size size e₁ e₂ l₁ e₃ e₄ l₂ =
    rw (e₁, e₂, e₃, e₄, l₁, l₂) (ap (λ (left : List ℕ). name_size ∷ left) (sym (regrouped (head size) name content rest)))

-- what a file that was read took from the front of the bytes
abbrev pub TakesFile : List ℕ → List ℕ → FileText → List ℕ → Type 0
TakesFile = TakesItem (λ f. f.file) spelled_file IsEntryFile

pub file_takes : (previous bytes : List ℕ) (x : FileText × List ℕ) → file_at is_next_name previous bytes ≡ Ok x
    → TakesFile previous bytes x.0 x.1
unfolding file_at
file_takes previous bytes x e =
    let s = bind_ok (byte_at bytes) (after_size is_next_name previous) x e in
    let n = bind_ok (bytes_at (is_next_name previous) s.0.0 s.0.1) after_name x s.2 in
    let l = bind_ok (number_at n.0.1) (after_length n.0) x n.2 in
    let c = bind_ok (bytes_at is_content l.0.0 l.0.1) (after_content n.0) x l.2 in
    let front = byte_takes bytes s.0 s.1 in
    let name = bytes_takes (is_next_name previous) s.0.0 s.0.1 n.0 n.1 in
    let content = bytes_takes is_content l.0.0 l.0.1 c.0 c.1 in
    let next = next_name_is previous n.0.0 name.good in
    let taken : TakesFile previous bytes (record { file = n.0.0; bytes = c.0.0 }) c.0.1 = record {
      above = next.above;
      fits = record { is_name = next.is_name; not_journal = next.not_journal; not_long = leb-true (length c.0.0) longest_content content.good };
      parts = λ is_bytes.
          let behind_size : IsBytes s.0.1 = IsBytes-behind (s.0.0 ∷ []) s.0.1 (subst IsBytes front is_bytes) in
          let behind_name : IsBytes n.0.1 = IsBytes-behind n.0.0 n.0.1 (subst IsBytes name.parts behind_size) in
          joined length_bytes bytes s.0.1 n.0.0 n.0.1 l.0.1 c.0.0 c.0.1 s.0.0 l.0.0 front name.parts name.count (number_takes n.0.1 l.0 behind_name l.1) content.parts content.count;
    } in
    subst (λ (p : FileText × List ℕ). TakesFile previous bytes p.0 p.1) {x = (record { file = n.0.0; bytes = c.0.0 }, c.0.1)} (ok_is (record { file = n.0.0; bytes = c.0.0 }, c.0.1) x c.2) taken

pub file_again : (previous : List ℕ) (f : FileText) (rest : List ℕ) → IsEntryFile f
    → slice_cmp nat_cmp previous f.file ≡ Less → file_at is_next_name previous (spelled_file f ++ rest) ≡ Ok (f, rest)
unfolding file_at
file_again previous f rest fits above =
    let name_rest = length_bytes (length f.bytes) ++ (f.bytes ++ rest) in
    let next = next_name_from previous f.file (record { is_name = fits.is_name; not_journal = fits.not_journal; above = above }) in
    let content = bytes_again is_content f.bytes rest (le-leb (length f.bytes) longest_content fits.not_long) in
    let number = number_again (length f.bytes) (f.bytes ++ rest) (omega (arith, fits.not_long)) in
    let behind_length : after_length (f.file, name_rest) (length f.bytes, f.bytes ++ rest) ≡ Ok (f, rest) =
    bind_is (bytes_at is_content (length f.bytes) (f.bytes ++ rest)) (after_content (f.file, name_rest)) (f.bytes, rest) (Ok (f, rest)) content refl in
    let behind_name : after_name (f.file, name_rest) ≡ Ok (f, rest) =
    bind_is (number_at name_rest) (after_length (f.file, name_rest)) (length f.bytes, f.bytes ++ rest) (Ok (f, rest)) number behind_length in
    let behind_size : after_size is_next_name previous (length f.file, f.file ++ name_rest) ≡ Ok (f, rest) =
    bind_is (bytes_at (is_next_name previous) (length f.file) (f.file ++ name_rest)) after_name (f.file, name_rest) (Ok (f, rest)) (bytes_again (is_next_name previous) f.file name_rest next) behind_name in
    ap (λ (left : List ℕ). after_size is_next_name previous (length f.file, left)) (regrouped (length_bytes (length f.bytes)) f.file f.bytes rest)
    ∙ behind_size

-- what some files that were read took from the front of the bytes
abbrev pub TakesFiles : ℕ → List ℕ → List ℕ → List FileText → List ℕ → Type 0
TakesFiles = TakesItems (λ f. f.file) spelled_file IsEntryFile

pub files_takes : (count : ℕ) (previous bytes : List ℕ) (x : List FileText × List ℕ)
    → files_at is_next_name count previous bytes ≡ Ok x → TakesFiles count previous bytes x.0 x.1
unfolding files_at
files_takes = items_takes (file_at is_next_name) (λ f. f.file) spelled_file IsEntryFile file_takes

pub files_again : (previous : List ℕ) (files : List FileText) (rest : List ℕ) → Rises previous (names_of files)
    → AllByRecursion IsEntryFile files
    → files_at is_next_name (length files) previous (flat_map spelled_file files ++ rest) ≡ Ok (files, rest)
unfolding files_at
files_again = items_again (file_at is_next_name) (λ f. f.file) spelled_file IsEntryFile file_again
