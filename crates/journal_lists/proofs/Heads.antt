-- The head of `journal2`: what this program writes is one, a head names its files once, and a write at its gate leaves
-- it.
use Rattle.std.proofs.Common.{◌≡◌, ℕ, ◌+◌, ◌-◌, ◌<◌, ◌≤◌, Bool, cond, List, [], ◌∷◌, ◌++◌, length, take, drop, slice_index, Result, Ok, Err, refl, sym, ap, ◌∙◌, arith}
use Rattle.std.specs.Prelude.{nat_le, ◌==◌}
use Rattle.std.proofs.lemmas.Bool.{eq-eqb, le-leb, leb-true, false_from_ne_true, eqb-true}
use Rattle.std.proofs.lemmas.Nat.{from_le_bytes-to_le_bytes_4}
use Rattle.std.proofs.Math.Seq.{take-append_seam, drop-append_seam}
use Rattle.kdb_outside.specs.Images.{IsTornWrite}
use Rattle.journal_codec.specs.Entry.{number_of}
use Rattle.journal_codec.specs.Header.{longest_header, IsHeader, spelled_header, header_bytes, read_header, all_names, placed}
use Rattle.journal_codec.proofs.FieldLemmas.{IsBytes}
use Rattle.journal_codec.proofs.HeaderLemmas.{header_again, header_is_read, header_short}
use Rattle.journal_lists.specs.Heads.{head_start, head_bytes, front, front_size, version_of, header_size, header_of, whole_header, header_or_place, IsHead}
use Rattle.journal_lists.proofs.OpenReads.{drop_drop}

-- a header that isn't too long is judged by its bytes
header_judged : (size : ℕ) (there : List ℕ) → size ≤ longest_header
    → header_or_place size there ≡ whole_header (read_header there) size (length there)
unfolding header_or_place
header_judged size there short =
    ap (λ (b : Bool). cond b (whole_header (read_header there) size (length there)) (Err 2)) (le-leb size longest_header short)

pub header_whole : (size : ℕ) (there : List ℕ) (names : List (List ℕ)) → size ≤ longest_header
    → read_header there ≡ Ok names → length there ≡ size → header_or_place size there ≡ Ok names
header_whole size there names short reads sized =
    header_judged size there short ∙ ap (λ (r : Result (List (List ℕ)) ℕ). whole_header r size (length there)) reads
    ∙ ap (λ (b : Bool). cond b (Ok names) (Err (head_start + length there))) (eq-eqb (length there) size sized)

pub header_cut : (size : ℕ) (there : List ℕ) (names : List (List ℕ)) → size ≤ longest_header
    → read_header there ≡ Ok names → ¬ (length there ≡ size)
    → header_or_place size there ≡ Err (head_start + length there)
header_cut size there names short reads cut =
    header_judged size there short ∙ ap (λ (r : Result (List (List ℕ)) ℕ). whole_header r size (length there)) reads
    ∙ ap (λ (b : Bool). cond b (Ok names) (Err (head_start + length there))) (false_from_ne_true (length there == size) (λ same. cut (eqb-true (length there) size same)))

pub header_bad : (size : ℕ) (there : List ℕ) (at : ℕ) → size ≤ longest_header → read_header there ≡ Err at
    → header_or_place size there ≡ Err (head_start + at)
header_bad size there at short reads =
    header_judged size there short ∙ ap (λ (r : Result (List (List ℕ)) ℕ). whole_header r size (length there)) reads

pub header_long : (size : ℕ) (there : List ℕ) → longest_header < size → header_or_place size there ≡ Err 2
unfolding header_or_place
header_long size there long =
    ap (λ (b : Bool). cond b (whole_header (read_header there) size (length there)) (Err 2))
    (false_from_ne_true (nat_le size longest_header) (λ short. let le = leb-true size longest_header short in omega arith))

-- the place where it isn't whole is in it
place_within : (size at : ℕ) (read : Result (List (List ℕ)) ℕ) → placed size read ≡ Err at → at ≤ size
place_within size at (Ok names) is = absurd (cc)
place_within size at (Err left) is = let placed_at : size - left ≡ at = cc in omega arith

pub header_within : (header : List ℕ) (at : ℕ) → read_header header ≡ Err at → at ≤ length header
unfolding read_header
header_within header at is = place_within (length header) at (all_names header) is

-- what is read has the length that it says
pub header_length : (header : List ℕ) (names : List (List ℕ)) → IsBytes header → read_header header ≡ Ok names
    → length (spelled_header names) ≡ length header
header_length header names bytes reads = ap length ((header_is_read header names reads).spelling bytes)

-- a head as it is written, with what stands behind it
module _ (names : List (List ℕ)) (is : IsHeader names) (rest : List ℕ) where
  size_there : header_size (front names ++ rest) ≡ length (spelled_header names)
  size_there =
      let short = header_short names is in from_le_bytes-to_le_bytes_4 (length (spelled_header names)) (omega arith)

  header_there : header_of (front names ++ rest) ≡ spelled_header names
  header_there =
      ap (λ (n : ℕ). take n (spelled_header names ++ rest)) size_there ∙ take-append_seam (spelled_header names) rest

  -- it is a head with these names
  pub front_is_head : IsHead (front names ++ rest) names
  front_is_head = record {
    version = refl;
    header =
        ap (λ (there : List ℕ). header_or_place (header_size (front names ++ rest)) there) header_there
        ∙ ap (λ (size : ℕ). header_or_place size (spelled_header names)) size_there
        ∙ header_whole (length (spelled_header names)) (spelled_header names) names (header_short names is) (header_again names is) refl;
  }

-- and behind it stands the list
pub drop_front : (names : List (List ℕ)) (rest : List ℕ) → drop (front_size names) (front names ++ rest) ≡ rest
drop_front names rest =
    sym (drop_drop (length (spelled_header names)) head_start (front names ++ rest))
    ∙ drop-append_seam (spelled_header names) rest

pub length_front : (names : List (List ℕ)) → length (front names) ≡ front_size names
length_front names = omega arith

pub front_short : (names : List (List ℕ)) → IsHeader names → front_size names ≤ 6471
front_short names is = let short = header_short names is in omega arith

-- a head's bytes with the list's first gate, closed
pub header_bytes_is : (names : List (List ℕ)) → header_bytes names ≡ head_bytes names ++ 0 ∷ []
header_bytes_is names = refl

-- a head names its files once
pub same_names : (c : List ℕ) (names others : List (List ℕ)) → IsHead c names → IsHead c others → others ≡ names
same_names c names others first second = let headers = sym second.header ∙ first.header in cc

-- what stands behind the gate is the head
version_behind : (c : List ℕ) → version_of c ≡ slice_index (drop 1 c) 0
version_behind [] = refl
version_behind (x ∷ c) = refl

abbrev size_in : List ℕ → ℕ
size_in tail = number_of (take 4 (drop 1 tail))

header_behind : (c : List ℕ)
    → header_or_place (header_size c) (header_of c)
    ≡ header_or_place (size_in (drop 1 c)) (take (size_in (drop 1 c)) (drop 5 (drop 1 c)))
header_behind c =
    let sized : drop 2 c ≡ drop 1 (drop 1 c) = sym (drop_drop 1 1 c) in
    let headed : drop 6 c ≡ drop 5 (drop 1 c) = sym (drop_drop 5 1 c) in
    λ i. header_or_place (number_of (take 4 (sized i))) (take (number_of (take 4 (sized i))) (headed i))

pub same_head : (c now : List ℕ) (names : List (List ℕ)) → drop 1 now ≡ drop 1 c → IsHead c names → IsHead now names
same_head c now names same head = record {
  version = version_behind now ∙ ap (λ (tail : List ℕ). slice_index tail 0) same ∙ sym (version_behind c) ∙ head.version;
  header =
      header_behind now ∙ ap (λ (tail : List ℕ). header_or_place (size_in tail) (take (size_in tail) (drop 5 tail))) same ∙ sym (header_behind c) ∙ head.header;
}

-- and so is the list
pub same_list : (c now : List ℕ) (names : List (List ℕ)) → drop 1 now ≡ drop 1 c
    → drop (front_size names) now ≡ drop (front_size names) c
same_list c now names same =
    let n = length (spelled_header names) in
    let placed_at : 1 + (5 + n) ≡ front_size names = omega arith in
    ap (λ (k : ℕ). drop k now) (sym placed_at) ∙ sym (drop_drop (5 + n) 1 now) ∙ ap (drop (5 + n)) same
    ∙ drop_drop (5 + n) 1 c ∙ ap (λ (k : ℕ). drop k c) placed_at

-- a torn write at the gate leaves the head
pub head_kept : (b : ℕ) (c now : List ℕ) (names : List (List ℕ)) → IsTornWrite 0 (b ∷ []) c now → IsHead c names
    → IsHead now names
head_kept b c now names torn head = same_head c now names torn.back head
