-- Headers: spelling and reading undo each other.
use Rattle.std.proofs.Common.{◌≡◌, ℕ, ◌*◌, ◌≤◌, ◌<◌, List, [], ◌∷◌, ◌++◌, length, map, All, Result, Ok, Err, refl, sym, ap, ap₂, subst, ◌∙◌, arith}
use Rattle.std.specs.List.{flat_map, AllByRecursion}
use Rattle.std.specs.Ordering.{nat_cmp}
use Rattle.std.specs.declared.cmp.Ordering.TheVariants.{Less}
use Rattle.std.specs.Cmp.Lexicographic.{slice_cmp}
use Rattle.std.proofs.lemmas.List.{append-nil, length-append}
use Rattle.std.proofs.lemmas.List.Elements.{All-from_recursion, recursion_from_All}
use Rattle.journal_codec.specs.Reading.{Field, byte_at, bytes_at, is_next_name}
use Rattle.journal_codec.specs.Header.{longest_header, IsHeaderName, IsHeader, sized_name, spelled_header, name_at, names_at, all_names, placed, read_header}
use Rattle.journal_codec.proofs.FieldLemmas.{IsBytes, IsBytes-from_All, IsBytes-behind, bind_ok, byte_takes, bytes_takes, bytes_again}
use Rattle.journal_codec.proofs.NameLemmas.{next_name_is, next_name_from, Rises, sorted_from_rises, rises_from_nothing}
use Rattle.journal_codec.proofs.ItemLemmas.{TakesItem, TakesItems, items_takes, items_again}
use Rattle.journal_codec.proofs.BodyLemmas.{count_takes, count_again, counted_takes, counted_again, spelling_is}

abbrev TakesName : List ℕ → List ℕ → List ℕ → List ℕ → Type 0
TakesName = TakesItem (λ name. name) sized_name IsHeaderName

abbrev TakesNames : ℕ → List ℕ → List ℕ → List (List ℕ) → List ℕ → Type 0
TakesNames = TakesItems (λ name. name) sized_name IsHeaderName

-- what is read behind the length of a name
abbrev after_size : List ℕ → ℕ × List ℕ → Field (List ℕ)
after_size previous size = bytes_at (is_next_name previous) size.0 size.1

name_takes : (previous bytes : List ℕ) (x : List ℕ × List ℕ) → name_at previous bytes ≡ Ok x
    → TakesName previous bytes x.0 x.1
unfolding name_at
name_takes previous bytes x e =
    let s = bind_ok (byte_at bytes) (after_size previous) x e in
    let name = bytes_takes (is_next_name previous) s.0.0 s.0.1 x s.2 in
    let next = next_name_is previous x.0 name.good in
    record {
      above = next.above;
      fits = record { is_name = next.is_name; not_journal = next.not_journal };
      parts = λ is_bytes. byte_takes bytes s.0 s.1 ∙ ap₂ (λ (n : ℕ) (behind : List ℕ). n ∷ behind) (sym name.count) name.parts;
    }

name_again : (previous name rest : List ℕ) → IsHeaderName name → slice_cmp nat_cmp previous name ≡ Less
    → name_at previous (sized_name name ++ rest) ≡ Ok (name, rest)
unfolding name_at
name_again previous name rest fits above =
    bytes_again (is_next_name previous) name rest (next_name_from previous name (record { is_name = fits.is_name; not_journal = fits.not_journal; above = above }))

names_takes : (count : ℕ) (previous bytes : List ℕ) (x : List (List ℕ) × List ℕ) → names_at count previous bytes ≡ Ok x
    → TakesNames count previous bytes x.0 x.1
unfolding names_at
names_takes = items_takes name_at (λ name. name) sized_name IsHeaderName name_takes

map_same : (names : List (List ℕ)) → map (λ name. name) names ≡ names
map_same [] = refl
map_same (name ∷ names) = ap (λ (others : List (List ℕ)). name ∷ others) (map_same names)

-- a header that was read is the spelling of its names
pub record IsReadHeader (header : List ℕ) (names : List (List ℕ)) : Type 0 where
  pub good : IsHeader names
  pub spelling : IsBytes header → spelled_header names ≡ header

names_take : (header : List ℕ) (names : List (List ℕ)) → all_names header ≡ Ok names → IsReadHeader header names
unfolding all_names
names_take header names e =
    let all = counted_takes names_at header names e in
    let count = count_takes header (all.count, all.behind) all.first in
    let taken = names_takes all.count [] all.behind (names, []) all.others in
    record {
      good = record {
        not_empty = omega (arith, taken.number, count.not_empty);
        not_many = omega (arith, taken.number, count.not_many);
        ascending = sorted_from_rises [] names (subst (Rises []) (map_same names) taken.rises);
        each = All-from_recursion IsHeaderName names taken.fits;
      };
      spelling = λ is_bytes.
          let behind : IsBytes all.behind = IsBytes-behind (all.count ∷ []) all.behind (subst IsBytes count.parts is_bytes) in
          spelling_is sized_name header all.behind all.count names count.parts (taken.parts behind) taken.number;
    }

some_letters : (names : List (List ℕ)) → AllByRecursion IsHeaderName names
    → AllByRecursion (λ name. 1 ≤ length name) names
some_letters [] fits = tt
some_letters (name ∷ names) fits = (fits.0.is_name.not_empty, some_letters names fits.1)

names_read : (names : List (List ℕ)) → IsHeader names → all_names (spelled_header names) ≡ Ok names
unfolding all_names names_at
names_read names header =
    let behind = flat_map sized_name names in
    let each = recursion_from_All IsHeaderName names header.each in
    let rises = subst (Rises []) (sym (map_same names)) (rises_from_nothing names (some_letters names each) header.ascending) in
    let read : names_at (length names) [] behind ≡ Ok (names, []) =
    ap (names_at (length names) []) (sym (append-nil behind)) ∙ items_again name_at (λ name. name) sized_name IsHeaderName name_again [] names [] rises each in
    counted_again names_at (spelled_header names) names (length names) behind (count_again (length names) behind header.not_empty header.not_many) read

-- what is spelled is read
pub header_again : (names : List (List ℕ)) → IsHeader names → read_header (spelled_header names) ≡ Ok names
unfolding read_header
header_again names header = ap (placed (length (spelled_header names))) (names_read names header)

placed_by : (size : ℕ) (read : Result (List (List ℕ)) ℕ) (names : List (List ℕ)) → placed size read ≡ Ok names
    → read ≡ Ok names
placed_by size (Ok found) names e = e
placed_by size (Err left) names e = absurd cc

-- and what is read is spelled so
pub header_is_read : (header : List ℕ) (names : List (List ℕ)) → read_header header ≡ Ok names
    → IsReadHeader header names
unfolding read_header
header_is_read header names e = names_take header names (placed_by (length header) (all_names header) names e)

pub spelling_of_header : (header : List ℕ) (names : List (List ℕ)) → All (λ b. b < 256) header
    → read_header header ≡ Ok names → spelled_header names ≡ header
spelling_of_header header names bytes e = (header_is_read header names e).spelling (IsBytes-from_All header bytes)

same_names : (names others : List (List ℕ)) → placed 0 (Ok names) ≡ placed 0 (Ok others) → names ≡ others
same_names names others e = cc

pub headers_apart : (names others : List (List ℕ)) → IsHeader names → IsHeader others
    → spelled_header names ≡ spelled_header others → names ≡ others
headers_apart names others one other e =
    same_names names others (sym (header_again names one) ∙ ap read_header e ∙ header_again others other)

names_short : (names : List (List ℕ)) → AllByRecursion IsHeaderName names
    → length (flat_map sized_name names) ≤ 101 * length names
names_short [] fits = omega arith
names_short (name ∷ names) fits =
    omega (arith, length-append (sized_name name) (flat_map sized_name names), fits.0.is_name.not_long, names_short names fits.1)

pub header_short : (names : List (List ℕ)) → IsHeader names → length (spelled_header names) ≤ longest_header
header_short names header =
    omega (arith, names_short names (recursion_from_All IsHeaderName names header.each), header.not_many)
