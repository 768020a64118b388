-- Reading stops behind the longest beginning that an entry's body can have.
use Rattle.std.proofs.Common.{◌≡◌, ◌⊎◌, inl, inr, ℕ, zero, suc, ◌+◌, ◌-◌, ◌<◌, ◌≤◌, Bool, true, false, cond, eqb, leb, ◌&&◌, List, [], ◌∷◌, ◌++◌, length, take, drop, Option, Some, None, Result, Ok, Err, refl, sym, ap, subst, ◌∙◌, append_assoc, arith}
use Rattle.std.specs.List.{flat_map, AllByRecursion}
use Rattle.std.specs.Ordering.{nat_cmp}
use Rattle.std.specs.declared.cmp.Ordering.TheVariants.{Less}
use Rattle.std.specs.Cmp.Lexicographic.{slice_cmp}
use Rattle.std.proofs.Math.Dec.{eqb-zero-suc, eqb-suc-suc}
use Rattle.std.proofs.lemmas.Bool.{eq-eqb, leb-true, le-leb, lt-leb}
use Rattle.std.proofs.lemmas.List.{length-append, length-drop}
use Rattle.std.proofs.lemmas.List.Elements.{All-from_recursion, recursion_from_All}
use Rattle.journal_codec.specs.declared.files.FileText.{FileText}
use Rattle.journal_codec.specs.Entry.{most_files, number_of, length_bytes, spelled_file, names_of, IsEntryFile}
use Rattle.journal_codec.specs.Reading.{Fails, Field, ◌>>=◌, checked, number_at, bytes_at, is_count, count_at, is_next_name, is_content, file_at, files_at, all_of, reading_of, read_body}
use Rattle.journal_codec.specs.Places.{Beginning, Nothing, Begun, named, CanBegin, spelled_name, bytes_of, length_due, passed, IsFront, IsPlace}
use Rattle.journal_codec.proofs.FieldLemmas.{IsBytes, IsBytes-behind, ok_is, checked_ok, bytes_takes, bytes_again}
use Rattle.journal_codec.proofs.NameLemmas.{next_name_is, next_name_from, Rises, sorted_from_rises, rises_from_nothing}
use Rattle.journal_codec.proofs.BodyLemmas.{count_takes, count_again, at_end, after_count, some_names, all_takes, all_again}
use Rattle.journal_codec.proofs.ItemLemmas.{after_others, after_first}
use Rattle.journal_codec.proofs.FileLemmas.{after_content, after_length, after_name, file_takes, file_again}

-- files and perhaps a name that can come behind a name, of so many files
abbrev pub CanFollow : ℕ → List ℕ → List FileText → Option (List ℕ) → Type 0
CanFollow count previous [] None = Unit {0}
CanFollow zero previous [] (Some name) = ⊥
CanFollow (suc count) previous [] (Some name) = is_next_name previous name ≡ true
CanFollow zero previous (f ∷ files) next = ⊥
CanFollow (suc count) previous (f ∷ files) next =
    (slice_cmp nat_cmp previous f.file ≡ Less) × IsEntryFile f × CanFollow count f.file files next

-- their bytes
abbrev pub bytes_from : List FileText → Option (List ℕ) → List ℕ
bytes_from files next = flat_map spelled_file files ++ spelled_name next

-- how many bytes stand where reading stopped, or behind what was read
abbrev pub left_of : {A : Type 0} → Result (A × List ℕ) ℕ → ℕ
left_of (Ok x) = length x.1
left_of (Err left) = left

-- such texts are these, or shorter
abbrev pub IsNoLonger : List FileText → Option (List ℕ) → List FileText → Option (List ℕ) → Type 0
IsNoLonger others other files next =
    ((others ≡ files) × (other ≡ next)) ⊎ (length (bytes_from others other) < length (bytes_from files next))

-- none that the bytes begin with is longer
abbrev pub IsLongest : ℕ → List ℕ → List ℕ → List FileText → Option (List ℕ) → Type 0
IsLongest count previous bytes files next = (others : List FileText) (other : Option (List ℕ))
    → CanFollow count previous others other → IsFront (bytes_from others other) bytes
    → IsNoLonger others other files next

-- so far files can be read
pub record Stops (count : ℕ) (previous bytes : List ℕ) (left : ℕ) : Type 0 where
  pub files : List FileText
  pub next : Option (List ℕ)
  pub rest : List ℕ
  pub follows : CanFollow count previous files next
  pub parts : bytes ≡ bytes_from files next ++ rest
  pub left_is : left + passed (length_due (Begun count files next)) rest ≡ length rest
  pub longest : IsLongest count previous bytes files next

-- a field that has no reading
checked_stops : {A : Type 0} (is_good : Bool) (bytes : List ℕ) (field : A × List ℕ) (left : ℕ)
    → checked is_good bytes field ≡ Err left → (is_good ≡ false) × (left ≡ length bytes)
checked_stops true bytes field left e = absurd cc
checked_stops false bytes field left e = (refl, cc)

not_both : {A : Type 0} (r : Result A ℕ) (x : A) (left : ℕ) → r ≡ Ok x → r ≡ Err left → ⊥
not_both (Ok y) x left e d = absurd cc
not_both (Err l) x left e d = absurd cc

head_is : (a b : ℕ) (xs ys : List ℕ) → a ∷ xs ≡ b ∷ ys → a ≡ b
head_is a b xs ys e = cc

tail_is : (a b : ℕ) (xs ys : List ℕ) → a ∷ xs ≡ b ∷ ys → xs ≡ ys
tail_is a b xs ys e = cc

-- the texts behind a first file
behind_file : (f : FileText) (files : List FileText) (next : Option (List ℕ)) (rest : List ℕ)
    → bytes_from (f ∷ files) next ++ rest ≡ spelled_file f ++ (bytes_from files next ++ rest)
behind_file f files next rest =
    ap (λ (x : List ℕ). x ++ rest) (append_assoc (spelled_file f) (flat_map spelled_file files) (spelled_name next))
    ∙ append_assoc (spelled_file f) (bytes_from files next) rest

length_behind : (f : FileText) (files : List FileText) (next : Option (List ℕ))
    → length (bytes_from (f ∷ files) next) ≡ length (spelled_file f) + length (bytes_from files next)
length_behind f files next =
    ap length (append_assoc (spelled_file f) (flat_map spelled_file files) (spelled_name next))
    ∙ length-append (spelled_file f) (bytes_from files next)

-- a file is longer than its name behind its length
above_name : (f : FileText) → 1 + length f.file < length (spelled_file f)
above_name f =
    omega (arith, length-append f.file (length_bytes (length f.bytes) ++ f.bytes), length-append (length_bytes (length f.bytes)) f.bytes)

-- a first file is read
first_read : (count : ℕ) (previous bytes : List ℕ) (f : FileText) (files : List FileText) (next : Option (List ℕ))
    (rest : List ℕ) → CanFollow (suc count) previous (f ∷ files) next
    → bytes ≡ bytes_from (f ∷ files) next ++ rest
    → file_at is_next_name previous bytes ≡ Ok (f, bytes_from files next ++ rest)
first_read count previous bytes f files next rest follows is =
    ap (file_at is_next_name previous) (is ∙ behind_file f files next rest)
    ∙ file_again previous f (bytes_from files next ++ rest) follows.1 follows.0

-- and so none is where none is read
no_file : (count : ℕ) (previous bytes : List ℕ) (left : ℕ) (f : FileText) (files : List FileText)
    (next : Option (List ℕ))
    → file_at is_next_name previous bytes ≡ Err left → CanFollow (suc count) previous (f ∷ files) next
    → IsFront (bytes_from (f ∷ files) next) bytes → ⊥
no_file count previous bytes left f files next stop follows front =
    not_both (file_at is_next_name previous bytes) (f, bytes_from files next ++ front.0) left (first_read count previous bytes f files next front.0 follows front.1) stop

-- a name is read
name_read : (previous : List ℕ) (n : ℕ) (behind name rest : List ℕ) → is_next_name previous name ≡ true
    → n ∷ behind ≡ (length name ∷ name) ++ rest
    → bytes_at (is_next_name previous) n behind ≡ Ok (name, rest)
name_read previous n behind name rest good is =
    ap (λ (k : ℕ). bytes_at (is_next_name previous) k behind) (head_is n (length name) behind (name ++ rest) is)
    ∙ ap (bytes_at (is_next_name previous) (length name)) (tail_is n (length name) behind (name ++ rest) is)
    ∙ bytes_again (is_next_name previous) name rest good

-- a length that is whole is passed, and one that isn't is not
passed_whole : (due : ℕ) (rest : List ℕ) → due ≤ length rest → passed due rest ≡ due
passed_whole due rest le = rw (le-leb due (length rest) le) refl

passed_cut : (due : ℕ) (rest : List ℕ) → length rest < due → passed due rest ≡ 0
passed_cut due rest lt = rw (lt-leb due (length rest) lt) refl

-- the length of a name is due before the first file of some, and none where all are there
due_first : (count : ℕ) → length_due (Begun (suc count) [] None) ≡ 1
due_first count = rw (eqb-zero-suc count) refl

due_none : (count : ℕ) (files : List FileText) → length files ≡ count → length_due (Begun count files None) ≡ 0
due_none count files all = rw (eq-eqb (length files) count all) refl

-- so many bytes are left with that length, or without
left_from : (left due n : ℕ) (rest : List ℕ) → due ≡ n → left + passed n rest ≡ length rest
    → left + passed due rest ≡ length rest
left_from left due n rest same is = rw same is

-- no name, and no byte where its length would be
stops_at_end : (count : ℕ) (previous : List ℕ) → Stops (suc count) previous [] 0
unfolding file_at
stops_at_end count previous = record {
  files = [];
  next = None;
  rest = [];
  follows = tt;
  parts = refl;
  left_is = left_from 0 (length_due (Begun (suc count) [] None)) 1 [] (due_first count) (ap (λ (n : ℕ). 0 + n) (passed_cut 1 [] (omega arith)));
  longest = longest;
}
  where
    longest : IsLongest (suc count) previous [] [] None
    longest [] None follows front = inl (refl, refl)
    longest [] (Some name) follows front = absurd cc
    longest (f ∷ files) other follows front = absurd (no_file count previous [] 0 f files other refl follows front)

-- a name that has no reading behind its length
stops_at_name : (count : ℕ) (previous : List ℕ) (n : ℕ) (behind : List ℕ) (left : ℕ)
    → file_at is_next_name previous (n ∷ behind) ≡ Err left → bytes_at (is_next_name previous) n behind ≡ Err left
    → left ≡ length behind → Stops (suc count) previous (n ∷ behind) left
stops_at_name count previous n behind left stop no_name left_is = record {
  files = [];
  next = None;
  rest = n ∷ behind;
  follows = tt;
  parts = refl;
  left_is = left_from left (length_due (Begun (suc count) [] None)) 1 (n ∷ behind) (due_first count) (omega (arith, left_is, passed_whole 1 (n ∷ behind) (omega arith)));
  longest = longest;
}
  where
    longest : IsLongest (suc count) previous (n ∷ behind) [] None
    longest [] None follows front = inl (refl, refl)
    longest [] (Some name) follows front =
        absurd (not_both (bytes_at (is_next_name previous) n behind) (name, front.0) left (name_read previous n behind name front.0 follows front.1) no_name)
    longest (f ∷ files) other follows front =
        absurd (no_file count previous (n ∷ behind) left f files other stop follows front)

-- a name that is read, and no content behind it
stops_behind_name : (count : ℕ) (previous : List ℕ) (n : ℕ) (behind name rest : List ℕ) (left : ℕ)
    → file_at is_next_name previous (n ∷ behind) ≡ Err left
    → bytes_at (is_next_name previous) n behind ≡ Ok (name, rest) → left + passed 4 rest ≡ length rest
    → Stops (suc count) previous (n ∷ behind) left
stops_behind_name count previous n behind name rest left stop read left_is =
    let taken = bytes_takes (is_next_name previous) n behind (name, rest) read in
    record {
      files = [];
      next = Some name;
      rest = rest;
      follows = taken.good;
      parts = rw (taken.parts, taken.count) refl;
      left_is = left_is;
      longest = longest;
    }
  where
    longest : IsLongest (suc count) previous (n ∷ behind) [] (Some name)
    longest [] None follows front = inr (omega arith)
    longest [] (Some other) follows front =
        let same = ok_is (name, rest) (other, front.0) (sym read ∙ name_read previous n behind other front.0 follows front.1) in
        inl (refl, ap (λ (x : List ℕ × List ℕ). Some x.0) (sym same))
    longest (f ∷ files) other follows front =
        absurd (no_file count previous (n ∷ behind) left f files other stop follows front)

-- how many bytes are left where a content has no reading behind a name
content_stops : (name : List ℕ × List ℕ) (left : ℕ) → after_name name ≡ Err left
    → left + passed 4 name.1 ≡ length name.1
content_stops name left e = elim (number_at name.1) as (λ r. number_at name.1 ≡ r → (r >>= after_length name) ≡ Err left → left + passed 4 name.1 ≡ length name.1) [
  | Err stop ↦ λ is e.
      let c = checked_stops (leb 4 (length name.1)) name.1 (number_of (take 4 name.1), drop 4 name.1) stop is in
      let same : stop ≡ left = cc in
      rw c.0 (omega (arith, c.1, same))
  | Ok size ↦ λ is e.
      let c = checked_ok (leb 4 (length name.1)) name.1 (number_of (take 4 name.1), drop 4 name.1) size is in
      let stop = behind_length name size left e in
      let rest = ap (λ (p : ℕ × List ℕ). length p.1) c.1 in
      rw c.0 (omega (arith, leb-true 4 (length name.1) c.0, stop, rest, length-drop 4 name.1))
] refl e
  where
    behind_length : (name : List ℕ × List ℕ) (size : ℕ × List ℕ) (left : ℕ) → after_length name size ≡ Err left
        → left ≡ length size.1
    behind_length name size left e = elim (bytes_at is_content size.0 size.1) as (λ r. bytes_at is_content size.0 size.1 ≡ r → (r >>= after_content name) ≡ Err left → left ≡ length size.1) [
      | Err stop ↦ λ is e.
          let c = checked_stops (leb size.0 (length size.1) && is_content (take size.0 size.1)) size.1 (take size.0 size.1, drop size.0 size.1) stop is in
          let same : stop ≡ left = cc in
          omega (arith, c.1, same)
      | Ok content ↦ λ is e. absurd cc
    ] refl e

-- a file that has no reading
stops_in_file : (count : ℕ) (previous bytes : List ℕ) (left : ℕ) → file_at is_next_name previous bytes ≡ Err left
    → Stops (suc count) previous bytes left
unfolding file_at
stops_in_file count previous [] left e =
    let none : 0 ≡ left = cc in subst (Stops (suc count) previous []) none (stops_at_end count previous)
stops_in_file count previous (n ∷ behind) left e = elim (bytes_at (is_next_name previous) n behind) as (λ r. bytes_at (is_next_name previous) n behind ≡ r → (r >>= after_name) ≡ Err left → Stops (suc count) previous (n ∷ behind) left) [
  | Err stop ↦ λ is d.
      let same : stop ≡ left = cc in
      let c = checked_stops (leb n (length behind) && is_next_name previous (take n behind)) behind (take n behind, drop n behind) stop is in
      stops_at_name count previous n behind left e (is ∙ ap Err same) (sym same ∙ c.1)
  | Ok name ↦ λ is d. stops_behind_name count previous n behind name.0 name.1 left e is (content_stops name left d)
] refl e

left_on : (first : FileText × List ℕ) (r : Field (List FileText)) → left_of r ≡ left_of (r >>= after_others first)
left_on first (Ok x) = refl
left_on first (Err left) = refl

due_on : (count : ℕ) (f : FileText) (files : List FileText) (next : Option (List ℕ))
    → length_due (Begun count files next) ≡ length_due (Begun (suc count) (f ∷ files) next)
due_on count f files None = rw (eqb-suc-suc (length files) count) refl
due_on count f files (Some name) = refl

-- behind a file that was read
stops_on : (count : ℕ) (previous bytes : List ℕ) (x : FileText × List ℕ) (left : ℕ) → IsBytes bytes
    → file_at is_next_name previous bytes ≡ Ok x → Stops count x.0.file x.1 left → Stops (suc count) previous bytes left
stops_on count previous bytes x left is_bytes read stops =
    let taken = file_takes previous bytes x read in
    record {
      files = x.0 ∷ stops.files;
      next = stops.next;
      rest = stops.rest;
      follows = (taken.above, taken.fits, stops.follows);
      parts = taken.parts is_bytes ∙ ap (λ (y : List ℕ). spelled_file x.0 ++ y) stops.parts ∙ sym (behind_file x.0 stops.files stops.next stops.rest);
      left_is = ap (λ (due : ℕ). left + passed due stops.rest) (sym (due_on count x.0 stops.files stops.next)) ∙ stops.left_is;
      longest = longest;
    }
  where
    longer : (others : List FileText) (other : Option (List ℕ))
        → length (bytes_from others other) < length (bytes_from stops.files stops.next)
        → length (bytes_from (x.0 ∷ others) other) < length (bytes_from (x.0 ∷ stops.files) stops.next)
    longer others other lt = omega (arith, lt, length_behind x.0 others other, length_behind x.0 stops.files stops.next)

    longest : IsLongest (suc count) previous bytes (x.0 ∷ stops.files) stops.next
    longest [] None follows front = inr (omega arith)
    longest [] (Some name) follows front =
        let first : length x.0.file ∷ _ ≡ length name ∷ (name ++ front.0) = sym ((file_takes previous bytes x read).parts is_bytes) ∙ front.1 in
        let same = head_is (length x.0.file) (length name) _ _ first in
        inr (omega (arith, same, length_behind x.0 stops.files stops.next, above_name x.0))
    longest (f ∷ files) other follows front =
        let same = ok_is x (f, bytes_from files other ++ front.0) (sym read ∙ first_read count previous bytes f files other front.0 follows front.1) in
        let file : f ≡ x.0 = ap (λ (y : FileText × List ℕ). y.0) (sym same) in
        elim (stops.longest files other (subst (λ (y : FileText). CanFollow count y.file files other) file follows.2) (front.0, ap (λ (y : FileText × List ℕ). y.1) same)) [
          | inl is ↦ inl (rw (file, is.0) refl, is.1)
          | inr lt ↦ inr (rw file (longer files other lt))
        ]

-- files are read up to the first that has no reading, or up to so many
pub walks : (count : ℕ) (previous bytes : List ℕ) → IsBytes bytes
    → Stops count previous bytes (left_of (files_at is_next_name count previous bytes))
unfolding files_at
walks zero previous bytes is_bytes = record {
  files = [];
  next = None;
  rest = bytes;
  follows = tt;
  parts = refl;
  left_is = left_from (length bytes) (length_due (Begun 0 [] None)) 0 bytes (due_none 0 [] refl) (omega (arith, passed_whole 0 bytes (omega arith)));
  longest = longest;
}
  where
    longest : IsLongest 0 previous bytes [] None
    longest [] None follows front = inl (refl, refl)
    longest [] (Some name) follows front = absurd follows
    longest (f ∷ files) other follows front = absurd follows
walks (suc count) previous bytes is_bytes = elim (file_at is_next_name previous bytes) as (λ r. file_at is_next_name previous bytes ≡ r → Stops (suc count) previous bytes (left_of (r >>= after_first (file_at is_next_name) (λ f. f.file) count))) [
  | Err left ↦ λ read. stops_in_file count previous bytes left read
  | Ok x ↦ λ read.
      let behind : IsBytes x.1 = IsBytes-behind (spelled_file x.0) x.1 (subst IsBytes ((file_takes previous bytes x read).parts is_bytes) is_bytes) in
      subst (Stops (suc count) previous bytes) (left_on x (files_at is_next_name count x.0.file x.1)) (stops_on count previous bytes x (left_of (files_at is_next_name count x.0.file x.1)) is_bytes read (walks count x.0.file x.1 behind))
] refl

-- ---- a whole body

-- files that can follow nothing are the first of an entry, and such files can
follows_is : (count : ℕ) (previous : List ℕ) (files : List FileText) (next : Option (List ℕ))
    → CanFollow count previous files next
    → Rises previous (names_of (files ++ named next)) × AllByRecursion IsEntryFile (files ++ named next)
    × (length (files ++ named next) ≤ count)
follows_is count previous [] None follows = (tt, tt, omega arith)
follows_is zero previous [] (Some name) follows = absurd follows
follows_is (suc count) previous [] (Some name) follows =
    let is = next_name_is previous name follows in
    ((is.above, tt), (record { is_name = is.is_name; not_journal = is.not_journal; not_long = omega arith }, tt), omega arith)
follows_is zero previous (f ∷ files) next follows = absurd follows
follows_is (suc count) previous (f ∷ files) next follows =
    let behind = follows_is count f.file files next follows.2 in
    ((follows.0, behind.0), (follows.1, behind.1), omega (arith, behind.2))

follows_from : (count : ℕ) (previous : List ℕ) (files : List FileText) (next : Option (List ℕ))
    → Rises previous (names_of (files ++ named next)) → AllByRecursion IsEntryFile (files ++ named next)
    → length (files ++ named next) ≤ count → CanFollow count previous files next
follows_from count previous [] None rises each le = tt
follows_from zero previous [] (Some name) rises each le = absurd (omega (arith, le))
follows_from (suc count) previous [] (Some name) rises each le =
    next_name_from previous name (record { is_name = each.0.is_name; not_journal = each.0.not_journal; above = rises.0 })
follows_from zero previous (f ∷ files) next rises each le = absurd (omega (arith, le))
follows_from (suc count) previous (f ∷ files) next rises each le =
    (rises.0, each.0, follows_from count f.file files next rises.1 each.1 (omega (arith, le)))

first_from : (count : ℕ) (files : List FileText) (next : Option (List ℕ)) → 1 ≤ count → count ≤ most_files
    → CanFollow count [] files next → CanBegin (Begun count files next)
first_from count files next some few follows =
    let is = follows_is count [] files next follows in
    record {
      not_empty = some;
      not_many = few;
      within = is.2;
      ascending = sorted_from_rises [] (names_of (files ++ named next)) is.0;
      each = All-from_recursion IsEntryFile (files ++ named next) is.1;
    }

follows_nothing : (count : ℕ) (files : List FileText) (next : Option (List ℕ)) → CanBegin (Begun count files next)
    → CanFollow count [] files next
follows_nothing count files next first =
    let each = recursion_from_All IsEntryFile (files ++ named next) first.each in
    follows_from count [] files next (rises_from_nothing (names_of (files ++ named next)) (some_names (files ++ named next) each) first.ascending) each first.within

-- it is the one that is the longest
abbrev pub IsOnlyLongest : List ℕ → Beginning → Type 0
IsOnlyLongest body begun = (other : Beginning) → CanBegin other → IsFront (bytes_of other) body
    → (other ≡ begun) ⊎ (length (bytes_of other) < length (bytes_of begun))

-- where a body has no reading
pub record Ends (body : List ℕ) (left : ℕ) : Type 0 where
  pub begun : Beginning
  pub rest : List ℕ
  pub can_begin : CanBegin begun
  pub front : body ≡ bytes_of begun ++ rest
  pub left_is : left + passed (length_due begun) rest ≡ length rest
  pub longest : IsOnlyLongest body begun

-- no count
ends_before : (body : List ℕ) (left : ℕ) → count_at body ≡ Err left → left ≡ length body → Ends body left
ends_before body left stop left_is = record {
  begun = Nothing;
  rest = body;
  can_begin = tt;
  front = refl;
  left_is = omega (arith, left_is, passed_whole 0 body (omega arith));
  longest = longest;
}
  where
    longest : IsOnlyLongest body Nothing
    longest Nothing can front = inl refl
    longest (Begun count files next) can front =
        let read = ap count_at front.1 ∙ count_again count (bytes_from files next ++ front.0) can.not_empty can.not_many in
        absurd (not_both (count_at body) (count, bytes_from files next ++ front.0) left read stop)

count_stops : (body : List ℕ) (left : ℕ) → count_at body ≡ Err left → left ≡ length body
unfolding count_at
count_stops [] left e = cc
count_stops (b ∷ rest) left e = (checked_stops (is_count b) (b ∷ rest) (b, rest) left e).1

-- a count, and files behind it
ends_behind : (body : List ℕ) (x : ℕ × List ℕ) (left : ℕ) → count_at body ≡ Ok x → Stops x.0 [] x.1 left
    → Ends body left
ends_behind body x left read stops =
    let count = count_takes body x read in
    record {
      begun = Begun x.0 stops.files stops.next;
      rest = stops.rest;
      can_begin = first_from x.0 stops.files stops.next count.not_empty count.not_many stops.follows;
      front = count.parts ∙ ap (λ (y : List ℕ). x.0 ∷ y) stops.parts;
      left_is = stops.left_is;
      longest = longest;
    }
  where
    longest : IsOnlyLongest body (Begun x.0 stops.files stops.next)
    longest Nothing can front = inr (omega arith)
    longest (Begun count files next) can front =
        let is = sym (count_takes body x read).parts ∙ front.1 in
        let same : count ≡ x.0 = sym (head_is x.0 count x.1 (bytes_from files next ++ front.0) is) in
        let behind = tail_is x.0 count x.1 (bytes_from files next ++ front.0) is in
        elim (stops.longest files next (subst (λ (n : ℕ). CanFollow n [] files next) same (follows_nothing count files next can)) (front.0, behind)) [
          | inl is ↦ inl (rw (same, is.0, is.1) refl)
          | inr lt ↦ inr (omega (arith, lt))
        ]

left_at_end : (r : Field (List FileText)) (left : ℕ) → (r >>= at_end) ≡ Err left → left_of r ≡ left
left_at_end (Err stop) left e = cc
left_at_end (Ok files) left e = elim (eqb (length files.1) 0) as (λ b. cond b (Ok files.0) (Err (length files.1)) ≡ Err left → length files.1 ≡ left) [
  | true ↦ λ e. absurd cc
  | false ↦ λ e. cc
] e

ends : (body : List ℕ) (left : ℕ) → IsBytes body → all_of is_next_name body ≡ Err left → Ends body left
unfolding all_of
ends body left is_bytes e = elim (count_at body) as (λ r. count_at body ≡ r → (r >>= after_count (files_at is_next_name)) ≡ Err left → Ends body left) [
  | Err stop ↦ λ is d.
      let same : stop ≡ left = cc in
      ends_before body left (is ∙ ap Err same) (sym same ∙ count_stops body stop is)
  | Ok x ↦ λ is d.
      let behind : IsBytes x.1 = IsBytes-behind (x.0 ∷ []) x.1 (subst IsBytes (count_takes body x is).parts is_bytes) in
      ends_behind body x left is (subst (Stops x.0 [] x.1) (left_at_end (files_at is_next_name x.0 [] x.1) left d) (walks x.0 [] x.1 behind))
] refl e

fails_by : (size : ℕ) (read : Result (List FileText) ℕ) (at : ℕ) → reading_of size read ≡ Fails at
    → (left : ℕ) × (read ≡ Err left) × (at ≡ size - left)
fails_by size (Ok files) at e = absurd cc
fails_by size (Err left) at e = (left, refl, cc)

-- a body is refused behind the longest beginning that it can have
pub place_of : (body : List ℕ) (at : ℕ) → IsBytes body → read_body body ≡ Fails at → IsPlace body at
unfolding read_body
place_of body at is_bytes e =
    let stop = fails_by (length body) (all_of is_next_name body) at e in
    let end = ends body stop.0 is_bytes stop.1 in
    record {
      no_entry = λ files entry is. not_both (all_of is_next_name body) files stop.0 (ap (all_of is_next_name) (sym is) ∙ all_again files entry) stop.1;
      begun = end.begun;
      rest = end.rest;
      can_begin = end.can_begin;
      front = end.front;
      longest = λ other can front. elim (end.longest other can front) [ inl same ↦ rw same (omega arith) | inr lt ↦ omega (arith, lt) ];
      at_is = omega (arith, stop.2, end.left_is, ap length end.front, length-append (bytes_of end.begun) end.rest);
    }

-- the same bytes behind the same beginning
same_place : (body : List ℕ) (begun other : Beginning) (rest others : List ℕ) → begun ≡ other
    → body ≡ bytes_of begun ++ rest
    → body ≡ bytes_of other ++ others
    → length (bytes_of begun) + passed (length_due begun) rest
    ≡ length (bytes_of other) + passed (length_due other) others
same_place body begun other rest others same front behind =
    let long : length rest ≡ length others = omega (arith, ap length front, ap length behind, length-append (bytes_of begun) rest, length-append (bytes_of other) others, ap (λ (b : Beginning). length (bytes_of b)) same) in
    rw (same, long) refl

-- and at no other place
pub alone : (body : List ℕ) (at : ℕ) → IsBytes body → IsPlace body at → read_body body ≡ Fails at
unfolding read_body
alone body at is_bytes place = elim (all_of is_next_name body) as (λ r. all_of is_next_name body ≡ r → reading_of (length body) r ≡ Fails at) [
  | Ok files ↦ λ is.
      let read = all_takes body files is in
      absurd (place.no_entry files read.entry (read.spelling is_bytes))
  | Err left ↦ λ is.
      let end = ends body left is_bytes is in
      elim (end.longest place.begun place.can_begin (place.rest, place.front)) [
        | inl same ↦
            let here = same_place body place.begun end.begun place.rest end.rest same place.front end.front in
            let at_is : length body - left ≡ at = omega (arith, here, place.at_is, end.left_is, ap length end.front, length-append (bytes_of end.begun) end.rest) in
            ap Fails at_is
        | inr lt ↦ absurd (omega (arith, lt, place.longest end.begun end.can_begin (end.rest, end.front)))
      ]
] refl
