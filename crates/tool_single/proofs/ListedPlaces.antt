-- The place that is told of a body behind a header is where it goes wrong.
use Rattle.std.proofs.Common.{◌≡◌, ◌⊎◌, inl, inr, ℕ, zero, suc, ◌+◌, ◌-◌, ◌<◌, ◌≤◌, Bool, true, false, ◌&&◌, leb, List, [], ◌∷◌, ◌++◌, length, take, drop, All, Some, Result, Ok, Err, refl, sym, ap, ap₂, subst, ◌∙◌, append_assoc, arith}
use Rattle.std.specs.List.{flat_map, AllByRecursion}
use Rattle.std.proofs.lemmas.Bool.{and_from, and_parts}
use Rattle.std.proofs.lemmas.List.{length-append, take_at}
use Rattle.std.proofs.lemmas.List.Elements.{All-from_recursion, recursion_from_All}
use Rattle.journal_codec.specs.declared.files.FileText.{FileText}
use Rattle.journal_codec.specs.Entry.{spelled_file, names_of, IsEntryFile}
use Rattle.journal_codec.specs.Forms.{followed, uncounted}
use Rattle.journal_codec.specs.Listed.{is_listed, are_listed, is_next_of, read_listed}
use Rattle.journal_codec.specs.Places.{Begun, IsPlace, spelled_name}
use Rattle.journal_codec.specs.Reading.{Field, ◌>>=◌, NameRule, Reading, Reads, Fails, byte_at, number_at, bytes_at, checked, count_at, is_content, is_next_name, file_at, files_at, all_of, reading_of, read_body}
use Rattle.journal_codec.proofs.BodyLemmas.{after_count, at_end, count_again, count_takes, some_names}
use Rattle.journal_codec.proofs.FieldLemmas.{IsBytes, IsBytes-behind, IsBytes-from_All, bind_is, bind_ok, bytes_again, bytes_takes, checked_ok, ok_is}
use Rattle.journal_codec.proofs.FileLemmas.{after_content, after_length, after_name, after_size, file_again, file_takes}
use Rattle.journal_codec.proofs.FormLemmas.{IsBytes-uncounted, length-uncounted}
use Rattle.journal_codec.proofs.ItemLemmas.{after_first, after_others, items_alike, items_keep}
use Rattle.journal_codec.proofs.ListedLemmas.{listed_ends, listed_is_read, listed_reads}
use Rattle.journal_codec.proofs.NameLemmas.{next_name_is, Rises, rises_from_nothing, sorted_from_rises}
use Rattle.journal_codec.proofs.PlaceLemmas.{alone, place_of}
use Rattle.tool_single.specs.Places.{IsStrangeName, IsWrongListed, LastOne, StrangeName, WrongBody}

-- the rule of a header's names
abbrev of_names : List (List ℕ) → NameRule
of_names names = is_next_of (Some names)

-- ---- tests

and_cut : (a b c : Bool) → (a && b) ≡ false → (a && (b && c)) ≡ false
and_cut true true c e = absurd cc
and_cut true false c e = refl
and_cut false b c e = refl

and_last : (a b c : Bool) → c ≡ false → (a && (b && c)) ≡ false
and_last true true c e = e
and_last true false c e = refl
and_last false b c e = refl

checked_not : {A : Type 0} (is_good : Bool) (bytes : List ℕ) (field : A × List ℕ) (left : ℕ)
    → checked is_good bytes field ≡ Err left → (is_good ≡ false) × (left ≡ length bytes)
checked_not true bytes field left e = absurd cc
checked_not false bytes field left e = (refl, cc)

-- ---- one file

-- a name that isn't of these stands behind another one, with so many bytes from it on
record StrangeHere (names : List (List ℕ)) (previous bytes : List ℕ) (left : ℕ) : Type 0 where
  pub name : List ℕ
  pub rest : List ℕ
  pub next : is_next_name previous name ≡ true
  pub strange : is_listed names name ≡ false
  pub parts : bytes ≡ (length name ∷ name) ++ rest
  pub left_is : left ≡ length name + length rest

-- a name that was read is read by the rule of some names too, if it is one of them, and else it is strange
name_by : (names : List (List ℕ)) (previous : List ℕ) (n : ℕ) (behind : List ℕ) (name : List ℕ × List ℕ)
    → bytes_at (is_next_name previous) n behind ≡ Ok name → is_listed names name.0 ≡ true
    → bytes_at (of_names names previous) n behind ≡ Ok name
name_by names previous n behind name read listed =
    let taken = bytes_takes (is_next_name previous) n behind name read in
    ap₂ (bytes_at (of_names names previous)) (sym taken.count) taken.parts
    ∙ bytes_again (of_names names previous) name.0 name.1 (and_from (is_next_name previous name.0) (is_listed names name.0) taken.good listed)

name_plain : (names : List (List ℕ)) (previous : List ℕ) (n : ℕ) (behind : List ℕ) (name : List ℕ × List ℕ)
    → bytes_at (of_names names previous) n behind ≡ Ok name
    → (bytes_at (is_next_name previous) n behind ≡ Ok name) × (is_listed names name.0 ≡ true)
name_plain names previous n behind name read =
    let taken = bytes_takes (of_names names previous) n behind name read in
    let both = and_parts (is_next_name previous name.0) (is_listed names name.0) taken.good in
    (ap₂ (bytes_at (is_next_name previous)) (sym taken.count) taken.parts ∙ bytes_again (is_next_name previous) name.0 name.1 both.0, both.1)

name_strange : (names : List (List ℕ)) (previous : List ℕ) (n : ℕ) (behind : List ℕ) (name : List ℕ × List ℕ)
    → bytes_at (is_next_name previous) n behind ≡ Ok name → is_listed names name.0 ≡ false
    → bytes_at (of_names names previous) n behind ≡ Err (length behind)
name_strange names previous n behind name read strange =
    let c = checked_ok (leb n (length behind) && is_next_name previous (take n behind)) behind (take n behind, drop n behind) name read in
    let here : take n behind ≡ name.0 = ap (λ (p : List ℕ × List ℕ). p.0) c.1 in
    ap (λ (good : Bool). checked good behind (take n behind, drop n behind))
    (and_last (leb n (length behind)) (is_next_name previous (take n behind)) (is_listed names (take n behind)) (ap (is_listed names) here ∙ strange))

name_cut : (names : List (List ℕ)) (previous : List ℕ) (n : ℕ) (behind : List ℕ) (left : ℕ)
    → bytes_at (is_next_name previous) n behind ≡ Err left
    → bytes_at (of_names names previous) n behind ≡ Err left
name_cut names previous n behind left read =
    let c = checked_not (leb n (length behind) && is_next_name previous (take n behind)) behind (take n behind, drop n behind) left read in
    ap (λ (good : Bool). checked good behind (take n behind, drop n behind)) (and_cut (leb n (length behind)) (is_next_name previous (take n behind)) (is_listed names (take n behind)) c.0)
    ∙ ap Err (sym c.1)

err_is : {A : Type 0} (a b : ℕ) → ◌≡◌ {A = Result A ℕ} (Err a) (Err b) → a ≡ b
err_is a b e = cc

-- a file that isn't read by these names isn't read at all, or has a strange name
file_compare : (names : List (List ℕ)) (previous bytes : List ℕ) (left : ℕ)
    → file_at (of_names names) previous bytes ≡ Err left
    → (file_at is_next_name previous bytes ≡ Err left) ⊎ StrangeHere names previous bytes left
unfolding file_at
file_compare names previous [] left e = inl e
file_compare names previous (n ∷ behind) left e = elim (bytes_at (is_next_name previous) n behind) as
    (λ r. bytes_at (is_next_name previous) n behind ≡ r → (file_at is_next_name previous (n ∷ behind) ≡ Err left) ⊎ StrangeHere names previous (n ∷ behind) left) [
      | Err stop ↦ λ is.
          let other : Err stop ≡ Err left = sym (ap (λ (r : Field (List ℕ)). r >>= after_name) (name_cut names previous n behind stop is)) ∙ e in
          inl (ap (λ (r : Field (List ℕ)). r >>= after_name) is ∙ other)
      | Ok name ↦ λ is. by name is (is_listed names name.0) refl
    ] refl
  where
    by : (name : List ℕ × List ℕ) → bytes_at (is_next_name previous) n behind ≡ Ok name → (listed : Bool)
        → is_listed names name.0 ≡ listed
        → (file_at is_next_name previous (n ∷ behind) ≡ Err left) ⊎ StrangeHere names previous (n ∷ behind) left
    by name is true listed =
        inl (ap (λ (r : Field (List ℕ)). r >>= after_name) is ∙ sym (ap (λ (r : Field (List ℕ)). r >>= after_name) (name_by names previous n behind name is listed)) ∙ e)
    by name is false listed =
        let taken = bytes_takes (is_next_name previous) n behind name is in
        let stop : length behind ≡ left = err_is (length behind) left (sym (ap (λ (r : Field (List ℕ)). r >>= after_name) (name_strange names previous n behind name is listed)) ∙ e) in
        inr (record {
          name = name.0;
          rest = name.1;
          next = taken.good;
          strange = listed;
          parts = ap₂ (λ (k : ℕ) (bs : List ℕ). k ∷ bs) (sym taken.count) taken.parts;
          left_is = omega (arith, stop, ap length taken.parts, length-append name.0 name.1);
        })

-- the name of a file that was read
name_of_file : (name : List ℕ × List ℕ) (x : FileText × List ℕ) → after_name name ≡ Ok x → name.0 ≡ x.0.file
name_of_file name x e =
    let l = bind_ok (number_at name.1) (after_length name) x e in
    let c = bind_ok (bytes_at is_content l.0.0 l.0.1) (after_content name) x l.2 in
    ap (λ (p : FileText × List ℕ). p.0.file) (ok_is (record { file = name.0; bytes = c.0.0 }, c.0.1) x c.2)

file_plain : (names : List (List ℕ)) (previous bytes : List ℕ) (x : FileText × List ℕ)
    → file_at (of_names names) previous bytes ≡ Ok x
    → (file_at is_next_name previous bytes ≡ Ok x) × (is_listed names x.0.file ≡ true)
unfolding file_at
file_plain names previous bytes x e =
    let s = bind_ok (byte_at bytes) (after_size (of_names names) previous) x e in
    let n = bind_ok (bytes_at (of_names names previous) s.0.0 s.0.1) after_name x s.2 in
    let plain = name_plain names previous s.0.0 s.0.1 n.0 n.1 in (
      bind_is (byte_at bytes) (after_size is_next_name previous) s.0 (Ok x) s.1 (bind_is (bytes_at (is_next_name previous) s.0.0 s.0.1) after_name n.0 (Ok x) plain.0 n.2),
      subst (λ (text : List ℕ). is_listed names text ≡ true) (name_of_file n.0 x n.2) plain.1,
    )

file_of_names : (names : List (List ℕ)) (previous bytes : List ℕ) (x : FileText × List ℕ)
    → file_at is_next_name previous bytes ≡ Ok x → is_listed names x.0.file ≡ true
    → file_at (of_names names) previous bytes ≡ Ok x
unfolding file_at
file_of_names names previous bytes x e listed =
    let s = bind_ok (byte_at bytes) (after_size is_next_name previous) x e in
    let n = bind_ok (bytes_at (is_next_name previous) s.0.0 s.0.1) after_name x s.2 in
    let read = name_by names previous s.0.0 s.0.1 n.0 n.1 (subst (λ (text : List ℕ). is_listed names text ≡ true) (sym (name_of_file n.0 x n.2)) listed) in
    bind_is (byte_at bytes) (after_size (of_names names) previous) s.0 (Ok x) s.1 (bind_is (bytes_at (of_names names previous) s.0.0 s.0.1) after_name n.0 (Ok x) read n.2)

-- ---- so many files

-- a name alone, as a file
abbrev stub : List ℕ → FileText
stub name = record { file = name; bytes = [] }

-- behind files of these names stands a strange one
record StrangeFrom (names : List (List ℕ)) (count : ℕ) (previous bytes : List ℕ) (left : ℕ) : Type 0 where
  pub files : List FileText
  pub name : List ℕ
  pub rest : List ℕ
  pub within : length (files ++ stub name ∷ []) ≤ count
  pub rises : Rises previous (names_of (files ++ stub name ∷ []))
  pub each : AllByRecursion IsEntryFile (files ++ stub name ∷ [])
  pub listed : are_listed names files ≡ true
  pub strange : is_listed names name ≡ false
  pub parts : bytes ≡ (flat_map spelled_file files ++ (length name ∷ name)) ++ rest
  pub left_is : left ≡ length name + length rest

others_stop : (first : FileText × List ℕ) (r : Field (List FileText)) (left : ℕ) → (r >>= after_others first) ≡ Err left
    → r ≡ Err left
others_stop first (Ok x) left e = absurd cc
others_stop first (Err stop) left e = cc

strange_first : (names : List (List ℕ)) (count : ℕ) (previous bytes : List ℕ) (left : ℕ)
    → StrangeHere names previous bytes left → StrangeFrom names (suc count) previous bytes left
strange_first names count previous bytes left here =
    let next = next_name_is previous here.name here.next in
    record {
      files = [];
      name = here.name;
      rest = here.rest;
      within = omega arith;
      rises = (next.above, tt);
      each = (record { is_name = next.is_name; not_journal = next.not_journal; not_long = omega arith }, tt);
      listed = refl;
      strange = here.strange;
      parts = here.parts;
      left_is = here.left_is;
    }

strange_more : (names : List (List ℕ)) (count : ℕ) (previous bytes : List ℕ) (x : FileText × List ℕ) (left : ℕ)
    → IsBytes bytes → file_at is_next_name previous bytes ≡ Ok x → is_listed names x.0.file ≡ true
    → StrangeFrom names count x.0.file x.1 left → StrangeFrom names (suc count) previous bytes left
strange_more names count previous bytes x left is_bytes read listed more =
    let taken = file_takes previous bytes x read in
    let within = more.within in
    record {
      files = x.0 ∷ more.files;
      name = more.name;
      rest = more.rest;
      within = omega (arith, within);
      rises = (taken.above, more.rises);
      each = (taken.fits, more.each);
      listed = and_from (is_listed names x.0.file) (are_listed names more.files) listed more.listed;
      strange = more.strange;
      parts = taken.parts is_bytes ∙ ap (λ (behind : List ℕ). spelled_file x.0 ++ behind) more.parts ∙ sym (regrouped (spelled_file x.0) (flat_map spelled_file more.files) (length more.name ∷ more.name) more.rest);
      left_is = more.left_is;
    }
  where
    regrouped : (a b c d : List ℕ) → ((a ++ b) ++ c) ++ d ≡ a ++ ((b ++ c) ++ d)
    regrouped a b c d = simp append_assoc

compare : (names : List (List ℕ)) (count : ℕ) (previous bytes : List ℕ) (left : ℕ) → IsBytes bytes
    → files_at (of_names names) count previous bytes ≡ Err left
    → (files_at is_next_name count previous bytes ≡ Err left) ⊎ StrangeFrom names count previous bytes left
unfolding files_at
compare names zero previous bytes left is_bytes e = absurd cc
compare names (suc count) previous bytes left is_bytes e = elim (file_at (of_names names) previous bytes) as
    (λ r. file_at (of_names names) previous bytes ≡ r → (r >>= after_first (file_at (of_names names)) (λ f. f.file) count) ≡ Err left
    → (files_at is_next_name (suc count) previous bytes ≡ Err left) ⊎ StrangeFrom names (suc count) previous bytes left) [
      | Err stop ↦ λ is d.
          let same : stop ≡ left = cc in
          elim (file_compare names previous bytes left (is ∙ ap Err same)) as (λ x. (files_at is_next_name (suc count) previous bytes ≡ Err left) ⊎ StrangeFrom names (suc count) previous bytes left) [
            | inl plain ↦ inl (ap (λ (r : Field FileText). r >>= after_first (file_at is_next_name) (λ f. f.file) count) plain)
            | inr here ↦ inr (strange_first names count previous bytes left here)
          ]
      | Ok x ↦ λ is d.
          let plain = file_plain names previous bytes x is in
          let behind : IsBytes x.1 = IsBytes-behind (spelled_file x.0) x.1 (subst IsBytes ((file_takes previous bytes x plain.0).parts is_bytes) is_bytes) in
          elim (compare names count x.0.file x.1 left behind (others_stop x (files_at (of_names names) count x.0.file x.1) left d)) as
          (λ y. (files_at is_next_name (suc count) previous bytes ≡ Err left) ⊎ StrangeFrom names (suc count) previous bytes left) [
            | inl others ↦ inl (bind_is (file_at is_next_name previous bytes) (after_first (file_at is_next_name) (λ f. f.file) count) x (Err left) plain.0 (ap (λ (r : Field (List FileText)). r >>= after_others x) others))
            | inr more ↦ inr (strange_more names count previous bytes x left is_bytes plain.0 plain.1 more)
          ]
    ] refl e

-- bytes that keep no rule aren't taken
bytes_none : (rule : List ℕ → Bool) (text rest : List ℕ) → rule text ≡ false
    → bytes_at rule (length text) (text ++ rest) ≡ Err (length (text ++ rest))
bytes_none rule text rest bad =
    ap (λ (good : Bool). checked good (text ++ rest) (take (length text) (text ++ rest), drop (length text) (text ++ rest)))
    (no (leb (length text) (length (text ++ rest))) (rule (take (length text) (text ++ rest))) (ap rule (take_at text rest (length text) refl) ∙ bad))
  where
    no : (a b : Bool) → b ≡ false → (a && b) ≡ false
    no true b e = e
    no false b e = refl

-- and reading by these names stops at a strange one
strange_stops : (names : List (List ℕ)) (count : ℕ) (previous : List ℕ) (files : List FileText) (name rest : List ℕ)
    → length (files ++ stub name ∷ []) ≤ count → Rises previous (names_of (files ++ stub name ∷ []))
    → AllByRecursion IsEntryFile (files ++ stub name ∷ []) → are_listed names files ≡ true
    → is_listed names name ≡ false
    → files_at (of_names names) count previous ((flat_map spelled_file files ++ (length name ∷ name)) ++ rest)
    ≡ Err (length name + length rest)
unfolding files_at file_at
strange_stops names zero previous [] name rest within rises each listed strange = absurd (omega (arith, within))
strange_stops names zero previous (f ∷ files) name rest within rises each listed strange =
    absurd (omega (arith, within))
strange_stops names (suc count) previous [] name rest within rises each listed strange =
    let after = after_first (file_at (of_names names)) (λ (f : FileText). f.file) count in
    ap (λ (r : Field (List ℕ)). (r >>= after_name) >>= after) (bytes_none (of_names names previous) name rest (no (is_next_name previous name) (is_listed names name) strange))
    ∙ ap Err (length-append name rest)
  where
    no : (a b : Bool) → b ≡ false → (a && b) ≡ false
    no true b e = e
    no false b e = refl
strange_stops names (suc count) previous (f ∷ files) name rest within rises each listed strange =
    let more = (flat_map spelled_file files ++ (length name ∷ name)) ++ rest in
    let both = and_parts (is_listed names f.file) (are_listed names files) listed in
    let first = file_of_names names previous (spelled_file f ++ more) (f, more) (file_again previous f more each.0 rises.0) both.0 in
    ap (λ (bytes : List ℕ). file_at (of_names names) previous bytes >>= after_first (file_at (of_names names)) (λ x. x.file) count) (regrouped (spelled_file f) (flat_map spelled_file files) (length name ∷ name) rest)
    ∙ bind_is (file_at (of_names names) previous (spelled_file f ++ more)) (after_first (file_at (of_names names)) (λ x. x.file) count) (f, more) (Err (length name + length rest)) first
    (ap (λ (r : Field (List FileText)). r >>= after_others (f, more)) (strange_stops names count f.file files name rest (omega (arith, within)) rises.1 each.1 both.1 strange))
  where
    regrouped : (a b c d : List ℕ) → ((a ++ b) ++ c) ++ d ≡ a ++ ((b ++ c) ++ d)
    regrouped a b c d = simp append_assoc

-- ---- a whole body

strange_of : (names : List (List ℕ)) (body : List ℕ) (x : ℕ × List ℕ) (left : ℕ) → count_at body ≡ Ok x
    → StrangeFrom names x.0 [] x.1 left → IsStrangeName names body (length body - left)
strange_of names body x left is from =
    let count = count_takes body x is in
    let front = count.parts ∙ ap (λ (behind : List ℕ). x.0 ∷ behind) from.parts in
    let ascends = sorted_from_rises [] (names_of (from.files ++ stub from.name ∷ [])) from.rises in
    record {
      count = x.0;
      files = from.files;
      name = from.name;
      can_begin = record { not_empty = count.not_empty; not_many = count.not_many; within = from.within; ascending = ascends; each = All-from_recursion IsEntryFile (from.files ++ stub from.name ∷ []) from.each };
      front = (from.rest, front);
      listed = from.listed;
      strange = from.strange;
      at_is =
          omega (
            arith,
            from.left_is,
            ap length front,
            length-append (x.0 ∷ (flat_map spelled_file from.files ++ (length from.name ∷ from.name))) from.rest,
            length-append (flat_map spelled_file from.files) (length from.name ∷ from.name),
            length-append (flat_map spelled_file from.files) [],
          );
    }

plain_files : (names : List (List ℕ)) (x : ℕ × List ℕ) (y : List FileText × List ℕ)
    → files_at (of_names names) x.0 [] x.1 ≡ Ok y → files_at is_next_name x.0 [] x.1 ≡ Ok y
unfolding files_at
plain_files names x y reads =
    let listed = items_keep (file_at (of_names names)) (λ f. f.file) (λ f. is_listed names f.file) (λ previous bytes z read. (file_plain names previous bytes z read).1) x.0 [] x.1 y reads in
    items_alike (file_at (of_names names)) (file_at is_next_name) (λ f. f.file) (λ f. is_listed names f.file) (λ previous bytes z read good. (file_plain names previous bytes z read).0) x.0 [] x.1 y reads listed

compare_all : (names : List (List ℕ)) (body : List ℕ) (left : ℕ) → IsBytes body
    → all_of (of_names names) body ≡ Err left
    → (all_of is_next_name body ≡ Err left) ⊎ IsStrangeName names body (length body - left)
unfolding all_of
compare_all names body left is_bytes e = elim (count_at body) as
    (λ r. count_at body ≡ r → (r >>= after_count (files_at (of_names names))) ≡ Err left → (all_of is_next_name body ≡ Err left) ⊎ IsStrangeName names body (length body - left)) [
      | Err stop ↦ λ is d. inl (ap (λ (r : Field ℕ). r >>= after_count (files_at is_next_name)) is ∙ d)
      | Ok x ↦ λ is d. by x is (files_at (of_names names) x.0 [] x.1) refl d
    ] refl e
  where
    by : (x : ℕ × List ℕ) → count_at body ≡ Ok x → (r : Field (List FileText))
        → files_at (of_names names) x.0 [] x.1 ≡ r → (r >>= at_end) ≡ Err left
        → (all_of is_next_name body ≡ Err left) ⊎ IsStrangeName names body (length body - left)
    by x is (Err stop) reads d =
        let same : stop ≡ left = cc in
        let behind : IsBytes x.1 = IsBytes-behind (x.0 ∷ []) x.1 (subst IsBytes (count_takes body x is).parts is_bytes) in
        elim (compare names x.0 [] x.1 left behind (reads ∙ ap Err same)) as (λ y. (all_of is_next_name body ≡ Err left) ⊎ IsStrangeName names body (length body - left)) [
          | inl plain ↦ inl (bind_is (count_at body) (after_count (files_at is_next_name)) x (Err left) is (ap (λ (r : Field (List FileText)). r >>= at_end) plain))
          | inr from ↦ inr (strange_of names body x left is from)
        ]
    by x is (Ok y) reads d =
        let plain = plain_files names x y reads in
        inl (bind_is (count_at body) (after_count (files_at is_next_name)) x (Err left) is (ap (λ (r : Field (List FileText)). r >>= at_end) plain ∙ d))

-- where a strange name stands, reading by these names stops there
strange_all : (names : List (List ℕ)) (body : List ℕ) (at : ℕ) (is : IsStrangeName names body at)
    → all_of (of_names names) body ≡ Err (length is.name + length is.front.0)
unfolding all_of
strange_all names body at is =
    let first = is.can_begin in
    let texts = is.files ++ stub is.name ∷ [] in
    let each = recursion_from_All IsEntryFile texts first.each in
    let rises = rises_from_nothing (names_of texts) (some_names texts each) first.ascending in
    let behind = (flat_map spelled_file is.files ++ (length is.name ∷ is.name)) ++ is.front.0 in
    ap (all_of (of_names names)) is.front.1
    ∙ bind_is (count_at (is.count ∷ behind)) (after_count (files_at (of_names names))) (is.count, behind) (Err (length is.name + length is.front.0)) (count_again is.count behind first.not_empty first.not_many)
    (ap (λ (r : Field (List FileText)). r >>= at_end) (strange_stops names is.count [] is.files is.name is.front.0 first.within rises each is.listed is.strange))

-- the bytes from a strange name on
strange_left : (names : List (List ℕ)) (body : List ℕ) (at : ℕ) (is : IsStrangeName names body at)
    → at + (length is.name + length is.front.0) ≡ length body
strange_left names body at is =
    omega (
      arith,
      is.at_is,
      ap length is.front.1,
      length-append (is.count ∷ (flat_map spelled_file is.files ++ (length is.name ∷ is.name))) is.front.0,
      length-append (flat_map spelled_file is.files) (length is.name ∷ is.name),
      length-append (flat_map spelled_file is.files) [],
    )

each_last : (files : List FileText) (f : FileText) → AllByRecursion IsEntryFile (files ++ f ∷ []) → IsEntryFile f
each_last [] f each = each.0
each_last (first ∷ files) f each = each_last files f each.1

strange_some : (names : List (List ℕ)) (body : List ℕ) (at : ℕ) (is : IsStrangeName names body at) → 1 ≤ length is.name
strange_some names body at is =
    let each = recursion_from_All IsEntryFile (is.files ++ stub is.name ∷ []) is.can_begin.each in
    (each_last is.files (stub is.name) each).is_name.not_empty

-- ---- as it is read

fails_by : (size : ℕ) (read : Result (List FileText) ℕ) (at : ℕ) → reading_of size read ≡ Fails at
    → (left : ℕ) × (read ≡ Err left) × (at ≡ size - left)
fails_by size (Ok files) at e = absurd cc
fails_by size (Err left) at e = (left, refl, cc)

fails_is : (a b : ℕ) → Fails a ≡ Fails b → a ≡ b
fails_is a b e = cc

module _ (names : List (List ℕ)) (body : List ℕ) (bytes : All (λ b. b < 256) body) where
  plain_bytes : IsBytes (uncounted body)
  plain_bytes = IsBytes-uncounted body (IsBytes-from_All body bytes)

  -- a body that isn't read fails as each body does, or at a strange name
  listed_splits : (at : ℕ) → followed body ≡ true → read_listed names body ≡ Fails at
      → (read_body (uncounted body) ≡ Fails at) ⊎ IsStrangeName names (uncounted body) at
  unfolding read_body
  listed_splits at goes_on reads =
      let stop = fails_by (length body) (all_of (of_names names) (uncounted body)) at (sym (listed_reads names body (all_of (of_names names) (uncounted body)) goes_on refl) ∙ reads) in
      let sized : length (uncounted body) - stop.0 ≡ at = omega (arith, stop.2, length-uncounted body) in
      elim (compare_all names (uncounted body) stop.0 plain_bytes stop.1) as (λ x. (read_body (uncounted body) ≡ Fails at) ⊎ IsStrangeName names (uncounted body) at) [
        | inl plain ↦ inl (ap (reading_of (length (uncounted body))) plain ∙ ap Fails sized)
        | inr strange ↦ inr (subst (IsStrangeName names (uncounted body)) sized strange)
      ]

  -- a strange name is where the reading stops
  strange_reads : (at : ℕ) → followed body ≡ true → IsStrangeName names (uncounted body) at
      → read_listed names body ≡ Fails at
  strange_reads at goes_on strange =
      let left = strange_left names (uncounted body) at strange in
      listed_reads names body (Err (length strange.name + length strange.front.0)) goes_on (strange_all names (uncounted body) at strange)
      ∙ ap Fails (omega (arith, left, length-uncounted body))

  -- and no place behind it is told
  none_strange : (at : ℕ) → followed body ≡ true → read_listed names body ≡ Fails at → IsPlace (uncounted body) at
      → (other : ℕ) → ¬ IsStrangeName names (uncounted body) other
  none_strange at goes_on reads place other strange =
      let same : other ≡ at = fails_is other at (sym (strange_reads other goes_on strange) ∙ reads) in
      let long = place.longest (Begun strange.count strange.files (Some strange.name)) strange.can_begin strange.front in
      let flat = flat_map spelled_file strange.files in
      omega (arith, same, long, place.at_is, strange.at_is, strange_some names (uncounted body) other strange, length-append flat (spelled_name (Some strange.name)), length-append flat [])

  pub listed_told : (at : ℕ) → read_listed names body ≡ Fails at → IsWrongListed names body at
  listed_told at reads = by (followed body) refl
    where
      by : (b : Bool) → followed body ≡ b → IsWrongListed names body at
      by false ends = LastOne ends (fails_is at 0 (sym reads ∙ listed_ends names body ends))
      by true goes_on = elim (listed_splits at goes_on reads) as (λ x. IsWrongListed names body at) [
        | inl plain ↦
            let place = place_of (uncounted body) at plain_bytes plain in
            WrongBody goes_on (none_strange at goes_on reads place) place
        | inr strange ↦ StrangeName goes_on strange
      ]

  pub listed_alone : (at : ℕ) → IsWrongListed names body at → read_listed names body ≡ Fails at
  listed_alone at (LastOne ends is) = listed_ends names body ends ∙ ap Fails (sym is)
  listed_alone at (StrangeName goes_on strange) = strange_reads at goes_on strange
  listed_alone at (WrongBody goes_on none place) = by (read_listed names body) refl
    where
      plain : read_body (uncounted body) ≡ Fails at
      plain = alone (uncounted body) at plain_bytes place

      by : (r : Reading) → read_listed names body ≡ r → r ≡ Fails at
      by (Reads files) is = absurd (let both = sym plain ∙ (listed_is_read names body files is).plain in cc)
      by (Fails other) is = elim (listed_splits other goes_on is) as (λ x. Fails other ≡ Fails at) [
        | inl too ↦ sym too ∙ plain
        | inr strange ↦ absurd (none other strange)
      ]
