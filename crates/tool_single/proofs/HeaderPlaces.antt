-- The place that is told of a header is where its bytes go wrong.
use Rattle.std.proofs.Common.{◌≡◌, ℕ, zero, suc, ◌+◌, ◌-◌, ◌<◌, ◌≤◌, Bool, true, false, ◌&&◌, cond, eqb, leb, List, [], ◌∷◌, ◌++◌, length, take, drop, slice_index, Result, Ok, Err, refl, sym, ap, ap₂, subst, ◌∙◌, append_assoc, arith}
use Rattle.std.specs.List.{flat_map, AllByRecursion}
use Rattle.std.specs.Ordering.{nat_cmp}
use Rattle.std.specs.declared.cmp.Ordering.TheVariants.{Less}
use Rattle.std.specs.Cmp.Lexicographic.{slice_cmp}
use Rattle.std.proofs.lemmas.Bool.{and_parts, eqb-true, false_from_ne_true, le-leb, leb-true}
use Rattle.std.proofs.lemmas.List.{length-append, nil_from_length}
use Rattle.std.proofs.lemmas.List.Elements.{All-from_recursion, recursion_from_All}
use Rattle.journal_codec.specs.Entry.{most_files}
use Rattle.journal_codec.specs.Header.{IsHeaderName, sized_name, spelled_header, name_at, names_at, all_names, placed, read_header}
use Rattle.journal_codec.specs.Places.{IsFront, passed}
use Rattle.journal_codec.specs.Reading.{Field, ◌>>=◌, byte_at, bytes_at, checked, count_at, is_count, is_next_name, items_at}
use Rattle.journal_codec.proofs.BodyLemmas.{after_count, at_end, count_again, count_takes}
use Rattle.journal_codec.proofs.FieldLemmas.{bind_is, bind_ok, byte_takes, bytes_again, bytes_takes, ok_is}
use Rattle.journal_codec.proofs.ItemLemmas.{after_first, after_others}
use Rattle.journal_codec.proofs.NameLemmas.{next_name_from, next_name_is, Rises, rises_from_nothing, sorted_from_rises}
use Rattle.tool_single.specs.Places.{AreFirstNames, BytesLeft, IsWrongHeader, NoCount, NoName}

-- ---- one name

not_both : {A : Type 0} (r : Result A ℕ) (x : A) (left : ℕ) → r ≡ Ok x → r ≡ Err left → ⊥
not_both (Ok y) x left e d = absurd cc
not_both (Err l) x left e d = absurd cc

record TakesName (previous bytes name rest : List ℕ) : Type 0 where
  pub above : slice_cmp nat_cmp previous name ≡ Less
  pub good : IsHeaderName name
  pub parts : bytes ≡ sized_name name ++ rest

abbrev after_size : List ℕ → ℕ × List ℕ → Field (List ℕ)
after_size previous size = bytes_at (is_next_name previous) size.0 size.1

name_takes : (previous bytes : List ℕ) (x : List ℕ × List ℕ) → name_at previous bytes ≡ Ok x
    → TakesName previous bytes x.0 x.1
unfolding name_at
name_takes previous bytes x e =
    let s = bind_ok (byte_at bytes) (after_size previous) x e in
    let name = bytes_takes (is_next_name previous) s.0.0 s.0.1 x s.2 in
    let next = next_name_is previous x.0 name.good in
    record {
      above = next.above;
      good = record { is_name = next.is_name; not_journal = next.not_journal };
      parts = byte_takes bytes s.0 s.1 ∙ ap₂ (λ (n : ℕ) (behind : List ℕ). n ∷ behind) (sym name.count) name.parts;
    }

name_again : (previous name rest : List ℕ) → IsHeaderName name → slice_cmp nat_cmp previous name ≡ Less
    → name_at previous (sized_name name ++ rest) ≡ Ok (name, rest)
unfolding name_at
name_again previous name rest good above =
    bytes_again (is_next_name previous) name rest (next_name_from previous name (record { is_name = good.is_name; not_journal = good.not_journal; above = above }))

-- no name behind this one stands first
abbrev NoNext : List ℕ → List ℕ → Type 0
NoNext previous bytes =
    (name : List ℕ) → IsHeaderName name → slice_cmp nat_cmp previous name ≡ Less → IsFront (sized_name name) bytes → ⊥

none_next : (previous bytes : List ℕ) (left : ℕ) → name_at previous bytes ≡ Err left → NoNext previous bytes
none_next previous bytes left stop name good above front =
    not_both (name_at previous bytes) (name, front.0) left (ap (name_at previous) front.1 ∙ name_again previous name front.0 good above) stop

passed_one : (n : ℕ) (rest : List ℕ) → passed 1 (n ∷ rest) ≡ 1
passed_one n rest = rw (le-leb 1 (length (n ∷ rest)) (omega arith)) refl

passed_within : (rest : List ℕ) → passed 1 rest ≤ length rest
passed_within [] = omega arith
passed_within (n ∷ rest) = omega (arith, passed_one n rest)

checked_left : {A : Type 0} (is_good : Bool) (bytes : List ℕ) (field : A × List ℕ) (left : ℕ)
    → checked is_good bytes field ≡ Err left → left ≡ length bytes
checked_left true bytes field left e = absurd cc
checked_left false bytes field left e = cc

-- so many bytes are left where a name has no reading
left_at : (previous bytes : List ℕ) (left : ℕ) → name_at previous bytes ≡ Err left
    → left + passed 1 bytes ≡ length bytes
unfolding name_at
left_at previous [] left e = let none : 0 ≡ left = cc in omega (arith, none)
left_at previous (n ∷ behind) left e =
    let is = checked_left (leb n (length behind) && is_next_name previous (take n behind)) behind (take n behind, drop n behind) left e in
    omega (arith, is, passed_one n behind)

-- and where none stands none is read
name_none : (previous bytes : List ℕ) (left : ℕ) → NoNext previous bytes → left + passed 1 bytes ≡ length bytes
    → name_at previous bytes ≡ Err left
name_none previous bytes left none left_is = elim (name_at previous bytes) as (λ r. name_at previous bytes ≡ r → r ≡ Err left) [
  | Ok x ↦ λ is. absurd (let taken = name_takes previous bytes x is in none x.0 taken.good taken.above (x.1, taken.parts))
  | Err stop ↦ λ is. ap Err (let stops = left_at previous bytes stop is in omega (arith, stops, left_is))
] refl

-- ---- so many names

abbrev names_of : ℕ → List ℕ → List ℕ → Field (List (List ℕ))
names_of count previous bytes = items_at name_at (λ name. name) count previous bytes

-- the last of some names behind another one, or that
abbrev last_of : List ℕ → List (List ℕ) → List ℕ
last_of previous [] = previous
last_of previous (name ∷ names) = last_of name names

-- names that were read, with what stands behind them
record Took (previous bytes : List ℕ) (names : List (List ℕ)) (rest : List ℕ) : Type 0 where
  pub rises : Rises previous names
  pub each : AllByRecursion IsHeaderName names
  pub parts : bytes ≡ flat_map sized_name names ++ rest

took_more : (previous bytes : List ℕ) (x : List ℕ × List ℕ) (names : List (List ℕ)) (rest : List ℕ)
    → name_at previous bytes ≡ Ok x → Took x.0 x.1 names rest → Took previous bytes (x.0 ∷ names) rest
took_more previous bytes x names rest is more =
    let taken = name_takes previous bytes x is in
    record {
      rises = (taken.above, more.rises);
      each = (taken.good, more.each);
      parts = taken.parts ∙ ap (λ (behind : List ℕ). sized_name x.0 ++ behind) more.parts ∙ sym (append_assoc (sized_name x.0) (flat_map sized_name names) rest);
    }

-- all of them were read
record TookAll (count : ℕ) (previous bytes : List ℕ) (names : List (List ℕ)) (rest : List ℕ) : Type 0 where
  pub number : length names ≡ count
  pub took : Took previous bytes names rest

took_all : (count : ℕ) (previous bytes : List ℕ) (x : List (List ℕ) × List ℕ) → names_of count previous bytes ≡ Ok x
    → TookAll count previous bytes x.0 x.1
took_all zero previous bytes x e =
    subst (λ (p : List (List ℕ) × List ℕ). TookAll 0 previous bytes p.0 p.1) (ok_is ([], bytes) x e) (record { number = refl; took = record { rises = tt; each = tt; parts = refl } })
took_all (suc count) previous bytes x e =
    let first = bind_ok (name_at previous bytes) (after_first name_at (λ name. name) count) x e in
    let others = bind_ok (names_of count first.0.0 first.0.1) (after_others first.0) x first.2 in
    let more = took_all count first.0.0 first.0.1 others.0 others.1 in
    let all : TookAll (suc count) previous bytes (first.0.0 ∷ others.0.0) others.0.1 = record { number = ap suc more.number; took = took_more previous bytes first.0 others.0.0 others.0.1 first.1 more.took } in
    subst (λ (p : List (List ℕ) × List ℕ). TookAll (suc count) previous bytes p.0 p.1) (ok_is (first.0.0 ∷ others.0.0, others.0.1) x others.2) all

-- or fewer, and none stands behind them
record Stops (count : ℕ) (previous bytes : List ℕ) (left : ℕ) : Type 0 where
  pub names : List (List ℕ)
  pub rest : List ℕ
  pub fewer : length names < count
  pub took : Took previous bytes names rest
  pub none : NoNext (last_of previous names) rest
  pub left_is : left + passed 1 rest ≡ length rest

others_stop : (first : List ℕ × List ℕ) (r : Field (List (List ℕ))) (left : ℕ) → (r >>= after_others first) ≡ Err left
    → r ≡ Err left
others_stop first (Ok x) left e = absurd cc
others_stop first (Err stop) left e = cc

walks : (count : ℕ) (previous bytes : List ℕ) (left : ℕ) → names_of count previous bytes ≡ Err left
    → Stops count previous bytes left
walks zero previous bytes left e = absurd cc
walks (suc count) previous bytes left e = elim (name_at previous bytes) as (λ r. name_at previous bytes ≡ r → (r >>= after_first name_at (λ name. name) count) ≡ Err left → Stops (suc count) previous bytes left) [
  | Err stop ↦ λ is d.
      let same : stop ≡ left = cc in
      record {
        names = [];
        rest = bytes;
        fewer = omega arith;
        took = record { rises = tt; each = tt; parts = refl };
        none = none_next previous bytes stop is;
        left_is = left_at previous bytes left (is ∙ ap Err same);
      }
  | Ok x ↦ λ is d.
      let more = walks count x.0 x.1 left (others_stop x (names_of count x.0 x.1) left d) in
      let fewer = more.fewer in
      record {
        names = x.0 ∷ more.names;
        rest = more.rest;
        fewer = omega (arith, fewer);
        took = took_more previous bytes x more.names more.rest is more.took;
        none = more.none;
        left_is = more.left_is;
      }
] refl e

-- ---- and the other way round

behind_first : (name : List ℕ) (names : List (List ℕ)) (rest : List ℕ)
    → flat_map sized_name (name ∷ names) ++ rest ≡ sized_name name ++ (flat_map sized_name names ++ rest)
behind_first name names rest = append_assoc (sized_name name) (flat_map sized_name names) rest

names_again : (previous : List ℕ) (names : List (List ℕ)) (rest : List ℕ) → Rises previous names
    → AllByRecursion IsHeaderName names
    → names_of (length names) previous (flat_map sized_name names ++ rest) ≡ Ok (names, rest)
names_again previous [] rest rises each = refl
names_again previous (name ∷ names) rest rises each =
    let more = flat_map sized_name names ++ rest in
    ap (λ (bytes : List ℕ). name_at previous bytes >>= after_first name_at (λ name. name) (length names)) (behind_first name names rest)
    ∙ bind_is (name_at previous (sized_name name ++ more)) (after_first name_at (λ name. name) (length names)) (name, more) (Ok (name ∷ names, rest)) (name_again previous name more each.0 rises.0)
    (bind_is (names_of (length names) name more) (after_others (name, more)) (names, rest) (Ok (name ∷ names, rest)) (names_again name names rest rises.1 each.1) refl)

stop_again : (count : ℕ) (previous : List ℕ) (names : List (List ℕ)) (rest : List ℕ) (left : ℕ) → length names < count
    → Rises previous names → AllByRecursion IsHeaderName names
    → NoNext (last_of previous names) rest → left + passed 1 rest ≡ length rest
    → names_of count previous (flat_map sized_name names ++ rest) ≡ Err left
stop_again zero previous names rest left fewer rises each none left_is = absurd (omega (arith, fewer))
stop_again (suc count) previous [] rest left fewer rises each none left_is =
    ap (λ (r : Field (List ℕ)). r >>= after_first name_at (λ name. name) count) (name_none previous rest left none left_is)
stop_again (suc count) previous (name ∷ names) rest left fewer rises each none left_is =
    let more = flat_map sized_name names ++ rest in
    ap (λ (bytes : List ℕ). name_at previous bytes >>= after_first name_at (λ name. name) count) (behind_first name names rest)
    ∙ bind_is (name_at previous (sized_name name ++ more)) (after_first name_at (λ name. name) count) (name, more) (Err left) (name_again previous name more each.0 rises.0)
    (ap (λ (r : Field (List (List ℕ))). r >>= after_others (name, more)) (stop_again count name names rest left (omega (arith, fewer)) rises.1 each.1 none left_is))

-- ---- names that strictly ascend

some_letters : (names : List (List ℕ)) → AllByRecursion IsHeaderName names
    → AllByRecursion (λ name. 1 ≤ length name) names
some_letters [] each = tt
some_letters (name ∷ names) each = (each.0.is_name.not_empty, some_letters names each.1)

rises_of : (count : ℕ) (names : List (List ℕ)) → AreFirstNames count names → Rises [] names
rises_of count names first =
    rises_from_nothing names (some_letters names (recursion_from_All IsHeaderName names first.each)) first.ascending

first_of : (count : ℕ) (names : List (List ℕ)) → 1 ≤ count → count ≤ most_files → length names ≤ count → Rises [] names
    → AllByRecursion IsHeaderName names → AreFirstNames count names
first_of count names some few within rises each =
    record {
      not_empty = some;
      not_many = few;
      within = within;
      ascending = sorted_from_rises [] names rises;
      each = All-from_recursion IsHeaderName names each;
    }

rises_last : (previous : List ℕ) (names : List (List ℕ)) (name : List ℕ) → Rises previous (names ++ name ∷ [])
    → slice_cmp nat_cmp (last_of previous names) name ≡ Less
rises_last previous [] name rises = rises.0
rises_last previous (first ∷ names) name rises = rises_last first names name rises.1

rises_more : (previous : List ℕ) (names : List (List ℕ)) (name : List ℕ) → Rises previous names
    → slice_cmp nat_cmp (last_of previous names) name ≡ Less → Rises previous (names ++ name ∷ [])
rises_more previous [] name rises above = (above, tt)
rises_more previous (first ∷ names) name rises above = (rises.0, rises_more first names name rises.1 above)

each_last : (names : List (List ℕ)) (name : List ℕ) → AllByRecursion IsHeaderName (names ++ name ∷ [])
    → IsHeaderName name
each_last [] name each = each.0
each_last (first ∷ names) name each = each_last names name each.1

each_more : (names : List (List ℕ)) (name : List ℕ) → AllByRecursion IsHeaderName names → IsHeaderName name
    → AllByRecursion IsHeaderName (names ++ name ∷ [])
each_more [] name each good = (good, tt)
each_more (first ∷ names) name each good = (each.0, each_more names name each.1 good)

-- ---- a whole header

count_left : (header : List ℕ) (left : ℕ) → count_at header ≡ Err left → left ≡ length header
unfolding count_at
count_left [] left e = cc
count_left (b ∷ rest) left e = checked_left (is_count b) (b ∷ rest) (b, rest) left e

no_count : (header : List ℕ) (left : ℕ) → count_at header ≡ Err left → left ≡ length header
    → IsWrongHeader header (length header - left)
no_count [] left e left_is = NoCount (λ some few. omega (arith, some)) (omega (arith, left_is))
no_count (b ∷ rest) left e left_is =
    NoCount (λ some few. not_both (count_at (b ∷ rest)) (b, rest) left (count_again b rest some few) e) (omega (arith, left_is))

at_end_left : (b : Bool) (left n : ℕ) (x : List (List ℕ)) → cond b (Ok x) (Err n) ≡ Err left → (b ≡ false) × (n ≡ left)
at_end_left true left n x e = absurd cc
at_end_left false left n x e = (refl, cc)

ends : (header : List ℕ) (left : ℕ) → all_names header ≡ Err left → IsWrongHeader header (length header - left)
unfolding all_names names_at
ends header left e = elim (count_at header) as (λ r. count_at header ≡ r → (r >>= after_count names_at) ≡ Err left → IsWrongHeader header (length header - left)) [
  | Err stop ↦ λ is d.
      let same : stop ≡ left = cc in
      let here = is ∙ ap Err same in
      no_count header left here (count_left header left here)
  | Ok x ↦ λ is d. behind x is d
] refl e
  where
    stopped : (x : ℕ × List ℕ) → count_at header ≡ Ok x → names_of x.0 [] x.1 ≡ Err left
        → IsWrongHeader header (length header - left)
    stopped x is stop =
        let count = count_takes header x is in
        let stops = walks x.0 [] x.1 left stop in
        let names = stops.names in
        let front : header ≡ (x.0 ∷ flat_map sized_name names) ++ stops.rest = count.parts ∙ ap (λ (behind : List ℕ). x.0 ∷ behind) stops.took.parts in
        NoName x.0 names stops.rest (first_of x.0 names count.not_empty count.not_many (omega (arith, stops.fewer)) stops.took.rises stops.took.each) stops.fewer front
        (λ name first at_front. stops.none name (each_last names name (recursion_from_All IsHeaderName (names ++ name ∷ []) first.each)) (rises_last [] names name (rises_of x.0 (names ++ name ∷ []) first)) at_front)
        (omega (arith, ap length front, length-append (x.0 ∷ flat_map sized_name names) stops.rest, stops.left_is))

    too_much : (x : ℕ × List ℕ) (y : List (List ℕ) × List ℕ) → count_at header ≡ Ok x → names_of x.0 [] x.1 ≡ Ok y
        → at_end y ≡ Err left → IsWrongHeader header (length header - left)
    too_much x y is reads end =
        let count = count_takes header x is in
        let all = took_all x.0 [] x.1 y reads in
        let some = at_end_left (eqb (length y.1) 0) left (length y.1) y.0 end in
        let front : header ≡ spelled_header y.0 ++ y.1 = count.parts ∙ ap (λ (behind : List ℕ). x.0 ∷ behind) all.took.parts ∙ ap (λ (n : ℕ). n ∷ (flat_map sized_name y.0 ++ y.1)) (sym all.number) in
        let ascends = sorted_from_rises [] y.0 all.took.rises in
        BytesLeft y.0 y.1 (record {
          not_empty = omega (arith, all.number, count.not_empty);
          not_many = omega (arith, all.number, count.not_many);
          ascending = ascends;
          each = All-from_recursion IsHeaderName y.0 all.took.each;
        }) (λ none. let zero_is : eqb (length y.1) 0 ≡ true = ap (λ (b : List ℕ). eqb (length b) 0) none in absurd cc) front
        (omega (arith, ap length front, length-append (spelled_header y.0) y.1, some.1))

    behind : (x : ℕ × List ℕ) → count_at header ≡ Ok x → (names_of x.0 [] x.1 >>= at_end) ≡ Err left
        → IsWrongHeader header (length header - left)
    behind x is d = elim (names_of x.0 [] x.1) as (λ r. names_of x.0 [] x.1 ≡ r → (r >>= at_end) ≡ Err left → IsWrongHeader header (length header - left)) [
      | Err stop ↦ λ reads d. let same : stop ≡ left = cc in stopped x is (reads ∙ ap Err same)
      | Ok y ↦ λ reads d. too_much x y is reads d
    ] refl d

placed_left : (size : ℕ) (read : Result (List (List ℕ)) ℕ) (at : ℕ) → placed size read ≡ Err at
    → (left : ℕ) × (read ≡ Err left) × (at ≡ size - left)
placed_left size (Ok names) at e = absurd cc
placed_left size (Err left) at e = (left, refl, cc)

-- a header is refused where it goes wrong
pub header_told : (header : List ℕ) (at : ℕ) → read_header header ≡ Err at → IsWrongHeader header at
unfolding read_header
header_told header at e =
    let stop = placed_left (length header) (all_names header) at e in
    subst (IsWrongHeader header) (sym stop.2) (ends header stop.0 stop.1)

counted_none : (header : List ℕ) → (1 ≤ slice_index header 0 → slice_index header 0 ≤ most_files → ⊥)
    → count_at header ≡ Err (length header)
unfolding count_at
counted_none [] none = refl
counted_none (b ∷ rest) none =
    ap (λ (good : Bool). checked good (b ∷ rest) (b, rest))
    (false_from_ne_true (is_count b) (λ yes. let both = and_parts (leb 1 b) (leb b most_files) yes in none (leb-true 1 b both.0) (leb-true b most_files both.1)))

-- and nowhere else
pub header_alone : (header : List ℕ) (at : ℕ) → IsWrongHeader header at → read_header header ≡ Err at
unfolding read_header all_names names_at
header_alone header at (NoCount none is) =
    ap (λ (r : Field ℕ). placed (length header) (r >>= after_count names_at)) (counted_none header none)
    ∙ ap Err (omega (arith, is))
header_alone header at (NoName count names rest first fewer front none is) =
    let left = length rest - passed 1 rest in
    let within : passed 1 rest ≤ length rest = passed_within rest in
    let each = recursion_from_All IsHeaderName names first.each in
    let rises = rises_of count names first in
    let bytes = flat_map sized_name names ++ rest in
    let stop : names_of count [] bytes ≡ Err left = stop_again count [] names rest left fewer rises each
    (λ name good above at_front. none name (first_of count (names ++ name ∷ []) first.not_empty first.not_many (omega (arith, fewer, length-append names (name ∷ []))) (rises_more [] names name rises above) (each_more names name each good)) at_front)
    (omega (arith, within)) in
    let whole : all_names header ≡ Err left =
    ap all_names front
    ∙ bind_is (count_at (count ∷ bytes)) (after_count names_at) (count, bytes) (Err left) (count_again count bytes first.not_empty first.not_many)
    (ap (λ (r : Field (List (List ℕ))). r >>= at_end) stop) in
    ap (placed (length header)) whole
    ∙ ap Err (omega (arith, is, within, ap length front, length-append (count ∷ flat_map sized_name names) rest))
header_alone header at (BytesLeft names rest good some front is) =
    let each = recursion_from_All IsHeaderName names good.each in
    let rises = rises_from_nothing names (some_letters names each) good.ascending in
    let bytes = flat_map sized_name names ++ rest in
    let more : eqb (length rest) 0 ≡ false = false_from_ne_true (eqb (length rest) 0) (λ none. some (nil_from_length rest (eqb-true (length rest) 0 none))) in
    let whole : all_names header ≡ Err (length rest) =
    ap all_names front
    ∙ bind_is (count_at (length names ∷ bytes)) (after_count names_at) (length names, bytes) (Err (length rest)) (count_again (length names) bytes good.not_empty good.not_many)
    (bind_is (names_of (length names) [] bytes) at_end (names, rest) (Err (length rest)) (names_again [] names rest rises each) (ap (λ (b : Bool). cond b (Ok names) (Err (length rest))) more)) in
    ap (placed (length header)) whole
    ∙ ap Err (omega (arith, is, ap length front, length-append (spelled_header names) rest))
