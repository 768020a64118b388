use Rattle.std.specs.Prelude.{◌≡◌, ℕ, List, [], ◌∷◌, ◌++◌, length, drop, codes}
use Rattle.std.specs.Fmt.{digits}
use Rattle.std.proofs.Common.{refl, sym, ap, ◌∙◌, arith, lit<, get_or, length-append}
use Rattle.model_dump.specs.Record.{Record, KeyKind, IsSized, words_of, spelled_record}
use Rattle.model_dump.specs.Adds.{start, Adds}
use Rattle.model_dump.specs.Dump.{HasNoNext, Inside}
use Rattle.model_dump.proofs.SpelledRecords.{fronts_once, spelled_record-lengths, words-ending}
use Rattle.model_dump.proofs.Begins.{Begins-start}
use Rattle.model_dump.proofs.examples.faults_stop_at_their_lines.Goals as goal

-- behind the sizes 1 and 2 the second text takes a line feed away, and then none ends it
no_second_end : (r : Record) (x : List ℕ) → IsSized r → codes "$key string 1 2\na\n1\n$end\n" ≡ spelled_record r ++ x
    → ⊥
unfolding digits
no_second_end r x sized e =
    let sizes = spelled_record-lengths r KeyKind x 1 2 (codes "a\n1\n$end\n") sized (lit< tt) (lit< tt) (sym e) in
    let first = fronts_once r.first (codes "a") (10 ∷ (r.second ++ (10 ∷ x))) (codes "\n1\n$end\n") sizes.1 sizes.3 in
    let second = fronts_once r.second (codes "1\n") (10 ∷ x) (codes "$end\n") sizes.2 (ap (drop 1) first.1) in
    let byte : ◌≡◌ {A = ℕ} 10 36 = ap (λ b. get_or b 0 0) second.1 in
    omega arith

-- behind the sizes 1 and 5 too few bytes follow
too_short : (r : Record) (x : List ℕ) → IsSized r → codes "$key string 1 5\na\nab\n" ≡ spelled_record r ++ x → ⊥
unfolding digits
too_short r x sized e =
    let sizes = spelled_record-lengths r KeyKind x 1 5 (codes "a\nab\n") sized (lit< tt) (lit< tt) (sym e) in
    omega (arith, ap length sizes.3, length-append r.first (10 ∷ (r.second ++ (10 ∷ x))), length-append r.second (10 ∷ x))

no_next : (rest tail : List ℕ) → rest ≡ words_of KeyKind ++ tail
    → ((r : Record) (x : List ℕ) → IsSized r → rest ≡ spelled_record r ++ x → ⊥) → HasNoNext Adds start rest
no_next rest tail e none = record {
  no_record = λ r after more sized step. none r more sized;
  no_end = λ is. words-ending KeyKind tail [] (sym e ∙ is);
  no_end_line = λ more is. words-ending KeyKind tail (10 ∷ more) (sym e ∙ is);
}

pub returns-clause-size : goal.returns-clause-size
returns-clause-size c = Inside (record {
  records = [];
  progress = start;
  rest = codes "$key string 1 2\na\n1\n$end\n";
  begins = Begins-start Adds _ _ refl;
  stops = no_next _ (codes "1 2\na\n1\n$end\n") refl no_second_end;
  at = refl;
})

pub returns-clause-cut : goal.returns-clause-cut
returns-clause-cut c = Inside (record {
  records = [];
  progress = start;
  rest = codes "$key string 1 5\na\nab\n";
  begins = Begins-start Adds _ _ refl;
  stops = no_next _ (codes "1 5\na\nab\n") refl too_short;
  at = refl;
})
