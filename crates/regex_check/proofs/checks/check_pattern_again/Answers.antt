use Rattle.std.specs.Prelude.{◌≡◌, ℕ, ◌<◌, ◌≤◌, List, length, Some, codes}
use Rattle.std.specs.FinMap as map
use Rattle.std.specs.Option.{option_map}
use Rattle.std.proofs.Common.{sym, ap, ◌∙◌, arith, Bor}
use Rattle.model_rules.specs.Rules.{LongPattern, breach}
use Rattle.regex_check.proofs.HandedPatterns.{handed_on}
use Rattle.regex_check.proofs.checks.check_pattern_again.Goals as goal

pub returns-then-pattern-gt-LONGEST_PATTERN-clause-answer :
    goal.returns-then-pattern-gt-LONGEST_PATTERN-clause-answer
returns-then-pattern-gt-LONGEST_PATTERN-clause-answer g c =
    let get : map.get c.args.meta.now (codes "check/validation") ≡ Some c.in-Some.pattern.now = sym c.get.ensures ∙ ap (option_map (λ (t : Bor (List ℕ)). t.now)) c.in-Some.is in
    let long : 1024 < length c.in-Some.pattern.now = omega arith in
    LongPattern c.in-Some.pattern.now get long (ap (breach 6) c.in_ok-given.ensures)

pub returns-clause-answer : goal.returns-clause-answer
returns-clause-answer g c =
    let get : map.get c.args.meta.now (codes "check/validation") ≡ Some c.in-Some.pattern.now = sym c.get.ensures ∙ ap (option_map (λ (t : Bor (List ℕ)). t.now)) c.in-Some.is in
    let short : length c.in-Some.pattern.now ≤ 1024 = omega arith in
    handed_on c.args.value.now c.args.meta.now c.in-Some.pattern.now _ _ get short c.breach_of.ensures.answer

pub returns-clause-alone : goal.returns-clause-alone
returns-clause-alone g c = λ alone.
    let get : map.get c.args.meta.now (codes "check/validation") ≡ Some c.in-Some.pattern.now = sym c.get.ensures ∙ ap (option_map (λ (t : Bor (List ℕ)). t.now)) c.in-Some.is in
    let long : 1024 < length c.in-Some.pattern.now = alone c.in-Some.pattern.now get in
    absurd (omega arith)
