use Rattle.std.specs.Prelude.{◌≡◌, ◌<◌, is_some, ℕ}
use Rattle.std.proofs.Common.{refl, sym, ap, ◌∙◌, arith, get_or}
use Rattle.regex.specs.Patterns.{find_str}
use Rattle.regex_check.proofs.BuiltRegexes.{IsInGrammar-built, matches_in-built}
use Rattle.regex_check.proofs.last.search_by.Goals as goal

pub returns-then-is_match : goal.returns-then-is_match
returns-then-is_match c =
    let bytes : (k : ℕ) → get_or c.args.value.now k 0 < 256 = λ k. (let fits = c.type_inv.value k in omega arith) in
    let found : c.is_match.result ≡ is_some (find_str _ c.args.value.now 0) = c.is_match.ensures.found ∙ ap (λ p. is_some (find_str p c.args.value.now 0)) c.in_ok-matcher.ensures.pattern in
    record {
      grammar = IsInGrammar-built c.args.regex.now _ refl c.requires.config c.requires.read;
      is = matches_in-built c.args.regex.now _ c.args.value.now refl c.requires.config c.requires.read bytes ∙ sym found ∙ c.if-is_match.true;
    }

pub returns : goal.returns
returns c =
    let bytes : (k : ℕ) → get_or c.args.value.now k 0 < 256 = λ k. (let fits = c.type_inv.value k in omega arith) in
    let found : c.is_match.result ≡ is_some (find_str _ c.args.value.now 0) = c.is_match.ensures.found ∙ ap (λ p. is_some (find_str p c.args.value.now 0)) c.in_ok-matcher.ensures.pattern in
    record {
      grammar = IsInGrammar-built c.args.regex.now _ refl c.requires.config c.requires.read;
      is = matches_in-built c.args.regex.now _ c.args.value.now refl c.requires.config c.requires.read bytes ∙ sym found ∙ c.if-is_match.false;
    }
