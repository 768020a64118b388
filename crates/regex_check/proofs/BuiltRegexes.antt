-- A regex that was built of a text: the text is in the grammar, and the regex matches where it does.
use Rattle.std.specs.Prelude.{◌≡◌, ◌<◌, ◌≤◌, false, List, ℕ, Option, None, Some, IsSomeAnd, is_some}
use Rattle.std.specs.Option.{option_map_or}
use Rattle.std.specs.Str.{chars}
use Rattle.std.proofs.Common.{refl, sym, subst, get_or}
use Rattle.regex.specs.Patterns.{Reads, default_config, find_str}
use Rattle.regex.specs.Strings.{regex_pattern, regex_source, regex_config, IsReadFromSource}
use Rattle.regex.specs.declared.string.regex.Regex.{Regex}
use Rattle.regex.proofs.OnLiterals.{IsReadAs, is_match_as_written, same_refl}
use Rattle.regex_syntax.specs.Grammar.{read}
use Rattle.regex_syntax.specs.Same.{SameTree}
use Rattle.regex_check.specs.Grammar.{IsInGrammar, matches_in}

-- what is said of an option's value can be said with less
weakened : {A : Type 0} (P Q : A → Type 0) (o : Option A) → ((a : A) → P a → Q a) → IsSomeAnd o P → IsSomeAnd o Q
weakened P Q None h p = p
weakened P Q (Some a) h p = h a p

depth_of : (r : Regex) → IsReadFromSource r
    → IsSomeAnd (read (regex_config r) (chars (regex_source r))) (λ (re, _). re.depth ≤ (regex_config r).nest_limit)
unfolding Reads
depth_of r p = weakened _ (λ (re, _). re.depth ≤ (regex_config r).nest_limit) _ (λ a h. h.0) p

pub IsInGrammar-built : (r : Regex) (pattern : List ℕ) → regex_source r ≡ pattern → regex_config r ≡ default_config
    → IsReadFromSource r → IsInGrammar pattern
unfolding IsInGrammar
IsInGrammar-built r pattern source config p =
    let by_config = subst (λ k. IsSomeAnd (read k (chars (regex_source r))) (λ (re, _). re.depth ≤ k.nest_limit)) config (depth_of r p) in
    subst (λ s. IsSomeAnd (read default_config (chars s)) (λ (re, _). re.depth ≤ default_config.nest_limit)) source by_config

matches_as : (r : Regex) (pattern value : List ℕ) → regex_source r ≡ pattern → regex_config r ≡ default_config
    → IsReadFromSource r → ((k : ℕ) → get_or value k 0 < 256) → (o : _) → read default_config (chars pattern) ≡ o
    → IsSomeAnd o (λ (re, _). re.depth ≤ default_config.nest_limit)
    → option_map_or (λ (re, _). is_some (find_str re.value value 0)) o false
    ≡ is_some (find_str (regex_pattern r) value 0)
matches_as r pattern value source config p bytes None e some = absurd some
matches_as r pattern value source config p bytes (Some (re, names)) e some =
    let written : IsReadAs default_config pattern re.value = subst (λ o. IsSomeAnd o (λ (found, _). SameTree found.value re.value)) (sym e) (same_refl re.value) in
    sym (is_match_as_written r pattern re.value source config p written value bytes 0)

pub matches_in-built : (r : Regex) (pattern value : List ℕ) → regex_source r ≡ pattern → regex_config r ≡ default_config
    → IsReadFromSource r → ((k : ℕ) → get_or value k 0 < 256)
    → matches_in pattern value ≡ is_some (find_str (regex_pattern r) value 0)
unfolding IsInGrammar matches_in
matches_in-built r pattern value source config p bytes =
    matches_as r pattern value source config p bytes (read default_config (chars pattern)) refl (IsInGrammar-built r pattern source config p)
