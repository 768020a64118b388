-- What is found out by a search, said of the metadata.
use Rattle.std.specs.Prelude.{◌≡◌, ℕ, ◌≤◌, List, length, Option, None, Some, Result, Ok, Err, IfOk, MatchOption, codes}
use Rattle.std.specs.FinMap as map
use Rattle.std.proofs.Common.{subst}
use Rattle.model_maps.specs.Entry.{Meta}
use Rattle.model_rules.specs.Rules.{BreaksPattern, BadPattern, Mismatch, KeepsPattern, longest_pattern}
use Rattle.model_rules.specs.declared.breaches.Broken.{Broken}
use Rattle.general_words.proofs.Lists.{found_once}
use Rattle.regex_check.specs.Answers.{Refutes, NoPattern, NoMatch}
use Rattle.regex_check.specs.Grammar.{Matches, Misses}

breaks_by : (value : List ℕ) (meta : Meta) (pattern : List ℕ) (MayRefuse : Type 0) (broken : Broken)
    → map.get meta (codes "check/validation") ≡ Some pattern → length pattern ≤ longest_pattern
    → Refutes MayRefuse pattern value broken → BreaksPattern (λ _. MayRefuse) Misses value meta broken
breaks_by value meta pattern MayRefuse broken get short (NoPattern may e) = BadPattern pattern get short may e
breaks_by value meta pattern MayRefuse broken get short (NoMatch misses e) = Mismatch pattern get short misses e

handed : (value : List ℕ) (meta : Meta) (pattern : List ℕ) (MayRefuse : Type 0) (r : Option Broken)
    → map.get meta (codes "check/validation") ≡ Some pattern → length pattern ≤ longest_pattern
    → MatchOption r (Matches pattern value) (Refutes MayRefuse pattern value)
    → MatchOption r (KeepsPattern Matches value meta) (BreaksPattern (λ _. MayRefuse) Misses value meta)
handed value meta pattern MayRefuse None get short matches = λ other found.
    let same = found_once pattern other get found in
    subst (λ p. (length p ≤ longest_pattern) × Matches p value) same (short, matches)
handed value meta pattern MayRefuse (Some broken) get short refutes =
    breaks_by value meta pattern MayRefuse broken get short refutes

pub handed_on : {E : Type 0} (value : List ℕ) (meta : Meta) (pattern : List ℕ) (MayRefuse : Type 0)
    (r : Result (Option Broken) E) → map.get meta (codes "check/validation") ≡ Some pattern
    → length pattern ≤ longest_pattern
    → IfOk r (λ answer. MatchOption answer (Matches pattern value) (Refutes MayRefuse pattern value))
    → IfOk r (λ answer. MatchOption answer (KeepsPattern Matches value meta) (BreaksPattern (λ _. MayRefuse) Misses value meta))
handed_on value meta pattern MayRefuse (Ok answer) get short h = handed value meta pattern MayRefuse answer get short h
handed_on value meta pattern MayRefuse (Err error) get short h = h
