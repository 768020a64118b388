use Rattle.model_names.specs.Glob.{MatchesGlob}
use Rattle.key_name.proofs.glob.match_parts.Given as goal

abbrev pub invariant-loop-part : goal.invariant-loop-part
invariant-loop-part l = record {
  enough : MatchesGlob l.part-iterator l.rest → MatchesGlob l.parts l.patterns;
  needed : MatchesGlob l.parts l.patterns → MatchesGlob l.part-iterator l.rest;
}
