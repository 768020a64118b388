use Rattle.model_names.specs.Glob.{HasGlob}
use Rattle.key_name.proofs.glob.have_hole.Given as goal

abbrev pub invariant-loop-part : goal.invariant-loop-part
invariant-loop-part l = record {
  enough : HasGlob l.part-iterator → HasGlob l.parts;
  needed : HasGlob l.parts → HasGlob l.part-iterator;
}
