-- Its phases are those of items.
use Rattle.std.proofs.Common.{List, sym, ap, subst}
use Rattle.std.specs.List.{AllByRecursion}
use Rattle.batch_script.specs.declared.steps.Phase as phases
use Rattle.batch_script.specs.Phases.{phases_of}
use Rattle.batch_script.specs.Rising.{AreAscending}
use Rattle.batch_script.proofs.RisingLemmas.{phases-ascend}
use Rattle.batch_script.proofs.laws.sessions_ascend_in_each_phase.Goals as goal

pub returns : goal.returns
returns c =
    λ bytes script h. subst (λ (ps : List phases.Phase). AllByRecursion (λ (phase : phases.Phase). AreAscending phase.sessions) ps) (sym (ap (λ s. s.phases) h.script_is)) (phases-ascend (phases_of h.items))
