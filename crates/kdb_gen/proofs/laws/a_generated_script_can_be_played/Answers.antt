-- It has one phase, whose sessions are numbered one after the other.
use Rattle.std.proofs.Common.{◌≡◌, arith}
use Rattle.std.proofs.lemmas.List.Elements.{All-from_recursion}
use Rattle.batch_script.specs.Rising.{AreAscending}
use Rattle.batch_script.specs.declared.steps.Phase.{Phase}
use Rattle.batch_script.specs.declared.steps.ProcLine.{ProcLine}
use Rattle.kdb_gen.specs.Generated.{gen_script}
use Rattle.model_names.specs.declared.namespaces.Namespace.TheVariants.{Proc}
use Rattle.kdb_gen.proofs.laws.a_generated_script_can_be_played.Goals as goal

pub returns-clause-ordered : goal.returns-clause-ordered
returns-clause-ordered c = λ rounds. All-from_recursion (λ (phase : Phase). AreAscending phase.sessions) (gen_script rounds).phases (
  record {
    rising = (omega arith, (omega arith, (omega arith, (omega arith, tt))));
    most = (omega arith, (omega arith, (omega arith, (omega arith, tt))));
  },
  tt,
)

pub returns-clause-procs : goal.returns-clause-procs
returns-clause-procs c =
    λ rounds. All-from_recursion (λ (line : ProcLine). line.key.namespace ≡ Proc) (gen_script rounds).proc tt
