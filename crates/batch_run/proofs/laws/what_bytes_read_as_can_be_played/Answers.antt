-- Its phases and its keys are as two laws of scripts have them.
use Rattle.std.proofs.Common.{◌≡◌}
use Rattle.std.proofs.lemmas.List.Elements.{All-from_recursion}
use Rattle.batch_script.specs.Rising.{AreAscending}
use Rattle.batch_script.specs.declared.steps.Phase.{Phase}
use Rattle.batch_script.specs.declared.steps.ProcLine.{ProcLine}
use Rattle.model_names.specs.declared.namespaces.Namespace.TheVariants.{Proc}
use Rattle.batch_run.proofs.laws.what_bytes_read_as_can_be_played.Goals as goal

pub returns : goal.returns
returns c = λ bytes script reads. record {
  ordered = All-from_recursion (λ (phase : Phase). AreAscending phase.sessions) script.phases (c.sessions_ascend_in_each_phase.ensures bytes script reads);
  procs = All-from_recursion (λ (line : ProcLine). line.key.namespace ≡ Proc) script.proc (c.proc_lines_have_keys_in_proc.ensures bytes script reads);
}
