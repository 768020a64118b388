-- They are those of items, of which each that gives a handle a key gives it one in `proc`.
use Rattle.std.proofs.Common.{◌≡◌, List, [], ap, subst, sym}
use Rattle.std.specs.List.{AllByRecursion}
use Rattle.model_lines.specs.Lines.{lines}
use Rattle.model_names.specs.declared.namespaces.Namespace.TheVariants.{Proc}
use Rattle.batch_script.specs.declared.steps.ProcLine.{ProcLine}
use Rattle.batch_script.proofs.ProcLemmas.{leads-in, lines-in}
use Rattle.batch_script.proofs.laws.proc_lines_have_keys_in_proc.Goals as goal

pub returns : goal.returns
returns c = λ bytes script h.
    subst (λ (ls : List ProcLine). AllByRecursion (λ (line : ProcLine). line.key.namespace ≡ Proc) ls) (sym (ap (λ s. s.proc) h.script_is)) (lines-in h.items (leads-in (lines bytes) [] h.items tt h.leads))
