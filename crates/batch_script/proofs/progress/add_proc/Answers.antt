-- A line of the header goes to its lines.
use Rattle.std.proofs.Common.{refl, sym, ◌∙◌}
use Rattle.batch_script.proofs.ProgressLemmas.{progress-proc}
use Rattle.batch_script.proofs.progress.add_proc.Goals as goal

pub returns : goal.returns
returns c items h =
    (sym h.header ∙ c.if-not-progress.false, progress-proc c.args.progress.now _ items c.args.line h c.if-not-progress.false c.in_ok-push.ensures.items refl refl refl refl)
