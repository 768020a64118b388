use Rattle.std.specs.Prelude.{[], ◌∷◌, codes}
use Rattle.std.proofs.Common.{refl}
use Rattle.model_maps.specs.KeyMap.{no_keys}
use Rattle.model_hosts.specs.Line.{Skipped, Comment}
use Rattle.model_hosts.specs.Hosts.{Progress, start}
use Rattle.model_hosts.proofs.SmallFiles.{says, entry_reads}
use Rattle.model_hosts.proofs.examples.small_files_read.Goals as goal

abbrev one_waits : Progress
one_waits = record { keys = no_keys; waiting = codes " c" ∷ [] }

abbrev two_wait : Progress
two_wait = record { keys = no_keys; waiting = codes " c" ∷ codes " d" ∷ [] }

pub returns-clause-comment : goal.returns-clause-comment
returns-clause-comment c = record {
  waiting = two_wait.waiting;
  leads = (
    one_waits,
    says (codes "# c") (Comment (codes " c")) start one_waits refl refl refl,
    (one_waits, says [] Skipped one_waits one_waits refl refl refl, (two_wait, says (codes "# d") (Comment (codes " d")) one_waits two_wait refl refl refl, refl)),
  );
}

pub returns-clause-entry : goal.returns-clause-entry
returns-clause-entry c = entry_reads
