-- Each namespace whose keys are in files has a mount at its root.
use Rattle.mount_table.proofs.RootLemmas.{has_owner}
use Rattle.mount_table.proofs.laws.a_name_with_files_has_an_owner.Goals as goal

pub returns : goal.returns
returns c keys mounts = has_owner keys mounts
