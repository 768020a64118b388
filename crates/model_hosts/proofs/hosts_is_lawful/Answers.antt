use Rattle.model_hosts.proofs.Lawful.{hosts-lawful}
use Rattle.model_hosts.proofs.hosts_is_lawful.Goals as goal

pub returns : goal.returns
returns c = hosts-lawful
