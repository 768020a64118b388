use Rattle.model_formats.proofs.HoldingLemmas.{EachHas-or_lacks, EachHas-lacks_nowhere, LacksFirst-once, get-there}
use Rattle.model_lines.proofs.FirstKey.{LacksFirst-before}
use Rattle.model_hosts.specs.Keys.{IsHostsKey}
use Rattle.model_hosts.proofs.HostsLemmas.{hosts_key-told}
use Rattle.model_hosts.proofs.laws.a_map_can_be_stored_or_has_one_first_breaking_key.Goals as goal

pub returns-clause-some : goal.returns-clause-some
returns-clause-some c = λ keys. EachHas-or_lacks (IsHostsKey keys) (hosts_key-told keys) keys

pub returns-clause-not_both : goal.returns-clause-not_both
returns-clause-not_both c = λ keys. EachHas-lacks_nowhere (IsHostsKey keys) keys

pub returns-clause-one_key : goal.returns-clause-one_key
returns-clause-one_key c = λ keys. LacksFirst-once (IsHostsKey keys) keys

pub returns-clause-key : goal.returns-clause-key
returns-clause-key c =
    λ keys name breaks. (breaks.entry, get-there keys breaks.front name breaks.entry breaks.behind breaks.all, breaks.lacks)

pub returns-clause-first : goal.returns-clause-first
returns-clause-first c = λ keys. LacksFirst-before (IsHostsKey keys) keys
