use Rattle.std.specs.Prelude.{[], codes}
use Rattle.model_names.proofs.OrderLemmas.{name_cmp_total}
use Rattle.model_maps.specs.Entry.{plain_entry}
use Rattle.model_maps.specs.KeyMap.{no_keys}
use Rattle.general_words.proofs.Maps.{get-insert_same}
use Rattle.model_hosts.proofs.HostsLemmas.{Reads-storable}
use Rattle.model_hosts.proofs.SmallFiles.{alias_b, a_and_b, entry_reads, alias_b_alone}
use Rattle.model_hosts.proofs.examples.hosts_do_not_go_by_keys.Goals as goal

pub returns-clause-both : goal.returns-clause-both
returns-clause-both c = Reads-storable (codes "# c\n1\ta b b # d\r\n#e") a_and_b entry_reads

pub returns-clause-alone : goal.returns-clause-alone
returns-clause-alone c =
    λ storable. alias_b_alone (storable alias_b (plain_entry []) (get-insert_same name_cmp_total no_keys alias_b (plain_entry [])))
