use Rattle.model_hosts.specs.Text.{text}
use Rattle.model_hosts.proofs.Lawful.{hosts-lawful}
use Rattle.model_hosts.proofs.laws.a_text_reads_as_no_other_map.Goals as goal

pub returns : goal.returns
returns c =
    λ keys other limited storable reads. hosts-lawful.one_reading (text keys) other keys reads (hosts-lawful.text_reads keys limited storable)
