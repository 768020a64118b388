use Rattle.std.proofs.Common.{subst}
use Rattle.model_hosts.specs.Hosts.{Reads}
use Rattle.model_hosts.specs.Text.{text}
use Rattle.model_hosts.proofs.Lawful.{hosts-lawful}
use Rattle.model_hosts.proofs.laws.different_maps_have_different_texts.Goals as goal

pub returns : goal.returns
returns c = λ keys other limited storable other_limited other_storable same.
    hosts-lawful.one_reading (text other) keys other (subst (λ bytes. Reads bytes keys) same (hosts-lawful.text_reads keys limited storable)) (hosts-lawful.text_reads other other_limited other_storable)
