use Rattle.std.proofs.Common.{subst}
use Rattle.model_ini.specs.Ini.{Reads}
use Rattle.model_ini.specs.Text.{text}
use Rattle.model_ini.proofs.Lawful.{ini-lawful}
use Rattle.model_ini.proofs.laws.different_maps_have_different_texts.Goals as goal

pub returns : goal.returns
returns c = λ keys other limited storable other_limited other_storable same.
    ini-lawful.one_reading (text other) keys other (subst (λ bytes. Reads bytes keys) same (ini-lawful.text_reads keys limited storable)) (ini-lawful.text_reads other other_limited other_storable)
