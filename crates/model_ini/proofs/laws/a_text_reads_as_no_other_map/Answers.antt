use Rattle.model_ini.specs.Text.{text}
use Rattle.model_ini.proofs.Lawful.{ini-lawful}
use Rattle.model_ini.proofs.laws.a_text_reads_as_no_other_map.Goals as goal

pub returns : goal.returns
returns c =
    λ keys other limited storable reads. ini-lawful.one_reading (text keys) other keys reads (ini-lawful.text_reads keys limited storable)
