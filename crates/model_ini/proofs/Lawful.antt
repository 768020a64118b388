-- The laws of the format, and that it goes by keys.
use Rattle.std.proofs.Common.{refl}
use Rattle.model_maps.specs.KeyMap.{no_keys}
use Rattle.model_formats.specs.Format.{IsLawful}
use Rattle.model_lines.specs.Lines.{lines}
use Rattle.model_lines.proofs.Leading.{Leads-once, Leads-stops_nowhere, StopsAt-once, Leads-or_stops}
use Rattle.model_ini.specs.Ini.{Step}
use Rattle.model_ini.specs.Text.{ini}
use Rattle.model_ini.proofs.IniLemmas.{Step-once, Step-told, IsIniKey-told, Reads-storable, Reads-limited}
use Rattle.model_ini.proofs.TextReads.{text-reads}

pub ini-lawful : IsLawful ini
ini-lawful = record {
  text_reads = text-reads;
  one_reading = λ bytes keys other p q. Leads-once Step Step-once (lines bytes) no_keys keys other p q;
  read_is_storable = Reads-storable;
  read_is_limited = Reads-limited;
  empty_reads = refl;
  reads_or_bad = λ bytes. Leads-or_stops Step Step-told (lines bytes) no_keys;
  read_is_not_bad = λ bytes keys line p q. Leads-stops_nowhere Step Step-once no_keys (lines bytes) keys line p q;
  one_line = λ bytes line other p q. StopsAt-once Step Step-once no_keys (lines bytes) line other p q;
  holds_or_not = λ _ name entry. IsIniKey-told name entry;
  held_alone = λ _ _ name entry _ held. held;
}
