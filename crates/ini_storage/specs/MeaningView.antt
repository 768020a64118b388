-- What the code says of a line, as the definitions have it.
use Rattle.model_ini.specs.Line.{Meaning, Skipped, Pair, Unreadable}
use Rattle.ini_storage.specs.declared.meanings.Meaning.{Meaning as Found}
use Rattle.ini_storage.specs.declared.meanings.Meaning.TheVariants as found

abbrev pub meaning_view : Found → Meaning
meaning_view found.Skipped = Skipped
meaning_view (found.Pair name value) = Pair name.items value.items
meaning_view found.Unreadable = Unreadable
