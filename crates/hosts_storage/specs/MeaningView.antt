-- What the code says of a line, as the definitions have it.
use Rattle.std.specs.Option.{option_map}
use Rattle.model_hosts.specs.Line.{words, Meaning, Skipped, Comment, Gives, Unreadable}
use Rattle.hosts_storage.specs.declared.meanings.Meaning.{Meaning as Found}
use Rattle.hosts_storage.specs.declared.meanings.Meaning.TheVariants as found

abbrev pub meaning_view : Found → Meaning
meaning_view found.Skipped = Skipped
meaning_view (found.Comment text) = Comment text.now
meaning_view (found.Gives line) =
    Gives line.address.now line.host.now (words line.aliases.now) (option_map (λ comment. comment.now) line.own)
meaning_view found.Unreadable = Unreadable
