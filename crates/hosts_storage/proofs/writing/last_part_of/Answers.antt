-- The last part of a list is the one at the last place.
use Rattle.std.proofs.Common.{◌∙◌}
use Rattle.hosts_storage.proofs.PartLemmas.{last_part-some, last_part-none}
use Rattle.hosts_storage.proofs.writing.last_part_of.Goals as goal

pub returns-in-Some : goal.returns-in-Some
returns-in-Some c = c.as_bytes.ensures.value ∙ last_part-some c.args.name.now.parts c.in-Some.part.now c.in-Some.ensures

pub returns-in-None : goal.returns-in-None
returns-in-None c = last_part-none c.args.name.now.parts c.in-None.ensures
