use Rattle.all_formats.specs.Laws.{lawful}
use Rattle.kdb_cases.proofs.formats.written.Goals as goal

pub write-requires : goal.write-requires
write-requires c = (lawful c.args.from).read_is_limited _ c.in-Ok.keys c.in-Ok.ensures
