use Rattle.key_set.specs.EntryView.{entry_of}
use Rattle.std.proofs.Common.{arith}
use Rattle.ini_storage.proofs.KeyLemmas.{ini_key-decides}
use Rattle.ini_storage.proofs.writing.is_ini_key.Goals as goal

pub returns-then-len-gt0 : goal.returns-then-len-gt0
returns-then-len-gt0 c =
    ini_key-decides c.args.name.now (entry_of c.args.entry.now) c.is_empty.result (omega (arith, c.len.ensures.parts)) c.is_empty.ensures.empty
