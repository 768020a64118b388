-- The keys so far can be stored.
use Rattle.model_ini.specs.Ini.{IsIniKey}
use Rattle.file_lines.proofs.Walking.{HaveBefore}
use Rattle.ini_storage.proofs.writing.test.Given as goal

abbrev pub invariant-loop-name : goal.invariant-loop-name
invariant-loop-name l = HaveBefore IsIniKey l.keys l.name-iterator
