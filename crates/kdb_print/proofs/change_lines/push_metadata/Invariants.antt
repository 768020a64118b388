-- The lines so far, with those of the metadata to come, are the lines of all.
use Rattle.std.proofs.Common.{◌≡◌, ◌++◌, string_bytes, map as over}
use Rattle.std.specs.FinMap as map
use Rattle.kdb_print.specs.Printed.{line_of_meta}
use Rattle.model_lines.specs.Lines.{ended}
use Rattle.kdb_print.proofs.change_lines.push_metadata.Given as goal

abbrev pub invariant-loop-name : goal.invariant-loop-name
invariant-loop-name l =
    string_bytes l.text ++ ended (over line_of_meta l.name-iterator) ≡ string_bytes l.fn.text ++ ended (over line_of_meta (map.entries l.metadata))
