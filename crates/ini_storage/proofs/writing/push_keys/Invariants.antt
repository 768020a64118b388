-- The keys so far were appended, and the text of those that are left follows.
use Rattle.std.proofs.Common.{◌≡◌, ◌++◌, map}
use Rattle.model_names.specs.Spelling.{relative_text}
use Rattle.model_lines.specs.Lines.{ended}
use Rattle.model_ini.specs.Text.{line_of, text}
use Rattle.ini_storage.proofs.writing.push_keys.Given as goal

abbrev pub invariant-loop-name : goal.invariant-loop-name
invariant-loop-name l =
    l.bytes.items ++ ended (map (λ key. line_of (relative_text key.0) key.1.value) l.name-iterator) ≡ l.fn.bytes.items ++ text l.keys
