-- The comments so far were appended, and the lines of those that are left follow.
use Rattle.std.proofs.Common.{◌≡◌, ◌∷◌, ◌++◌, drop, map}
use Rattle.model_lines.specs.Lines.{ended}
use Rattle.hosts_storage.proofs.writing.push_lines.Given as goal

abbrev pub invariant-loop-text : goal.invariant-loop-text
invariant-loop-text l =
    l.bytes.items ++ ended (map (λ text. 35 ∷ text) (drop l.text-index l.texts)) ≡ l.fn.bytes.items ++ ended (map (λ text. 35 ∷ text) l.texts)
