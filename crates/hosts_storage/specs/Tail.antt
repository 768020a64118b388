-- What is left of a text behind a line that may be open. (This project's own.)
use Rattle.std.specs.Prelude.{ℕ, Bool, true, false, List, ◌∷◌, ◌++◌}
use Rattle.std.specs.List.{flat_map}
use Rattle.model_names.specs.Name.{Part}
use Rattle.model_lines.specs.Lines.{ended}
use Rattle.model_hosts.specs.Text.{Group, lines_of}

-- aliases and a line feed follow an open line, and then the other groups
abbrev pub tail_of : Bool → List Part × List Group → List ℕ
tail_of true left = flat_map (λ alias. 32 ∷ alias) left.0 ++ 10 ∷ ended (flat_map lines_of left.1)
tail_of false left = ended (flat_map lines_of left.1)
