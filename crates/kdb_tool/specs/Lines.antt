-- The lines that tell why a script isn't played. (This project's own; the codes are Elektra's.)
use Rattle.std.specs.Prelude.{ℕ, List, ◌++◌, codes}
use Rattle.std.specs.Fmt.{decimal}

-- the script has too many bytes or too many lines
abbrev pub script_too_long : List ℕ
script_too_long = codes "C01100 script-too-long"

-- the first line of the script that has no meaning, counted from 1
abbrev pub bad_line : ℕ → List ℕ
bad_line number = codes "C03100 bad-line " ++ decimal number
