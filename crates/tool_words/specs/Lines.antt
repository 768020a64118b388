-- The lines that tell why words are refused. (This project's own; the codes are Elektra's.)
use Rattle.std.specs.Prelude.{ℕ, List, ◌++◌, codes}
use Rattle.std.specs.Fmt.{decimal}
use Rattle.model_names.specs.Name.{Name}
use Rattle.model_names.specs.Refuses.{Refusal, NoNamespace, UnknownNamespace, NoSlash, BadEscape, BadArray, Nul, TooLong}
use Rattle.model_quoting.specs.Quoted.{quoted, shown, shown_text}

abbrev pub no_command : List ℕ
no_command = codes "no command"

abbrev pub unknown_command : List ℕ → List ℕ
unknown_command word = codes "unknown command " ++ shown_text word

abbrev pub options_refused : List ℕ
options_refused = codes "options refused"

-- what is wrong with a text that is no name
abbrev pub fault_of_name : Refusal → List ℕ
fault_of_name NoNamespace = codes "no namespace"
fault_of_name UnknownNamespace = codes "unknown namespace"
fault_of_name NoSlash = codes "no slash"
fault_of_name (BadEscape at) = codes "bad escape at " ++ decimal at
fault_of_name (BadArray at) = codes "bad array at " ++ decimal at
fault_of_name (Nul at) = codes "nul at " ++ decimal at
fault_of_name (TooLong bytes) = codes "too long " ++ decimal bytes

abbrev pub no_name : Refusal → List ℕ
no_name refusal = codes "C01320 name: " ++ fault_of_name refusal

-- a word that is to be a metadata name, or a format's word, is none
abbrev pub argument : List ℕ → List ℕ
argument word = codes "C01320 argument: " ++ quoted word

-- a key can't be written, or a name that can't be a mountpoint or have a file
abbrev pub not_writable : Name → List ℕ
not_writable name = codes "C01320 not writable: " ++ shown name
