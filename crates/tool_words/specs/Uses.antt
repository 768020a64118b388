-- Which names a command takes. (This project's own.)
use Rattle.std.specs.Prelude.{Bool, true, false}
use Rattle.model_names.specs.declared.namespaces.Namespace.{Namespace}
use Rattle.model_names.specs.declared.namespaces.Namespace.TheVariants.{Cascading, Spec, Proc, Dir, User, System, Default}
use Rattle.tool_words.specs.declared.uses.Use.{Use}
use Rattle.tool_words.specs.declared.uses.Use.TheVariants.{Looks, Writes}

-- names of a namespace can't be used so: no file holds a cascading, proc or default name, and any name can be looked up
abbrev pub bars : Use → Namespace → Bool
bars Looks namespace = false
bars Writes Cascading = true
bars Writes Spec = false
bars Writes Proc = true
bars Writes Dir = false
bars Writes User = false
bars Writes System = false
bars Writes Default = true
