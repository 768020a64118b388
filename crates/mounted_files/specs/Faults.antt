-- Why the keys of a mount are not got: its file is bad. (This project's own.)
use Rattle.std.specs.Prelude.{Option, Some, None}
use Rattle.model_names.specs.Name.{Name}
use Rattle.mounted_files.specs.declared.causes.Cause.{Cause}
use Rattle.mounted_files.specs.declared.causes.Cause.TheVariants.{TooLong, BadFile, TooHeavy}
use Rattle.mounted_files.specs.declared.files.FileState.{FileState}
use Rattle.mounted_files.specs.declared.files.FileState.TheVariants.{Good, Bad}
use Rattle.mounted_files.specs.declared.files.MountedFile.{MountedFile}
use Rattle.mounted_files.specs.declared.refusals.GetFault.{GetFault}
use Rattle.mounted_files.specs.declared.refusals.GetFault.TheVariants as fault

-- a mount is bad for a cause
abbrev pub fault_of : Name → Cause → GetFault
fault_of mount (TooLong bytes) = fault.TooLong mount bytes
fault_of mount (BadFile line) = fault.BadFile mount line
fault_of mount (TooHeavy weight) = fault.TooHeavy mount weight

-- a file is bad, and why
abbrev pub fault_in : MountedFile → Option GetFault
fault_in file = by_state file.state
  where
    by_state : FileState → Option GetFault
    by_state (Good visible shadow) = None
    by_state (Bad cause) = Some (fault_of file.mount.at cause)
