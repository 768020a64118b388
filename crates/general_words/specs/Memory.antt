-- Want of memory may answer any call, and of it nothing is said.
use Rattle.std.specs.Prelude.{◌≢◌}

-- this holds of a fault, or the fault is want of memory
abbrev pub UnlessMemory : {F : Type 0} → F → Type 0 → F → Type 0
UnlessMemory memory Holds fault = fault ≢ memory → Holds
