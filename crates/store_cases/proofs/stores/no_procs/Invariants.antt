-- As many sets as were counted, each without keys.
use Rattle.std.proofs.Common.{◌≡◌, length}
use Rattle.std.specs.List.{AllByRecursion}
use Rattle.store_verdict.specs.ProcKeys.{AreProc}
use Rattle.store_cases.proofs.stores.no_procs.Given as goal

abbrev pub invariant-loop : goal.invariant-loop
invariant-loop l = record { count : length l.procs.items ≡ l.counter; proc : AllByRecursion AreProc l.procs.items }
