-- What the lines that are left give the keys so far is what all lines give.
use Rattle.std.proofs.Common.{◌≡◌, drop}
use Rattle.model_batch.specs.Scripts.{keys_by}
use Rattle.model_maps.specs.KeyMap.{no_keys}
use Rattle.store_verdict.specs.ProcKeys.{AreProc}
use Rattle.batch_run.proofs.proc_keys.keys_by.Given as goal

abbrev pub invariant-loop-line : goal.invariant-loop-line
invariant-loop-line l = record {
  rest : keys_by l.session (drop l.line-index l.lines) l.keys ≡ keys_by l.session l.lines no_keys;
  proc : AreProc l.keys;
}
