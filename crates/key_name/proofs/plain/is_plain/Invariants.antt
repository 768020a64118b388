use Rattle.std.proofs.Common.{◌≡◌, drop}
use Rattle.key_name.specs.Plain.{is_plain}
use Rattle.key_name.proofs.PlainLemmas.{plain_rest}
use Rattle.key_name.proofs.plain.is_plain.Given as goal

-- what is left decides
abbrev pub invariant-loop-b : goal.invariant-loop-b
invariant-loop-b l = plain_rest l.is_first (drop l.b-index l.b-items) ≡ is_plain l.path
