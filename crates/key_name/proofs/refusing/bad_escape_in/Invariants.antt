use Rattle.std.proofs.Common.{◌≡◌, ◌<◌, ◌+◌, true, drop}
use Rattle.key_name.proofs.PassLemmas.{bad_letter, bad_letter_from}
use Rattle.key_name.proofs.refusing.bad_escape_in.Given as goal

abbrev pub invariant-loop-i : goal.invariant-loop-i
invariant-loop-i l = record {
  so_far : bad_letter l.at l.text ≡ bad_letter_from l.waits (l.at + l.i) (drop l.i l.text);
  behind : l.waits ≡ true → 0 < l.i;
}
