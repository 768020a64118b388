-- Each table that was read has the own mount, and its keys make it.
use Rattle.std.proofs.Common.{rules}
use Rattle.mounted_files.proofs.PlaceLemmas.{own-there}
use Rattle.mounted_files.proofs.opening.begun.Goals as goal

pub own_place-place-requires : goal.own_place-place-requires
own_place-place-requires c = own-there c.args.keys c.args.table c.requires.table

pub invariant_of-result : goal.invariant_of-result
invariant_of-result c = record {
  made = record { keys = c.args.keys; is = c.requires.table };
  ascending = search rules;
  place = search rules;
  few = search rules;
  table = search rules;
  own_short = search rules;
  short = search rules;
  sum = search rules;
  limit = search rules;
}
