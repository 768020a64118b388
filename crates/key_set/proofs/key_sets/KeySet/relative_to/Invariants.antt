-- The keys so far under the names that lead there, all sound: with those to come they are all.
use Rattle.std.proofs.Common.{◌≡◌, filter_map}
use Rattle.key_set.specs.Sound.{AreSound}
use Rattle.key_set.specs.WithAll.{with_keys}
use Rattle.key_set.specs.Whole.{as_way, relative}
use Rattle.key_set.proofs.key_sets.KeySet.relative_to.Given as goal

abbrev pub invariant-loop-name : goal.invariant-loop-name
invariant-loop-name l =
    record {
      made : with_keys (filter_map (as_way l.point) l.name-iterator) l.all ≡ relative l.point l.self;
      sound : AreSound l.point l.all;
    }
