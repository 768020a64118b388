use Rattle.std.proofs.Common.{◌≡◌, ◌≤◌, ◌-◌, ◌+◌, ◌++◌, [], length}
use Rattle.std.specs.Option.{option_map_or, IfSome}
use Rattle.model_names.specs.RawParts.{raw_parts}
use Rattle.model_names.specs.Refuses.{placed}
use Rattle.key_name.specs.Raws.{with_places}
use Rattle.key_name.proofs.cutting.cut.Given as goal

abbrev pub invariant-loop-rest : goal.invariant-loop-rest
invariant-loop-rest l = record {
  within : IfSome l.rest (λ left. length left.now ≤ l.end);
  so_far : with_places l.raws.items ++ option_map_or (λ left. placed (l.end - length left.now) (raw_parts left.now)) l.rest [] ≡ placed (l.end - length l.fn.path) (raw_parts l.fn.path);
}

abbrev pub decreases-loop-rest : goal.decreases-loop-rest
decreases-loop-rest l = option_map_or (λ left. length left.now + 1) l.rest 0
