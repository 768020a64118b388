use Rattle.std.proofs.Common.{◌≡◌, map, take, string_bytes}
use Rattle.key_name.proofs.part_list.PartList.from_texts.Given as goal

abbrev pub invariant-loop-text : goal.invariant-loop-text
invariant-loop-text l = l.parts ≡ map (λ text. string_bytes text) (take l.text-index l.texts)
