use Rattle.std.proofs.Common.{length, drop, string_bytes, Some, ap, ◌∙◌, sym}
use Rattle.std.proofs.lemmas.Bool.{cond-true}
use Rattle.key_name.proofs.PartListLemmas.{HasParts, parts_alone, seen_as}
use Rattle.key_name.proofs.part_list.PartList.behind.Goals as goal

left : (c : goal.In_ok-from_str-in-Some)
    → HasParts (string_bytes c.in_ok-from_str-in-Some.field-0) (drop (length c.args.front.now) c.args.self.now)
left c =
    record {
      bytes = c.in_ok-from_str-in-Some.ensures.ok ∙ c.in-Some.ensures.some.1;
      no_nuls = c.in-Some.ensures.some.2;
    }

pub invariant_of-result : goal.invariant_of-result
invariant_of-result c = parts_alone _ _ (left c)

pub returns-in_ok-from_str-in-Some : goal.returns-in_ok-from_str-in-Some
returns-in_ok-from_str-in-Some c =
    ap (λ parts. Some parts) (seen_as _ _ (left c)) ∙ sym (cond-true _ _ _ c.in-Some.ensures.some.0)
