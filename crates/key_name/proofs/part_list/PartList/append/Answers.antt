use Rattle.std.proofs.Common.{◌++◌, cond, is_ok, string_bytes, ap, ◌∙◌}
use Rattle.key_name.specs.PartList.{parts_of}
use Rattle.key_name.proofs.PartListLemmas.{HasParts, HasParts-in, append_either, parts_alone, seen_if_ok}
use Rattle.key_name.proofs.part_list.PartList.append.Goals as goal

has : (c : goal.After-push_str)
    → HasParts (string_bytes c.push_str.new.self) (cond (is_ok c.push_str.result) (parts_of c.self.inside ++ parts_of c.back.inside) (parts_of c.self.inside))
has c =
    append_either (is_ok c.push_str.result) (string_bytes c.self.inside.text) (string_bytes c.back.inside.text) _ _ _ (HasParts-in _ c.self.invariant) (HasParts-in _ c.back.invariant) (c.push_str.ensures.bytes ∙ ap (λ back. cond (is_ok c.push_str.result) (string_bytes c.self.inside.text ++ back) (string_bytes c.self.inside.text)) c.deref.ensures)

pub invariant_of-self : goal.invariant_of-self
invariant_of-self c = parts_alone _ _ (has c)

pub returns-clause-ok : goal.returns-clause-ok
returns-clause-ok c = rw (← c.self.view_is, ← c.back.view_is) (seen_if_ok c.push_str.result _ _ _ (has c))
