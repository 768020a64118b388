use Rattle.std.proofs.Common.{◌≡◌, ◌++◌, ◌∷◌, [], cond, is_ok, lit<, string_bytes, ap, ◌∙◌}
use Rattle.std.specs.Prelude.{encode_utf8}
use Rattle.std.proofs.lemmas.Str.{encode_ascii}
use Rattle.key_name.specs.PartList.{parts_of}
use Rattle.key_name.proofs.PartListLemmas.{HasParts, HasParts-in, parts_alone, push_either, seen_if_ok}
use Rattle.key_name.proofs.part_list.PartList.push.Goals as goal

has : (c : goal.After-push_str)
    → HasParts (string_bytes c.push_str.new.self) (cond (is_ok c.push_str.result) (parts_of c.self.inside ++ c.args.part.now ∷ []) (parts_of c.self.inside ++ [] ∷ []))
has c =
    let nul : encode_utf8 0 ≡ 0 ∷ [] = encode_ascii 0 (lit< tt) in
    push_either (is_ok c.push_str.result) (string_bytes c.self.inside.text) c.args.part.now (string_bytes c.push.new.self) _ _ (HasParts-in _ c.self.invariant) c.requires (c.in_ok-push.ensures.bytes ∙ ap (λ nul. string_bytes c.self.inside.text ++ nul) nul) c.push_str.ensures.bytes

pub invariant_of-self-2 : goal.invariant_of-self-2
invariant_of-self-2 c = parts_alone _ _ (has c)

pub returns : goal.returns
returns c = rw (← c.self.view_is) (seen_if_ok c.push_str.result _ _ _ (has c))
