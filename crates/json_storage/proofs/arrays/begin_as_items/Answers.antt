use Rattle.std.proofs.Common.{◌≡◌, string_bytes, ap, ◌∙◌, rules}
use Rattle.model_names.specs.ArrayPart.{is_array_like}
use Rattle.serde_json.proofs.Views.{Entry}
use Rattle.json_storage.proofs.EachMember.{begins-as}
use Rattle.json_storage.proofs.arrays.begin_as_items.Goals as goal

pub returns-in-Some : goal.returns-in-Some
returns-in-Some c =
    let e : Entry = (c.in-Some.name.now, c.in-Some.field-0-1.now) in
    let named : c.as_str.result.now ≡ string_bytes c.in-Some.name.now = search rules in
    c.is_array_like.ensures ∙ ap is_array_like named ∙ begins-as c.args.members.now.entries e c.in-Some.ensures.first
