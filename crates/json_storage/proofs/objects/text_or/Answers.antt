use Rattle.std.proofs.Common.{◌≡◌, string_bytes, sym, ap, ◌∙◌, rules}
use Rattle.serde_json.specs.Data.{string}
use Rattle.serde_json.specs.View.{view}
use Rattle.serde_json.specs.declared.value.Value.{the_lemmas, String}
use Rattle.json_storage.proofs.ObjectLemmas.{text_or-some, text_or-none}
use Rattle.json_storage.proofs.objects.text_or.Goals as goal

pub returns-then-has_members : goal.returns-then-has_members
returns-then-has_members c =
    sym (text_or-some c.args.text.now (view c.args.value) (sym c.has_members.ensures ∙ c.if-has_members.true))

pub returns : goal.returns
returns c =
    let s = c.in_ok-from_str.field-0 in
    let seen : view (String s) ≡ string (string_bytes s) = search (rules, the_lemmas) in
    let copied : string_bytes s ≡ c.args.text.now = search rules in
    seen ∙ ap string copied
    ∙ sym (text_or-none c.args.text.now (view c.args.value) (sym c.has_members.ensures ∙ c.if-has_members.false))
