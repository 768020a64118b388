use Rattle.std.proofs.Common.{◌≡◌, string_bytes, sym, ap, ◌∙◌, subst, rules}
use Rattle.std.specs.Bool.{Decides}
use Rattle.general_words.specs.Texts.{is_text}
use Rattle.serde_json.specs.View.{members_view}
use Rattle.serde_json.proofs.Views.{Entry}
use Rattle.json_storage.specs.Writing.{BeginsWith}
use Rattle.json_storage.proofs.ObjectLemmas.{begins-with, begins-somewhere}
use Rattle.json_storage.proofs.objects.is_first.Goals as goal

pub returns-in-Some : goal.returns-in-Some
returns-in-Some c =
    let es = c.args.members.now.entries in
    let part = c.args.part.now in
    let e : Entry = (c.in-Some.name.now, c.in-Some.field-0-1.now) in
    let named : c.as_str.result.now ≡ string_bytes c.in-Some.name.now = search rules in
    subst (λ b. Decides b (BeginsWith part (members_view es))) (sym (c.are_same.ensures ∙ ap (is_text part) named)) (begins-with part es e c.in-Some.ensures.first)

pub returns-in-None : goal.returns-in-None
returns-in-None c =
    (λ e. absurd cc, λ begins. let clash = c.in-None.ensures.variant.1 (begins-somewhere c.args.part.now c.args.members.now.entries begins) in absurd cc)
