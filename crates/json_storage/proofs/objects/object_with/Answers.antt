use Rattle.std.proofs.Common.{◌≡◌, string_bytes, ap, ◌∙◌, rules}
use Rattle.serde_json.specs.Data.{object, put}
use Rattle.serde_json.specs.View.{view, members_view}
use Rattle.serde_json.proofs.Views.{view-Object, members_view-insert_entry}
use Rattle.json_storage.proofs.ObjectLemmas.{put-before}
use Rattle.json_storage.proofs.objects.object_with.Goals as goal

pub returns : goal.returns
returns c =
    let old = c.args.members.entries in
    let value = c.args.value in
    let copied : string_bytes c.in_ok-name.name ≡ c.args.part.now = search rules in
    view-Object c.insert.new.self
    ∙ ap object (ap members_view c.in_ok-insert.ensures.entries ∙ members_view-insert_entry old c.in_ok-name.name value ∙ ap (λ k. put k (view value) (members_view old)) copied
    ∙ put-before c.args.part.now (view value) (members_view old) c.requires.before)
