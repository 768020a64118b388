use Rattle.std.proofs.Common.{sym, ap, ◌∙◌}
use Rattle.serde_json.specs.View.{view, members_view}
use Rattle.json_storage.specs.Writing.{are_some}
use Rattle.json_storage.proofs.ObjectLemmas.{some-members, members-of, members-nowhere}
use Rattle.json_storage.proofs.objects.has_members.Goals as goal

pub returns-in-Some : goal.returns-in-Some
returns-in-Some c =
    let es = c.in-Some.members.now.entries in
    some-members es c.is_empty.result c.is_empty.ensures
    ∙ ap are_some (sym (members-of (view c.args.value.now) (members_view es) c.in-Some.ensures))

pub returns-in-None : goal.returns-in-None
returns-in-None c = members-nowhere (view c.args.value.now) c.in-None.ensures
