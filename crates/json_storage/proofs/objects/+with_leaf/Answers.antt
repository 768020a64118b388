-- The leaf goes on in the first member, or in a new one before it.
use Rattle.std.proofs.Common.{◌+◌, arith}
use Rattle.std.proofs.lemmas.Result.{IfOk-weaker}
use Rattle.serde_json.specs.View.{view, members_view}
use Rattle.json_storage.specs.Writing.{between}
use Rattle.json_storage.proofs.ObjectLemmas.{leads-on-first, leaf-joined}
use Rattle.json_storage.proofs.objects.+with_leaf.Goals as goal

pub with_leaf-requires : goal.with_leaf-requires
with_leaf-requires t c =
    let parts = c.args.name.now.parts in
    let on = leads-on-first c.in-Some.part.now (between (c.args.from + 1) c.args.end parts) (between c.args.from c.args.end parts) (view c.args.value) (view c.first_at-first.result) (members_view c.members_in-members.result.entries) (members_view c.first_at-first.new.members.entries)
    c.in-Some.ensures.parts c.members_in-members.ensures c.requires.1.1 c.first_at-first.ensures in
    (omega (arith, c.in-Some.ensures.place, c.requires.1.0), on.0)

pub object_with-requires : goal.object_with-requires
object_with-requires t c =
    let parts = c.args.name.now.parts in
    let on = leads-on-first c.in-Some.part.now (between (c.args.from + 1) c.args.end parts) (between c.args.from c.args.end parts) (view c.args.value) (view c.first_at-first.result) (members_view c.members_in-members.result.entries) (members_view c.first_at-first.new.members.entries)
    c.in-Some.ensures.parts c.members_in-members.ensures c.requires.1.1 c.first_at-first.ensures in
    record { before = on.1 }

pub returns : goal.returns
returns t c =
    let parts = c.args.name.now.parts in
    IfOk-weaker c.object_with.result _ _
    (λ made built. leaf-joined c.in-Some.part.now (between (c.args.from + 1) c.args.end parts) (between c.args.from c.args.end parts) c.args.text.now (view c.args.value) (view c.first_at-first.result) (view c.in_ok-changed.changed) (view made) (members_view c.members_in-members.result.entries) (members_view c.first_at-first.new.members.entries)
    c.in-Some.ensures.parts c.members_in-members.ensures c.first_at-first.ensures c.in_ok-changed.ensures built) c.object_with.ensures
