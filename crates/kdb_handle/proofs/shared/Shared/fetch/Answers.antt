-- The inverse, the parent and the get are those of the history that the core stands for.
use Rattle.std.proofs.Common.{List, map as over, refl, sym, ap, subst, ◌∙◌}
use Rattle.commit_log.specs.CommitView.{change_of}
use Rattle.commit_log.specs.Log.{Log}
use Rattle.commit_log.specs.declared.commits.Change.{Change}
use Rattle.commit_undo.specs.Inverting.{IsInverse}
use Rattle.kdb_handle.specs.UndoTurns.{undo_in}
use Rattle.kdb_handle.specs.Undoing.{IsBarred}
use Rattle.kdb_handle.proofs.UndoLemmas.{fetched, ungot}
use Rattle.kdb_handle.proofs.shared.Shared.fetch.Goals as goal
use Rattle.model_history.specs.Changes.{changed_by}
use Rattle.model_maps.specs.KeyMap.{KeyMap}
use Rattle.model_store.specs.Store.{Formats, formats_of, points_at}
use Rattle.model_undone.specs.UndoSets.{parent_over, touched_by}

pub returns-in-Err : goal.returns-in-Err
returns-in-Err g c log may =
    let formats : Formats = formats_of g.F.Formats in
    let core = c.args.self.now.core in
    let number = c.args.number in
    let copied = c.in_ok-copied in
    let inverted = subst (λ (h : Log). IsInverse core.start h.commits number c.in_ok-changes.changes) c.history-history.ensures
    (subst (λ (k : KeyMap). IsInverse k c.history-history.result.now.commits number c.in_ok-changes.changes) c.start.ensures c.in_ok-changes.ensures.ok) in
    let parent_is = c.in_ok-parent.ensures.is ∙ ap (λ (h : Log). parent_over (points_at c.table.result.now) (touched_by h.commits number)) c.history-history.ensures in
    subst (IsBarred (undo_in c.args.plan.now.mounted c.args.rec.now log number)) (sym c.of_get.ensures)
    (ungot formats g.D.Disk g.row.D.coded g.P.Patterns.refusals c.args.plan.now.mounted core c.args.self.now.entries log c.args.rec.now number may c.table.result.now c.table.ensures c.in_ok-parent.parent parent_is
    copied.copied c.get.new.rec copied.ensures.handle copied.ensures.proc copied.ensures.kept c.get.result c.get.ensures.got c.in_ok-changes.changes inverted c.in-Err.why c.in-Err.is)

pub returns : goal.returns
returns g c log may =
    let formats : Formats = formats_of g.F.Formats in
    let core = c.args.self.now.core in
    let number = c.args.number in
    let copied = c.in_ok-copied in
    let inverted = subst (λ (h : Log). IsInverse core.start h.commits number c.in_ok-changes.changes) c.history-history.ensures
    (subst (λ (k : KeyMap). IsInverse k c.history-history.result.now.commits number c.in_ok-changes.changes) c.start.ensures c.in_ok-changes.ensures.ok) in
    let parent_is = c.in_ok-parent.ensures.is ∙ ap (λ (h : Log). parent_over (points_at c.table.result.now) (touched_by h.commits number)) c.history-history.ensures in
    let made_is = c.in_ok-make_changes.ensures.ok ∙ ap (λ (cs : List Change). changed_by (over change_of cs) c.in_ok-made.made) c.as_slice.ensures
    ∙ ap (changed_by (over change_of c.in_ok-changes.changes)) c.in_ok-made.ensures in
    fetched formats g.D.Disk g.row.D.coded g.P.Patterns.refusals c.args.plan.now.mounted core c.args.self.now.entries log c.args.rec.now number may c.table.result.now c.table.ensures c.in_ok-parent.parent parent_is
    copied.copied c.get.new.rec copied.ensures.handle copied.ensures.proc copied.ensures.kept c.get.result c.get.ensures.got c.in_ok-changes.changes inverted
    c.in_ok-parent.ensures.points c.get.ensures.handle c.get.ensures.places copied.ensures.places c.get.ensures.proc c.in-Ok.got c.in-Ok.is c.make_changes.new.keys made_is
    (record { parent = c.in_ok-parent.parent; rec = c.get.new.rec; got = c.in-Ok.got.keys; made = c.make_changes.new.keys }) refl refl refl refl
