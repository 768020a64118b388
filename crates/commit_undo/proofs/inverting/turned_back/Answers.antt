use Rattle.std.proofs.Common.{map as over, sym, ap, ◌∙◌, arith}
use Rattle.std.proofs.lemmas.List.{take_all}
use Rattle.commit_log.specs.CommitView.{change_of}
use Rattle.commit_undo.proofs.InverseLemmas.{turned, turned-seen}
use Rattle.commit_undo.proofs.inverting.turned_back.Goals as goal

pub returns : goal.returns
returns c =
    ap (over change_of) c.from_vec.ensures
    ∙ c.loop-change.invariant
    ∙ ap (over (turned c.args.before.now)) (take_all c.loop-change.change-index c.args.changes.now (omega (arith, c.loop-change-test.false)))
    ∙ sym (turned-seen c.args.before.now c.args.changes.now)
