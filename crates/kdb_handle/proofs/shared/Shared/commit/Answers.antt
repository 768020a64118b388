-- The core stands for the story with what the turn told.
use Rattle.std.proofs.Common.{◌+◌, length, ap, ◌∙◌}
use Rattle.kdb_handle.specs.Turns.{told_by}
use Rattle.kdb_handle.proofs.BelongLemmas.{is_ready}
use Rattle.kdb_handle.proofs.TurnLemmas.{turn_commits}
use Rattle.model_store.specs.Store.{Formats, formats_of}
use Rattle.store_verdict.specs.PreparedView.{prepared_of}
use Rattle.store_verdict.specs.declared.prepared.Prepared.{Prepared}
use Rattle.kdb_handle.proofs.shared.Shared.commit.Goals as goal

pub commit-answer-requires : goal.commit-answer-requires
commit-answer-requires g c =
    let formats : Formats = formats_of g.F.Formats in
    let old = c.args.self.now in
    record {
      ready = is_ready formats g.D.Disk g.row.D.coded g.P.Patterns.refusals c.args.plan.now.mounted old.core old.entries c.requires.may.0 c.args.rec.now c.args.prepared c.requires.may.1;
    }

pub returns : goal.returns
returns g c =
    let old = c.args.self.now in
    let call = c.commit-answer in
    turn_commits (formats_of g.F.Formats) g.D.Disk g.row.D.coded g.P.Patterns.refusals c.args.plan.now.mounted old c.tell.new.self call.new.self c.args.rec.now call.new.rec c.args.prepared call.result
    call.ensures c.tell.ensures.core
    (c.tell.ensures.told ∙ ap (λ (set : Prepared). told_by (prepared_of set) call.result) c.of-set.ensures)
    (c.tell.ensures.count ∙ ap (λ (set : Prepared). old.entries + length (told_by (prepared_of set) call.result)) c.of-set.ensures)
