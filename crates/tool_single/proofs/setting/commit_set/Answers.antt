-- The set is judged alone, and the run on the disk goes on by the answer.
use Rattle.std.proofs.Common.{List, ℕ, Err, sym, ap, subst}
use Rattle.model_maps.specs.KeyMap.{no_keys}
use Rattle.tool_commands.specs.Report.{Report}
use Rattle.kdb_outside.specs.Faults.{HasRisen}
use Rattle.tool_single.specs.Serving.{MayRefuse, Serves}
use Rattle.tool_single.specs.Sets.{AnswersSet}
use Rattle.std.specs.Prelude.{string_bytes}
use Rattle.model_store.specs.Rules.{has_risen}
use Rattle.tool_single.proofs.RiseLemmas.{rose_may}
use Rattle.tool_single.proofs.CommitLemmas.{done_serves, joined, blocks_not, is_small, made, ready, records, refused_disk, refused_serving, world}
use Rattle.tool_single.proofs.setting.commit_set.Goals as goal

pub commit-requires : goal.commit-requires
commit-requires g c = record {
  ready =
      ready g.D.Disk c.args.plan.now.mounted c.args.core.now c.args.rec.now c.args.prepared (c.requires.open.world (λ h. no_keys)) c.requires.alone.parent c.requires.alone.keys c.requires.alone.fetched c.requires.alone.made;
}

pub refuse_commit-requires : goal.refuse_commit-requires
refuse_commit-requires g c =
    let refused = g.P.Patterns.refusals in
    let risen = has_risen (refused c.args.core.now.patterns) (refused c.commit.new.self.patterns) in
    let here = c.requires.open.world (λ h. no_keys) in
    let alone = c.requires.alone in
    record {
      free = λ mount by front is.
          blocks_not g.D.Disk c.args.plan.now.mounted c.args.core.now c.args.rec.now c.args.prepared here alone.parent alone.keys alone.fetched alone.made risen c.in-Err.fault (c.in-Err.ensures.judged (λ h. no_keys)) mount by front is;
      small = λ mount bytes front is.
          is_small g.D.Disk c.args.plan.now.mounted c.args.core.now c.args.rec.now c.args.prepared here alone.parent alone.keys alone.fetched alone.made risen c.in-Err.fault (c.in-Err.ensures.judged (λ h. no_keys)) mount bytes front is;
    }

pub returns-in-Ok-clause-serving : goal.returns-in-Ok-clause-serving
returns-in-Ok-clause-serving g c = λ parent keys fetched is_made.
    let files = c.args.plan.now.mounted in
    let core = c.args.core.now in
    let here = c.requires.open.world (λ h. no_keys) in
    let after = c.commit.new.self in
    let out = string_bytes c.args.out in
    let refused = g.P.Patterns.refusals in
    let Rose : List ℕ → Type 0 = λ pattern. HasRisen (refused c.args.core.now.patterns) (refused c.commit.new.self.patterns) in
    let risen = has_risen (refused c.args.core.now.patterns) (refused c.commit.new.self.patterns) in
    subst (λ (r : Report). Serves g.D.Disk files (AnswersSet Rose files parent keys out) r core after) (sym c.tell-report.ensures.told)
    (done_serves g.D.Disk files core c.args.rec.now c.args.prepared here parent keys fetched is_made Rose risen out after c.commit.new.rec c.in-Ok.field-0 (c.in-Ok.ensures.judged (λ h. no_keys))
    (λ opened run names on_disk. c.in-Ok.ensures.committed (λ h. no_keys) opened (records g.D.Disk files core c.args.rec.now c.args.prepared here parent keys fetched is_made) (made g.D.Disk files core c.args.rec.now c.args.prepared here parent keys fetched is_made)
    (world g.D.Disk files core c.args.rec.now c.args.prepared here parent keys fetched is_made) run 0 (joined g.D.Disk files core c.args.rec.now c.args.prepared here parent keys fetched is_made opened run names on_disk))
    c.in-Ok.ensures.unwritten)

pub returns-in-Err-clause-serving : goal.returns-in-Err-clause-serving
returns-in-Err-clause-serving g c = λ parent keys fetched is_made.
    let files = c.args.plan.now.mounted in
    let core = c.args.core.now in
    let here = c.requires.open.world (λ h. no_keys) in
    let after = c.commit.new.self in
    let out = string_bytes c.args.out in
    let refused = g.P.Patterns.refusals in
    let Refusing = MayRefuse c.refuse_commit.result (refused c.args.core.now.patterns) (refused c.commit.new.self.patterns) in
    let risen = has_risen (refused c.args.core.now.patterns) (refused c.commit.new.self.patterns) in
    refused_serving g.D.Disk files core c.args.rec.now c.args.prepared here parent keys fetched is_made Refusing risen out after c.commit.new.rec c.in-Err.fault c.refuse_commit.result
    (rose_may c.refuse_commit.result (refused core.patterns) (refused after.patterns)) c.refuse_commit.ensures.refused (c.in-Err.ensures.judged (λ h. no_keys))
    (λ opened run names on_disk. c.in-Err.ensures.committed (λ h. no_keys) opened (records g.D.Disk files core c.args.rec.now c.args.prepared here parent keys fetched is_made) (made g.D.Disk files core c.args.rec.now c.args.prepared here parent keys fetched is_made)
    (world g.D.Disk files core c.args.rec.now c.args.prepared here parent keys fetched is_made) run 0 (joined g.D.Disk files core c.args.rec.now c.args.prepared here parent keys fetched is_made opened run names on_disk))
    c.in-Err.ensures.unwritten c.in-Err.ensures.wrote

pub returns-in-Err-clause-cause : goal.returns-in-Err-clause-cause
returns-in-Err-clause-cause g c = λ is.
    let disk = refused_disk c.in-Err.fault c.refuse_commit.result c.refuse_commit.ensures.refused is in
    c.in-Err.ensures.cause disk.0 (ap Err disk.1)
