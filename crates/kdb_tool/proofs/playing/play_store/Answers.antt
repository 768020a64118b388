-- The sessions took their steps; or the store is closed just behind its opening.
use Rattle.std.proofs.Common.{List, ℕ, None, refl, subst}
use Rattle.batch_run.proofs.Ending.{unplayed}
use Rattle.model_batch.specs.Scripts.{sessions_of}
use Rattle.model_maps.specs.KeyMap.{no_keys}
use Rattle.mount_table.specs.declared.mounts.Mount.{Mount}
use Rattle.kdb_tool.proofs.playing.play_store.Goals as goal
use Rattle.kdb_tool.specs.Working.{AnswersWith}
use Rattle.tool_single.specs.Sets.{formats}

pub returns-in-Ok : goal.returns-in-Ok
returns-in-Ok g c =
    let script = c.args.script.now in
    let names = c.in-Ok.names in
    let played = c.play_on-played.result in
    let commits = played.closed.history.commits in
    let answer = c.end_played.result.answer in
    record {
      played = played;
      is = c.play_on-played.ensures;
      disk = c.end_played.ensures.disk;
      patterns = c.end_played.ensures.patterns;
      told =
          subst (λ (mounts : List Mount). AnswersWith mounts (sessions_of script) script commits played.transcripts answer) c.in-Ok.ensures.mounts
          (subst (λ (sessions : List ℕ). AnswersWith names.mounts sessions script commits played.transcripts answer) c.in-Ok.ensures.sessions c.end_played.ensures.told);
    }

pub returns-in-Err : goal.returns-in-Err
returns-in-Err g c = record {
  played = record { closed = c.close-disk.result; transcripts = None };
  is =
      unplayed formats g.D.Disk g.P.Patterns.refusals c.args.plan.mounted c.args.script.now c.args.core c.close-disk.result (c.requires.open.world (λ h. no_keys)) c.close-disk.ensures.history c.close-disk.ensures.patterns
      c.close-disk.ensures.left_alone c.close-disk.ensures.shown c.close-disk.ensures.calm c.close-disk.ensures.always c.close-disk.ensures.now c.close-disk.ensures.goes;
  disk = c.given_back.ensures;
  patterns = refl;
  told = refl;
}
