-- The keys that the mount owns have short texts, and so have the others, as all have.
use Rattle.std.proofs.Common.{not, subst, sym}
use Rattle.std.proofs.lemmas.Result.{IfOk-weaker}
use Rattle.model_names.specs.Name.{Name}
use Rattle.set_split.specs.Involved.{owns}
use Rattle.mounted_files.specs.Holding.{IsShortHolding}
use Rattle.mounted_files.specs.Short.{HasShortTexts}
use Rattle.mounted_files.specs.declared.files.FileState.{FileState}
use Rattle.mounted_files.specs.declared.holding.Holding.{Holding}
use Rattle.mounted_files.proofs.ChangeLemmas.{short-kept}
use Rattle.mounted_files.proofs.opening.state_of.Goals as goal

pub returns-in-Keys-clause-short : goal.returns-in-Keys-clause-short
returns-in-Keys-clause-short c short =
    let keys_short = subst (λ (holding : Holding). IsShortHolding holding) c.in-Keys.is short in
    let owned_short = short-kept c.in-Keys.keys (owns c.args.points.now c.args.i) keys_short in
    let kept_short = short-kept c.in-Keys.keys (λ (name : Name). not (owns c.args.points.now c.args.i name)) keys_short in
    IfOk-weaker c.good_state.result _ HasShortTexts (λ state is. subst (λ (s : FileState). HasShortTexts s) (sym is) (owned_short, kept_short)) c.good_state.ensures
