-- A session line names its session.
use Rattle.std.proofs.Common.{◌∷◌, ◌++◌, [], Some, false, refl, sym, ap, subst}
use Rattle.batch_script.specs.declared.items.Item.{Item}
use Rattle.batch_script.specs.declared.progress.Progress.{Progress}
use Rattle.batch_script.specs.Places.{may_follow}
use Rattle.batch_script.specs.Progresses.{IsProgress}
use Rattle.batch_script.specs.Rows.{IsNumbered}
use Rattle.batch_script.proofs.ProgressLemmas.{progress-session}
use Rattle.batch_script.proofs.progress.add_item.Goals as goal

pub returns-in-Session : goal.returns-in-Session
returns-in-Session c items h =
    let old = c.args.progress.now in
    let session = c.in-Session.session in
    let new : Progress = record { proc = old.proc; phases = old.phases; rooms = old.rooms; named = Some session; is_header = false } in
    let numbered = subst IsNumbered c.in-Session.is c.requires.numbered in (
      ap (may_follow items) c.in-Session.is,
      subst (λ (i : Item). IsProgress new (items ++ i ∷ [])) (sym c.in-Session.is) (progress-session old new items session h numbered.0 numbered.1 refl refl refl refl refl),
    )
