-- A name is the present key's where the two are equal.
use Rattle.std.proofs.Common.{◌≡◌, Some, sym, ap, ◌∙◌}
use Rattle.std.specs.Option.{option_map}
use Rattle.dump_storage.specs.declared.progress.Present.{Present}
use Rattle.model_names.proofs.OrderLemmas.{name_decides}
use Rattle.dump_storage.proofs.progress.Progress.is_present.Goals as goal

pub returns-in-Some : goal.returns-in-Some
returns-in-Some c =
    let name = c.in-Some.present.name in
    let is = ap (option_map (λ (present : Present). present.name)) c.in-Some.is in (
      λ yes. is ∙ ap Some ((name_decides name c.args.name.now).0 (sym c.eq.ensures ∙ yes)),
      λ same. c.eq.ensures ∙ (name_decides name c.args.name.now).1 (let one : Some name ≡ Some c.args.name.now = sym is ∙ same in cc),
    )
