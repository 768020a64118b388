-- A bad file adds nothing.
use Rattle.std.proofs.Common.{sym, ap, ◌∙◌}
use Rattle.key_set.specs.WithAll.{with_all}
use Rattle.mounted_files.specs.Visible.{visible_of}
use Rattle.mounted_files.specs.declared.files.FileState.{FileState}
use Rattle.store_core.proofs.VisibleLemmas.{with_none}
use Rattle.store_core.proofs.visible.add_visible.Goals as goal

pub returns-in-Bad : goal.returns-in-Bad
returns-in-Bad c =
    sym (ap (λ (state : FileState). with_all (visible_of state) c.args.keys.now) c.in-Bad.is ∙ with_none c.args.keys.now)
