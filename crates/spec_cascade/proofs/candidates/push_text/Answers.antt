use Rattle.std.specs.Prelude.{◌≡◌, ◌++◌, OnOk}
use Rattle.std.proofs.Common.{sym, subst}
use Rattle.model_names.proofs.NameOfLemmas.{name_of-spelled}
use Rattle.spec_cascade.specs.Candidates.{names_for}
use Rattle.spec_cascade.proofs.candidates.push_text.Goals as goal

pub returns-in-Ok : goal.returns-in-Ok
returns-in-Ok c =
    subst (λ o. OnOk c.push_name.result (c.push_name.new.names.items ≡ c.args.names.now.items ++ names_for o)) (sym (name_of-spelled c.args.text.now c.in-Ok.name c.in-Ok.ensures.spelled)) c.push_name.ensures
