-- The first sign is that of a front, and the others follow.
use Rattle.std.proofs.Common.{◌++◌, ap, sym, ◌∙◌}
use Rattle.std.specs.List.{flat_map}
use Rattle.model_ini.specs.Signs.{spelled_sign}
use Rattle.ini_storage.specs.SideView.{sign_at, first_at}
use Rattle.ini_storage.proofs.KeyLemmas.{signs_at-long}
use Rattle.ini_storage.proofs.writing.push_long.Goals as goal
use Rattle.general_words.proofs.Lists.{appended}

pub returns : goal.returns
returns c =
    let bytes = c.args.bytes.now.items in
    let first = c.in_ok-push_spelled.ensures ∙ ap (λ sign. bytes ++ spelled_sign sign) (c.first_sign.ensures ∙ ap (first_at c.args.side) c.sign_of.ensures) in
    appended bytes c.push_spelled.new.bytes.items c.push_rest.new.bytes.items (spelled_sign (first_at c.args.side (sign_at c.args.side c.args.first))) _ first c.in_ok-push_rest.ensures
    ∙ ap (λ signs. bytes ++ flat_map spelled_sign signs) (sym (signs_at-long c.args.side c.args.first c.args.rest.now c.requires))
