use Rattle.std.proofs.Common.{◌≡◌, false, map, sym, ap, subst, ◌∙◌}
use Rattle.model_ini.specs.Line.{meaning_behind_blanks}
use Rattle.model_ini.specs.Signs.{without_front}
use Rattle.model_ini.specs.declared.signs.Sign.TheVariants.{Plain}
use Rattle.ini_storage.specs.Plain.{has_backslash, is_blank_byte}
use Rattle.ini_storage.proofs.PlainLemmas.{bare_behind, bare_meaning}
use Rattle.ini_storage.proofs.plain.plain_meaning.Goals as goal

pub meaning_of_bytes-requires : goal.meaning_of_bytes-requires
meaning_of_bytes-requires c =
    subst (λ bs. has_backslash bs ≡ false) (sym (c.behind_blanks.ensures ∙ ap (without_front is_blank_byte) c.without_return.ensures)) (bare_behind c.args.line.now c.requires)

pub returns : goal.returns
returns c =
    c.meaning_of_bytes.ensures
    ∙ ap (λ bs. meaning_behind_blanks (map Plain bs)) (c.behind_blanks.ensures ∙ ap (without_front is_blank_byte) c.without_return.ensures)
    ∙ bare_meaning c.args.line.now c.requires
