-- The entry of the spelling is looked for.
use Rattle.std.proofs.Common.{is_some, ap, sym, ◌∙◌}
use Rattle.std.specs.FinMap as map
use Rattle.std.specs.FinMap.{find}
use Rattle.model_names.specs.Spelling.{spelling}
use Rattle.general_words.specs.Texts.{text_cmp}
use Rattle.mount_table.proofs.TableLemmas.{is_some-copied}
use Rattle.mount_table.proofs.defaults.is_replaced.Goals as goal

pub returns : goal.returns
returns c =
    c.is_some.ensures
    ∙ sym (is_some-copied c.get.result)
    ∙ ap is_some (c.get.ensures.found ∙ ap (λ text. find text_cmp text c.args.entries.now) (c.in_ok-text-2.ensures ∙ c.deref.ensures ∙ c.in_ok-text.ensures.canonical))
    ∙ ap is_some (sym (map.get-from_sorted text_cmp c.args.entries.now (spelling c.args.at.now) c.get.ensures.sorted))
