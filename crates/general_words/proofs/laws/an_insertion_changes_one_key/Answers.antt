use Rattle.general_words.proofs.Lookups.{get-elsewhere}
use Rattle.general_words.proofs.Maps.{get-insert_same}
use Rattle.general_words.proofs.Texts.{text_cmp-total, text_cmp-IsAntisymmetric}
use Rattle.general_words.proofs.laws.an_insertion_changes_one_key.Goals as goal

pub returns-clause-here : goal.returns-clause-here
returns-clause-here c = λ texts key text. get-insert_same text_cmp-total texts key text

pub returns-clause-elsewhere : goal.returns-clause-elsewhere
returns-clause-elsewhere c =
    λ texts key text other differs. get-elsewhere text_cmp-total text_cmp-IsAntisymmetric texts key text other differs
