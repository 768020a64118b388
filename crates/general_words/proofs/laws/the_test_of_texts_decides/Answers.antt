use Rattle.general_words.proofs.Texts.{is_text-Decides}
use Rattle.general_words.proofs.laws.the_test_of_texts_decides.Goals as goal

pub returns : goal.returns
returns c = is_text-Decides
