-- By the rows of the commands.
use Rattle.tool_words.proofs.RowLemmas.{request-names_files}
use Rattle.tool_words.proofs.laws.a_file_is_asked_for_of_keys_in_files.Goals as goal

pub returns : goal.returns
returns c = request-names_files
