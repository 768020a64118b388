use Rattle.model_names.specs.Spelling.{spelling}
use Rattle.model_quoting.proofs.LineLemmas.{quoted-line, shown_text-line}
use Rattle.model_quoting.proofs.what_is_shown_stands_on_one_line.Goals as goal

pub returns : goal.returns
returns c = record { in_quotes = quoted-line; texts = shown_text-line; names = λ name. shown_text-line (spelling name) }
