use Rattle.journal_codec.proofs.FieldLemmas.{IsBytes-from_All}
use Rattle.journal_codec.proofs.PlaceLemmas.{place_of, alone}
use Rattle.journal_codec.proofs.laws.a_body_fails_behind_its_longest_beginning.Goals as goal

pub returns-clause-place : goal.returns-clause-place
returns-clause-place c = λ body at all. place_of body at (IsBytes-from_All body all)

pub returns-clause-alone : goal.returns-clause-alone
returns-clause-alone c = λ body at all. alone body at (IsBytes-from_All body all)
