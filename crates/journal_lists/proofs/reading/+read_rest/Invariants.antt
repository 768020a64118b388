-- The entries that are left.
use Rattle.journal_lists.proofs.reading.+read_rest.Given as goal

abbrev pub decreases-read_rest : goal.decreases-read_rest
decreases-read_rest g l = l.left
