-- The ledger is the one that the count is opened for.
use Rattle.key_tests.proofs.key_sets.counted.counted_calls_find_what_was_put.Given as goal

abbrev pub ghosts-found_again : goal.ghosts-found_again
ghosts-found_again g a = record { name = a.blank.name; parts = a.blank.parts }
