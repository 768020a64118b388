-- The ledger is the one that the count of nothing is opened for.
use Rattle.chunked_map.proofs.counted.search.Given as goal

abbrev pub ghosts-search_from : goal.ghosts-search_from
ghosts-search_from g a = record { name = a.blank.name; parts = a.blank.parts }
