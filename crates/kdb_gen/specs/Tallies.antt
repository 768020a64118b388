-- What the keys of a generated run come to, and what is printed of it. (This project's own.)
use Rattle.std.specs.Prelude.{ℕ, ◌+◌, ◌-◌, ◌*◌, List, [], ◌∷◌, ◌++◌, min, sum, codes}
use Rattle.std.specs.Fmt.{decimal}
use Rattle.std.specs.List.{range_with_len}
use Rattle.kdb_gen.specs.Generated.{keys_of_session, sessions}
use Rattle.kdb_gen.specs.declared.tallies.Tally.{Tally}
use Rattle.model_lines.specs.Lines.{ended}

-- the last rounds: those in which a session writes its keys for the last time
abbrev pub last_rounds : ℕ → List ℕ
last_rounds rounds = let few = min rounds keys_of_session in range_with_len (rounds + 1 - few) few

-- each merge commits; each key has what its session wrote last
abbrev pub tally_of : ℕ → Tally
tally_of rounds = record {
  commits = sessions * rounds;
  keys = sessions * min rounds keys_of_session;
  sum = sum (range_with_len 1 sessions) * sum (last_rounds rounds);
}

-- a line of a word and a number
abbrev pub counted : List ℕ → ℕ → List ℕ
counted word number = word ++ (32 ∷ decimal number)

-- what is printed
abbrev pub lines_of : ℕ → Tally → List (List ℕ)
lines_of rounds tally =
    counted (codes "gen") rounds
    ∷ counted (codes "sessions") sessions
    ∷ counted (codes "commits") tally.commits
    ∷ counted (codes "keys") tally.keys
    ∷ counted (codes "sum") tally.sum
    ∷ []

abbrev pub summary : ℕ → Tally → List ℕ
summary rounds tally = ended (lines_of rounds tally)
