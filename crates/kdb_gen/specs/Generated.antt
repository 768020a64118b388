-- The script of a generated run: some sessions write keys of their own, round after round. (This project's own.)
use Rattle.std.specs.Prelude.{ℕ, ◌+◌, ◌*◌, ◌%◌, List, [], ◌∷◌, ◌++◌, map, codes}
use Rattle.std.specs.Fmt.{decimal}
use Rattle.std.specs.List.{flat_map, range_with_len}
use Rattle.batch_script.specs.declared.steps.Script.{Script}
use Rattle.batch_script.specs.declared.steps.Step.{Step}
use Rattle.batch_script.specs.declared.steps.Step.TheVariants.{Get, Put, Merge}
use Rattle.batch_script.specs.declared.steps.Steps.{Steps}
use Rattle.key_merge.specs.declared.strategies.Strategy.TheVariants.{Our}
use Rattle.model_names.specs.Name.{Name}
use Rattle.model_names.specs.declared.namespaces.Namespace.TheVariants.{User}

-- the most rounds of a generated run
abbrev pub most_rounds : ℕ
most_rounds = 1000

-- the sessions are numbered from 1 on
abbrev pub sessions : ℕ
sessions = 4

-- a session writes as many keys, in turn
abbrev pub keys_of_session : ℕ
keys_of_session = 10

-- all keys stand below the root of `user`
abbrev pub user_root : Name
user_root = record { namespace = User; parts = [] }

-- a session's key, by its place among them
abbrev pub key_at : ℕ → ℕ → Name
key_at session place =
    record {
      namespace = User;
      parts = codes "gen" ∷ (codes "s" ++ decimal session) ∷ (codes "k" ++ decimal place) ∷ [];
    }

-- the one that it writes in a round
abbrev pub key_of : ℕ → ℕ → Name
key_of session round = key_at session (round % keys_of_session)

-- so many tries: more than there are commits of other sessions
abbrev pub tries_of : ℕ → ℕ
tries_of rounds = sessions * rounds + 1

-- in a round a session writes its number, as often as there were rounds, and merges
abbrev pub round_of : ℕ → ℕ → ℕ → List Step
round_of rounds session round =
    Put (key_of session round) (decimal (round * session)) ∷ Merge user_root Our (tries_of rounds) ∷ []

-- a session gets all keys, and then goes through its rounds
abbrev pub steps_of : ℕ → ℕ → List Step
steps_of rounds session = Get user_root ∷ flat_map (round_of rounds session) (range_with_len 1 rounds)

abbrev pub session_of : ℕ → ℕ → Steps
session_of rounds session = record { session = session; steps = steps_of rounds session }

-- the sessions do so beside each other, in one phase
abbrev pub gen_script : ℕ → Script
gen_script rounds =
    record { proc = []; phases = record { sessions = map (session_of rounds) (range_with_len 1 sessions) } ∷ [] }
