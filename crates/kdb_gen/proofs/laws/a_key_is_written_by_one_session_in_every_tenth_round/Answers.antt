-- A key tells its session and its place.
use Rattle.std.proofs.Common.{◌≡◌, ℕ, [], get_or, drop, ap, arith}
use Rattle.std.specs.Prelude.{◌%◌}
use Rattle.std.specs.Fmt.{decimal}
use Rattle.std.proofs.lemmas.Fmt.{decimal_injective}
use Rattle.model_names.specs.Name.{Name}
use Rattle.kdb_gen.specs.Generated.{key_at, keys_of_session}
use Rattle.kdb_gen.proofs.laws.a_key_is_written_by_one_session_in_every_tenth_round.Goals as goal

place-told : (session other place at : ℕ) → key_at session place ≡ key_at other at → decimal place ≡ decimal at
place-told session other place at same = ap (λ (name : Name). drop 1 (get_or name.parts 2 [])) same

session-told : (session other place at : ℕ) → key_at session place ≡ key_at other at → decimal session ≡ decimal other
session-told session other place at same = ap (λ (name : Name). drop 1 (get_or name.parts 1 [])) same

pub returns-clause-again : goal.returns-clause-again
returns-clause-again c = λ session round. ap (key_at session) (omega arith)

pub returns-clause-between : goal.returns-clause-between
returns-clause-between c = λ session round later over within same.
    let one : later % keys_of_session ≡ round % keys_of_session =
    decimal_injective (later % keys_of_session) (round % keys_of_session) (omega arith) (omega arith) (place-told session session (later % keys_of_session) (round % keys_of_session) same) in
    absurd (omega (arith, one, over, within))

pub returns-clause-apart : goal.returns-clause-apart
returns-clause-apart c = λ session other round later few fewer differ same.
    differ (decimal_injective session other (omega (arith, few)) (omega (arith, fewer)) (session-told session other (round % keys_of_session) (later % keys_of_session) same))
