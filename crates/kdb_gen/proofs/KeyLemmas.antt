-- The parts of the keys may stand where they do: tried for each key of each session.
use Rattle.std.specs.Prelude.{◌≡◌, ℕ, ◌+◌, ◌-◌, ◌<◌, ◌≤◌, Bool, true, ◌++◌, get_or, codes, Option, Some, None, is_none}
use Rattle.std.specs.Fmt.{decimal, digits}
use Rattle.std.specs.List.{list_all, range_with_len}
use Rattle.std.proofs.Common.{refl, subst, ◌∙◌, arith}
use Rattle.std.proofs.lemmas.List.FromFn.{get_or-range_with_len, length-range_with_len}
use Rattle.std.proofs.lemmas.List.Sums.{AllPass-from_list_all}
use Rattle.kdb_gen.specs.Generated.{keys_of_session, sessions, user_root}
use Rattle.key_name.specs.Children.{child_of, child_refusal}
use Rattle.model_names.specs.Name.{Name}

none-from : {A : Type 0} (found : Option A) → is_none found ≡ true → found ≡ None
none-from None test = refl
none-from (Some it) test = absurd cc

-- a test that all numbers of a range pass
all-at : (p : ℕ → Bool) (from many n : ℕ) → list_all p (range_with_len from many) ≡ true → from ≤ n → n < from + many
    → p n ≡ true
all-at p from many n all least most =
    let within : n - from < many = omega arith in
    let place : get_or (range_with_len from many) (n - from) 0 ≡ n = get_or-range_with_len from many (n - from) 0 within ∙ omega arith in
    subst (λ m. p m ≡ true) place (AllPass-from_list_all p (range_with_len from many) all (n - from) 0 (omega (arith, length-range_with_len from many)))

-- below the root of all keys
abbrev pub all_keys : Name
all_keys = child_of user_root (codes "gen")

-- a session's part may stand there
session_fits : ℕ → Bool
session_fits session = is_none (child_refusal all_keys (codes "s" ++ decimal session))

sessions-fit : list_all session_fits (range_with_len 1 sessions) ≡ true
unfolding session_fits digits
sessions-fit = refl

pub session-fits : (session : ℕ) → 1 ≤ session → session ≤ sessions
    → child_refusal all_keys (codes "s" ++ decimal session) ≡ None
unfolding session_fits
session-fits session first last =
    none-from (child_refusal all_keys (codes "s" ++ decimal session)) (all-at session_fits 1 sessions session sessions-fit first (omega arith))

-- and behind it the part of each of its keys
key_fits : ℕ → ℕ → Bool
key_fits session place =
    is_none (child_refusal (child_of all_keys (codes "s" ++ decimal session)) (codes "k" ++ decimal place))

row_fits : ℕ → Bool
row_fits session = list_all (key_fits session) (range_with_len 0 keys_of_session)

keys-fit : list_all row_fits (range_with_len 1 sessions) ≡ true
unfolding key_fits row_fits digits
keys-fit = refl

pub key-fits : (session place : ℕ) → 1 ≤ session → session ≤ sessions → place < keys_of_session
    → child_refusal (child_of all_keys (codes "s" ++ decimal session)) (codes "k" ++ decimal place) ≡ None
unfolding key_fits row_fits
key-fits session place first last within =
    none-from (child_refusal (child_of all_keys (codes "s" ++ decimal session)) (codes "k" ++ decimal place)) (all-at (key_fits session) 0 keys_of_session place (all-at row_fits 1 sessions session keys-fit first (omega arith)) (omega arith) (omega arith))
