-- Whether a record has a front of each of some mounts.
use Rattle.std.specs.Prelude.{◌≡◌, ℕ, List, map as over, Option, Some}
use Rattle.general_words.specs.Searches.{first_some}
use Rattle.model_store.specs.Fitting.{Early, NotFetched}
use Rattle.model_store.specs.Records.{Record}
use Rattle.model_store.specs.Sets.{front_in}
use Rattle.model_store.specs.Verdicts.{if_unseen}
use Rattle.store_verdict.specs.declared.prepared.Seen.{Seen}
use Rattle.store_verdict.specs.declared.seeing.Seeing.{Seeing}
use Rattle.store_verdict.specs.declared.seeing.Seeing.TheVariants.{All, Missing}

-- what was seen is what the record has
abbrev pub AreSeen : Record → List ℕ → List Seen → Type 0
AreSeen rec mounts seen =
    over {B = ℕ × Option ℕ} (λ one. (one.mount, Some one.front)) seen ≡ over {B = ℕ × Option ℕ} (λ m. (m, front_in rec m)) mounts

-- the first mount of which it has none
abbrev pub unseen : Record → List ℕ → Option Early
unseen rec mounts = first_some (λ m. if_unseen m (front_in rec m)) mounts

abbrev pub IsSeeing : Record → List ℕ → Seeing → Type 0
IsSeeing rec mounts (All seen) = AreSeen rec mounts seen
IsSeeing rec mounts (Missing m) = unseen rec mounts ≡ Some (NotFetched m)
