-- Handles that have fetched nothing yet.
use Rattle.std.proofs.Common.{◌≡◌, inl, inr, ℕ, zero, suc, ◌<◌, List, [], ◌∷◌, ◌++◌, length, get_or, slice_get, Option, Some, None, refl, sym, ap, subst}
use Rattle.std.specs.Option.{option_map, option_map_or, unwrap_or}
use Rattle.general_words.proofs.Lists.{at_place}
use Rattle.general_words.proofs.Places.{last_or_before}
use Rattle.model_maps.specs.KeyMap.{KeyMap, no_keys}
use Rattle.model_store.specs.Records.{no_record}
use Rattle.store_play.specs.Handles.{AreNew, HoldNothing, IsNew, held_in, procs_at, records_of}
use Rattle.store_verdict.specs.PreparedView.{prepared_of}
use Rattle.store_verdict.specs.RecordView.{record_of}
use Rattle.store_verdict.specs.declared.prepared.Prepared.{Prepared}
use Rattle.store_verdict.specs.declared.records.Record.{Record}

pub each-next : {A : Type 0} (P : ℕ → A → Type 0) (xs : List A) (x : A)
    → ((i : ℕ) (y : A) → slice_get xs i ≡ Some y → P i y) → P (length xs) x → (i : ℕ) (y : A)
    → slice_get (xs ++ x ∷ []) i ≡ Some y → P i y
each-next P xs x each new i y e =
    elim (last_or_before xs x y i e) [ inl h ↦ each i y h | inr h ↦ subst (λ n. P n y) (sym h.0) (subst (λ z. P (length xs) z) h.1 new) ]

pub holds_nothing-next : (places : List (Option Prepared)) → HoldNothing places → HoldNothing (places ++ None ∷ [])
holds_nothing-next [] none zero = refl
holds_nothing-next [] none (suc p) = refl
holds_nothing-next (place ∷ places) none zero = none 0
holds_nothing-next (place ∷ places) none (suc p) = holds_nothing-next places (λ q. none (suc q)) p

-- of handles that have fetched nothing each keeps nothing
pub new-nothing : (records : List Record) → AreNew records → (λ r. no_record) ≡ records_of records
new-nothing records new = λ i r. each r i
  where
    each : (r : ℕ) → no_record ≡ records_of records r
    each r = by (slice_get records r) refl
      where
        by : (o : Option Record) → slice_get records r ≡ o → no_record ≡ option_map_or record_of o no_record
        by None is = refl
        by (Some rec) is =
            let none : IsNew (record_of rec) = new r rec is in
            let fetched : (m : ℕ) → None ≡ (record_of rec).fetched m = λ m. sym (none.0 m) in
            let committed : 0 ≡ (record_of rec).committed = sym none.1 in
            λ i. record { fetched = λ m. fetched m i; committed = committed i }

pub held-nothing : (places : List (Option Prepared)) → HoldNothing places → (λ p. None) ≡ held_in places
held-nothing places none =
    let all : (p : ℕ) → None ≡ held_in places p = λ p. sym (ap (option_map prepared_of) (none p)) in λ i p. all p i

-- the keys of a handle that is there
pub proc_there : (procs : List KeyMap) (r : ℕ) (proc : KeyMap) → r < length procs → proc ≡ get_or procs r proc
    → procs_at procs r ≡ proc
proc_there procs r proc lt is = ap (λ (o : Option KeyMap). unwrap_or o no_keys) (sym (at_place procs r proc lt is))
