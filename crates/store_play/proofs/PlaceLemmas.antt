-- One place of a list changes.
use Rattle.std.proofs.Common.{◌≡◌, ◌≢◌, ℕ, ◌<◌, Bool, true, false, cond, nat_eq, List, length, slice_get, Option, Some, option_and_then, refl, sym, ap, subst, ◌∙◌, eqb-true, eq-eqb}
use Rattle.std.proofs.Math.ListN.{set}
use Rattle.std.specs.Option.{option_map, option_map_or}
use Rattle.general_words.proofs.Places.{set-same, set-other}
use Rattle.model_store.specs.Events.{put}
use Rattle.model_store.specs.Records.{no_record}
use Rattle.model_store.specs.Sets as sets
use Rattle.store_play.specs.Handles.{records_of, held_in}
use Rattle.store_verdict.specs.PreparedView.{prepared_of}
use Rattle.store_verdict.specs.RecordView.{record_of}
use Rattle.store_verdict.specs.declared.prepared.Prepared.{Prepared}
use Rattle.store_verdict.specs.declared.records.Record.{Record}

-- what a list has at a place is there, or is what another value was put for
pub set-cases : {A : Type 0} (P : Option A → Type 0) (xs : List A) (i m : ℕ) (x : A) → i < length xs
    → (m ≡ i → P (Some x)) → (m ≢ i → P (slice_get xs m)) → P (slice_get (set xs i x) m)
set-cases P xs i m x lt here there = by (nat_eq m i) refl
  where
    by : (b : Bool) → nat_eq m i ≡ b → P (slice_get (set xs i x) m)
    by true is =
        let e : m ≡ i = eqb-true m i is in subst P (sym (set-same xs i x lt) ∙ sym (ap (slice_get (set xs i x)) e)) (here e)
    by false is =
        let ne : m ≢ i = λ e. let same : nat_eq m i ≡ true = eq-eqb m i e in absurd cc in subst P (sym (set-other xs i m x ne)) (there ne)

pub records_of-set : (records : List Record) (r : ℕ) (new : Record) → r < length records
    → put r (record_of new) (records_of records) ≡ records_of (set records r new)
records_of-set records r new lt =
    let all : (n : ℕ) → put r (record_of new) (records_of records) n ≡ records_of (set records r new) n = each in λ i n. all n i
  where
    each : (n : ℕ) → put r (record_of new) (records_of records) n ≡ records_of (set records r new) n
    each n = by (nat_eq n r) refl
      where
        by : (b : Bool) → nat_eq n r ≡ b
            → cond b (record_of new) (records_of records n) ≡ records_of (set records r new) n
        by true is =
            ap (λ (o : Option Record). option_map_or record_of o no_record) (sym (set-same records r new lt))
            ∙ ap (records_of (set records r new)) (sym (eqb-true n r is))
        by false is =
            ap (λ (o : Option Record). option_map_or record_of o no_record) (sym (set-other records r n new (λ e. let same : nat_eq n r ≡ true = eq-eqb n r e in absurd cc)))

pub held_in-set : (places : List (Option Prepared)) (p : ℕ) (new : Option Prepared) → p < length places
    → put p (option_map prepared_of new) (held_in places) ≡ held_in (set places p new)
held_in-set places p new lt =
    let all : (n : ℕ) → put p (option_map prepared_of new) (held_in places) n ≡ held_in (set places p new) n = each in λ i n. all n i
  where
    each : (n : ℕ) → put p (option_map prepared_of new) (held_in places) n ≡ held_in (set places p new) n
    each n = by (nat_eq n p) refl
      where
        read : Option (Option Prepared) → Option sets.Prepared
        read o = option_map prepared_of (option_and_then (λ s. s) o)

        by : (b : Bool) → nat_eq n p ≡ b
            → cond b (option_map prepared_of new) (held_in places n) ≡ held_in (set places p new) n
        by true is = ap read (sym (set-same places p new lt)) ∙ ap (held_in (set places p new)) (sym (eqb-true n p is))
        by false is =
            ap read (sym (set-other places p n new (λ e. let same : nat_eq n p ≡ true = eq-eqb n p e in absurd cc)))
