-- A handle's record, as the history that it has seen goes on.
use Rattle.std.proofs.Common.{◌≡◌, ℕ, List, [], sym, subst}
use mathlib.Core.List.{IsPrefix}
use Rattle.model_history.specs.History.{Commit, commits_by}
use Rattle.model_store.specs.Records.{Fronts, Record, IsRecord, no_fronts, record_of}
use Rattle.model_store.specs.Sets.{front_in}
use Rattle.model_store.specs.Store.{Store}
use Rattle.model_store.proofs.Kept.{front-told, record-own, record-stays}

module _ (store : Store) where
  -- a record that has fetched nothing is that of no fronts
  pub record-none : (history : List Commit) (handle : ℕ)
      → IsRecord store history handle no_fronts (record_of store history handle no_fronts)
  record-none history handle =
      record-own store history handle no_fronts (λ m front is. absurd cc) (λ m front is. absurd cc)

  -- the fronts of a record are those that it tells
  pub own_fronts : (history : List Commit) (handle : ℕ) (fronts : Fronts) (rec : Record)
      → IsRecord store history handle fronts rec → IsRecord store history handle (front_in rec) rec
  own_fronts history handle fronts rec h =
      let all : (m : ℕ) → fronts m ≡ front_in rec m = λ m. sym (front-told store history handle fronts rec m h) in
      let same : fronts ≡ front_in rec = λ i m. all m i in
      subst (λ (f : Fronts). IsRecord store history handle f rec) same h

  -- and it stays so while the handle sees what others commit
  pub record-seen : (history longer : List Commit) (handle : ℕ) (rec : Record) → (p : IsPrefix history longer)
      → commits_by handle p.0 ≡ [] → IsRecord store history handle (front_in rec) rec
      → IsRecord store longer handle (front_in rec) rec
  record-seen history longer handle rec p none h =
      subst (λ (l : List Commit). IsRecord store l handle (front_in rec) rec) p.1 (record-stays store history p.0 handle (front_in rec) rec h none)

  -- handles of one number have the same record
  pub numbered : (history : List Commit) (handle number : ℕ) (rec : Record) → handle ≡ number
      → IsRecord store history handle (front_in rec) rec → IsRecord store history number (front_in rec) rec
  numbered history handle number rec same = subst (λ (n : ℕ). IsRecord store history n (front_in rec) rec) same
