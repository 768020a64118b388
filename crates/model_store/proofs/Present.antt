-- A set that was prepared earlier and that its handle's record still accepts is the set of what was asked, now.
use Rattle.std.proofs.Common.{◌≡◌, ℕ, true, List, ◌++◌, drop, length-take-le, take, take-append-drop, Option, Some, None, refl, sym, ap, subst, ◌∙◌, arith}
use Rattle.model_history.specs.History.{Commit}
use Rattle.model_store.specs.Cores.{accepts}
use Rattle.model_store.specs.Promise.{IsAsked, IsSet}
use Rattle.model_store.specs.Records.{record_of}
use Rattle.model_store.specs.Sets.{Prepared, set_of}
use Rattle.model_store.specs.Store.{Store, Formats}
use Rattle.model_store.specs.Verdicts.{IsEarly}
use Rattle.model_store.specs.Worlds.{Asked, World, set_now}
use Rattle.model_store.proofs.Accepting.{accepted}

module _ (formats : Formats) (store : Store) where
  -- what was asked with such a set, and that it is what the definitions make of it now
  pub record IsPresent (world : World) (r p : ℕ) (set : Prepared) : Type 0 where
    pub asked : Asked
    pub was_asked : world.asked p ≡ Some asked
    pub is : set ≡ set_now store world r asked.parent asked.keys
    pub early : IsEarly formats store (set_now store world r asked.parent asked.keys) None

  set_accepted : (world : World) (r : ℕ) (asked : Asked) (set : Prepared)
      → IsAsked formats store world.history asked set
      → accepts (record_of store world.history r (world.fronts r)) r set ≡ true
      → set ≡ set_now store world r asked.parent asked.keys
  set_accepted world r asked set h ok =
      let found : List Commit = take asked.found world.history in
      let rest : List Commit = drop asked.found world.history in
      let whole : found ++ rest ≡ world.history = take-append-drop asked.found world.history in
      let made : Prepared = set_of store (take asked.found world.history) asked.handle asked.fronts asked.parent asked.keys in
      let ok_now : accepts (record_of store (found ++ rest) r (world.fronts r)) r made ≡ true =
      ap (λ (commits : List Commit). accepts (record_of store commits r (world.fronts r)) r made) whole ∙ ap (accepts (record_of store world.history r (world.fronts r)) r) (sym h.is) ∙ ok in
      h.is
      ∙ accepted store found rest r asked.handle asked.fronts (world.fronts r) asked.parent asked.keys (λ m front is. omega (arith, h.within m front is, length-take-le asked.found world.history h.found)) ok_now
      ∙ ap (λ (commits : List Commit). set_of store commits r (world.fronts r) asked.parent asked.keys) whole

  pub present_set : (world : World) (r p : ℕ) (set : Prepared)
      → IsSet formats store world.history (world.asked p) (Some set)
      → accepts (record_of store world.history r (world.fronts r)) r set ≡ true → IsPresent world r p set
  present_set world r p set known ok = by (world.asked p) refl known
    where
      by : (o : Option Asked) → world.asked p ≡ o → IsSet formats store world.history o (Some set)
          → IsPresent world r p set
      by None is h = absurd h
      by (Some asked) is h =
          let same : set ≡ set_now store world r asked.parent asked.keys = set_accepted world r asked set h ok in
          record {
            asked = asked;
            was_asked = is;
            is = same;
            early = subst (λ (s : Prepared). IsEarly formats store s None) same h.passed;
          }
