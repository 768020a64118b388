-- The keys of the file make a table, or refuse the opening as the file does.
use Rattle.std.proofs.Common.{◌≡◌, ℕ, List, subst, sym}
use Rattle.kdb_outside.specs.declared.kinds.Kind.TheVariants.{Dump}
use Rattle.model_names.specs.Name.{Name}
use Rattle.model_maps.specs.KeyMap.{KeyMap}
use Rattle.mount_table.specs.Points.{own_point}
use Rattle.mount_table.specs.Table.{table_of}
use Rattle.mounted_files.specs.Files.{Badness, Holds, IsCause, Reading}
use Rattle.mounted_files.specs.Holding.{IsAlone, IsHolding}
use Rattle.mounted_files.specs.Opening.{IsOwnFault, RefusesOpening}
use Rattle.mounted_files.specs.Refusing.{IsRefusalFor, RefusesTable}
use Rattle.mounted_files.specs.Whole.{relative}
use Rattle.mounted_files.specs.Writable.{CanBeStored}
use Rattle.mounted_files.specs.declared.causes.Cause.{Cause}
use Rattle.mounted_files.specs.declared.causes.Cause.TheVariants as cause
use Rattle.mounted_files.specs.declared.holding.Holding.{Holding}
use Rattle.mounted_files.specs.declared.refusals.OpenRefusal.{OpenRefusal}
use Rattle.mounted_files.proofs.table_file.read_table_file.Goals as goal

module _ (Reads : Reading) (IsBad : Badness) (bytes : List ℕ) where
  from_table : (keys : KeyMap) (refusal : OpenRefusal) → Holds Reads own_point Dump bytes keys
      → RefusesTable (table_of keys) refusal → RefusesOpening Reads IsBad bytes refusal
  from_table keys refusal holds is other =
      let told = is other in
      subst (λ (r : OpenRefusal). IsOwnFault Reads IsBad bytes r) (sym told.is) (record { keys = keys; holds = holds; is = told.at_fault })

  from_cause : (why : Cause) (refusal : OpenRefusal) → IsRefusalFor why refusal
      → IsCause Reads IsBad own_point Dump bytes why → RefusesOpening Reads IsBad bytes refusal
  from_cause (cause.TooLong n) refusal is bad =
      λ _. subst (λ (r : OpenRefusal). IsOwnFault Reads IsBad bytes r) (sym is) bad
  from_cause (cause.BadFile line) refusal is bad =
      λ _. subst (λ (r : OpenRefusal). IsOwnFault Reads IsBad bytes r) (sym is) bad
  from_cause (cause.TooHeavy weight) refusal is bad = absurd is

  -- what the file holds at the mountpoint of the table's own keys
  held : (point : Name) (found holding : Holding) → point ≡ own_point → found ≡ holding
      → IsHolding Reads IsBad point Dump bytes found → IsHolding Reads IsBad own_point Dump bytes holding
  held point found holding point_is is holds =
      subst (λ (h : Holding). IsHolding Reads IsBad own_point Dump bytes h) is (subst (λ (p : Name). IsHolding Reads IsBad p Dump bytes found) point_is holds)

pub returns-in-Ok-clause-read : goal.returns-in-Ok-clause-read
returns-in-Ok-clause-read g c bytes is_whole =
    held g.F.Formats.reads g.F.Formats.is_bad_at bytes c.in_ok-point.point c.in_ok-keys.field-0 _ c.in_ok-point.ensures c.in-Keys.is (c.in_ok-keys.ensures.is bytes is_whole)

pub returns-in-Keys-clause-read : goal.returns-in-Keys-clause-read
returns-in-Keys-clause-read g c bytes is_whole =
    let Reads = g.F.Formats.reads in
    let IsBad = g.F.Formats.is_bad_at in
    from_table Reads IsBad bytes c.in-Keys.keys c.in-Err.refusal
    (held Reads IsBad bytes c.in_ok-point.point c.in_ok-keys.field-0 _ c.in_ok-point.ensures c.in-Keys.is (c.in_ok-keys.ensures.is bytes is_whole))
    c.in-Err.ensures

pub returns-clause-read : goal.returns-clause-read
returns-clause-read g c bytes is_whole =
    let Reads = g.F.Formats.reads in
    let IsBad = g.F.Formats.is_bad_at in
    from_cause Reads IsBad bytes c.in-Bad.cause _ c.refusal_of.ensures
    (held Reads IsBad bytes c.in_ok-point.point c.in_ok-keys.field-0 _ c.in_ok-point.ensures c.in-Bad.is (c.in_ok-keys.ensures.is bytes is_whole))

pub refusal_of-requires : goal.refusal_of-requires
refusal_of-requires g c = subst (λ (h : Holding). IsAlone h) c.in-Bad.is c.in_ok-keys.ensures.alone

pub returns-in-Ok-clause-storable : goal.returns-in-Ok-clause-storable
returns-in-Ok-clause-storable g c =
    let IsStorable = g.F.Formats.is_storable in
    subst (λ (point : Name). IsStorable Dump (relative point c.in-Keys.keys)) c.in_ok-point.ensures
    (subst (λ (h : Holding). CanBeStored IsStorable c.in_ok-point.point Dump h) c.in-Keys.is c.in_ok-keys.ensures.storable)
