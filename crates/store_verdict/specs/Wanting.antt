-- What a set of keys at a parent wants, against what a record keeps.
use Rattle.std.specs.Prelude.{◌≡◌, ℕ, List, length, filter, map as over}
use Rattle.std.specs.FinMap as map
use Rattle.model_names.specs.Name.{Name}
use Rattle.model_maps.specs.KeyMap.{KeyMap}
use Rattle.model_store.specs.Records.{Record}
use Rattle.model_store.specs.Sets.{changes_at, differs, kept, wants}
use Rattle.set_split.specs.Involved.{involved_in}
use Rattle.set_split.specs.Parts.{left_aside}
use Rattle.set_split.specs.Seen.{numbered}
use Rattle.store_verdict.specs.declared.wanting.Wanted.{Wanted}

-- the mounts that are touched: those involved that want other keys than are kept
abbrev pub touched_at : List Name → Record → Name → KeyMap → List ℕ
touched_at points rec parent keys = filter (differs (kept rec) (wants points keys)) (involved_in points parent)

-- the touched mounts, what is wanted for them, what changes, and how many keys are left aside
pub record IsWanted (points : List Name) (rec : Record) (parent : Name) (keys : KeyMap) (wanted : Wanted) : Type 0 where
  pub touched : wanted.touched ≡ touched_at points rec parent keys
  pub parts : numbered wanted.parts ≡ over (λ m. (m, wants points keys m)) (touched_at points rec parent keys)
  pub changes : wanted.changes ≡ changes_at (kept rec) (wants points keys) (touched_at points rec parent keys)
  pub aside : wanted.aside ≡ length (map.entries (left_aside points parent keys))
