-- The items so far have the texts so far.
use Rattle.std.proofs.Common.{◌≡◌, ℕ, ◌<◌, length, slice_get}
use Rattle.std.specs.FinMap as map
use Rattle.model_maps.specs.Entry.{item_name}
use Rattle.key_meta.proofs.metas.Meta.array.Given as goal

abbrev pub invariant-loop-index : goal.invariant-loop-index
invariant-loop-index l =
    (length l.texts.items ≡ l.index) × ((i : ℕ) → i < l.index → map.get l.self (item_name l.prefix i) ≡ slice_get l.texts.items i)
