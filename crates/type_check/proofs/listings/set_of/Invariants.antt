-- The texts so far are in the set.
use Rattle.std.proofs.Common.{◌≡◌, ℕ, List, take}
use Rattle.std.specs.BTreeSet.{contains_text}
use Rattle.type_check.specs.Listings.{is_among}
use Rattle.type_check.proofs.listings.set_of.Given as goal

abbrev pub invariant-loop-item : goal.invariant-loop-item
invariant-loop-item l = (text : List ℕ) → contains_text l.set text ≡ is_among (take l.item-index l.items) text
