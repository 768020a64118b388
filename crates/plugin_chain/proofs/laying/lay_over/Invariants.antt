-- The metadata so far finds, with what is to come behind it, what the former finds with all of the other behind it.
use Rattle.std.proofs.Common.{◌≡◌, ℕ, List}
use Rattle.std.specs.FinMap as map
use Rattle.key_meta.specs.MetaView.{AreItems}
use Rattle.plugin_chain.proofs.LayingLemmas.{found_over}
use Rattle.plugin_chain.proofs.laying.lay_over.Given as goal

abbrev pub invariant-loop-name : goal.invariant-loop-name
invariant-loop-name l = record {
  found : (q : List ℕ) → found_over l.meta l.name-iterator q ≡ found_over l.fn.meta (map.entries l.other) q;
  items : AreItems l.name-iterator;
}
