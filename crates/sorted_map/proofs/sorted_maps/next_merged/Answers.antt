-- The entry that is taken is the first one of the two lists together.
use Rattle.std.proofs.Common.{sym, ◌∙◌}
use Rattle.sorted_map.proofs.MergeLemmas.{taken_of_ours, taken_of_theirs, taken_of_both}
use Rattle.sorted_map.proofs.sorted_maps.next_merged.Goals as goal

pub returns-in-Less-clause-entries : goal.returns-in-Less-clause-entries
returns-in-Less-clause-entries g c =
    taken_of_ours g.K.Ord.cmp g.met.K.Ord.total c.pop_front.result c.args.ours.now.items c.pop_front.new.self.items c.args.theirs.now.items c.requires (sym c.order_of_firsts.ensures ∙ c.in-Less.is) c.pop_front.ensures.items

pub returns-in_ok-value-in-Equal-clause-entries : goal.returns-in_ok-value-in-Equal-clause-entries
returns-in_ok-value-in-Equal-clause-entries g c =
    taken_of_both g.K.Ord.cmp g.met.K.Ord.total _ _ c.args.ours.now.items c.pop_front-in-Equal.new.self.items c.args.theirs.now.items c.pop_front-in-Equal-2.new.self.items c.requires (sym c.order_of_firsts.ensures ∙ c.in-Equal.is) c.in_ok-key-in-Equal.ensures.items c.in_ok-value-in-Equal.ensures.items

pub returns-in-Greater-clause-entries : goal.returns-in-Greater-clause-entries
returns-in-Greater-clause-entries g c =
    taken_of_theirs g.K.Ord.cmp g.met.K.Ord.total c.pop_front-in-Greater.result c.args.ours.now.items c.args.theirs.now.items c.pop_front-in-Greater.new.self.items c.requires (sym c.order_of_firsts.ensures ∙ c.in-Greater.is) c.pop_front-in-Greater.ensures.items
