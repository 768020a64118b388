-- Another value leaves the keys in order, and the one that was there is the key's.
use Rattle.std.proofs.Common.{subst, sym, ap, ◌∙◌, set}
use Rattle.std.specs.FinMap.{find}
use Rattle.std.specs.FinMap.Entries.{put}
use Rattle.sorted_map.specs.Place.{IsPlace}
use Rattle.sorted_map.proofs.RisingLemmas.{is_sorted-replaced, find-read, put-read}
use Rattle.chunked_map.proofs.shared.Entries.replace_at.Goals as goal

pub invariant_of-self : goal.invariant_of-self
invariant_of-self g c =
    is_sorted-replaced g.K.Ord.cmp c.self.inside.sorted.items c.args.at c.index_mut.result.now c.replace.new.dest (rw c.self.view_is c.requires) c.index_mut.ensures.value c.self.invariant

pub returns-clause-former : goal.returns-clause-former
returns-clause-former g c key place =
    let R = g.K.Ord.cmp in
    let there = subst (λ es. IsPlace R es key c.args.at) (sym c.self.view_is) place in
    let read = find-read R g.met.K.Ord.total key c.self.inside.sorted.items c.self.invariant c.args.at c.index_mut.result.now there c.index_mut.ensures.value in
    rw c.replace.ensures.value (read ∙ ap (find R key) c.self.view_is)

pub returns-clause-replaced : goal.returns-clause-replaced
returns-clause-replaced g c key place =
    let R = g.K.Ord.cmp in
    let there = subst (λ es. IsPlace R es key c.args.at) (sym c.self.view_is) place in
    ap (λ v. set c.self.inside.sorted.items c.args.at (c.index_mut.result.now.0, v)) c.replace.ensures.after
    ∙ put-read R g.met.K.Ord.total key c.args.value c.self.inside.sorted.items c.self.invariant c.args.at c.index_mut.result.now there c.index_mut.ensures.value
    ∙ ap (put R key c.args.value) c.self.view_is
