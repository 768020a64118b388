-- The key goes out of its chunk as it would go out of all entries.
use Rattle.std.proofs.Common.{[], sym, ap, ◌∙◌, subst, set}
use Rattle.general_words.proofs.Lists.{same_default}
use Rattle.sorted_map.specs.Place.{IsPlace}
use Rattle.chunked_map.specs.Chunks.{joined, AreChunks}
use Rattle.chunked_map.proofs.PlaceLemmas.{find_in, without_set, without_gone, without_are, gone_are, nothing_left, some_left, taken_out}
use Rattle.chunked_map.proofs.chunks.remove_in.Goals as goal

pub returns-then-len-eq0-clause-former : goal.returns-then-len-eq0-clause-former
returns-then-len-eq0-clause-former g c =
    let R = g.K.Ord.cmp in
    let q = c.args.key.now in
    let cs = c.args.chunks.now.items in
    let chunk = c.index_mut.result.now in
    let there = subst (λ es. IsPlace R es q c.args.place) (same_default cs c.args.at [] chunk c.requires.within ∙ sym c.index_mut.ensures.value) c.requires.place in
    c.in_ok-former.ensures.former q there
    ∙ find_in R g.met.K.Ord.total q cs c.args.at chunk c.requires.home c.requires.within c.index_mut.ensures.value

pub returns-then-len-eq0-clause-ok : goal.returns-then-len-eq0-clause-ok
returns-then-len-eq0-clause-ok g c =
    let R = g.K.Ord.cmp in
    let q = c.args.key.now in
    let cs = c.args.chunks.now.items in
    let chunk = c.index_mut.result.now in
    let there = subst (λ es. IsPlace R es q c.args.place) (same_default cs c.args.at [] chunk c.requires.within ∙ sym c.index_mut.ensures.value) c.requires.place in
    let done = c.in_ok-former.ensures.ok q there in
    let none = nothing_left R g.met.K.Ord.total q cs c.args.at chunk c.remove_at.new.self c.index.result.now c.requires.within done c.index.ensures (sym c.len.ensures.len ∙ c.if-len-eq0.true) in
    ap joined (c.remove.ensures.items ∙ taken_out R g.met.K.Ord.total q cs c.args.at chunk c.remove_at.new.self c.index.result.now c.requires.within done c.index.ensures)
    ∙ without_gone R g.met.K.Ord.total q cs c.args.at chunk c.requires.home c.requires.within c.index_mut.ensures.value none

pub returns-then-len-eq0-clause-chunks : goal.returns-then-len-eq0-clause-chunks
returns-then-len-eq0-clause-chunks g c =
    let R = g.K.Ord.cmp in
    let q = c.args.key.now in
    let cs = c.args.chunks.now.items in
    let chunk = c.index_mut.result.now in
    let there = subst (λ es. IsPlace R es q c.args.place) (same_default cs c.args.at [] chunk c.requires.within ∙ sym c.index_mut.ensures.value) c.requires.place in
    let done = c.in_ok-former.ensures.ok q there in
    let none = nothing_left R g.met.K.Ord.total q cs c.args.at chunk c.remove_at.new.self c.index.result.now c.requires.within done c.index.ensures (sym c.len.ensures.len ∙ c.if-len-eq0.true) in
    subst (AreChunks R) (sym (c.remove.ensures.items ∙ taken_out R g.met.K.Ord.total q cs c.args.at chunk c.remove_at.new.self c.index.result.now c.requires.within done c.index.ensures))
    (gone_are R g.met.K.Ord.total q cs c.args.at chunk c.requires.home c.requires.within c.index_mut.ensures.value c.requires.chunks none)

pub returns-clause-former : goal.returns-clause-former
returns-clause-former g c =
    let R = g.K.Ord.cmp in
    let q = c.args.key.now in
    let cs = c.args.chunks.now.items in
    let chunk = c.index_mut.result.now in
    let there = subst (λ es. IsPlace R es q c.args.place) (same_default cs c.args.at [] chunk c.requires.within ∙ sym c.index_mut.ensures.value) c.requires.place in
    c.in_ok-former.ensures.former q there
    ∙ find_in R g.met.K.Ord.total q cs c.args.at chunk c.requires.home c.requires.within c.index_mut.ensures.value

pub returns-clause-ok : goal.returns-clause-ok
returns-clause-ok g c =
    let R = g.K.Ord.cmp in
    let q = c.args.key.now in
    let cs = c.args.chunks.now.items in
    let chunk = c.index_mut.result.now in
    let there = subst (λ es. IsPlace R es q c.args.place) (same_default cs c.args.at [] chunk c.requires.within ∙ sym c.index_mut.ensures.value) c.requires.place in
    ap (λ chunk. joined (set cs c.args.at chunk)) (c.in_ok-former.ensures.ok q there)
    ∙ without_set R g.met.K.Ord.total q cs c.args.at chunk c.requires.home c.requires.within c.index_mut.ensures.value

pub returns-clause-chunks : goal.returns-clause-chunks
returns-clause-chunks g c =
    let R = g.K.Ord.cmp in
    let q = c.args.key.now in
    let cs = c.args.chunks.now.items in
    let chunk = c.index_mut.result.now in
    let there = subst (λ es. IsPlace R es q c.args.place) (same_default cs c.args.at [] chunk c.requires.within ∙ sym c.index_mut.ensures.value) c.requires.place in
    let done = c.in_ok-former.ensures.ok q there in
    let some = some_left R g.met.K.Ord.total q cs c.args.at chunk c.remove_at.new.self c.index.result.now c.requires.within done c.index.ensures (λ none. c.if-len-eq0.false (c.len.ensures.len ∙ none)) in
    subst (λ es. AreChunks R (set cs c.args.at es)) (sym done)
    (without_are R g.met.K.Ord.total q cs c.args.at chunk c.requires.home c.requires.within c.index_mut.ensures.value c.requires.chunks some)
