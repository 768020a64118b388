-- The crash goes on over the next change.
use Rattle.std.proofs.Common.{◌≡◌, ◌+◌, ◌<◌, ℕ, List, take, length, [], ◌∷◌, ◌++◌, sym, ap, ◌∙◌, subst, subst₂, arith, length-take}
use Rattle.std.proofs.lemmas.List.{take_more, take_all}
use Rattle.disk_memory.specs.Choices.{left_of_step, left_along}
use Rattle.disk_memory.specs.DiskState.{bytes_of}
use Rattle.disk_memory.specs.Steps.{steps_of, LeavesAfter}
use Rattle.disk_memory.proofs.ChoiceLemmas.{left_along-leaves, left_along-sure, left_along-whole}
use Rattle.disk_memory.proofs.CrashLemmas.{HasGone, HasGone-more}
use Rattle.disk_memory.proofs.crashes.left_by.Goals as goal

pub loop-i-preserved : goal.loop-i-preserved
loop-i-preserved c =
    let past = c.args.past.now in
    let change = c.index-past-i.result in
    let seen = c.loop-i.seen.items in
    let left = c.loop-i.left.items in
    let content = c.in_ok-content.content.items in
    let within : c.loop-i.i < length past = omega arith in
    let more : take (c.loop-i.i + 1) past ≡ take c.loop-i.i past ++ change ∷ [] = take_more past c.loop-i.i change within ∙ ap (λ last. take c.loop-i.i past ++ last ∷ []) (sym c.index-past-i.is) in
    let seen_is = c.bytes_in.ensures ∙ ap (λ files. bytes_of files change.file) c.deref.ensures.value in
    let left_is = c.bytes_in-in-loop-i.ensures ∙ ap (λ files. bytes_of files change.file) c.deref-in-loop-i.ensures.value in
    let chosen = c.in_ok-content.ensures in
    let so_far : length (take c.loop-i.i past) ≡ c.loop-i.i = omega (arith, length-take c.loop-i.i past) in
    subst (λ changes. HasGone c.args.number c.args.first.now changes c.apply_in.new.files.items c.put_in.new.files.items) (sym more)
    (HasGone-more c.args.number c.args.first.now (take c.loop-i.i past) change seen left _ _ content c.loop-i.invariant
    (subst (λ n. content ≡ left_of_step (record { number = c.args.number; step = n }) change.step (bytes_of seen change.file) (bytes_of left change.file)) (sym so_far)
    (subst₂ (λ s l. content ≡ left_of_step (record { number = c.args.number; step = c.loop-i.i }) change.step s l) seen_is left_is chosen))
    c.in_ok-put_in.ensures c.in_ok-apply_in.ensures.ok)

pub returns-clause-chosen : goal.returns-clause-chosen
returns-clause-chosen c =
    let past = c.args.past.now in
    let first = c.args.first.now in
    let all : take c.loop-i.i past ≡ past = take_all c.loop-i.i past (omega arith) in
    subst (λ changes. (file : List ℕ) → bytes_of c.loop-i.left.items file ≡ left_along c.args.number file 0 (bytes_of first file) (bytes_of first file) changes) all c.loop-i.invariant.leaves

pub returns-clause-left : goal.returns-clause-left
returns-clause-left c = λ file.
    let first = bytes_of c.args.first.now file in
    subst (LeavesAfter first first (steps_of file c.args.past.now)) (sym (returns-clause-chosen c file)) (left_along-leaves c.args.number file 0 first first c.args.past.now)

pub returns-clause-sure : goal.returns-clause-sure
returns-clause-sure c = λ is file.
    let first = bytes_of c.args.first.now file in
    returns-clause-chosen c file ∙ ap (λ number. left_along number file 0 first first c.args.past.now) is
    ∙ left_along-sure file 0 first first c.args.past.now

pub returns-clause-whole : goal.returns-clause-whole
returns-clause-whole c = λ is file.
    let first = bytes_of c.args.first.now file in
    returns-clause-chosen c file ∙ ap (λ number. left_along number file 0 first first c.args.past.now) is
    ∙ left_along-whole file 0 first c.args.past.now
