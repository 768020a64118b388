use Rattle.std.proofs.Common.{◌≡◌, ◌+◌, take, drop, Ok, Err, subst, sym, ap, ◌∙◌}
use Rattle.journal_codec.specs.Forms.{followed}
use Rattle.journal_lists.specs.Grammar.{head_size, body_in, placed}
use Rattle.journal_lists.specs.Rules.{rule_of}
use Rattle.journal_lists.proofs.OpenReads.{drop_drop, entry_or_place-within}
use Rattle.journal_lists.proofs.Rules.{told_bad}
use Rattle.journal_lists.proofs.reading.read_entry.Goals as goal

pub returns-in-Ok-clause-found : goal.returns-in-Ok-clause-found
returns-in-Ok-clause-found g c tells =
    let rule = rule_of c.args.head.now.names in
    let gate = c.args.head.now.start + c.args.place in
    let seen = g.D.Disk.seen c.args.disk.now c.args.journal.now in
    let there = take c.args.size (drop head_size (drop gate seen)) in
    let body_is : c.deref.result.now ≡ there = c.deref.ensures.value ∙ c.in_ok-body.ensures.told tells ∙ ap (take c.args.size) (sym (drop_drop head_size gate seen)) in
    entry_or_place-within rule c.args.place c.args.size there c.requires.within
    ∙ ap (placed rule c.args.place) (subst (λ bytes. body_in rule c.args.size bytes ≡ Ok c.in-Ok.entry) body_is c.in-Ok.ensures.found)

pub returns-in-Ok-clause-goes_on : goal.returns-in-Ok-clause-goes_on
returns-in-Ok-clause-goes_on g c tells =
    let gate = c.args.head.now.start + c.args.place in
    let seen = g.D.Disk.seen c.args.disk.now c.args.journal.now in
    let body_is : c.in_ok-body.body.items ≡ take c.args.size (drop head_size (drop gate seen)) =
    c.in_ok-body.ensures.told tells ∙ ap (take c.args.size) (sym (drop_drop head_size gate seen)) in
    c.followed-goes_on.ensures ∙ ap followed (c.deref-in-Ok.ensures.value ∙ body_is)

pub returns-clause-bad : goal.returns-clause-bad
returns-clause-bad g c tells at is =
    let rule = rule_of c.args.head.now.names in
    let gate = c.args.head.now.start + c.args.place in
    let seen = g.D.Disk.seen c.args.disk.now c.args.journal.now in
    let there = take c.args.size (drop head_size (drop gate seen)) in
    let body_is : c.deref.result.now ≡ there = c.deref.ensures.value ∙ c.in_ok-body.ensures.told tells ∙ ap (take c.args.size) (sym (drop_drop head_size gate seen)) in
    entry_or_place-within rule c.args.place c.args.size there c.requires.within
    ∙ told_bad rule c.before_body.result c.args.place c.in-Err.fault (body_in rule c.args.size there) at c.before_body.ensures.told
    (λ inner same. subst (λ bytes. body_in rule c.args.size bytes ≡ Err inner) body_is (c.in-Err.ensures.bad inner (ap Err same))) (sym c.told.ensures ∙ (let said = is in cc))
