use Rattle.std.proofs.Common.{◌≡◌, ap, sym, subst, ◌∙◌, arith}
use Rattle.std.specs.Option.{option_map}
use Rattle.general_words.proofs.Lists.{some_is}
use Rattle.journal_steps.specs.Moments.{KeepsElse, KeepsUnnamed}
use Rattle.journal_steps.specs.Steps.{PutsFile}
use Rattle.journal_steps.proofs.Meanwhile.{else_weaker}
use Rattle.journal_lists.specs.Lists.{as_one}
use Rattle.intent_journal.specs.Pending.{Content, content_of, pending_in}
use Rattle.intent_journal.proofs.LeastNames.{past_end, unnamed_apart}
use Rattle.intent_journal.proofs.pending.put_pending.Goals as goal

pub unreachable-requires : goal.unreachable-requires
unreachable-requires g c =
    let past = past_end (pending_in c.args.list.now) c.args.i (sym c.nth_pending.ensures ∙ ap (λ o. option_map (λ text. content_of text.now) o) c.in-None.is) in
    omega (arith, past, c.requires)

pub returns-clause-puts : goal.returns-clause-puts
returns-clause-puts g c tells content found =
    let text = c.in-Some.text.now in
    let there = sym (ap (λ o. option_map (λ text. content_of text.now) o) c.in-Some.is) ∙ c.nth_pending.ensures in
    let same : content_of text ≡ content = some_is (content_of text) content (there ∙ found) in
    subst (λ (x : Content). PutsFile g.D.Disk c.args.disk.now c.put_file.new.disk c.put_file.result (record { file = x.0; bytes = x.1 })) same
    (record { durable = c.put_file.ensures.durable tells; others = c.put_file.ensures.others tells })

pub returns-clause-others : goal.returns-clause-others
returns-clause-others g c tells other none =
    let there = sym (ap (λ o. option_map (λ text. content_of text.now) o) c.in-Some.is) ∙ c.nth_pending.ensures in
    c.put_file.ensures.others tells other (unnamed_apart c.args.list.now c.args.i (content_of c.in-Some.text.now) there other none)

pub returns-clause-time : goal.returns-clause-time
returns-clause-time g c tells =
    let there = sym (ap (λ o. option_map (λ text. content_of text.now) o) c.in-Some.is) ∙ c.nth_pending.ensures in
    let old = g.D.Disk.may_leave c.args.disk.now in
    else_weaker _ _ _ (KeepsElse c.in-Some.text.now.file old) (KeepsUnnamed (as_one c.args.list.now) old) (c.put_file.ensures.time tells)
    (λ image kept other none. kept other (unnamed_apart c.args.list.now c.args.i (content_of c.in-Some.text.now) there other none))
