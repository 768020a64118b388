-- Each turn passes a key that can be stored, or stops at the first that can't.
use Rattle.std.proofs.Common.{sym, subst, ◌∙◌}
use Rattle.key_set.specs.EntryView.{entry_of}
use Rattle.model_formats.specs.Holding.{LacksFirst}
use Rattle.model_json.specs.Keys.{IsJsonKey}
use Rattle.file_lines.proofs.Walking.{HaveBefore, HaveBefore-start, HaveBefore-more, HaveBefore-all, HaveBefore-lacks}
use Rattle.json_storage.proofs.writing.test_each.Goals as goal

pub loop-name-init : goal.loop-name-init
loop-name-init c =
    subst (HaveBefore (IsJsonKey c.args.keys.now) c.args.keys.now) (sym (c.into_iter-name-iterator.ensures.into_iter_gives ∙ c.iter-name-items.ensures)) (HaveBefore-start (IsJsonKey c.args.keys.now) c.args.keys.now)

pub loop-name-preserved : goal.loop-name-preserved
loop-name-preserved c =
    let keys = c.args.keys.now in
    HaveBefore-more (IsJsonKey keys) keys c.in-Some.name.now (entry_of c.in-Some.entry.now) c.loop-name.name-iterator c.next.new.self c.loop-name.invariant c.in-Some.ensures.steps
    ((c.is_json_key.ensures keys c.requires.whole).0 c.if-not-is_json_key.false)

pub returns-then-not-is_json_key : goal.returns-then-not-is_json_key
returns-then-not-is_json_key c _ =
    let keys = c.args.keys.now in
    subst (LacksFirst (IsJsonKey keys) keys) (sym c.in_ok-copy.ensures)
    (HaveBefore-lacks (IsJsonKey keys) keys c.in-Some.name.now (entry_of c.in-Some.entry.now) c.loop-name.name-iterator c.next.new.self c.loop-name.invariant c.in-Some.ensures.steps
    (λ has. let both = sym c.if-not-is_json_key.true ∙ (c.is_json_key.ensures keys c.requires.whole).1 has in absurd cc))

pub returns : goal.returns
returns c =
    HaveBefore-all (IsJsonKey c.args.keys.now) c.args.keys.now (subst (HaveBefore (IsJsonKey c.args.keys.now) c.args.keys.now) c.in-None.ensures.steps.0 c.loop-name.invariant)
