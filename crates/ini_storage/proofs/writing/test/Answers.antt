-- Each turn passes a key that can be stored, or stops at the first that can't.
use Rattle.std.proofs.Common.{sym, subst, ◌∙◌}
use Rattle.key_set.specs.EntryView.{entry_of}
use Rattle.model_formats.specs.Holding.{LacksFirst}
use Rattle.model_ini.specs.Ini.{IsIniKey}
use Rattle.file_lines.proofs.Walking.{HaveBefore, HaveBefore-start, HaveBefore-more, HaveBefore-all, HaveBefore-lacks}
use Rattle.ini_storage.proofs.writing.test.Goals as goal

pub loop-name-init : goal.loop-name-init
loop-name-init c =
    subst (HaveBefore IsIniKey c.args.keys.now) (sym (c.into_iter-name-iterator.ensures.into_iter_gives ∙ c.iter-name-items.ensures)) (HaveBefore-start IsIniKey c.args.keys.now)

pub loop-name-preserved : goal.loop-name-preserved
loop-name-preserved c =
    HaveBefore-more IsIniKey c.args.keys.now c.in-Some.name.now (entry_of c.in-Some.entry.now) c.loop-name.name-iterator c.next.new.self c.loop-name.invariant c.in-Some.ensures.steps (c.is_ini_key.ensures.0 c.if-not-is_ini_key.false)

pub returns-then-not-is_ini_key : goal.returns-then-not-is_ini_key
returns-then-not-is_ini_key c _ =
    subst (LacksFirst IsIniKey c.args.keys.now) (sym c.in_ok-copy.ensures)
    (HaveBefore-lacks IsIniKey c.args.keys.now c.in-Some.name.now (entry_of c.in-Some.entry.now) c.loop-name.name-iterator c.next.new.self c.loop-name.invariant c.in-Some.ensures.steps
    (λ has. let both = sym c.if-not-is_ini_key.true ∙ c.is_ini_key.ensures.1 has in absurd cc))

pub returns : goal.returns
returns c =
    HaveBefore-all IsIniKey c.args.keys.now (subst (HaveBefore IsIniKey c.args.keys.now) c.in-None.ensures.steps.0 c.loop-name.invariant)
