-- What was behind the first key is to come.
use Rattle.std.proofs.Common.{not, ap, ◌∙◌}
use Rattle.key_set.specs.EntryView.{entry_of}
use Rattle.store_verdict.proofs.WalkingLemmas.{passes, stays}
use Rattle.store_verdict.proofs.walking.Walk.pass.Goals as goal

pub returns-then-is_none : goal.returns-then-is_none
returns-then-is_none c =
    let view = c.self.view_is in
    let same = stays (λ key. (key.0.now, entry_of key.1.now)) c.self.inside.at_hand c.self.inside.behind c.args.self.now c.self.view_is (c.is_none.ensures ∙ ap not c.if-is_none.true) in
    cc

pub returns : goal.returns
returns c =
    passes (λ key. (key.0.now, entry_of key.1.now)) c.self.inside.at_hand c.next-self-inside.result c.self.inside.behind c.next-self-inside.new.self c.args.self.now
    c.self.view_is (c.is_none.ensures ∙ ap not c.if-is_none.false) c.next-self-inside.ensures.steps
