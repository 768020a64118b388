-- The text of what a format holds, or the first key that it doesn't.
use Rattle.std.proofs.lemmas.Result.{IfOk-weaker}
use Rattle.all_formats.specs.Meanings as all
use Rattle.tool_single.specs.Answers.{NotHeld}
use Rattle.tool_single.proofs.AnswerLemmas.{key-told, breaks-cascading, breaks-named}
use Rattle.tool_single.proofs.answering.tell_keys.Goals as goal

pub refuse_key-requires-clause-cascading : goal.refuse_key-requires-clause-cascading
refuse_key-requires-clause-cascading c =
    let kind = c.args.kind in
    let keys = c.args.keys.now in
    let key = c.in-Err-NotStorable.key in
    breaks-cascading kind keys key c.requires.limited (key-told (all.BreaksAt kind keys) key c.in-Err-NotStorable.field-0 c.in-Err-NotStorable.field-0-is c.in-Err-NotStorable.ensures.text)

pub refuse_key-requires-clause-name : goal.refuse_key-requires-clause-name
refuse_key-requires-clause-name c =
    let kind = c.args.kind in
    let keys = c.args.keys.now in
    let key = c.in-Err-NotStorable.key in
    breaks-named c.args.name.now kind keys key c.requires.whole (key-told (all.BreaksAt kind keys) key c.in-Err-NotStorable.field-0 c.in-Err-NotStorable.field-0-is c.in-Err-NotStorable.ensures.text)

pub returns-in-Err-NotStorable-clause-answers : goal.returns-in-Err-NotStorable-clause-answers
returns-in-Err-NotStorable-clause-answers c =
    let kind = c.args.kind in
    let keys = c.args.keys.now in
    let key = c.in-Err-NotStorable.key in
    IfOk-weaker c.refuse_key.result _ _ (λ report told. NotHeld key (key-told (all.BreaksAt kind keys) key c.in-Err-NotStorable.field-0 c.in-Err-NotStorable.field-0-is c.in-Err-NotStorable.ensures.text) told) c.refuse_key.ensures.told
