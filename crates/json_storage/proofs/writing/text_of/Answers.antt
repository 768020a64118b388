-- The text of the value, and a line feed.
use Rattle.std.proofs.Common.{◌∷◌, [], ◌++◌, ap, ◌∙◌}
use Rattle.serde_json.specs.View.{view}
use Rattle.serde_json.specs.Written.{compact_text, has_float}
use Rattle.json_storage.proofs.WritingLemmas.{arrays-off}
use Rattle.json_storage.proofs.writing.text_of.Goals as goal

pub returns : goal.returns
returns c =
    let off = ap has_float c.in_ok-value.ensures ∙ arrays-off (view c.args.object.now) c.requires.texts in
    c.in_ok-push.ensures.items
    ∙ ap (λ bytes. bytes ++ 10 ∷ []) (c.in_ok-bytes.ensures.text off ∙ ap compact_text c.in_ok-value.ensures)
