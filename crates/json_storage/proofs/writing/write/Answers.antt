-- The object of all keys holds texts alone, and nothing of it is cut off where all can be held.
use Rattle.std.proofs.Common.{◌∷◌, [], ◌++◌, ap, ◌∙◌}
use Rattle.serde_json.specs.Written.{compact_text, has_float}
use Rattle.model_json.specs.Text.{with_arrays}
use Rattle.json_storage.specs.Writing.{cut_leaves}
use Rattle.json_storage.proofs.WritingLemmas.{tree-off, uncut}
use Rattle.json_storage.proofs.writing.write.Goals as goal

pub text_of-requires : goal.text_of-requires
text_of-requires c = record { texts = ap has_float c.in_ok-object.ensures ∙ tree-off (cut_leaves 0 c.args.keys.now) }

pub returns : goal.returns
returns c =
    let keys = c.args.keys.now in
    let storable = c.in_ok-test.ensures in
    record {
      text = (c.in_ok-text_of.ensures ∙ ap (λ d. compact_text (with_arrays d) ++ 10 ∷ []) (c.in_ok-object.ensures ∙ uncut keys storable), storable);
    }
