-- The header, the records and the ending.
use Rattle.std.proofs.Common.{◌∷◌, [], ◌++◌, ap, ap₂, ◌∙◌}
use Rattle.std.specs.FinMap as map
use Rattle.model_dump.specs.Record.{ending}
use Rattle.dump_storage.proofs.WritingLemmas.{spelled_keys}
use Rattle.dump_storage.proofs.writing.text_of.Goals as goal

pub returns : goal.returns
returns c =
    let keys = map.entries c.args.keys.now in
    let ending_line = ending ++ 10 ∷ [] in
    c.in_ok-extend_from_slice.ensures.items
    ∙ ap (λ x. x ++ ending_line) (c.in_ok-push_keys.ensures ∙ ap₂ (λ front records. front ++ records) c.in_ok-bytes.ensures.items (spelled_keys keys))
