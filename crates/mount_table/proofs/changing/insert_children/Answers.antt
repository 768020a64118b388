-- The keys are those of the entry, one added behind the other.
use Rattle.std.proofs.Common.{cond, ap₂, ◌∙◌}
use Rattle.std.specs.FinMap as map
use Rattle.key_name.specs.Children.{child_of}
use Rattle.model_maps.specs.Entry.{plain_entry}
use Rattle.mount_table.specs.Counting.{keys_word}
use Rattle.mount_table.specs.Places.{path_word, plugin_word, conflicts_word}
use Rattle.mount_table.proofs.changing.insert_children.Goals as goal

pub returns-clause-ok : goal.returns-clause-ok
returns-clause-ok c =
    let name = c.in_ok-name.ensures in
    let one = c.in_ok-insert_child.ensures ∙ ap₂ (λ keys name. map.insert keys (child_of name path_word) (plain_entry c.args.file.now)) c.in_ok-all.ensures name in
    let two = c.in_ok-insert_child-2.ensures ∙ (λ i. map.insert (one i) (child_of (name i) plugin_word) (plain_entry (c.word.ensures.word i))) in
    c.in_ok-insert_word.ensures
    ∙ ap₂ (λ name keys. cond c.args.by_key (map.insert keys (child_of name conflicts_word) (plain_entry keys_word)) keys) name two
