-- The three children stand behind the entry's name.
use Rattle.std.proofs.Common.{ap, ◌∙◌}
use Rattle.key_name.specs.Children.{child_of}
use Rattle.mount_table.specs.Entries.{value_at}
use Rattle.mount_table.specs.Places.{path_word, plugin_word, conflicts_word}
use Rattle.mount_table.proofs.entries.said_by.Goals as goal

pub returns : goal.returns
returns c =
    let keys = c.args.keys.now in
    let entry = c.in_ok-entry.ensures ∙ ap (λ above. child_of above c.args.text.now) c.requires.above in
    λ are i. record {
      path = (c.in_ok-value_of.ensures are ∙ ap (λ name. value_at keys (child_of name path_word)) entry) i;
      plugin = (c.in_ok-value_of-2.ensures are ∙ ap (λ name. value_at keys (child_of name plugin_word)) entry) i;
      conflicts = (c.in_ok-value_of-3.ensures are ∙ ap (λ name. value_at keys (child_of name conflicts_word)) entry) i;
    }
