use Rattle.std.proofs.Common.{ap, ◌∙◌}
use Rattle.json_storage.specs.Kept.{kept}
use Rattle.json_storage.proofs.writing.test.Goals as goal

pub test_each-requires : goal.test_each-requires
test_each-requires c = record { whole = c.in_ok-whole.ensures ∙ ap kept c.requires.object }
