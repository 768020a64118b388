use Rattle.std.proofs.Common.{true≢false}
use Rattle.model_json.proofs.examples.no_element_stands_at_the_top.Goals as goal

pub returns : goal.returns
returns c key = true≢false key.is_member
