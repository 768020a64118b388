-- Nothing stands at a part where no member does.
use Rattle.std.proofs.Common.{◌+◌, subst}
use Rattle.serde_json.specs.View.{view}
use Rattle.json_storage.specs.Writing.{between}
use Rattle.json_storage.specs.Kept.{HasText}
use Rattle.json_storage.proofs.KeptLemmas.{absent-text}
use Rattle.json_storage.proofs.kept.+has_text.Goals as goal

pub returns-in-None : goal.returns-in-None
returns-in-None t c = (
  λ e. absurd cc,
  λ h. absurd (absent-text c.in-Some.part.now (between (c.args.from + 1) c.args.end c.args.name.now.parts) (view c.args.value.now) c.in-None.ensures (subst (λ ps. HasText ps (view c.args.value.now)) c.in-Some.ensures.parts h)),
)
