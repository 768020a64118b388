use Rattle.model_json.proofs.Rising.{read-rises}
use Rattle.model_json.proofs.ReadAscends.{value-ascends, keys-sorted}
use Rattle.model_json.proofs.what_is_read_ascends.Goals as goal

pub returns : goal.returns
returns c = λ bytes d found is are few. keys-sorted found (value-ascends d found are (read-rises bytes d is) few)
