use Rattle.model_json.proofs.Lawful.{json_files-lawful}
use Rattle.model_json.proofs.json_files_is_lawful.Goals as goal

pub returns : goal.returns
returns c = json_files-lawful
