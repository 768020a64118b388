use Rattle.model_lines.proofs.EachKey.{EachHas-alone, EachHas-from_alone}
use Rattle.model_ini.specs.Ini.{IsIniKey}
use Rattle.model_ini.proofs.laws.simpleini_goes_by_keys.Goals as goal

pub returns-clause-each : goal.returns-clause-each
returns-clause-each c = EachHas-alone IsIniKey

pub returns-clause-all : goal.returns-clause-all
returns-clause-all c = EachHas-from_alone IsIniKey
