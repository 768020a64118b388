use Rattle.std.proofs.Common.{refl, inl}
use Rattle.model_json.proofs.examples.a_key_gives_way_to_those_below.Goals as goal

pub returns-clause-above : goal.returns-clause-above
returns-clause-above c fits = fits.1

pub returns-clause-below : goal.returns-clause-below
returns-clause-below c = (inl (refl, tt), (inl (refl, tt), tt))
