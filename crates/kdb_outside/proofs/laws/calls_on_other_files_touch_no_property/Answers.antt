-- What a crash leaves of the other file is what it left before.
use Rattle.kdb_outside.proofs.Moments.{EachOf-other}
use Rattle.kdb_outside.proofs.laws.calls_on_other_files_touch_no_property.Goals as goal

pub returns : goal.returns
returns g c = λ others differ each. EachOf-other _ _ _ _ g.Q.ContentProperty.holds others differ each
