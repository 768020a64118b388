-- By the laws of the formats.
use Rattle.model_store.specs.Store.{formats_of}
use Rattle.model_store.proofs.OneVerdict.{IsEarly-once, IsEarly-some, IsLate-once, IsLate-some, breach-caused}
use Rattle.model_store.proofs.a_set_has_one_verdict.Goals as goal

pub returns-clause-some_early : goal.returns-clause-some_early
returns-clause-some_early g c =
    let f = g.F.Formats in
    IsEarly-some (formats_of f) f.storable_or_breaks

pub returns-clause-one_early : goal.returns-clause-one_early
returns-clause-one_early g c =
    let f = g.F.Formats in
    IsEarly-once (formats_of f) f.storable_breaks_nowhere f.one_break

pub returns-clause-some_late : goal.returns-clause-some_late
returns-clause-some_late g c = IsLate-some (formats_of g.F.Formats)

pub returns-clause-one_late : goal.returns-clause-one_late
returns-clause-one_late g c = IsLate-once (formats_of g.F.Formats)

pub returns-clause-refused : goal.returns-clause-refused
returns-clause-refused g c = breach-caused (formats_of g.F.Formats)
