-- The key that was looked at is the last one.
use Rattle.std.proofs.Common.{◌-◌, length, slice_get, sym, ap, ◌∙◌}
use Rattle.model_names.specs.Below.{is_at_or_below}
use Rattle.key_set.proofs.RangeLemmas.{key_there}
use Rattle.key_set.proofs.SetLemmas.{Key}
use Rattle.key_set.proofs.ranges.is_last_below.Goals as goal

pub returns-in-Some-clause-below : goal.returns-in-Some-clause-below
returns-in-Some-clause-below c = λ yes d.
    let keys = c.args.keys.now in
    let last : Key = (c.in-Some.name.now, c.in-Some.field-0-1.now) in
    ap (λ (key : Key). is_at_or_below c.args.at.now key.0) (key_there keys (length keys - 1) last d (c.in-Some.ensures.at ∙ ap (λ n. slice_get keys (n - 1)) c.len-len.ensures.len))
    ∙ sym c.is_below_or_same.ensures.test
    ∙ yes
