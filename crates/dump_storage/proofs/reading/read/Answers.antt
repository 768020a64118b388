-- The bytes end as a dump does, or reading stops.
use Rattle.std.proofs.Common.{sym, subst}
use Rattle.dump_storage.specs.Reading.{HasReadAll}
use Rattle.dump_storage.proofs.ReadingLemmas.{Reads-ending, IsBadAt-behind, IsBadAt-inside}
use Rattle.dump_storage.proofs.reading.read.Goals as goal
use Rattle.dump_storage.proofs.reading.read.Goals.{In_ok-keys}

has_read : (c : In_ok-keys) → HasReadAll c.args.bytes.now c.in_ok-keys.keys c.in_ok-keys.rest.now
has_read c =
    subst (λ bytes. HasReadAll bytes c.in_ok-keys.keys c.in_ok-keys.rest.now) (sym c.in-Some.ensures) c.in_ok-keys.ensures

pub returns-in-Some-empty : goal.returns-in-Some-empty
returns-in-Some-empty c =
    Reads-ending c.args.bytes.now c.in_ok-keys.rest.now c.in_ok-keys.keys (has_read (goal.at.returns-in-Some-empty c).In_ok-keys) c.in-Some-empty.field-0.now c.in-Some-empty.ensures c.in-Some-empty.len_below

pub returns-in-Some-behind_ending : goal.returns-in-Some-behind_ending
returns-in-Some-behind_ending c _ =
    IsBadAt-behind c.args.bytes.now c.in_ok-keys.rest.now c.in_ok-keys.keys (has_read (goal.at.returns-in-Some-behind_ending c).In_ok-keys) c.in-Some-behind_ending.more.now c.line_before.result c.in-Some-behind_ending.ensures c.in-Some-behind_ending.len_at_least c.line_before.ensures

pub returns-in-None : goal.returns-in-None
returns-in-None c _ =
    IsBadAt-inside c.args.bytes.now c.in_ok-keys.rest.now c.in_ok-keys.keys (has_read (goal.at.returns-in-None c).In_ok-keys) c.line_before-in-None.result c.in-None.ensures c.line_before-in-None.ensures
