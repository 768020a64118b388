-- One place changes, or none.
use Rattle.std.proofs.Common.{sym, ap, ◌∙◌}
use Rattle.store_verdict.specs.Kept.{front_from}
use Rattle.store_verdict.proofs.KeepLemmas.{place-read, put-nowhere, put-there}
use Rattle.store_verdict.proofs.records.put_part.Goals as goal

pub returns-in-Some-clause-kept : goal.returns-in-Some-clause-kept
returns-in-Some-clause-kept c = λ m.
    put-there c.args.places.now c.args.part.mount c.args.by_key c.args.number c.args.part.keys m c.in-Some.front c.requires
    (ap (front_from c.args.by_key c.args.number) (place-read c.args.places.now c.args.part.mount c.index-places-mount.result c.requires) ∙ sym c.front_from.ensures ∙ c.in-Some.is)

pub returns-in_default-clause-kept : goal.returns-in_default-clause-kept
returns-in_default-clause-kept c = λ m.
    put-nowhere c.args.places.now c.args.part.mount c.args.by_key c.args.number c.args.part.keys m
    (ap (front_from c.args.by_key c.args.number) (place-read c.args.places.now c.args.part.mount c.index-places-mount.result c.requires) ∙ sym c.front_from.ensures ∙ c.in_default.is)
