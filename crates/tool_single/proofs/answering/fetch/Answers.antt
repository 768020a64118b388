-- A get before any commit gives what the files give.
use Rattle.std.proofs.Common.{None, sym}
use Rattle.model_maps.specs.KeyMap.{no_keys}
use Rattle.model_store.specs.Records.{no_record}
use Rattle.tool_single.proofs.GetLemmas.{fault_shown, fetched, keys_shown}
use Rattle.tool_single.proofs.answering.fetch.Goals as goal

pub returns-in-Ok-clause-keys : goal.returns-in-Ok-clause-keys
returns-in-Ok-clause-keys g c =
    keys_shown c.args.plan.now.mounted c.args.core.now c.args.parent.now c.args.rec.now c.get.new.rec (c.requires.open.world (λ h. no_keys)) c.requires.new c.in-Ok.ensures.handle c.in-Ok.ensures.places c.in-Ok.got
    (c.in-Ok.ensures.got (λ h. no_keys) (λ r. no_record) (λ p. None) (sym c.requires.new.proc) (λ i. record { fetched = λ m. sym (c.requires.new.none m) i; committed = sym c.requires.new.fresh i }))

pub returns-in-Ok-clause-fetched : goal.returns-in-Ok-clause-fetched
returns-in-Ok-clause-fetched g c =
    fetched c.args.plan.now.mounted c.args.core.now c.args.parent.now c.args.rec.now c.get.new.rec (c.requires.open.world (λ h. no_keys)) c.requires.new c.in-Ok.ensures.handle c.in-Ok.ensures.places c.in-Ok.got
    (c.in-Ok.ensures.got (λ h. no_keys) (λ r. no_record) (λ p. None) (sym c.requires.new.proc) (λ i. record { fetched = λ m. sym (c.requires.new.none m) i; committed = sym c.requires.new.fresh i }))

pub returns-in-Err-clause-fault : goal.returns-in-Err-clause-fault
returns-in-Err-clause-fault g c =
    fault_shown c.args.plan.now.mounted c.args.core.now c.args.parent.now c.args.rec.now c.get.new.rec (c.requires.open.world (λ h. no_keys)) c.requires.new c.in-Err.ensures.handle c.in-Err.ensures.places c.in-Err.fault
    (c.in-Err.ensures.got (λ h. no_keys) (λ r. no_record) (λ p. None) (sym c.requires.new.proc) (λ i. record { fetched = λ m. sym (c.requires.new.none m) i; committed = sym c.requires.new.fresh i }))
