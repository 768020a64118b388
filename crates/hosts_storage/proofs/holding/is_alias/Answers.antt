use Rattle.key_set.specs.EntryView.{entry_of}
use Rattle.hosts_storage.proofs.HoldingTests.{alias-decides}
use Rattle.hosts_storage.proofs.holding.is_alias.Goals as goal

pub returns : goal.returns
returns c =
    alias-decides c.args.keys.now c.args.of_family.now c.args.host.now c.args.alias.now (entry_of c.args.entry.now) c.in_ok-is_there.is_there (c.is_plain_alias.ensures.0 c.if-not-is_plain_alias.false) c.in_ok-is_there.ensures
