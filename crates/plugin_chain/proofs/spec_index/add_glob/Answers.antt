use Rattle.std.proofs.Common.{ap₂}
use Rattle.key_set.specs.EntryView.{entry_of}
use Rattle.plugin_chain.proofs.RisingLemmas.{added_glob, no_glob}
use Rattle.plugin_chain.proofs.spec_index.add_glob.Goals as goal

pub returns-in_ok-push : goal.returns-in_ok-push
returns-in_ok-push c = record {
  ok =
      added_glob c.args.globs.now.items c.push.new.self.items c.in_ok-new.field-0 (c.args.name.now, entry_of c.args.entry.now) c.has_glob.result c.has_glob.ensures c.if-has_glob.true
      (ap₂ (λ name entry. (name, entry_of entry)) c.in_ok-new.ensures.name c.in_ok-new.ensures.entry) c.in_ok-push.ensures.items;
}

pub returns-else-has_glob : goal.returns-else-has_glob
returns-else-has_glob c =
    record {
      ok = no_glob c.args.globs.now.items c.args.name c.args.entry c.has_glob.result c.has_glob.ensures c.if-has_glob.false;
    }
