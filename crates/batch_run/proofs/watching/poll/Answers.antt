-- What the watch was asked for is what the poll means; and without a watch there is nothing to ask.
use Rattle.std.proofs.Common.{Option, subst}
use Rattle.batch_run.specs.Watching.{IsWithin}
use Rattle.batch_run.proofs.WatchTurns.{poll-goes, unwatched-goes}
use Rattle.model_store.specs.Store.{formats_of}
use Rattle.batch_run.proofs.watching.poll.Goals as goal
use Rattle.watch_feed.specs.Watches.{WatchValue}

pub ask-requires-clause-front : goal.ask-requires-clause-front
ask-requires-clause-front g c =
    subst (λ (watch : Option WatchValue). IsWithin c.args.handle.now.seen watch) c.in-Some.is c.requires.watch

pub returns-in-Some : goal.returns-in-Some
returns-in-Some g c =
    let store = c.args.store.now in
    let old = c.args.handle.now in
    let before = c.args.workspace.now in
    let front = subst (λ (watch : Option WatchValue). IsWithin old.seen watch) c.in-Some.is c.requires.watch in
    poll-goes (formats_of g.F.Formats) store.lock store.plan old c.ask.new.handle before c.in-Some.watch c.ask.new.watch c.ask.result c.ask.ensures.listens c.requires c.in-Some.is front c.ask.ensures.asked

pub returns-in-None : goal.returns-in-None
returns-in-None g c =
    unwatched-goes (formats_of g.F.Formats) c.args.store.now.lock c.args.store.now.plan c.args.handle.now c.args.workspace.now c.requires c.in-None.is
