-- Each place has what it had.
use Rattle.std.proofs.Common.{map as over, ap, ◌∙◌}
use Rattle.std.specs.Option.{option_map}
use Rattle.store_verdict.specs.RecordView.{fetched_of}
use Rattle.store_verdict.proofs.KeepLemmas.{fetched_at-same}
use Rattle.store_verdict.proofs.records.Record.copy.Goals as goal

pub returns-clause-kept : goal.returns-clause-kept
returns-clause-kept c =
    let same = c.in_ok-fetched.ensures ∙ ap (over (option_map fetched_of)) c.deref.ensures.value in
    λ i. record { fetched = λ m. fetched_at-same c.in_ok-fetched.fetched.items c.args.self.now.fetched.items same m i; committed = c.args.self.now.committed }
