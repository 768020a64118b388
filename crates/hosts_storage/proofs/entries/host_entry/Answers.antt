-- An address without NUL is the value of its entry.
use Rattle.std.proofs.Common.{sym, ◌∙◌}
use Rattle.hosts_storage.proofs.NulBytes.{nul-found, nul-nowhere}
use Rattle.hosts_storage.proofs.entries.host_entry.Goals as goal

pub returns-then-has_nul : goal.returns-then-has_nul
returns-then-has_nul c = λ fits. nul-found c.args.address.now (sym c.has_nul.ensures ∙ c.if-has_nul.true) fits.1

pub returns : goal.returns
returns c = (
  λ i. record { value = (c.in_ok-new.ensures ∙ c.in-Some.ensures.0) i; meta = c.in_ok-metadata.ensures i },
  c.in-Some.ensures.1,
  nul-nowhere c.args.address.now (sym c.has_nul.ensures ∙ c.if-has_nul.false),
)
