-- A line adds one thing at most, so lines lead to one end.
use Rattle.std.proofs.Common.{[], refl, sym, ap, ◌∙◌, inl, inr}
use Rattle.model_lines.specs.Lines.{lines}
use Rattle.model_lines.proofs.Leading.{Leads-once, Leads-or_stops, Leads-stops_nowhere, StopsAt-once}
use Rattle.batch_script.specs.Scripts.{Adds}
use Rattle.batch_script.specs.Phases.{script_of}
use Rattle.batch_script.proofs.DecidedLemmas.{Adds-told}
use Rattle.batch_script.proofs.LineLemmas.{Adds-once}
use Rattle.batch_script.proofs.laws.bytes_read_as_one_script_or_are_bad_at_one_line.Goals as goal

pub returns-clause-one_script : goal.returns-clause-one_script
returns-clause-one_script c = λ bytes script other p q.
    p.script_is ∙ ap script_of (Leads-once Adds Adds-once (lines bytes) [] p.items q.items p.leads q.leads)
    ∙ sym q.script_is

pub returns-clause-one_line : goal.returns-clause-one_line
returns-clause-one_line c = λ bytes line other p q. StopsAt-once Adds Adds-once [] (lines bytes) line other p q

pub returns-clause-not_both : goal.returns-clause-not_both
returns-clause-not_both c =
    λ bytes script line p q. Leads-stops_nowhere Adds Adds-once [] (lines bytes) p.items line p.leads q

pub returns-clause-always : goal.returns-clause-always
returns-clause-always c = λ bytes. elim (Leads-or_stops Adds Adds-told (lines bytes) []) [
  | inl h ↦ inl (script_of h.0, record { items = h.0; leads = h.1; script_is = refl })
  | inr h ↦ inr h
]
