use Rattle.std.proofs.Common.{List, ap, refl, subst, ◌∙◌}
use Rattle.journal_codec.specs.declared.files.FileText.{FileText}
use Rattle.journal_steps.specs.Outcomes.{with_entries, IsEither}
use Rattle.intent_journal.specs.States.{IsListed, IsInDoubt}
use Rattle.intent_journal.specs.Steps.{Passes}
use Rattle.intent_journal.proofs.Sound.{sound_emptied}
use Rattle.intent_journal.proofs.journal.Journal.shut.Goals as goal

pub invariant_of-self : goal.invariant_of-self
invariant_of-self g c =
    let headed = ap (λ j. j.headed) c.self.view_is ∙ c.requires.headed in
    sound_emptied _ _ _ _ _ _ _ _ _ _ _ _ c.self.invariant headed c.clear.ensures.items refl c.clear.ensures.capacity

pub returns-clause-passes : goal.returns-clause-passes
returns-clause-passes g c =
    let disk = c.self.inside.disk in
    let new = c.settle.new.self.disk in
    rw (← c.self.view_is) (λ tells names before headed starts doubt.
    subst
    (λ (l : List (List FileText)). IsInDoubt (g.D.Disk.may_leave disk) names before l doubt
    → Passes g.D.Disk disk new c.settle.result (λ leaves. IsListed leaves names before l) (λ leaves. IsInDoubt leaves names before l doubt) (IsEither (with_entries before l) doubt))
    c.clear.ensures.items (c.settle.ensures.passes tells names before headed starts doubt))
