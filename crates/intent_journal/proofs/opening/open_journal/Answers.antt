use Rattle.std.proofs.Common.{inl, inr, ◌≡◌, ◌≢◌, ◌≤◌, ℕ, List, [], length, Ok, Err, sym, ap, subst, ◌∙◌}
use Rattle.kdb_outside.specs.Images.{Image}
use Rattle.journal_codec.specs.declared.files.FileText.{FileText}
use Rattle.journal_codec.specs.Entry.{journal2_name}
use Rattle.journal_lists.specs.Journals.{journal_in}
use Rattle.journal_lists.proofs.Journals.{journal_opens}
use Rattle.journal_steps.specs.declared.faults.JournalFault.TheVariants.{BadJournal, UnknownVersion, DiskFault}
use Rattle.intent_journal.specs.Openings.{OpensBehind}
use Rattle.intent_journal.specs.Recovering.{Recovers}
use Rattle.intent_journal.proofs.Closings.{IsListAt, stands_at}
use Rattle.intent_journal.proofs.OpenSteps.{refused_items, behind_refused, behind_none, behind_all, behind_failed, list_cases}
use Rattle.intent_journal.proofs.opening.open_journal.Goals as goal

pub recover_any-requires-clause-there : goal.recover_any-requires-clause-there
recover_any-requires-clause-there g c told some =
    let tells = sym c.read_journal.ensures.reads.tells ∙ told in
    let disk = c.args.disk.now in
    let found = c.in_ok-found.found in
    let some_items : found.list.items ≢ [] = λ none. some (c.deref.ensures.value ∙ none) in
    let stands = stands_at (g.D.Disk.seen disk c.args.journal.now) found.start found.list.items (c.in_ok-found.ensures.begins tells)
    (journal_opens (g.D.Disk.seen disk c.args.journal.now) found.list.items (c.in_ok-found.ensures.found tells)) some_items in
    subst (λ (s : Image). found.start ≤ length (s c.args.journal.now)) (sym (c.read_journal.ensures.reads.same tells)) stands.there

pub returns-in_err-found-clause-opens : goal.returns-in_err-found-clause-opens
returns-in_err-found-clause-opens g c =
    let disk = c.args.disk.now in
    let new = c.read_journal.new.disk in
    let fault = c.in_err-found.field-0.0 in
    subst (λ r. OpensBehind g.D.Disk disk new r) (sym (refused_items fault c.from_residual.result c.from_residual.ensures.1))
    (behind_refused g.D.Disk disk new fault c.read_journal.ensures.reads
    (λ tells at is. subst (λ (n : List ℕ). journal_in (g.D.Disk.seen disk n) ≡ Err (BadJournal at)) c.requires.name (c.in_err-found.ensures.bad tells at (ap Err is)))
    (λ tells version is. subst (λ (n : List ℕ). journal_in (g.D.Disk.seen disk n) ≡ Err (UnknownVersion version)) c.requires.name (c.in_err-found.ensures.unknown tells version (ap Err is)))
    (λ is. c.in_err-found.ensures.cause (ap Err is)))

pub returns-in_err-recover_any-clause-opens : goal.returns-in_err-recover_any-clause-opens
returns-in_err-recover_any-clause-opens g c =
    let disk = c.args.disk.now in
    let mid = c.read_journal.new.disk in
    let new = c.recover_any.new.disk in
    let found = c.in_ok-found.found in
    let some : found.list.items ≢ [] = λ none. let never = (c.in_err-recover_any.ensures.none (c.deref.ensures.value ∙ none)).1 in cc in
    subst (λ r. OpensBehind g.D.Disk disk new r) (sym (refused_items DiskFault c.from_residual-in_err-recover_any.result c.from_residual-in_err-recover_any.ensures.1))
    (behind_failed g.D.Disk disk mid new found.start found.list.items c.read_journal.ensures.reads c.in_ok-found.ensures.entries some
    (λ tells. subst (λ (n : List ℕ). journal_in (g.D.Disk.seen disk n) ≡ Ok found.list.items) c.requires.name (c.in_ok-found.ensures.found tells))
    (λ tells. subst (λ (n : List ℕ). IsListAt (g.D.Disk.seen disk n) found.start) c.requires.name
    (stands_at (g.D.Disk.seen disk c.args.journal.now) found.start found.list.items (c.in_ok-found.ensures.begins tells)
    (journal_opens (g.D.Disk.seen disk c.args.journal.now) found.list.items (c.in_ok-found.ensures.found tells)) some)) c.recover_any.ensures.goes c.recover_any.result
    (λ told. subst (λ (items : List (List FileText)). items ≢ [] → Recovers g.D.Disk mid new c.recover_any.result journal2_name found.start items) c.deref.ensures.value
    (c.recover_any.ensures.recovers told) some) c.in_err-recover_any.ensures.cause)

pub returns-clause-opens : goal.returns-clause-opens
returns-clause-opens g c =
    let disk = c.args.disk.now in
    let mid = c.read_journal.new.disk in
    let new = c.recover_any.new.disk in
    let found = c.in_ok-found.found in
    elim (list_cases found.list.items) [
      | inl none ↦
          subst (λ (items : List (List FileText)). OpensBehind g.D.Disk disk new (Ok items)) (sym none)
          (subst (λ d. OpensBehind g.D.Disk disk d (Ok [])) (sym (c.recover_any.ensures.none (c.deref.ensures.value ∙ none)).0)
          (behind_none g.D.Disk disk mid c.read_journal.ensures.reads
          (λ tells.
          subst (λ (n : List ℕ). journal_in (g.D.Disk.seen disk n) ≡ Ok []) c.requires.name (c.in_ok-found.ensures.found tells ∙ ap (λ (items : List (List FileText)). Ok items) none))))
      | inr some ↦
          behind_all g.D.Disk disk mid new found.start found.list.items c.read_journal.ensures.reads c.in_ok-found.ensures.entries some
          (λ tells. subst (λ (n : List ℕ). journal_in (g.D.Disk.seen disk n) ≡ Ok found.list.items) c.requires.name (c.in_ok-found.ensures.found tells))
          (λ tells. subst (λ (n : List ℕ). IsListAt (g.D.Disk.seen disk n) found.start) c.requires.name
          (stands_at (g.D.Disk.seen disk c.args.journal.now) found.start found.list.items (c.in_ok-found.ensures.begins tells)
          (journal_opens (g.D.Disk.seen disk c.args.journal.now) found.list.items (c.in_ok-found.ensures.found tells)) some)) c.recover_any.ensures.goes
          (λ told. subst (λ (items : List (List FileText)). items ≢ [] → Recovers g.D.Disk mid new (Ok tt) journal2_name found.start items) c.deref.ensures.value
          (c.in_ok-recover_any.ensures.recovers told) some)
    ]
