use Rattle.std.proofs.Common.{◌≡◌, ◌<◌, ℕ, List, length, Ok, Err, sym, ap, subst, ◌∙◌, rules, arith}
use Rattle.kdb_outside.specs.Frames.{OnlyReads}
use Rattle.kdb_outside.specs.Images.{Image}
use Rattle.kdb_outside.proofs.Frames.{OnlyReads-then}
use Rattle.journal_codec.specs.declared.files.FileText.{FileText}
use Rattle.journal_lists.specs.Journals.{former_in}
use Rattle.journal_steps.specs.declared.faults.JournalFault.TheVariants.{BadJournal, DiskFault}
use Rattle.intent_journal.specs.Openings.{RetiresFormer}
use Rattle.intent_journal.specs.Recovering.{Retires}
use Rattle.intent_journal.proofs.OpenSteps.{refused_items}
use Rattle.intent_journal.proofs.RetireSteps.{retires_refused, retires_none, retires_all, retires_failed}
use Rattle.intent_journal.proofs.retiring.retire.Goals as goal

pub returns-in_err-length : goal.returns-in_err-length
returns-in_err-length g c =
    let reads : OnlyReads g.D.Disk c.args.disk.now c.length.new.self = search rules in
    record {
      retires =
          subst (λ r. RetiresFormer g.D.Disk c.args.disk.now c.length.new.self r) (sym (refused_items DiskFault c.from_residual.result c.from_residual.ensures.1))
          (retires_refused g.D.Disk c.args.disk.now c.length.new.self reads DiskFault (λ tells at is. absurd (cc)) (λ version is. absurd (cc)) (λ is. c.in_err-length.ensures.cause));
    }

pub returns-then-branch : goal.returns-then-branch
returns-then-branch g c =
    let reads : OnlyReads g.D.Disk c.args.disk.now c.length.new.self = search rules in
    record {
      retires =
          subst (λ (items : List (List FileText)). RetiresFormer g.D.Disk c.args.disk.now c.length.new.self (Ok items)) (sym c.new.ensures.items)
          (retires_none g.D.Disk c.args.disk.now c.length.new.self reads (λ tells.
          let sized = c.in_ok-length.ensures.told tells in
          let short : length (g.D.Disk.seen c.args.disk.now c.args.former.now) < 5 = omega arith in
          subst (λ (n : List ℕ). length (g.D.Disk.seen c.args.disk.now n) < 5) c.requires short));
    }

pub returns-in_err-list : goal.returns-in_err-list
returns-in_err-list g c =
    let disk = c.args.disk.now in
    let mid = c.length.new.self in
    let new = c.read_former.new.disk in
    let fault = c.in_err-list.field-0.0 in
    let first : OnlyReads g.D.Disk disk mid = search rules in
    let reads = OnlyReads-then g.D.Disk disk mid new first c.read_former.ensures.reads in
    record {
      retires =
          subst (λ r. RetiresFormer g.D.Disk disk new r) (sym (refused_items fault c.from_residual-in_err-list.result c.from_residual-in_err-list.ensures.1))
          (retires_refused g.D.Disk disk new reads fault
          (λ tells at is.
          subst (λ (n : List ℕ). former_in (g.D.Disk.seen disk n) ≡ Err (BadJournal at)) c.requires
          (subst (λ (s : Image). former_in (s c.args.former.now) ≡ Err (BadJournal at)) (c.length.ensures.same tells) (c.in_err-list.ensures.bad (c.length.ensures.tells ∙ tells) at (ap Err is))))
          (λ version is. c.in_err-list.ensures.known version (ap Err is))
          (λ is. search rules));
    }

pub returns-in_err-close_former : goal.returns-in_err-close_former
returns-in_err-close_former g c =
    let disk = c.args.disk.now in
    let first : OnlyReads g.D.Disk disk c.length.new.self = search rules in
    let mid = c.read_former.new.disk in
    let new = c.close_former.new.disk in
    let list = c.in_ok-list.list.items in
    let reads = OnlyReads-then g.D.Disk disk c.length.new.self mid first c.read_former.ensures.reads in
    record {
      retires =
          subst (λ r. RetiresFormer g.D.Disk disk new r) (sym (refused_items DiskFault c.from_residual-in_err-close_former.result c.from_residual-in_err-close_former.ensures.1))
          (retires_failed g.D.Disk disk mid new list reads c.in_ok-list.ensures.entries
          (λ tells.
          subst (λ (n : List ℕ). former_in (g.D.Disk.seen disk n) ≡ Ok list) c.requires
          (subst (λ (s : Image). former_in (s c.args.former.now) ≡ Ok list) (c.length.ensures.same tells) (c.in_ok-list.ensures.found (c.length.ensures.tells ∙ tells))))
          (λ tells none.
          let sized = c.in_ok-length.ensures.told tells in
          let short : length (g.D.Disk.seen disk c.args.former.now) < 5 = subst (λ (n : List ℕ). length (g.D.Disk.seen disk n) < 5) (sym c.requires) none in
          omega arith) c.close_former.ensures.goes c.close_former.result
          (λ told. subst (λ (items : List (List FileText)). Retires g.D.Disk mid new c.close_former.result items) c.deref.ensures.value (c.close_former.ensures.retires told))
          c.in_err-close_former.ensures.cause);
    }

pub returns : goal.returns
returns g c =
    let disk = c.args.disk.now in
    let first : OnlyReads g.D.Disk disk c.length.new.self = search rules in
    let mid = c.read_former.new.disk in
    let new = c.close_former.new.disk in
    let list = c.in_ok-list.list.items in
    let reads = OnlyReads-then g.D.Disk disk c.length.new.self mid first c.read_former.ensures.reads in
    record {
      retires = retires_all g.D.Disk disk mid new list reads c.in_ok-list.ensures.entries
          (λ tells.
          subst (λ (n : List ℕ). former_in (g.D.Disk.seen disk n) ≡ Ok list) c.requires
          (subst (λ (s : Image). former_in (s c.args.former.now) ≡ Ok list) (c.length.ensures.same tells) (c.in_ok-list.ensures.found (c.length.ensures.tells ∙ tells))))
          (λ tells none.
          let sized = c.in_ok-length.ensures.told tells in
          let short : length (g.D.Disk.seen disk c.args.former.now) < 5 = subst (λ (n : List ℕ). length (g.D.Disk.seen disk n) < 5) (sym c.requires) none in
          omega arith) c.close_former.ensures.goes
          (λ told. subst (λ (items : List (List FileText)). Retires g.D.Disk mid new (Ok tt) items) c.deref.ensures.value (c.in_ok-close_former.ensures.retires told));
    }
