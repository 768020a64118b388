use Rattle.std.proofs.Common.{◌++◌, Ok, Err, refl, sym, subst, ◌∙◌}
use Rattle.journal_steps.specs.declared.faults.JournalFault.TheVariants.{Memory}
use Rattle.intent_journal.specs.Openings.{OpensList}
use Rattle.intent_journal.proofs.BothSteps.{any_both, opens_memory}
use Rattle.intent_journal.proofs.journal.Journal.open.Goals as goal

pub returns-in_default : goal.returns-in_default
returns-in_default g c = record { found = Err Memory; answers = refl; opens = opens_memory g.D.Disk c.args.disk }

pub returns-in_default-name_of_journal2 : goal.returns-in_default-name_of_journal2
returns-in_default-name_of_journal2 g c =
    record { found = Err Memory; answers = refl; opens = opens_memory g.D.Disk c.args.disk }

pub returns-in-Ok-open : goal.returns-in-Ok-open
returns-in-Ok-open g c =
    let former = c.in-Ok-open.retired.items in
    let list = c.in-Ok-open.list.items in
    record {
      found = Ok (former ++ list);
      answers = (c.begin.ensures.fresh, c.begin.ensures.recovered ∙ any_both former list);
      opens = subst (λ disk. OpensList g.D.Disk c.args.disk disk (Ok (former ++ list))) (sym c.begin.ensures.disk) c.in-Ok-open.ensures.opens;
    }

pub returns : goal.returns
returns g c = record { found = Err c.in-Err.fault; answers = refl; opens = c.in-Err.ensures.opens }
