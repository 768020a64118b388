use Rattle.std.proofs.Common.{List, ◌++◌, ◌∷◌, [], ◌∙◌, sym, subst}
use Rattle.journal_codec.specs.declared.files.FileText.{FileText}
use Rattle.journal_steps.proofs.Steps.{on_ok}
use Rattle.intent_journal.specs.Journal.{IsList}
use Rattle.store_phases.proofs.Resting.{cleaned_fits, cleaned_room, settled_rest, settled_room}
use Rattle.store_phases.proofs.phases.make_room.Goals as goal

pub returns-then-fits-clause-ok : goal.returns-then-fits-clause-ok
returns-then-fits-clause-ok g c =
    settled_room c.settle.new.self c.args.journal.now.list c.args.body c.settle.result c.settle.ensures.same.list (sym c.fits.ensures.exact ∙ c.if-fits.true) c.settle.ensures.ok

pub returns-then-fits-clause-fits : goal.returns-then-fits-clause-fits
returns-then-fits-clause-fits g c =
    on_ok _ c.settle.result (λ entry is sized.
    subst (λ (list : List (List FileText)). IsList (list ++ entry ∷ [])) (sym c.settle.ensures.same.list) (c.fits.ensures.fits entry is sized c.if-fits.true))

pub returns-then-fits-clause-rests : goal.returns-then-fits-clause-rests
returns-then-fits-clause-rests g c names files doubt rests =
    let settle = c.settle.ensures in
    settled_rest g.D.Disk c.args.journal.now c.settle.new.self c.settle.result names files doubt settle.same settle.step settle.ok settle.err rests settle.passes settle.bares

pub returns-clause-ok : goal.returns-clause-ok
returns-clause-ok g c =
    cleaned_room c.make_clean.new.journal c.args.body c.make_clean.result c.requires c.make_clean.ensures.ok

pub returns-clause-fits : goal.returns-clause-fits
returns-clause-fits g c =
    cleaned_fits c.make_clean.new.journal c.args.body c.make_clean.result c.requires c.make_clean.ensures.ok
