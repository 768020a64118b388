use Rattle.std.proofs.Common.{true, ◌≤◌, Bool, length, refl, subst, sym, ap, ◌∙◌, arith}
use Rattle.journal_codec.specs.Entry.{journal2_name}
use Rattle.intent_journal.proofs.Sound.{Begins, gate_there, sound_headless, sound_headed}
use Rattle.intent_journal.proofs.Steps.{failed_passes}
use Rattle.intent_journal.proofs.journal.Journal.put_header.Goals as goal

pub put_header-requires-clause-there : goal.put_header-requires-clause-there
put_header-requires-clause-there g c tells =
    let disk = c.self.inside.disk in
    let sound = c.self.invariant in
    let start = c.self.inside.start in
    let list = c.self.inside.list.items in
    let sure = ap (λ j. j.in_doubt) c.self.view_is ∙ c.requires.sure in
    let begins = subst (λ (b : Bool). Begins (g.D.Disk.may_leave disk) start list b) sure (sound.journal tells) in
    let there = gate_there start list (g.D.Disk.seen disk journal2_name) (begins (g.D.Disk.seen disk journal2_name) (g.D.Disk.read_is_image disk tells journal2_name)) in
    subst (λ n. 1 ≤ length (g.D.Disk.seen disk n)) (sym sound.named) (omega arith)

pub invariant_of-self : goal.invariant_of-self
invariant_of-self g c =
    let bare = ap (λ j. j.headed) c.self.view_is ∙ c.requires.bare in
    sound_headless g.D.Disk c.self.inside.disk c.put_header.new.disk _ _ _ _ _ _ _ c.self.invariant c.put_header.ensures.goes true bare refl

pub invariant_of-self-2 : goal.invariant_of-self-2
invariant_of-self-2 g c =
    let bare = ap (λ j. j.headed) c.self.view_is ∙ c.requires.bare in
    sound_headed g.D.Disk c.self.inside.disk c.put_header.new.disk _ _ _ _ _ _ _ c.self.invariant c.put_header.ensures.goes c.args.header.now _ _ bare c.requires.header (omega arith) (omega arith)
    (λ tells. c.in_ok-put_header.ensures.opened tells)

pub returns-in_err-put_header-clause-passes : goal.returns-in_err-put_header-clause-passes
returns-in_err-put_header-clause-passes g c =
    rw (← c.self.view_is) (λ tells names files is header state.
    failed_passes g.D.Disk _ _ _ c.from_residual.result _ _ _ c.from_residual.ensures.0 (c.in_err-put_header.ensures.passes tells names files is header state))

pub returns-clause-passes : goal.returns-clause-passes
returns-clause-passes g c =
    rw (← c.self.view_is) (λ tells names files is header state. c.in_ok-put_header.ensures.passes tells names files is header state)
