use Rattle.std.proofs.Common.{true, [], ◌∷◌, ◌+◌, ◌≤◌, List, Ok, length, subst, sym, ap, ◌∙◌, refl, arith}
use Rattle.journal_codec.specs.declared.files.FileText.{FileText}
use Rattle.journal_codec.specs.Entry.{journal2_name, IsEntry}
use Rattle.journal_codec.specs.Forms.{spelled_on}
use Rattle.journal_steps.proofs.Steps.{failed_writes}
use Rattle.journal_lists.specs.Lists.{list_bytes}
use Rattle.intent_journal.proofs.Sound.{begins_any, gate_place, named_writes, place_of, sound_torn, sound_opened}
use Rattle.intent_journal.proofs.Steps.{opening}
use Rattle.intent_journal.proofs.journal.Journal.open_gate.Goals as goal

pub body_size-requires : goal.body_size-requires
body_size-requires g c =
    let fits = rw (← c.self.view_is) at c.requires.fits in
    subst IsEntry (sym c.as_slice.ensures) (place_of c.self.inside.list.items c.args.files fits).is

pub open_gate-requires : goal.open_gate-requires
open_gate-requires g c tells =
    let disk = c.self.inside.disk in
    let sound = c.self.invariant in
    let start = c.self.inside.start in
    let list = c.self.inside.list.items in
    let begins = begins_any c.self.inside.in_doubt (g.D.Disk.may_leave disk) start list (sound.journal tells) in
    subst (λ n. c.self.inside.place ≤ length (g.D.Disk.seen disk n)) (sym sound.named)
    (subst (λ p. p ≤ length (g.D.Disk.seen disk journal2_name)) (sym sound.placed)
    (gate_place start list (g.D.Disk.seen disk journal2_name) (begins (g.D.Disk.seen disk journal2_name) (g.D.Disk.read_is_image disk tells journal2_name))))

pub push_reserved-requires : goal.push_reserved-requires
push_reserved-requires g c =
    let fits = rw (← c.self.view_is) at c.requires.fits in
    let room = place_of c.self.inside.list.items c.args.files fits in
    omega (arith, room.few, c.self.invariant.spare)

pub invariant_of-self : goal.invariant_of-self
invariant_of-self g c =
    sound_torn g.D.Disk c.self.inside.disk c.open_gate.new.disk _ _ _ _ _ _ _ c.self.invariant c.open_gate.ensures.goes c.open_gate.result (1 ∷ []) true refl
    (λ tells. named_writes g.D.Disk _ _ _ _ _ (1 ∷ []) c.self.invariant.named (c.open_gate.ensures.writes tells))

pub invariant_of-self-2 : goal.invariant_of-self-2
invariant_of-self-2 g c =
    let fits = rw (← c.self.view_is) at c.requires.fits in
    let body = rw (← c.self.view_is) at c.requires.body in
    let headed = ap (λ j. j.headed) c.self.view_is ∙ c.requires.headed in
    sound_opened g.D.Disk c.self.inside.disk c.open_gate.new.disk _ _ _ _ _ _ _ c.self.invariant c.open_gate.ensures.goes c.args.files _ _ _ headed c.push_reserved.ensures.items
    (omega (arith, c.body_size.ensures.exact, ap (λ (l : List FileText). length (spelled_on l)) c.as_slice.ensures)) c.push_reserved.ensures.capacity fits body
    (λ tells. named_writes g.D.Disk _ _ _ _ _ (1 ∷ []) c.self.invariant.named (c.in_ok-open_gate.ensures.writes tells))

pub returns-in_err-open_gate-clause-passes : goal.returns-in_err-open_gate-clause-passes
returns-in_err-open_gate-clause-passes g c =
    let body = rw (← c.self.view_is) at c.requires.body in
    let list = c.self.inside.list.items in
    rw (← c.self.view_is) (λ tells names before headed starts fits state.
    opening g.D.Disk c.self.inside.disk c.open_gate.new.disk c.from_residual.result tells names before list c.args.files c.self.inside.place c.self.inside.start
    (c.self.invariant.placed ∙ ap (λ n. n + length (list_bytes list)) starts) starts fits state (body tells)
    (failed_writes g.D.Disk _ _ _ _ _ _ (1 ∷ []) c.from_residual.ensures.0 (named_writes g.D.Disk _ _ _ _ _ (1 ∷ []) c.self.invariant.named (c.open_gate.ensures.writes tells))))

pub returns-clause-passes : goal.returns-clause-passes
returns-clause-passes g c =
    let body = rw (← c.self.view_is) at c.requires.body in
    let list = c.self.inside.list.items in
    rw (← c.self.view_is) (λ tells names before headed starts fits state.
    opening g.D.Disk c.self.inside.disk c.open_gate.new.disk (Ok tt) tells names before list c.args.files c.self.inside.place c.self.inside.start
    (c.self.invariant.placed ∙ ap (λ n. n + length (list_bytes list)) starts) starts fits state (body tells)
    (named_writes g.D.Disk c.self.inside.disk c.open_gate.new.disk (Ok tt) c.self.inside.name c.self.inside.place (1 ∷ []) c.self.invariant.named (c.in_ok-open_gate.ensures.writes tells)))
