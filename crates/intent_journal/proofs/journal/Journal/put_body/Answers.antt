use Rattle.std.proofs.Common.{◌+◌, ◌≤◌, Bool, length, subst, sym, ap, ◌∙◌, arith}
use Rattle.std.proofs.lemmas.Result.{on_ok_weaker}
use Rattle.journal_codec.specs.Entry.{journal2_name}
use Rattle.journal_lists.specs.Lists.{list_bytes}
use Rattle.intent_journal.proofs.Sound.{Begins, gate_there, named_writes, body_behind, sound_behind}
use Rattle.intent_journal.proofs.Steps.{putting}
use Rattle.intent_journal.proofs.journal.Journal.put_body.Goals as goal

pub put_body-requires-clause-limit : goal.put_body-requires-clause-limit
put_body-requires-clause-limit g c =
    omega (arith, c.self.invariant.placed, c.self.invariant.short, c.self.invariant.fits.within)

pub put_body-requires-clause-there : goal.put_body-requires-clause-there
put_body-requires-clause-there g c tells =
    let disk = c.self.inside.disk in
    let sound = c.self.invariant in
    let start = c.self.inside.start in
    let list = c.self.inside.list.items in
    let sure = ap (λ j. j.in_doubt) c.self.view_is ∙ c.requires.sure in
    let begins = subst (λ (b : Bool). Begins (g.D.Disk.may_leave disk) start list b) sure (sound.journal tells) in
    let there = gate_there start list (g.D.Disk.seen disk journal2_name) (begins (g.D.Disk.seen disk journal2_name) (g.D.Disk.read_is_image disk tells journal2_name)) in
    subst (λ n. c.self.inside.place + 1 ≤ length (g.D.Disk.seen disk n)) (sym sound.named) (omega (arith, sound.placed))

pub invariant_of-self : goal.invariant_of-self
invariant_of-self g c =
    let sure = ap (λ j. j.in_doubt) c.self.view_is ∙ c.requires.sure in
    sound_behind g.D.Disk c.self.inside.disk c.put_body.new.disk _ _ _ _ _ _ _ c.self.invariant c.put_body.ensures.goes c.put_body.result c.args.encoded.now sure
    (λ tells. named_writes g.D.Disk _ _ _ _ _ c.args.encoded.now c.self.invariant.named (c.put_body.ensures.writes tells))

pub returns-clause-body : goal.returns-clause-body
returns-clause-body g c =
    rw (← c.self.view_is) (λ tells entry encoded.
    let disk = c.self.inside.disk in
    let start = c.self.inside.start in
    let list = c.self.inside.list.items in
    let sure = ap (λ j. j.in_doubt) c.self.view_is ∙ c.requires.sure in
    let begins = subst (λ (b : Bool). Begins (g.D.Disk.may_leave disk) start list b) sure (c.self.invariant.journal tells) in
    on_ok_weaker c.put_body.result
    (body_behind (g.D.Disk.may_leave c.put_body.new.disk) start list entry (g.D.Disk.seen disk journal2_name) c.args.encoded.now (c.self.inside.place + 1)
    (ap (λ n. n + 1) c.self.invariant.placed) encoded (begins (g.D.Disk.seen disk journal2_name) (g.D.Disk.read_is_image disk tells journal2_name)))
    (named_writes g.D.Disk _ _ _ _ _ c.args.encoded.now c.self.invariant.named (c.put_body.ensures.writes tells)).durable)

pub returns-clause-passes : goal.returns-clause-passes
returns-clause-passes g c =
    let list = c.self.inside.list.items in
    rw (← c.self.view_is) (λ tells names before headed starts state.
    putting g.D.Disk c.self.inside.disk c.put_body.new.disk c.put_body.result tells names before list (c.self.inside.place + 1) c.args.encoded.now
    (ap (λ n. n + 1) (c.self.invariant.placed ∙ ap (λ n. n + length (list_bytes list)) starts)) state
    (named_writes g.D.Disk _ _ _ _ _ c.args.encoded.now c.self.invariant.named (c.put_body.ensures.writes tells)))
