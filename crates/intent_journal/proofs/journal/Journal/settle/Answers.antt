use Rattle.std.proofs.Common.{◌≡◌, true, false, [], ◌∷◌, ◌+◌, ◌≤◌, Ok, length, subst, sym, ap, ◌∙◌, rules}
use Rattle.journal_codec.specs.Entry.{journal2_name}
use Rattle.journal_steps.specs.Outcomes.{with_entries, IsEither}
use Rattle.journal_steps.specs.Steps.{WritesThrough}
use Rattle.journal_steps.proofs.Steps.{failed_writes, still}
use Rattle.journal_lists.specs.Lists.{list_bytes}
use Rattle.intent_journal.specs.Outcomes.{HasOnly}
use Rattle.intent_journal.proofs.Images.{doubt_only, head_only}
use Rattle.intent_journal.proofs.Sound.{begins_any, gate_place, bare_place, named_writes, listed_from, bare_from, sound_torn, sound_closed}
use Rattle.intent_journal.proofs.Steps.{settling, baring}
use Rattle.intent_journal.proofs.journal.Journal.settle.Goals as goal

pub close_gate-requires : goal.close_gate-requires
close_gate-requires g c tells =
    let disk = c.self.inside.disk in
    let sound = c.self.invariant in
    let start = c.self.inside.start in
    let list = c.self.inside.list.items in
    let begins = begins_any c.self.inside.in_doubt (g.D.Disk.may_leave disk) start list (sound.journal tells) in
    subst (λ n. c.self.inside.place ≤ length (g.D.Disk.seen disk n)) (sym sound.named)
    (subst (λ p. p ≤ length (g.D.Disk.seen disk journal2_name)) (sym sound.placed)
    (gate_place start list (g.D.Disk.seen disk journal2_name) (begins (g.D.Disk.seen disk journal2_name) (g.D.Disk.read_is_image disk tells journal2_name))))

pub invariant_of-self : goal.invariant_of-self
invariant_of-self g c =
    let doubted : c.self.inside.in_doubt ≡ true = search rules in
    sound_torn g.D.Disk c.self.inside.disk c.close_gate.new.disk _ _ _ _ _ _ _ c.self.invariant c.close_gate.ensures.goes c.close_gate.result (0 ∷ []) c.self.inside.in_doubt doubted
    (λ tells. named_writes g.D.Disk _ _ _ _ _ (0 ∷ []) c.self.invariant.named (c.close_gate.ensures.writes tells))

pub invariant_of-self-2 : goal.invariant_of-self-2
invariant_of-self-2 g c =
    sound_closed g.D.Disk c.self.inside.disk c.close_gate.new.disk _ _ _ _ _ _ _ c.self.invariant c.close_gate.ensures.goes
    (λ tells. named_writes g.D.Disk _ _ _ _ _ (0 ∷ []) c.self.invariant.named (c.in_ok-close_gate.ensures.writes tells))

pub returns-then-not-self-clause-passes : goal.returns-then-not-self-clause-passes
returns-then-not-self-clause-passes g c =
    let list = c.self.inside.list.items in
    let sure : c.self.inside.in_doubt ≡ false = search rules in
    rw (← c.self.view_is) (λ tells names before headed starts doubt state. record {
      ok = listed_from (g.D.Disk.may_leave c.self.inside.disk) names before c.self.inside.start list doubt c.self.inside.in_doubt state starts sure (c.self.invariant.journal tells);
      err = tt;
      any_moment = still _ _ (HasOnly (IsEither (with_entries before list) doubt)) (λ image left. doubt_only _ names before list doubt state image (g.D.Disk.only_now _ image tells left));
    })

pub returns-then-not-self-clause-bares : goal.returns-then-not-self-clause-bares
returns-then-not-self-clause-bares g c =
    let list = c.self.inside.list.items in
    let sure : c.self.inside.in_doubt ≡ false = search rules in
    rw (← c.self.view_is) (λ tells bare files doubt state. record {
      ok = bare_from (g.D.Disk.may_leave c.self.inside.disk) files c.self.inside.start list doubt c.self.inside.in_doubt state (c.self.invariant.bare bare) sure (c.self.invariant.journal tells);
      err = tt;
      any_moment = still _ _ (HasOnly (IsEither files doubt)) (λ image left. head_only _ files doubt state image (g.D.Disk.only_now _ image tells left));
    })

pub returns-in_err-close_gate-clause-passes : goal.returns-in_err-close_gate-clause-passes
returns-in_err-close_gate-clause-passes g c =
    let list = c.self.inside.list.items in
    rw (← c.self.view_is) (λ tells names before headed starts doubt state.
    settling g.D.Disk c.self.inside.disk c.close_gate.new.disk c.from_residual.result tells names before list doubt c.self.inside.place
    (c.self.invariant.placed ∙ ap (λ n. n + length (list_bytes list)) starts) state
    (failed_writes g.D.Disk _ _ _ _ _ _ (0 ∷ []) c.from_residual.ensures.0 (named_writes g.D.Disk _ _ _ _ _ (0 ∷ []) c.self.invariant.named (c.close_gate.ensures.writes tells))))

pub returns-in_err-close_gate-clause-bares : goal.returns-in_err-close_gate-clause-bares
returns-in_err-close_gate-clause-bares g c =
    let disk = c.self.inside.disk in
    rw (← c.self.view_is) (λ tells bare files doubt state.
    baring g.D.Disk disk c.close_gate.new.disk c.from_residual.result tells files doubt state
    (subst (λ p. WritesThrough g.D.Disk disk c.close_gate.new.disk c.from_residual.result journal2_name p (0 ∷ [])) (bare_place _ _ _ _ _ _ _ _ _ c.self.invariant bare)
    (failed_writes g.D.Disk _ _ _ _ _ _ (0 ∷ []) c.from_residual.ensures.0 (named_writes g.D.Disk _ _ _ _ _ (0 ∷ []) c.self.invariant.named (c.close_gate.ensures.writes tells)))))

pub returns-clause-passes : goal.returns-clause-passes
returns-clause-passes g c =
    let list = c.self.inside.list.items in
    rw (← c.self.view_is) (λ tells names before headed starts doubt state.
    settling g.D.Disk c.self.inside.disk c.close_gate.new.disk (Ok tt) tells names before list doubt c.self.inside.place
    (c.self.invariant.placed ∙ ap (λ n. n + length (list_bytes list)) starts) state
    (named_writes g.D.Disk _ _ _ _ _ (0 ∷ []) c.self.invariant.named (c.in_ok-close_gate.ensures.writes tells)))

pub returns-clause-bares : goal.returns-clause-bares
returns-clause-bares g c =
    let disk = c.self.inside.disk in
    rw (← c.self.view_is) (λ tells bare files doubt state.
    baring g.D.Disk disk c.close_gate.new.disk (Ok tt) tells files doubt state
    (subst (λ p. WritesThrough g.D.Disk disk c.close_gate.new.disk (Ok tt) journal2_name p (0 ∷ [])) (bare_place _ _ _ _ _ _ _ _ _ c.self.invariant bare)
    (named_writes g.D.Disk _ _ _ _ _ (0 ∷ []) c.self.invariant.named (c.in_ok-close_gate.ensures.writes tells))))
