-- Step by step.
use Rattle.std.proofs.Common.{[], ◌∷◌, ◌+◌, List, length, take, refl, sym, ap, subst, ◌∙◌, arith, length-append}
use Rattle.std.proofs.lemmas.List.{take_all}
use Rattle.batch_script.specs.declared.steps.Step.{Step}
use Rattle.general_words.proofs.Lists.{at_place}
use Rattle.kdb_handle.specs.declared.replies.Reply.{Reply}
use Rattle.model_store.specs.Store.{Formats, formats_of}
use Rattle.batch_run.specs.Stepping.{GoesOn}
use Rattle.batch_run.proofs.Joining.{goes-more, goes-nowhere}
use Rattle.batch_run.proofs.sessions.Session.take_steps.Goals as goal

pub loop-step-init : goal.loop-step-init
loop-step-init g c =
    let formats : Formats = formats_of g.F.Formats in
    let store = c.args.store.now in
    let handle = c.args.self.now.handle in
    let workspace = c.args.self.now.workspace in
    record {
      room = refl;
      count = ap length c.requires.none;
      number = refl;
      passed = λ fits. omega arith;
      goes =
          subst (λ (answers : List Reply). GoesOn formats store.lock store.plan [] answers handle workspace handle workspace) (sym c.requires.none)
          (goes-nowhere formats store.lock store.plan handle workspace c.requires.ready);
    }

pub take_step-reply-requires : goal.take_step-reply-requires
take_step-reply-requires g c = c.loop-step.invariant.goes.ready

pub push_reserved-requires : goal.push_reserved-requires
push_reserved-requires g c =
    omega (arith, c.loop-step.replies.ok.0, c.loop-step.invariant.room, c.loop-step.invariant.count, c.loop-step-test.true, c.requires.room)

pub loop-step-preserved : goal.loop-step-preserved
loop-step-preserved g c =
    let formats : Formats = formats_of g.F.Formats in
    let store = c.args.store.now in
    let first = c.args.self.now in
    let so_far = c.loop-step in
    let step = c.step-item.result in
    let taken = c.take_step-reply in
    let pushed = c.push_reserved.ensures in
    let there = at_place c.args.steps.now so_far.step-index step c.loop-step-test.true c.step-item.is in
    record {
      room = pushed.capacity ∙ so_far.invariant.room;
      count = omega (arith, ap (λ (answers : List Reply). length answers) pushed.items, length-append so_far.replies.items (taken.result ∷ []), so_far.invariant.count);
      number = so_far.invariant.number;
      passed = λ fits. omega (arith, fits, c.saturating_add-self.ensures, so_far.invariant.passed fits, c.loop-step-test.true);
      goes =
          subst (λ (answers : List Reply). GoesOn formats store.lock store.plan (take (so_far.step-index + 1) c.args.steps.now) answers first.handle first.workspace taken.new.handle taken.new.workspace) (sym pushed.items)
          (goes-more formats store.lock store.plan c.args.steps.now so_far.step-index step so_far.replies.items taken.result first.handle so_far.self.handle taken.new.handle
          first.workspace so_far.self.workspace taken.new.workspace there so_far.invariant.goes taken.ensures);
    }

pub returns-clause-goes : goal.returns-clause-goes
returns-clause-goes g c =
    let formats : Formats = formats_of g.F.Formats in
    let store = c.args.store.now in
    let first = c.args.self.now in
    let last = c.loop-step in
    subst (λ (steps : List Step). GoesOn formats store.lock store.plan steps last.replies.items first.handle first.workspace last.self.handle last.self.workspace)
    (take_all last.step-index c.args.steps.now c.loop-step-test.false) last.invariant.goes
