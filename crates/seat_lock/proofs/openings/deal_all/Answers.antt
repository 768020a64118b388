use Rattle.std.proofs.Common.{rules, ◌∙◌, ◌+◌, []}
use Rattle.seat_lock.specs.Known.{knowledge}
use Rattle.seat_lock.proofs.Dealing.{deals-left, deals-new, seated-new, known-new, gets-next, length-next}
use Rattle.seat_lock.proofs.openings.deal_all.Goals as goal

pub invariant_of-push_reserved : goal.invariant_of-push_reserved
invariant_of-push_reserved g c =
    let was = c.loop-before.invariant in let dealt = c.deal-seat.ensures in
    seated-new c.args.first.me.0.seen [] _ _ _ (deals-new c.args.first.me.0.seen _ _ _ _ _ (search rules) was.1 dealt.new (search rules)) c.requires.front

pub loop-before-preserved : goal.loop-before-preserved
loop-before-preserved g c =
    let was = c.loop-before.invariant in let dealt = c.deal-seat.ensures in let pushed = c.push_reserved.ensures in (
      dealt.board.0 ∙ was.0,
      deals-left c.args.first.me.0.seen c.loop-before.before c.args.count c.loop-before.first.me c.deal-seat.new.seat.me (search rules) was.1 dealt.old,
      search rules,
      length-next _ _ _ _ pushed.items was.3,
      search rules,
      gets-next (λ k. knowledge c.args.board.now.shared.table_id (k + 1) c.args.first.me.0.seen []) _ _ _ _ pushed.items was.3
          (known-new _ _ c.args.first.me.0.seen [] _ c.into_badge.result.views (search rules)
          (deals-new c.args.first.me.0.seen c.loop-before.before c.args.count c.loop-before.first.me c.deal-seat.result.me c.into_badge.result.views (search rules) was.1 dealt.new (search rules)))
          was.5,
    )
