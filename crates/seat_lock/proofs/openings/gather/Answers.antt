use Rattle.std.proofs.Common.{rules, ◌∙◌, ap, subst, ◌≡◌, ◌∷◌, [], ◌++◌, List, All, append_assoc}
use Rattle.seat_lock.specs.Known.{Known}
use Rattle.seat_lock.specs.Views.{first_view}
use Rattle.seat_lock.proofs.Turning.{comes}
use Rattle.seat_lock.proofs.Dealing.{all-left, outside-next, gathers-next}
use Rattle.seat_lock.proofs.openings.gather.Goals as goal

pub load_new_seat-all-requires : goal.load_new_seat-all-requires
load_new_seat-all-requires g c =
    let key = c.args.board.now.shared.key in (search rules, comes g.V.Storied.maker g.V.Storied.stands _ _ (first_view (g.V.Storied.first key.0.value) key.1) _)

pub loop-seat-preserved : goal.loop-seat-preserved
loop-seat-preserved g c =
    let was = c.loop-seat.invariant in let popped = c.in-Some.ensures.items in let took = c.absorb.ensures in
    let place = c.args.board.now.shared.table_id in let other = c.into_seat.result.me.0 in let seat : Known g.row.V-Entry.Denot = c.in-Some.seat in (
      took.board ∙ was.0,
      outside-next c.loop-seat.all.me c.absorb.new.seat.me other took.joined was.1,
      all-left (λ (s : Known g.row.V-Entry.Denot). s.place ≡ place) c.pop.new.self.items (seat ∷ []) (subst (All (λ (s : Known g.row.V-Entry.Denot). s.place ≡ place)) popped was.2),
      (
        seat ∷ was.3.0,
        was.3.1 ∙ (ap (λ (l : List (Known g.row.V-Entry.Denot)). l ++ was.3.0) popped ∙ append_assoc c.pop.new.self.items (seat ∷ []) was.3.0),
        gathers-next g.V.Storied.maker was.3.0 seat _ _ _ _ c.loop-seat.all.me c.absorb.new.seat.me other c.seat.invariant c.into_seat.ensures.2 c.seat.view_is was.3.2 took.joined took.seen.0 took.seen.1,
      ),
    )
