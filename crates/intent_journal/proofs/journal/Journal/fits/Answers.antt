use Rattle.std.proofs.Common.{◌≡◌, ◌+◌, ◌-◌, ◌&&◌, length, ap₂, sym, ◌∙◌, arith}
use Rattle.std.specs.Prelude.{nat_lt, nat_le}
use Rattle.journal_lists.specs.Grammar.{most_entries, last_place, head_size}
use Rattle.journal_lists.specs.Lists.{list_bytes}
use Rattle.intent_journal.proofs.Sound.{list_more}
use Rattle.intent_journal.proofs.journal.Journal.fits.Goals as goal

pub is_room-requires : goal.is_room-requires
is_room-requires g c = omega (arith, c.self.invariant.placed, c.self.invariant.fits.within)

pub returns-clause-exact : goal.returns-clause-exact
returns-clause-exact g c =
    let counted : c.len.result ≡ length c.self.inside.list.items = omega arith in
    let behind : c.self.inside.place - c.self.inside.start ≡ length (list_bytes c.self.inside.list.items) = omega (arith, c.self.invariant.placed) in
    rw (← c.self.view_is) (c.is_room.ensures ∙ ap₂ (λ m n. nat_lt m most_entries && nat_le (n + head_size + c.args.body) last_place) counted behind)

pub returns-clause-fits : goal.returns-clause-fits
returns-clause-fits g c =
    let counted : c.len.result ≡ length c.self.inside.list.items = omega arith in
    let behind : c.self.inside.place - c.self.inside.start ≡ length (list_bytes c.self.inside.list.items) = omega (arith, c.self.invariant.placed) in
    let exact = c.is_room.ensures ∙ ap₂ (λ m n. nat_lt m most_entries && nat_le (n + head_size + c.args.body) last_place) counted behind in
    rw (← c.self.view_is) (λ entry is sized yes.
    list_more c.self.inside.list.items entry c.args.body c.self.invariant.fits is sized (sym exact ∙ yes))
