use Rattle.std.proofs.Common.{refl, sym, ◌∙◌, inr}
use Rattle.serde_json.specs.View.{members_view}
use Rattle.serde_json.proofs.Views.{Entry}
use Rattle.json_storage.proofs.ObjectLemmas.{took-first, begins-other, begins-somewhere}
use Rattle.json_storage.proofs.objects.first_at.Goals as goal

pub returns-then-not-is_first : goal.returns-then-not-is_first
returns-then-not-is_first c =
    inr (begins-other c.args.part.now (members_view c.args.members.now.entries) (λ begins. let clash = sym c.if-not-is_first.true ∙ c.is_first.ensures.1 begins in absurd cc), refl, c.nothing.ensures)

pub returns-in-Some : goal.returns-in-Some
returns-in-Some c =
    let e : Entry = (c.in-Some._name, c.in-Some.first) in
    took-first c.args.part.now c.args.members.now.entries c.pop_first.new.self.entries e c.in-Some.ensures.removal c.in-Some.ensures.all_above (c.is_first.ensures.0 c.if-not-is_first.false)

pub returns-in-None : goal.returns-in-None
returns-in-None c =
    let clash = c.in-None.ensures.variant.1 (begins-somewhere c.args.part.now c.args.members.now.entries (c.is_first.ensures.0 c.if-not-is_first.false)) in absurd cc
