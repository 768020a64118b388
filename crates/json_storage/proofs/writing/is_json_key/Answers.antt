-- A key can be held where it can stand, and a text is at its parts.
use Rattle.std.proofs.Common.{true, sym, subst, ◌∙◌}
use Rattle.std.specs.Bool.{Decides}
use Rattle.key_set.specs.EntryView.{entry_of}
use Rattle.serde_json.specs.View.{view}
use Rattle.json_storage.specs.Kept.{CanStand}
use Rattle.json_storage.proofs.WritingLemmas.{key-decides}
use Rattle.json_storage.proofs.writing.is_json_key.Goals as goal

pub returns-then-not-can_stand : goal.returns-then-not-can_stand
returns-then-not-can_stand c = λ keys is. (
  λ e. absurd cc,
  λ k. let clash = sym c.if-not-can_stand.true ∙ c.can_stand.ensures.1 (record { no_meta = k.no_meta; some_part = k.some_part; few_parts = k.few_parts; is_member = k.is_member }) in absurd cc,
)

pub returns : goal.returns
returns c = λ keys is.
    let name = c.args.name.now in
    let entry = entry_of c.args.entry.now in
    key-decides true c.has_text.result keys name entry (view c.args.whole.now) c.len.result c.len.ensures.parts is (subst (λ b. Decides b (CanStand name entry)) c.if-not-can_stand.false c.can_stand.ensures) c.has_text.ensures
