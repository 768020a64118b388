-- Each turn appends one key more, or finds the first name that is too long.
use Rattle.std.proofs.Common.{◌≡◌, true, All, sym, ap, subst, ◌∙◌}
use Rattle.std.proofs.lemmas.List.Elements.{All-head, All-tail}
use Rattle.model_names.specs.Below.{is_at_or_below}
use Rattle.model_names.specs.Name.{Name}
use Rattle.model_maps.specs.Entry.{Entry}
use Rattle.key_set.specs.EntryView.{entry_of}
use Rattle.tool_commands.specs.Commands.Trees.{brought, bytes_over, first_too_long, with_brought}
use Rattle.general_words.proofs.Searches.{first_some-none, first_some-some}
use Rattle.tool_commands.proofs.commands.trees.bring_all.Goals as goal

pub loop-name-init : goal.loop-name-init
loop-name-init c =
    let from = c.args.from.now in
    let all = c.into_iter-name-iterator.ensures.into_iter_gives ∙ c.iter-name-items.ensures in (
      ap (first_too_long from c.args.to.now) all,
      ap (with_brought from c.args.to.now c.args.keys.now) all,
      subst (All (λ (key : Name × Entry). is_at_or_below from key.0 ≡ true)) (sym all) c.requires,
    )

pub set_one-requires : goal.set_one-requires
set_one-requires c =
    let key : Name × Entry = (c.in-Some.name.now, entry_of c.in-Some.entry.now) in
    let is_source = λ (key : Name × Entry). is_at_or_below c.args.from.now key.0 ≡ true in
    All-head is_source key c.next.new.self (subst (All is_source) c.in-Some.ensures.steps c.loop-name.invariant.2)

pub loop-name-preserved : goal.loop-name-preserved
loop-name-preserved c =
    let from = c.args.from.now in
    let to = c.args.to.now in
    let key : Name × Entry = (c.in-Some.name.now, entry_of c.in-Some.entry.now) in
    let rest = c.next.new.self in
    let is_source = λ (key : Name × Entry). is_at_or_below from key.0 ≡ true in (
      sym (first_some-none (λ (key : Name × Entry). bytes_over (brought from to key.0)) key rest (sym (sym c.in_default.is ∙ c.in_ok-bytes.ensures.long)))
          ∙ ap (first_too_long from to) (sym c.in-Some.ensures.steps)
          ∙ c.loop-name.invariant.0,
      ap (λ keys. with_brought from to keys rest) (c.in_ok-bytes.ensures.set c.in_default.is)
          ∙ ap (with_brought from to c.loop-name.keys) (sym c.in-Some.ensures.steps)
          ∙ c.loop-name.invariant.1,
      All-tail is_source key rest (subst (All is_source) c.in-Some.ensures.steps c.loop-name.invariant.2),
    )

pub returns-in-Some-2-clause-long : goal.returns-in-Some-2-clause-long
returns-in-Some-2-clause-long c =
    let from = c.args.from.now in
    let to = c.args.to.now in
    let key : Name × Entry = (c.in-Some.name.now, entry_of c.in-Some.entry.now) in
    sym (first_some-some (λ (key : Name × Entry). bytes_over (brought from to key.0)) key c.next.new.self c.in-Some-2.bytes (sym (sym c.in-Some-2.is ∙ c.in_ok-bytes.ensures.long)))
    ∙ ap (first_too_long from to) (sym c.in-Some.ensures.steps)
    ∙ c.loop-name.invariant.0
