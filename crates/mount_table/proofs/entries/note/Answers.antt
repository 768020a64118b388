-- The entry stays where it is noted, and is put among the others where it isn't.
use Rattle.std.proofs.Common.{◌≡◌, None, is_some, sym, ap, subst, ◌∙◌}
use Rattle.std.specs.FinMap as map
use Rattle.key_name.specs.Children.{child_refusal}
use Rattle.mount_table.specs.Entries.{said_by}
use Rattle.mount_table.specs.Places.{mountpoints}
use Rattle.mount_table.proofs.ChangingLemmas.{entry-refusal}
use Rattle.mount_table.proofs.EntryLemmas.{tells_nothing, noted_before, noted_now}
use Rattle.mount_table.proofs.PlaceLemmas.{own-entry}
use Rattle.mount_table.proofs.TableLemmas.{is_some-copied}
use Rattle.mount_table.proofs.entries.note.Goals as goal

pub returns-in-None-clause-noted : goal.returns-in-None-clause-noted
returns-in-None-clause-noted c =
    λ _. tells_nothing c.args.keys.now c.args.name.now (map.from_sorted c.args.entries.now) c.in-None.ensures.text

pub returns-then-is_some-clause-noted : goal.returns-then-is_some-clause-noted
returns-then-is_some-clause-noted c =
    let found = sym (c.is_some.ensures ∙ sym (is_some-copied c.get.result) ∙ ap is_some c.get.ensures.found) ∙ c.if-is_some.true in
    λ _. noted_before c.args.keys.now c.args.name.now c.in-Some.text.now c.in-Some.ensures.text c.args.entries.now c.get.ensures.sorted c.in_ok-text.text c.in_ok-text.ensures found

pub said_by-requires-clause-name : goal.said_by-requires-clause-name
said_by-requires-clause-name c =
    let own = c.in-Some.text.now in
    subst (λ text. child_refusal mountpoints text ≡ None) (sym (c.as_str.ensures.bytes ∙ c.in_ok-text.ensures))
    (entry-refusal own c.args.name.now c.in-Some.ensures.well_formed (own-entry own c.args.name.now c.in-Some.ensures.text))

pub returns-clause-noted : goal.returns-clause-noted
returns-clause-noted c =
    let keys = c.args.keys.now in
    let free = sym (c.is_some.ensures ∙ sym (is_some-copied c.get.result) ∙ ap is_some c.get.ensures.found) ∙ c.if-is_some.false in
    λ are. noted_now keys c.args.name.now c.in-Some.text.now c.in-Some.ensures.text c.args.entries.now c.get.ensures.sorted c.in_ok-text.text c.in_ok-text.ensures
    c.insert.new.self c.in_ok-said.said free (c.in_ok-said.ensures are ∙ ap (said_by keys) c.as_str.ensures.bytes) c.in_ok-insert.ensures.ok
