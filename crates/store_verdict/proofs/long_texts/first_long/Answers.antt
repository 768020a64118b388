-- The first key that is told is the first one with a text that is too long.
use Rattle.std.proofs.Common.{ap, sym, ◌∙◌}
use Rattle.std.specs.List.{list_any}
use Rattle.key_set.specs.EntryView.{entry_of}
use Rattle.model_names.specs.Name.{Name}
use Rattle.model_maps.specs.Entry.{Entry}
use Rattle.set_split.specs.Involved.{owns}
use Rattle.mounted_files.specs.Setting.{long_in, long_text}
use Rattle.general_words.specs.Searches.{first_some}
use Rattle.general_words.proofs.Searches.{first_some-none, first_some-some}
use Rattle.store_verdict.proofs.FirstLemmas.{told-under, told-nothing}
use Rattle.store_verdict.proofs.long_texts.first_long.Goals as goal

pub returns-in-Some-long_text_if_owned : goal.returns-in-Some-long_text_if_owned
returns-in-Some-long_text_if_owned c =
    let key : Name × Entry = (c.in-Some.name.now, entry_of c.in-Some.entry.now) in
    let long = long_in c.args.points.now c.args.mounts.now in
    let owned = list_any (λ i. owns c.args.points.now i key.0) c.args.mounts.now in
    let bytes = c.in-Some-long_text_if_owned.bytes in
    sym (first_some-some long key c.next.new.self (key.0, bytes) (told-under owned (long_text key.1) key.0 bytes (sym c.long_text_if_owned.ensures ∙ c.in-Some-long_text_if_owned.is)))
    ∙ ap (first_some long) (sym c.in-Some.ensures.steps)
    ∙ c.loop-name.invariant

pub loop-name-preserved : goal.loop-name-preserved
loop-name-preserved c =
    let key : Name × Entry = (c.in-Some.name.now, entry_of c.in-Some.entry.now) in
    let long = long_in c.args.points.now c.args.mounts.now in
    let owned = list_any (λ i. owns c.args.points.now i key.0) c.args.mounts.now in
    sym (first_some-none long key c.next.new.self (told-nothing owned (long_text key.1) key.0 (sym c.long_text_if_owned.ensures ∙ c.in_default.is)))
    ∙ ap (first_some long) (sym c.in-Some.ensures.steps)
    ∙ c.loop-name.invariant
