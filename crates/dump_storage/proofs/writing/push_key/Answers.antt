-- The key's own record, and those of its metadata.
use Rattle.std.proofs.Common.{◌≡◌, ◌++◌, List, ℕ, ap, sym, ◌∙◌}
use Rattle.std.specs.FinMap as map
use Rattle.std.specs.List.{flat_map}
use Rattle.model_dump.specs.Record.{KeyKind, Record, spelled_record}
use Rattle.model_names.specs.Spelling.{relative_text}
use Rattle.model_dump.specs.Text.{record_of_meta, records_of_key}
use Rattle.key_set.specs.EntryView.{entry_of}
use Rattle.dump_storage.proofs.WritingLemmas.{OnOk-then, spelled_metadata}
use Rattle.dump_storage.proofs.writing.push_key.Goals as goal
use Rattle.general_words.proofs.Lists.{appended}

pub returns : goal.returns
returns c =
    let before = c.args.bytes.now.items in
    let items = map.entries c.args.entry.now.meta in
    let metadata = flat_map (λ (item : List ℕ × List ℕ). spelled_record (record_of_meta item)) items in
    let key : Record = record { kind = KeyKind; first = relative_text c.args.name.now; second = c.args.entry.now.value } in
    let own : c.push_key_record.new.bytes.items ≡ before ++ spelled_record key =
    c.in_ok-push_key_record.ensures ∙ ap (λ (second : List ℕ). before ++ spelled_record (record { kind = KeyKind; first = relative_text c.args.name.now; second = second })) (c.as_bytes.ensures.value ∙ c.as_str.ensures.bytes) in
    OnOk-then c.push_metadata.result
    (c.push_metadata.new.bytes.items ≡ c.push_key_record.new.bytes.items ++ metadata)
    (c.push_metadata.new.bytes.items ≡ before ++ flat_map spelled_record (records_of_key (c.args.name.now, entry_of c.args.entry.now)))
    (λ more. appended before c.push_key_record.new.bytes.items c.push_metadata.new.bytes.items (spelled_record key) metadata own more ∙ ap (λ x. before ++ (spelled_record key ++ x)) (sym (spelled_metadata items)))
    c.push_metadata.ensures
