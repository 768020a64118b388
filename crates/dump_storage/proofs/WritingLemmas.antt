-- How the text of a map grows record by record.
use Rattle.std.proofs.Common.{◌≡◌, ℕ, List, [], ◌∷◌, ◌++◌, map, refl, sym, ap, ◌∙◌, Result, Ok, Err, OnOk}
use Rattle.std.specs.List.{flat_map}
use Rattle.std.proofs.lemmas.List.Concat.{flat_map-append}
use Rattle.std.proofs.lemmas.List.Folds.{flat_map-map}
use Rattle.model_names.specs.Name.{Name}
use Rattle.model_maps.specs.Entry.{Entry}
use Rattle.model_dump.specs.Record.{spelled_record}
use Rattle.model_dump.specs.Text.{record_of_meta, records_of_key}

-- what holds behind success, from what else does
pub OnOk-then : {T E : Type 0} (r : Result T E) (P Q : Type 0) → (P → Q) → OnOk r P → OnOk r Q
OnOk-then (Ok x) P Q f h = f h
OnOk-then (Err e) P Q f h = tt

-- the metadata of a key, spelled
pub spelled_metadata : (items : List (List ℕ × List ℕ))
    → flat_map spelled_record (map record_of_meta items) ≡ flat_map (λ item. spelled_record (record_of_meta item)) items
spelled_metadata items = flat_map-map spelled_record record_of_meta items

-- keys, spelled one by one
pub spelled_keys : (keys : List (Name × Entry))
    → flat_map (λ key. flat_map spelled_record (records_of_key key)) keys
    ≡ flat_map spelled_record (flat_map records_of_key keys)
spelled_keys [] = refl
spelled_keys (key ∷ keys) =
    ap (λ x. flat_map spelled_record (records_of_key key) ++ x) (spelled_keys keys)
    ∙ sym (flat_map-append spelled_record (records_of_key key) (flat_map records_of_key keys))
