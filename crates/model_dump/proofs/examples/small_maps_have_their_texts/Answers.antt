use Rattle.std.specs.Prelude.{◌≡◌, ℕ, List, [], ◌∷◌, ◌++◌, codes}
use Rattle.std.specs.Fmt.{digits}
use Rattle.std.specs.FinMap as map
use Rattle.std.specs.List.{flat_map}
use Rattle.std.proofs.Common.{ap, ◌∙◌}
use Rattle.std.proofs.lemmas.Cmp.{nat_list_cmp_total}
use Rattle.model_names.specs.declared.namespaces.Namespace.TheVariants.{Cascading}
use Rattle.model_names.specs.Name.{Name}
use Rattle.model_names.specs.Order.{name_cmp}
use Rattle.model_names.proofs.OrderLemmas.{name_cmp_total}
use Rattle.general_words.specs.Texts.{text_cmp}
use Rattle.model_maps.specs.Entry.{Entry, plain_entry, with_meta}
use Rattle.model_maps.specs.KeyMap.{no_keys}
use Rattle.model_dump.specs.Record.{spelled_record, header, ending}
use Rattle.model_dump.specs.Text.{records_of_key}
use Rattle.general_words.proofs.Maps.{entries-empty}
use Rattle.model_dump.proofs.examples.small_maps_have_their_texts.Goals as goal

-- the text of a map with these entries
abbrev text_of : List (Name × Entry) → List ℕ
text_of entries = header ++ (flat_map spelled_record (flat_map records_of_key entries) ++ (ending ++ 10 ∷ []))

abbrev name_sw_a : Name
name_sw_a = record { namespace = Cascading; parts = codes "sw" ∷ codes "a" ∷ [] }

abbrev root : Name
root = record { namespace = Cascading; parts = [] }

abbrev name_b : Name
name_b = record { namespace = Cascading; parts = codes "b" ∷ [] }

abbrev typed : Entry
typed = with_meta (plain_entry (codes "2")) (codes "type") (codes "string")

abbrev ordered : Entry
ordered = with_meta typed (codes "order") (codes "#0")

one_entry : map.entries (map.insert no_keys name_sw_a (plain_entry (codes "1")))
    ≡ (name_sw_a, plain_entry (codes "1")) ∷ []
one_entry =
    map.entries-insert name_cmp_total no_keys name_sw_a (plain_entry (codes "1")) ∙ rw (entries-empty name_cmp Entry)

b_entry : map.entries (map.insert no_keys name_b ordered) ≡ (name_b, ordered) ∷ []
b_entry = map.entries-insert name_cmp_total no_keys name_b ordered ∙ rw (entries-empty name_cmp Entry)

two_entries : map.entries (map.insert (map.insert no_keys name_b ordered) root (plain_entry []))
    ≡ (root, plain_entry []) ∷ (name_b, ordered) ∷ []
two_entries = map.entries-insert name_cmp_total (map.insert no_keys name_b ordered) root (plain_entry []) ∙ rw b_entry

type_entry : map.entries typed.meta ≡ (codes "type", codes "string") ∷ []
type_entry =
    map.entries-insert nat_list_cmp_total map.empty (codes "type") (codes "string")
    ∙ rw (entries-empty text_cmp (List ℕ))

meta_entries : map.entries ordered.meta ≡ (codes "order", codes "#0") ∷ (codes "type", codes "string") ∷ []
meta_entries = map.entries-insert nat_list_cmp_total typed.meta (codes "order") (codes "#0") ∙ rw type_entry

pub returns-clause-no_keys : goal.returns-clause-no_keys
returns-clause-no_keys c = ap text_of (entries-empty name_cmp Entry)

pub returns-clause-one_key : goal.returns-clause-one_key
unfolding digits
returns-clause-one_key c = ap text_of one_entry ∙ rw (entries-empty text_cmp (List ℕ))

pub returns-clause-metadata : goal.returns-clause-metadata
unfolding digits
returns-clause-metadata c = ap text_of two_entries ∙ rw (entries-empty text_cmp (List ℕ)) (rw meta_entries)
