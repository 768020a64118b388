use Rattle.std.specs.Prelude.{◌≡◌, ℕ, List, [], ◌∷◌, codes, map}
use Rattle.std.specs.FinMap as finite
use Rattle.std.proofs.Common.{ap, ◌∙◌}
use Rattle.model_names.specs.declared.namespaces.Namespace.TheVariants.{Cascading}
use Rattle.model_names.specs.Name.{Name}
use Rattle.model_names.specs.Order.{name_cmp}
use Rattle.model_names.proofs.OrderLemmas.{name_cmp_total}
use Rattle.model_maps.specs.Entry.{Entry, plain_entry}
use Rattle.model_maps.specs.KeyMap.{KeyMap, no_keys}
use Rattle.model_names.specs.Spelling.{relative_text}
use Rattle.model_lines.specs.Lines.{ended}
use Rattle.general_words.proofs.Maps.{entries-empty}
use Rattle.model_ini.specs.Text.{line_of}
use Rattle.model_ini.proofs.examples.maps_have_their_texts.Goals as goal

-- the text of a map with these entries
abbrev text_of : List (Name × Entry) → List ℕ
text_of entries = ended (map (λ key. line_of (relative_text key.0) key.1.value) entries)

abbrev named : List ℕ → Name
named part = record { namespace = Cascading; parts = part ∷ [] }

abbrev only_d : KeyMap
only_d = finite.insert no_keys (named (codes "d")) (plain_entry (codes "p\\q"))

abbrev c_and_d : KeyMap
c_and_d = finite.insert only_d (named (codes "c")) (plain_entry (codes " y"))

one_entry : finite.entries only_d ≡ (named (codes "d"), plain_entry (codes "p\\q")) ∷ []
one_entry =
    finite.entries-insert name_cmp_total no_keys (named (codes "d")) (plain_entry (codes "p\\q"))
    ∙ rw (entries-empty name_cmp Entry)

two_entries : finite.entries c_and_d
    ≡ (named (codes "c"), plain_entry (codes " y")) ∷ (named (codes "d"), plain_entry (codes "p\\q")) ∷ []
two_entries = finite.entries-insert name_cmp_total only_d (named (codes "c")) (plain_entry (codes " y")) ∙ rw one_entry

three_entries : finite.entries (finite.insert c_and_d (named (codes "a=b")) (plain_entry (codes "=x")))
    ≡ (named (codes "a=b"), plain_entry (codes "=x")) ∷ (named (codes "c"), plain_entry (codes " y")) ∷ (named (codes "d"), plain_entry (codes "p\\q")) ∷ []
three_entries =
    finite.entries-insert name_cmp_total c_and_d (named (codes "a=b")) (plain_entry (codes "=x")) ∙ rw two_entries

pub returns-clause-no_keys : goal.returns-clause-no_keys
returns-clause-no_keys c = ap text_of (entries-empty name_cmp Entry)

pub returns-clause-three_keys : goal.returns-clause-three_keys
returns-clause-three_keys c = ap text_of three_entries
