use Rattle.std.specs.Prelude.{◌≡◌, ◌≢◌, ℕ, List, [], ◌∷◌, codes, Option, None, Some}
use Rattle.std.proofs.Common.{refl, sym, ap, ◌∙◌}
use Rattle.std.specs.FinMap as finite
use Rattle.std.proofs.lemmas.Cmp.{nat_list_cmp_total}
use Rattle.model_names.specs.declared.namespaces.Namespace.TheVariants.{Cascading}
use Rattle.model_names.specs.Name.{Name}
use Rattle.model_names.specs.Order.{name_cmp}
use Rattle.model_names.proofs.OrderLemmas.{name_cmp_total}
use Rattle.general_words.specs.Texts.{text_cmp}
use Rattle.model_maps.specs.Entry.{Entry, Meta, plain_entry}
use Rattle.model_maps.specs.KeyMap.{KeyMap, no_keys}
use Rattle.general_words.proofs.Maps.{entries-empty, get-insert_same}
use Rattle.model_ini.proofs.examples.maps_break_at_their_first_breaking_key.Goals as goal

abbrev named : List ℕ → Name
named part = record { namespace = Cascading; parts = part ∷ [] }

abbrev root : Name
root = record { namespace = Cascading; parts = [] }

abbrev marked : List ℕ → List ℕ → Entry
marked value text = record { value = value; meta = finite.insert finite.empty (codes "m") text }

-- metadata with a text isn't empty
has_meta : (text : List ℕ) → ◌≡◌ {A = Meta} (finite.insert finite.empty (codes "m") text) finite.empty → ⊥
has_meta text e =
    let none : ◌≡◌ {A = Option (List ℕ)} (Some text) None = sym (get-insert_same nat_list_cmp_total (finite.empty {X = List ℕ} {R = text_cmp}) (codes "m") text) ∙ ap (λ (m : Meta). finite.get m (codes "m")) e ∙ finite.get-empty text_cmp (codes "m") in
    absurd cc

some_parts : ◌≢◌ {A = List (List ℕ)} (codes "a" ∷ []) []
some_parts e = absurd cc

abbrev only_d : KeyMap
only_d = finite.insert no_keys (named (codes "d")) (marked [] [])

abbrev c_and_d : KeyMap
c_and_d = finite.insert only_d (named (codes "c")) (marked (codes " y") (codes "x"))

one_entry : finite.entries only_d ≡ (named (codes "d"), marked [] []) ∷ []
one_entry =
    finite.entries-insert name_cmp_total no_keys (named (codes "d")) (marked [] []) ∙ rw (entries-empty name_cmp Entry)

two_entries : finite.entries c_and_d
    ≡ (named (codes "c"), marked (codes " y") (codes "x")) ∷ (named (codes "d"), marked [] []) ∷ []
two_entries =
    finite.entries-insert name_cmp_total only_d (named (codes "c")) (marked (codes " y") (codes "x")) ∙ rw one_entry

pub returns-clause-metadata : goal.returns-clause-metadata
returns-clause-metadata c = record {
  front = (named (codes "a"), plain_entry (codes "1")) ∷ [];
  entry = marked (codes " y") (codes "x");
  behind = (named (codes "d"), marked [] []) ∷ [];
  all = finite.entries-insert name_cmp_total c_and_d (named (codes "a")) (plain_entry (codes "1")) ∙ rw two_entries;
  before = (record { below = some_parts; no_meta = refl }, tt);
  lacks = λ key. has_meta (codes "x") key.no_meta;
}

pub returns-clause-mountpoint : goal.returns-clause-mountpoint
returns-clause-mountpoint c = record {
  front = [];
  entry = plain_entry (codes "x");
  behind = [];
  all = finite.entries-insert name_cmp_total no_keys root (plain_entry (codes "x")) ∙ rw (entries-empty name_cmp Entry);
  before = tt;
  lacks = λ key. key.below refl;
}
