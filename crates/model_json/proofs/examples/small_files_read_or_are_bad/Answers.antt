use Rattle.std.specs.Prelude.{◌≡◌, [], codes, Some}
use Rattle.std.proofs.Common.{refl, sym, ap, ◌∙◌, inl, inr}
use Rattle.model_names.specs.Order.{name_cmp}
use Rattle.model_names.proofs.PartLemmas.{text_from_test}
use Rattle.model_maps.specs.Entry.{Entry}
use Rattle.model_maps.specs.KeyMap.{KeyMap}
use Rattle.general_words.proofs.Lists.{some_is, none_is_no_some}
use Rattle.general_words.proofs.Maps.{entries-empty}
use Rattle.serde_json.specs.Data.{null, string, object, no_members, member}
use Rattle.serde_json.specs.Read.{read}
use Rattle.serde_json.proofs.OnLiterals.{serde_json_on_literals}
use Rattle.model_json.specs.Leaves.{leaves}
use Rattle.model_json.specs.Reading.{ReadsObject}
use Rattle.model_json.proofs.Lawful.{no-limits}
use Rattle.model_json.proofs.examples.small_files_read_or_are_bad.Goals as goal

pub returns-clause-nothing : goal.returns-clause-nothing
unfolding serde_json_on_literals
returns-clause-nothing c = inr (record {
  members = no_members;
  found = [];
  utf8 = (text_from_test (codes "{ }\n") refl).utf8;
  is_object = refl;
  are_leaves = refl;
  are_named = tt;
  few_parts = tt;
  all = entries-empty name_cmp Entry;
  limited = no-limits;
})

null-is-read : read (codes "{\"a\":null}\n") ≡ Some (object (member (codes "a") null no_members))
unfolding serde_json_on_literals
null-is-read = refl

no-null : (keys : KeyMap) → ReadsObject (codes "{\"a\":null}\n") keys → ⊥
no-null keys r =
    let same : object r.members ≡ object (member (codes "a") null no_members) = some_is _ _ (sym r.is_object ∙ null-is-read) in
    none_is_no_some r.found (sym (ap leaves same) ∙ r.are_leaves)

text-is-read : read (codes "\n\"a\"") ≡ Some (string (codes "a"))
unfolding serde_json_on_literals
text-is-read = refl

no-text : (keys : KeyMap) → ReadsObject (codes "\n\"a\"") keys → ⊥
no-text keys r =
    let same : object r.members ≡ string (codes "a") = some_is _ _ (sym r.is_object ∙ text-is-read) in absurd cc

pub returns-clause-no_value : goal.returns-clause-no_value
returns-clause-no_value c =
    (refl, λ keys reads. elim reads [ inl none ↦ let clash = none.0 in absurd cc | inr r ↦ no-null keys r ])

pub returns-clause-no_object : goal.returns-clause-no_object
returns-clause-no_object c =
    (refl, λ keys reads. elim reads [ inl none ↦ let clash = none.0 in absurd cc | inr r ↦ no-text keys r ])
