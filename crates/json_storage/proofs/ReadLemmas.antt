-- Bytes read as the keys that their object adds, or have no reading.
use Rattle.std.specs.Prelude.{◌≡◌, ◌≢◌, ◌≤◌, ℕ, false, List, [], ◌++◌, length, map, Some}
use Rattle.std.proofs.Common.{sym, ap, subst, ◌∙◌, inl, inr}
use Rattle.std.specs.List.{AllByRecursion}
use Rattle.std.specs.Str.{IsUtf8}
use Rattle.std.proofs.lemmas.List.{append-nil}
use Rattle.general_words.proofs.Lists.{some_is, none_is_no_some}
use Rattle.model_maps.specs.KeyMap.{KeyMap}
use Rattle.serde_json.specs.Data.{Data, null, boolean, number, string, array, object, Members}
use Rattle.serde_json.specs.Find.{as_object}
use Rattle.serde_json.specs.Read.{read}
use Rattle.model_json.specs.Leaves.{Leaf}
use Rattle.model_json.specs.Keys.{most_parts}
use Rattle.model_json.specs.Reading.{key_of, ReadsObject, Reads, IsBadAt}
use Rattle.model_json.proofs.JsonTelling.{object-is}
use Rattle.json_storage.specs.Found.{Fill, leaves_in, Joined, HasAdded}
use Rattle.json_storage.specs.Reading.{MembersAdd}
use Rattle.json_storage.specs.declared.found.Found.{Found}
use Rattle.json_storage.proofs.AddLemmas.{under-nothing}

pub object-of : (d : Data) (ms : Members) → as_object d ≡ Some ms → d ≡ object ms
object-of null ms e = absurd (none_is_no_some ms e)
object-of (boolean b) ms e = absurd (none_is_no_some ms e)
object-of (number n) ms e = absurd (none_is_no_some ms e)
object-of (string s) ms e = absurd (none_is_no_some ms e)
object-of (array ds) ms e = absurd (none_is_no_some ms e)
object-of (object other) ms e = ap object (some_is other ms e)

-- the keys that were added are those that the bytes read as
pub reads-added : (bytes : List ℕ) (ms : Members) (before after : Found) → IsUtf8 bytes → read bytes ≡ Some (object ms)
    → leaves_in before.keys ≡ [] → Joined (MembersAdd [] ms) before after → Reads bytes after.keys
reads-added bytes ms before after utf8 is none j =
    let here = j.adds.here in
    let all : leaves_in after.keys ≡ here = j.joined ∙ ap (λ l. l ++ j.added) none ∙ j.adds.all ∙ under-nothing here in
    inr (record {
      members = ms;
      found = here;
      utf8 = utf8;
      is_object = is;
      are_leaves = j.adds.are;
      are_named = j.adds.named;
      few_parts = subst (AllByRecursion (λ (leaf : Leaf). length leaf.0 ≤ most_parts)) all j.sound.fill.few;
      all = j.sound.fill.all ∙ ap (map key_of) all;
      limited = j.sound.fill.limited;
    })

-- some bytes read as an object alone
pub bad-unless : (bytes : List ℕ) → bytes ≢ [] → ((keys : KeyMap) → ReadsObject bytes keys → ⊥) → (line : ℕ) → line ≡ 1
    → IsBadAt bytes line
bad-unless bytes some none line one = (one, λ keys reads. elim reads [ inl empty ↦ some empty.0 | inr r ↦ none keys r ])

pub bad-added : (bytes : List ℕ) (ms : Members) (before after : Found) → read bytes ≡ Some (object ms)
    → leaves_in before.keys ≡ [] → HasAdded (MembersAdd [] ms) before after false → (keys : KeyMap)
    → ReadsObject bytes keys → ⊥
bad-added bytes ms before after is none fails keys r =
    let same : r.members ≡ ms = object-is r.members ms (some_is (object r.members) (object ms) (sym r.is_object ∙ is)) in
    let adds : MembersAdd [] ms r.found = subst (λ m. MembersAdd [] m r.found) same (record { here = r.found; named = r.are_named; are = r.are_leaves; all = sym (under-nothing r.found) }) in
    let all : r.found ≡ leaves_in before.keys ++ (r.found ++ []) = sym (append-nil r.found) ∙ ap (λ l. l ++ (r.found ++ [])) (sym none) in
    fails r.found [] keys adds (subst (λ l. Fill l keys) all (record { all = r.all; few = r.few_parts; limited = r.limited }))
