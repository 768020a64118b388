-- The members of what was read stand in the order of their names, each name once.
use Rattle.std.specs.Prelude.{◌≡◌, ℕ, List, Some, option_map, option_and_then, ⊤}
use Rattle.std.proofs.Common.{refl, ap, subst, ◌∙◌}
use Rattle.std.specs.Ordering.{match_ordering, ordering_reverse}
use Rattle.std.specs.declared.cmp.Ordering.{Ordering}
use Rattle.std.specs.declared.cmp.Ordering.TheVariants.{Less, Equal, Greater}
use Rattle.std.proofs.lemmas.Cmp.{nat_list_cmp_total}
use Rattle.general_words.specs.Texts.{text_cmp}
use Rattle.general_words.proofs.Lists.{some_is}
use Rattle.model_names.specs.Name.{Part}
use Rattle.model_names.proofs.RefusesLemmas.{from_map, from_and_then}
use Rattle.json.specs.Lex.{tokens}
use Rattle.json.specs.Json as json
use Rattle.serde_json.specs.Data.{Data, null, boolean, number, string, array, object, Items, no_items, item, Members, no_members, member, put}
use Rattle.serde_json.specs.Read.{number_of, of_json, of_items, of_members, max_depth, read}
use Rattle.model_json.proofs.TextTokens.{AllBelow}

abbrev mutual
  pub IsRising : Data → Type 0
  IsRising null = ⊤
  IsRising (boolean b) = ⊤
  IsRising (number n) = ⊤
  IsRising (string text) = ⊤
  IsRising (array ds) = AreRising ds
  IsRising (object ms) = HaveRising ms

  pub AreRising : Items → Type 0
  AreRising no_items = ⊤
  AreRising (item d ds) = IsRising d × AreRising ds

  pub HaveRising : Members → Type 0
  HaveRising no_members = ⊤
  HaveRising (member name d ms) = AllBelow name ms × IsRising d × HaveRising ms

below-first : (name next : Part) (ms : Members) → text_cmp name next ≡ Less → AllBelow next ms → AllBelow name ms
below-first name next no_members less h = tt
below-first name next (member other d ms) less h =
    (nat_list_cmp_total.trans name next other less h.0, below-first name next ms less h.1)

below-put : (low name : Part) (d : Data) (ms : Members) → text_cmp low name ≡ Less → AllBelow low ms
    → AllBelow low (put name d ms)
below-put low name d no_members less h = (less, tt)
below-put low name d (member next e ms) less h = by (below-put low name d ms less h.1) (text_cmp name next)
  where
    by : AllBelow low (put name d ms) → (o : Ordering)
        → AllBelow low (match_ordering o (member name d (member next e ms)) (member next d ms) (member next e (put name d ms)))
    by later Less = (less, h)
    by later Equal = h
    by later Greater = (h.0, later)

put-rising : (name : Part) (d : Data) (ms : Members) → IsRising d → HaveRising ms → HaveRising (put name d ms)
put-rising name d no_members rises h = (tt, rises, tt)
put-rising name d (member next e ms) rises h = by (put-rising name d ms rises h.2) (text_cmp name next) refl
  where
    by : HaveRising (put name d ms) → (o : Ordering) → text_cmp name next ≡ o
        → HaveRising (match_ordering o (member name d (member next e ms)) (member next d ms) (member next e (put name d ms)))
    by later Less is = ((is, below-first name next ms is h.0), rises, h)
    by later Equal is = (h.0, rises, h.2)
    by later Greater is =
        (below-put next name d ms (nat_list_cmp_total.antisymm next name ∙ ap ordering_reverse is) h.0, h.1, later)

mutual
  json-rises : (j : json.Json) (d : Data) → of_json j ≡ Some d → IsRising d
  json-rises json.null d e = subst IsRising (some_is null d e) tt
  json-rises (json.boolean b) d e = subst IsRising (some_is (boolean b) d e) tt
  json-rises (json.number s) d e = let f = from_map number (number_of s) d e in subst IsRising f.2 tt
  json-rises (json.string s) d e = subst IsRising (some_is (string s) d e) tt
  json-rises (json.array js) d e =
      let f = from_map array (of_items js) d e in subst IsRising f.2 (items-rise js f.0 f.1)
  json-rises (json.object ms) d e =
      let f = from_map object (of_members ms no_members) d e in subst IsRising f.2 (members-rise ms no_members f.0 tt f.1)

  items-rise : (js : json.Items) (ds : Items) → of_items js ≡ Some ds → AreRising ds
  items-rise json.no_items ds e = subst AreRising (some_is no_items ds e) tt
  items-rise (json.item j js) ds e =
      let f = from_and_then (λ d. option_map (item d) (of_items js)) (of_json j) ds e in
      let g = from_map (item f.0) (of_items js) ds f.2 in
      subst AreRising g.2 (json-rises j f.0 f.1, items-rise js g.0 g.1)

  members-rise : (ms : json.Members) (found : Members) (all : Members) → HaveRising found
      → of_members ms found ≡ Some all → HaveRising all
  members-rise json.no_members found all h e = subst HaveRising (some_is found all e) h
  members-rise (json.member name j ms) found all h e =
      let f = from_and_then (λ d. of_members ms (put name d found)) (of_json j) all e in
      members-rise ms (put name f.0 found) all (put-rising name f.0 found (json-rises j f.0 f.1) h) f.2

pub read-rises : (bytes : List ℕ) (d : Data) → read bytes ≡ Some d → IsRising d
read-rises bytes d e =
    let f = from_and_then of_json (option_and_then (λ p. json.if_last p.0 p.1) (json.value max_depth (tokens bytes))) d e in
    json-rises f.0 d f.2
