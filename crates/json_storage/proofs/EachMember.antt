-- Members whose values are changed one by one, under the same names.
use Rattle.std.specs.Prelude.{◌≡◌, List, [], ◌∷◌, ◌++◌, Option, Some, None, option_map, unwrap_or, slice_get}
use Rattle.std.proofs.Common.{refl, sym, ap, ◌∙◌, string_bytes, string_cmp}
use Rattle.std.specs.Ordering.{match_ordering}
use Rattle.std.specs.List.Sorted.{IsStrictlySortedBy}
use Rattle.std.specs.Map.{keys_of}
use Rattle.std.specs.declared.cmp.Ordering.{Ordering}
use Rattle.std.specs.declared.cmp.Ordering.TheVariants.{Less, Equal, Greater}
use Rattle.general_words.specs.Texts.{text_cmp}
use Rattle.general_words.proofs.Lists.{some_is}
use Rattle.model_names.specs.ArrayPart.{is_array_like}
use Rattle.model_names.specs.Name.{Part}
use Rattle.serde_json.specs.Data.{Data, object, Members, no_members, member, put}
use Rattle.serde_json.specs.Find.{get_member}
use Rattle.serde_json.specs.View.{view, members_view}
use Rattle.serde_json.proofs.Views as views
use Rattle.serde_json.proofs.Views.{put_last}
use Rattle.model_json.specs.Tree.{empty, child}
use Rattle.model_json.specs.Text.{begin_as_items}

pub record IsEach (change : Data → Data) (all : Members → Members) : Type 0 where
  pub none : all no_members ≡ no_members
  pub more : (name : Part) (d : Data) (ms : Members) → all (member name d ms) ≡ member name (change d) (all ms)

module _ (change : Data → Data) (all : Members → Members) (each : IsEach change all) where
  pick : (o : Ordering) (r : Option Data) (d : Data)
      → match_ordering o (option_map change r) (Some (change d)) (option_map change r)
      ≡ option_map change (match_ordering o r (Some d) r)
  pick Less r d = refl
  pick Equal r d = refl
  pick Greater r d = refl

  get-each : (part : Part) (ms : Members) → get_member part (all ms) ≡ option_map change (get_member part ms)
  get-each part no_members = ap (get_member part) each.none
  get-each part (member name d ms) =
      ap (get_member part) (each.more name d ms)
      ∙ ap (λ r. match_ordering (text_cmp part name) r (Some (change d)) r) (get-each part ms)
      ∙ pick (text_cmp part name) (get_member part ms) d

  unwrapped : change empty ≡ empty → (r : Option Data)
      → unwrap_or (option_map change r) empty ≡ change (unwrap_or r empty)
  unwrapped same None = sym same
  unwrapped same (Some d) = refl

  pub child-each : change empty ≡ empty → (part : Part) (ms : Members)
      → child part (object (all ms)) ≡ change (child part (object ms))
  child-each same part ms = ap (λ r. unwrap_or r empty) (get-each part ms) ∙ unwrapped same (get_member part ms)

  put-by : (o : Ordering) (part name : Part) (d e : Data) (ms more : Members) → more ≡ all (put part d ms)
      → match_ordering o (member part (change d) (member name (change e) (all ms))) (member name (change d) (all ms)) (member name (change e) more)
      ≡ all (match_ordering o (member part d (member name e ms)) (member name d ms) (member name e (put part d ms)))
  put-by Less part name d e ms more is =
      sym (each.more part d (member name e ms) ∙ ap (member part (change d)) (each.more name e ms))
  put-by Equal part name d e ms more is = sym (each.more name d ms)
  put-by Greater part name d e ms more is = ap (member name (change e)) is ∙ sym (each.more name e (put part d ms))

  put-each : (part : Part) (d : Data) (ms : Members) → put part (change d) (all ms) ≡ all (put part d ms)
  put-each part d no_members =
      ap (put part (change d)) each.none ∙ sym (each.more part d no_members ∙ ap (member part (change d)) each.none)
  put-each part d (member name e ms) =
      ap (put part (change d)) (each.more name e ms)
      ∙ put-by (text_cmp part name) part name d e ms (put part (change d) (all ms)) (put-each part d ms)

  -- one more member behind those that were changed
  pub each-last : (done : List views.Entry) (e : views.Entry) (more : List views.Entry) (made : Members) (name : Part)
      (d : Data) → IsStrictlySortedBy string_cmp (keys_of (done ++ e ∷ more)) → made ≡ all (members_view done)
      → name ≡ string_bytes e.0 → d ≡ change (view e.1)
      → put name d made ≡ all (members_view (done ++ e ∷ []))
  each-last done e more made name d sorted is named changed =
      (λ i. put (named i) (changed i) (is i)) ∙ put-each (string_bytes e.0) (view e.1) (members_view done)
      ∙ ap all (put_last done e more sorted)

-- how the names of some entries begin
pub begins-as : (es : List views.Entry) (e : views.Entry) → slice_get es 0 ≡ Some e
    → is_array_like (string_bytes e.0) ≡ begin_as_items (members_view es)
begins-as [] e is = absurd cc
begins-as (x ∷ es) e is = ap (λ (y : views.Entry). is_array_like (string_bytes y.0)) (sym (some_is x e is))
