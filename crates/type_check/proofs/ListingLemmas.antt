-- Sets of texts as lists of them, and where an enumeration is kept by its listing.
use Rattle.std.proofs.Common.{◌≡◌, ℕ, ◌+◌, ◌<◌, ◌||◌, Bool, true, false, cond, List, [], ◌∷◌, length, get_or, take, refl, sym, ap, subst, ◌∙◌}
use Rattle.std.specs.BTreeSet.{BTreeSet, IsEmpty, UpdatesBy, contains_text}
use Rattle.std.specs.Cmp.Lexicographic.{slice_cmp}
use Rattle.std.specs.List.{Contains, list_any}
use Rattle.std.specs.Ordering.{is_eq, nat_cmp}
use Rattle.std.specs.Prelude.{String, codes, slice_index_or}
use Rattle.std.specs.Str.{bytes_eq}
use Rattle.std.specs.String.{string_bytes, string_cmp}
use Rattle.std.proofs.lemmas.List.Folds.{Any-from_list_any, list_any_at, list_any_more}
use Rattle.std.proofs.lemmas.Map.Text.{btree_set_updates_text, is_eq-slice_cmp}
use Rattle.std.proofs.lemmas.Slice.Eq.{bytes_eq-Decides}
use Rattle.model_maps.specs.Entry.{Meta, array_texts}
use Rattle.model_rules.specs.Rules.{BreaksEnum, breach}
use Rattle.model_rules.specs.declared.breaches.Broken.{Broken}
use Rattle.type_check.specs.declared.listings.Listing.{Listing}
use Rattle.type_check.specs.Listings.{IsListingOf, has_text, is_among}

-- no text is in an empty set
pub set_none : {Y : Type 0} (set : BTreeSet (String Y)) → IsEmpty set → (text : List ℕ) → contains_text set text ≡ false
set_none set none text = ap (list_any _) none

either : (a b : Bool) → cond a true b ≡ (b || a)
either true true = refl
either true false = refl
either false true = refl
either false false = refl

-- a text more in the set is one more in the list
pub set_more : {Y : Type 0} (items : List (List ℕ)) (i : ℕ) (item : List ℕ) (set after : BTreeSet (String Y))
    (added : String Y)
    → i < length items → string_bytes added ≡ get_or items i item
    → UpdatesBy string_cmp (λ k. slice_cmp nat_cmp (string_bytes added) (string_bytes k)) set after true
    → ((text : List ℕ) → contains_text set text ≡ is_among (take i items) text)
    → (text : List ℕ) → contains_text after text ≡ is_among (take (i + 1) items) text
set_more items i item set after added lt bytes more so_far text =
    btree_set_updates_text (string_bytes added) set after true more text
    ∙ either (bytes_eq (string_bytes added) text) (contains_text set text)
    ∙ ap (λ b. b || bytes_eq (string_bytes added) text) (so_far text)
    ∙ ap (λ t. is_among (take i items) text || bytes_eq t text) bytes
    ∙ sym (list_any_more (λ t. bytes_eq t text) items i item lt)

-- a set that isn't empty has a text
pub set_some : {Y : Type 0} (set : BTreeSet (String Y)) → (length set.keys ≡ 0 → ⊥)
    → (text : List ℕ) × (contains_text set text ≡ true)
set_some {Y = Y} set some = by set.keys refl
  where
    by : (keys : List (String Y)) → set.keys ≡ keys → (text : List ℕ) × (contains_text set text ≡ true)
    by [] is = absurd (some (ap length is))
    by (key ∷ keys) is =
        let bytes = string_bytes key in
        let same = is_eq-slice_cmp bytes bytes ∙ (bytes_eq-Decides bytes bytes).1 refl in
        let test : String Y → Bool = λ k. is_eq (slice_cmp nat_cmp bytes (string_bytes k)) in
        (bytes, ap (list_any test) is ∙ ap (λ b. b || list_any test keys) same)

among-yes : (texts : List (List ℕ)) (text : List ℕ) → is_among texts text ≡ true → Contains texts text
among-yes texts text is =
    let found = Any-from_list_any (λ t. bytes_eq t text) texts is in
    (found.0, found.2, subst (λ t. slice_index_or texts found.0 t ≡ t) ((bytes_eq-Decides found.1 text).0 found.4) found.3)

among-no : (texts : List (List ℕ)) (text : List ℕ) → Contains texts text → is_among texts text ≡ true
among-no texts text there =
    list_any_at (λ t. bytes_eq t text) texts there.0 text there.1
    (ap (λ t. bytes_eq t text) there.2 ∙ (bytes_eq-Decides text text).1 refl)

no_texts : (texts : List (List ℕ)) → ((text : List ℕ) → is_among texts text ≡ false) → texts ≡ []
no_texts [] none = refl
no_texts (text ∷ texts) none =
    let there : is_among (text ∷ texts) text ≡ true = ap (λ b. b || is_among texts text) ((bytes_eq-Decides text text).1 refl) in
    let clash : true ≡ false = sym there ∙ none text in
    absurd cc

module _ (value : List ℕ) (meta : Meta) (listing : Listing) (broken : Broken) where
  -- an enumeration without texts takes each value
  pub keeps_empty : IsListingOf listing meta → ((text : List ℕ) → has_text listing text ≡ false)
      → BreaksEnum value meta broken → ⊥
  keeps_empty are none breaks = breaks.some (no_texts _ (λ text. sym (are text) ∙ none text))

  -- one of its texts is kept
  pub keeps_listed : IsListingOf listing meta → has_text listing value ≡ true → BreaksEnum value meta broken → ⊥
  keeps_listed are there breaks = breaks.none (among-yes _ value (sym (are value) ∙ there))

  -- another value breaks it
  pub breaks_listed : IsListingOf listing meta → (text : List ℕ) × (has_text listing text ≡ true)
      → has_text listing value ≡ false → broken ≡ breach 5 value → BreaksEnum value meta broken
  breaks_listed are some none is = record {
    some = λ (nothing : array_texts meta (codes "check/enum") ≡ []).
        let clash : false ≡ true = sym (ap (λ texts. is_among texts some.0) nothing) ∙ sym (are some.0) ∙ some.1 in
        absurd cc;
    none = λ there.
        let clash : true ≡ false = sym (among-no _ value there) ∙ sym (are value) ∙ none in
        absurd cc;
    is = is;
  }
