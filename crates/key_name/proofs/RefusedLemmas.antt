-- A text's first refusal, by what the code finds.
use Rattle.std.proofs.Common.{◌≡◌, ◌≢◌, ℕ, ◌+◌, ◌<◌, ◌≤◌, false, eqb, ◌==◌, List, [], ◌∷◌, ◌++◌, length, map, Some, None, refl, sym, ap, ap₂, ◌∙◌}
use Rattle.std.specs.List.{position, position_or_len, before_first, after_first}
use Rattle.std.specs.Str.{IsUtf8}
use Rattle.std.proofs.lemmas.Bool.{cond-true, cond-false, ne_eqb, lt-ltb}
use Rattle.model_names.specs.declared.namespaces.Namespace.{Namespace}
use Rattle.model_names.specs.Name.{Name, Part}
use Rattle.model_names.specs.Spelling.{word_of, path_of_parts}
use Rattle.model_names.specs.RawParts.{raw_parts}
use Rattle.model_names.specs.Spells.{Spells, walked, longest_path}
use Rattle.general_words.specs.Searches.{first_some}
use Rattle.model_names.specs.Refuses.{NoNamespace, UnknownNamespace, NoSlash, BadEscape, BadArray, Nul, TooLong, namespace_of_word, begins_with_slash, start_of_text, placed, bad_escape, bad_array, too_long, refusal_of}
use Rattle.model_names.proofs.RefusesLemmas.{no_nul-from_position, start_at, start_of_text-no_colon, start_of_text-colon, refusal_of-refused, refusal_of-behind, first_refusal, too_long-at, AreFine-from_walked, walked-fine}
use Rattle.key_name.specs.declared.raw_parts.Raw.{Raw}
use Rattle.key_name.specs.Raws.{with_places, texts}

-- ---- the start

pub no_slash : (text : List ℕ) → ((rest : List ℕ) → text ≢ 47 ∷ rest) → begins_with_slash text ≡ false
no_slash [] h = refl
no_slash (b ∷ text) h = ne_eqb b 47 (λ e. h text (ap (λ b. b ∷ text) e))

-- a text is cut at its first colon
pub record IsCut (text word behind : List ℕ) : Type 0 where
  pub within : position_or_len (λ b. eqb b 58) text < length text
  pub word_is_before : word ≡ before_first (λ b. eqb b 58) text
  pub behind_is_after : behind ≡ after_first (λ b. eqb b 58) text

pub refusal_of-no_namespace : (text : List ℕ) → begins_with_slash text ≡ false
    → position_or_len (λ b. eqb b 58) text ≡ length text → refusal_of text ≡ Some NoNamespace
refusal_of-no_namespace text slash colon = refusal_of-refused text NoNamespace (start_of_text-no_colon text slash colon)

start_of_text-cut : (text word behind : List ℕ) → begins_with_slash text ≡ false → IsCut text word behind
    → start_of_text text ≡ start_at word behind (namespace_of_word word)
start_of_text-cut text word behind slash cut =
    start_of_text-colon text slash cut.within
    ∙ ap₂ (λ w b. start_at w b (namespace_of_word w)) (sym cut.word_is_before) (sym cut.behind_is_after)

pub refusal_of-unknown : (text word behind : List ℕ) → begins_with_slash text ≡ false → IsCut text word behind
    → namespace_of_word word ≡ None → refusal_of text ≡ Some UnknownNamespace
unfolding start_at
refusal_of-unknown text word behind slash cut none =
    refusal_of-refused text UnknownNamespace (start_of_text-cut text word behind slash cut ∙ ap (start_at word behind) none)

pub refusal_of-no_slash : (text word behind : List ℕ) (namespace : Namespace) → begins_with_slash text ≡ false
    → IsCut text word behind → namespace_of_word word ≡ Some namespace → begins_with_slash behind ≡ false
    → refusal_of text ≡ Some NoSlash
unfolding start_at
refusal_of-no_slash text word behind namespace slash cut some none =
    refusal_of-refused text NoSlash (start_of_text-cut text word behind slash cut ∙ ap (start_at word behind) some ∙ cond-false (begins_with_slash behind) _ _ none)

-- ---- what stands behind it

placed-texts : (place : ℕ) (raws : List (List ℕ)) → map (λ (p : ℕ × List ℕ). p.1) (placed place raws) ≡ raws
placed-texts place [] = refl
placed-texts place (raw ∷ raws) = ap (λ rest. raw ∷ rest) (placed-texts (place + length raw + 1) raws)

texts-places : (raws : List Raw) → texts raws ≡ map (λ (p : ℕ × List ℕ). p.1) (with_places raws)
texts-places [] = refl
texts-places (raw ∷ raws) = ap (λ rest. raw.text.now ∷ rest) (texts-places raws)

-- raw parts with the places that they have in a text
pub record AreOf (text path : List ℕ) (namespace : Namespace) (raws : List Raw) : Type 0 where
  pub cut : text ≡ word_of namespace ++ 47 ∷ path
  pub places : with_places raws ≡ placed (length (word_of namespace) + 1) (raw_parts path)

pub texts-of : (text path : List ℕ) (namespace : Namespace) (raws : List Raw) → AreOf text path namespace raws
    → texts raws ≡ raw_parts path
texts-of text path namespace raws h =
    texts-places raws ∙ ap (map (λ (p : ℕ × List ℕ). p.1)) h.places
    ∙ placed-texts (length (word_of namespace) + 1) (raw_parts path)

pub refusal_of-raws : (text path : List ℕ) (namespace : Namespace) (raws : List Raw) → AreOf text path namespace raws
    → refusal_of text
    ≡ first_refusal (first_some bad_escape (with_places raws)) (first_some bad_array (with_places raws)) (position (λ b. b == 0) text) (too_long (raw_parts path))
refusal_of-raws text path namespace raws h =
    refusal_of-behind namespace path text h.cut
    ∙ ap (λ parts. first_refusal (first_some bad_escape parts) (first_some bad_array parts) (position (λ b. b == 0) text) (too_long (raw_parts path))) (sym h.places)

pub refusal_of-escape : (text path : List ℕ) (namespace : Namespace) (raws : List Raw) (at : ℕ)
    → AreOf text path namespace raws → first_some bad_escape (with_places raws) ≡ Some at
    → refusal_of text ≡ Some (BadEscape at)
unfolding first_refusal
refusal_of-escape text path namespace raws at h bad =
    refusal_of-raws text path namespace raws h
    ∙ ap (λ escape. first_refusal escape (first_some bad_array (with_places raws)) (position (λ b. b == 0) text) (too_long (raw_parts path))) bad

pub refusal_of-array : (text path : List ℕ) (namespace : Namespace) (raws : List Raw) (at : ℕ)
    → AreOf text path namespace raws → first_some bad_escape (with_places raws) ≡ None
    → first_some bad_array (with_places raws) ≡ Some at → refusal_of text ≡ Some (BadArray at)
unfolding first_refusal
refusal_of-array text path namespace raws at h escapes bad =
    refusal_of-raws text path namespace raws h
    ∙ ap₂ (λ escape array. first_refusal escape array (position (λ b. b == 0) text) (too_long (raw_parts path))) escapes bad

-- no raw part has a bad escape or a bad array
pub record IsSound (raws : List Raw) : Type 0 where
  pub escapes : first_some bad_escape (with_places raws) ≡ None
  pub arrays : first_some bad_array (with_places raws) ≡ None

pub refusal_of-nul : (text path : List ℕ) (namespace : Namespace) (raws : List Raw) (at : ℕ)
    → AreOf text path namespace raws → IsSound raws → position (λ b. b == 0) text ≡ Some at
    → refusal_of text ≡ Some (Nul at)
unfolding first_refusal
refusal_of-nul text path namespace raws at h sound bad =
    refusal_of-raws text path namespace raws h
    ∙ (λ i. first_refusal (sound.escapes i) (sound.arrays i) (bad i) (too_long (raw_parts path)))

-- ---- the parts

leads-of : (text path : List ℕ) (namespace : Namespace) (raws : List Raw) → AreOf text path namespace raws
    → IsSound raws → (parts : List Part) × (walked [] (raw_parts path) ≡ Some parts)
leads-of text path namespace raws h sound =
    walked-fine (length (word_of namespace) + 1) (raw_parts path) [] (record {
      escapes = ap (first_some bad_escape) (sym h.places) ∙ sound.escapes;
      arrays = ap (first_some bad_array) (sym h.places) ∙ sound.arrays;
    })

-- what a walk finds where there is something to find
pub walked-found : (text path : List ℕ) (namespace : Namespace) (raws read : List Raw) (found : List Part)
    → AreOf text path namespace raws → IsSound raws → read ≡ raws
    → ((parts : List Part) → walked [] (texts read) ≡ Some parts → found ≡ parts)
    → walked [] (raw_parts path) ≡ Some found
walked-found text path namespace raws read found h sound same finds =
    let leads = leads-of text path namespace raws h sound in
    let walk = ap (λ r. walked [] (texts r)) same ∙ ap (walked []) (texts-of text path namespace raws h) ∙ leads.1 in
    leads.1 ∙ ap (λ parts. Some parts) (sym (finds leads.0 walk))

pub IsSound-from_passes : (raws first second : List Raw) → first ≡ raws
    → first_some bad_escape (with_places first) ≡ None → second ≡ raws
    → first_some bad_array (with_places second) ≡ None → IsSound raws
IsSound-from_passes raws first second p escapes q arrays = record {
  escapes = ap (λ r. first_some bad_escape (with_places r)) (sym p) ∙ escapes;
  arrays = ap (λ r. first_some bad_array (with_places r)) (sym q) ∙ arrays;
}

pub refusal_of-long : (text path : List ℕ) (namespace : Namespace) (parts : List Part)
    → text ≡ word_of namespace ++ 47 ∷ path → position (λ b. b == 0) text ≡ None
    → walked [] (raw_parts path) ≡ Some parts → longest_path < length (path_of_parts parts)
    → refusal_of text ≡ Some (TooLong (length (path_of_parts parts)))
unfolding first_refusal
refusal_of-long text path namespace parts cut nul leads long =
    let fine = AreFine-from_walked (length (word_of namespace) + 1) (raw_parts path) [] parts leads in
    let over = too_long-at (raw_parts path) parts leads ∙ cond-true _ _ _ (lt-ltb longest_path (length (path_of_parts parts)) long) in
    refusal_of-behind namespace path text cut ∙ (λ i. first_refusal (fine.escapes i) (fine.arrays i) (nul i) (over i))

-- a text that no pass refuses spells the name that its path leads to
pub Spells-found : (text path : List ℕ) (name : Name) → text ≡ word_of name.namespace ++ 47 ∷ path → IsUtf8 text
    → position (λ b. b == 0) text ≡ None → walked [] (raw_parts path) ≡ Some name.parts
    → length (path_of_parts name.parts) ≤ longest_path → Spells text name
Spells-found text path name cut utf8 no_nul leads limit =
    record {
      rest = path;
      cut = cut;
      leads = leads;
      utf8 = utf8;
      no_nul = no_nul-from_position text no_nul;
      limit = limit;
    }
