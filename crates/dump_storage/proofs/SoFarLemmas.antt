-- A tree of texts is asked as its metadata are, and its items come out one by one.
use Rattle.std.proofs.Common.{◌≡◌, ◌≢◌, ◌<◌, length, arith, ℕ, Bool, true, false, cond, List, [], ◌∷◌, Option, Some, None, refl, sym, ap, ◌∙◌}
use Rattle.std.specs.BTreeMap.{is_at, insert_entry}
use Rattle.std.specs.FinMap as finite
use Rattle.std.specs.Map.{lookup}
use Rattle.std.specs.Option.{option_or, is_some}
use Rattle.std.specs.Ordering.{eq_by_cmp, match_ordering}
use Rattle.std.specs.Cmp.{eq_by_cmp_equiv, Equal-is}
use Rattle.std.specs.declared.cmp.Ordering.{Ordering}
use Rattle.std.specs.declared.cmp.Ordering.TheVariants.{Less, Equal, Greater}
use Rattle.std.proofs.lemmas.Cmp.{nat_list_cmp_total}
use Rattle.general_words.specs.Texts.{text_cmp}
use Rattle.general_words.proofs.Searches.{or_none}
use Rattle.general_words.proofs.Texts.{text_cmp-IsAntisymmetric}
use Rattle.model_maps.specs.Entry.{Entry, Meta}
use Rattle.dump_storage.specs.SoFarView.{HasMetaLength, HaveMetaLengths}

abbrev pub Items : Type 0
Items = List (List ℕ × List ℕ)

-- the metadata of some items
abbrev pub meta_of : Items → Meta
meta_of items = finite.from_entries items

-- an entry of a value and metadata
abbrev pub entry_with : List ℕ → Meta → Entry
entry_with value meta = record { value = value; meta = meta }

lookup-find : (es : Items) (q : List ℕ) → lookup (is_at (text_cmp q)) es ≡ finite.find text_cmp q es
lookup-find [] q = refl
lookup-find (e ∷ es) q = ap (cond (eq_by_cmp text_cmp q e.0) (Some e.1)) (lookup-find es q)

-- what the metadata have at a name
pub get-lookup : (es : Items) (q : List ℕ) → finite.get (meta_of es) q ≡ lookup (is_at (text_cmp q)) es
get-lookup es q = finite.get-from_entries nat_list_cmp_total es q ∙ sym (lookup-find es q)

-- whether there is something at a name
pub some-there : {A : Type 0} (o : Option A) → is_some o ≡ true → o ≢ None
some-there None is none = absurd cc
some-there (Some a) is none = absurd cc

-- items that differ at one name make metadata that differ there
pub meta_of-insert : (es fs : Items) (name text : List ℕ)
    → ((q : List ℕ) → lookup (is_at (text_cmp q)) fs ≡ cond (is_at (text_cmp name) q) (Some text) (lookup (is_at (text_cmp q)) es))
    → meta_of fs ≡ finite.insert (meta_of es) name text
meta_of-insert es fs name text h = finite.same_map nat_list_cmp_total text_cmp-IsAntisymmetric _ _ (λ q.
    get-lookup fs q
    ∙ h q
    ∙ ap (λ b. cond b (Some text) (lookup (is_at (text_cmp q)) es)) ((eq_by_cmp_equiv nat_list_cmp_total).symm name q)
    ∙ ap (cond (eq_by_cmp text_cmp q name) (Some text)) (sym (get-lookup es q))
    ∙ sym (finite.get-insert nat_list_cmp_total (meta_of es) name text q))

-- some metadata, and behind them the items that are left, are all of some metadata
abbrev pub Splits : Meta → Meta → Items → Type 0
Splits whole meta rest = (q : List ℕ) → option_or (finite.get (meta_of rest) q) (finite.get meta q) ≡ finite.get whole q

pub Splits-start : (es : Items) (meta : Meta) → meta ≡ finite.empty → Splits (meta_of es) meta es
Splits-start es meta none q =
    ap (option_or (finite.get (meta_of es) q)) (ap (λ (m : Meta). finite.get m q) none ∙ finite.get-empty text_cmp q)
    ∙ or_none (finite.get (meta_of es) q)

moves_over : (b : Bool) (e : List ℕ) (o meta : Option (List ℕ)) → (b ≡ true → o ≡ None)
    → option_or o (cond b (Some e) meta) ≡ option_or (cond b (Some e) o) meta
moves_over true e o meta none = ap (λ p. option_or p (Some e)) (none refl)
moves_over false e o meta none = refl

-- the first item that is left joins the metadata
pub Splits-more : (whole meta : Meta) (name text : List ℕ) (es rest : Items) → es ≡ (name, text) ∷ rest
    → lookup (is_at (text_cmp name)) rest ≡ None → Splits whole meta es
    → Splits whole (finite.insert meta name text) rest
Splits-more whole meta name text es rest first none splits q =
    ap (option_or (finite.get (meta_of rest) q)) (finite.get-insert nat_list_cmp_total meta name text q)
    ∙ moves_over (eq_by_cmp text_cmp q name) text (finite.get (meta_of rest) q) (finite.get meta q) missing
    ∙ ap (λ o. option_or o (finite.get meta q)) (sym (finite.get-insert nat_list_cmp_total (meta_of rest) name text q) ∙ ap (λ (fs : Items). finite.get (meta_of fs) q) (sym first))
    ∙ splits q
  where
    missing : eq_by_cmp text_cmp q name ≡ true → finite.get (meta_of rest) q ≡ None
    missing tied =
        let same : q ≡ name = text_cmp-IsAntisymmetric q name ((Equal-is (text_cmp q name)).0 tied) in
        ap (finite.get (meta_of rest)) same ∙ get-lookup rest name ∙ none

-- with nothing left the metadata are all
pub Splits-end : (whole meta : Meta) (rest : Items) → rest ≡ [] → Splits whole meta rest → meta ≡ whole
Splits-end whole meta rest none splits = finite.same_map nat_list_cmp_total text_cmp-IsAntisymmetric _ _ (λ q.
    sym (ap (λ o. option_or o (finite.get meta q)) (ap (λ (fs : Items). finite.get (meta_of fs) q) none ∙ finite.get-empty text_cmp q)) ∙ splits q)

-- a name that isn't too short or too long joins such
pub lengths-put : (name text : List ℕ) (es : Items) → HasMetaLength (name, text) → HaveMetaLengths es
    → HaveMetaLengths (insert_entry text_cmp es name text)
lengths-put name text [] fine all = (fine, tt)
lengths-put name text (e ∷ es) fine all = by (text_cmp name e.0) (lengths-put name text es fine all.1)
  where
    by : (o : Ordering) → HaveMetaLengths (insert_entry text_cmp es name text)
        → HaveMetaLengths (match_ordering o ((name, text) ∷ e ∷ es) ((e.0, text) ∷ es) (e ∷ insert_entry text_cmp es name text))
    by Less behind = (fine, all)
    by Equal behind = (record { some = all.0.some; limit = all.0.limit }, all.1)
    by Greater behind = (all.0, behind)

-- where there is no first, nothing is left
pub none_left : {A : Type 0} (es : List A) → (0 < length es → false ≡ true) → es ≡ []
none_left [] first = refl
none_left (e ∷ es) first = let is = first (omega arith) in absurd cc
