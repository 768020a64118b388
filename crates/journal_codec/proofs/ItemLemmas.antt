-- Items one behind the other, each above the name of the one before: what is read of them is spelled so, and what is
-- spelled is read again.
use Rattle.std.proofs.Common.{◌≡◌, ℕ, zero, suc, Bool, true, List, [], ◌∷◌, ◌++◌, length, map, Ok, refl, sym, ap, subst, ◌∙◌, append_assoc}
use Rattle.std.specs.List.{flat_map, list_all, AllByRecursion}
use Rattle.std.specs.Ordering.{nat_cmp}
use Rattle.std.specs.declared.cmp.Ordering.TheVariants.{Less}
use Rattle.std.specs.Cmp.Lexicographic.{slice_cmp}
use Rattle.std.proofs.lemmas.Bool.{and_parts, and_from}
use Rattle.journal_codec.specs.Reading.{Field, ◌>>=◌, items_at}
use Rattle.journal_codec.proofs.FieldLemmas.{IsBytes, IsBytes-behind, bind_ok, bind_is, ok_is}
use Rattle.journal_codec.proofs.NameLemmas.{Rises}

-- how an item is read behind a name
abbrev pub Reader : Type 0 → Type 0
Reader A = List ℕ → List ℕ → Field A

-- and so many of them
abbrev pub ItemsReader : Type 0 → Type 0
ItemsReader A = ℕ → List ℕ → List ℕ → Field (List A)

-- what is read behind the first item
abbrev pub after_others : {A : Type 0} → A × List ℕ → List A × List ℕ → Field (List A)
after_others first others = Ok (first.0 ∷ others.0, others.1)

abbrev pub after_first : {A : Type 0} → Reader A → (A → List ℕ) → ℕ → A × List ℕ → Field (List A)
after_first item_at name_in count first =
    items_at item_at name_in count (name_in first.0) first.1 >>= after_others first

-- what an item that was read took from the front of the bytes
pub record TakesItem {A : Type 0} (name_in spelled_item : A → List ℕ) (Fits : A → Type 0) (previous bytes : List ℕ)
    (x : A) (rest : List ℕ) : Type 0 where
  pub above : slice_cmp nat_cmp previous (name_in x) ≡ Less
  pub fits : Fits x
  pub parts : IsBytes bytes → bytes ≡ spelled_item x ++ rest

-- what some items that were read took from there
pub record TakesItems {A : Type 0} (name_in spelled_item : A → List ℕ) (Fits : A → Type 0) (count : ℕ)
    (previous bytes : List ℕ) (items : List A) (rest : List ℕ) : Type 0 where
  pub number : length items ≡ count
  pub rises : Rises previous (map name_in items)
  pub fits : AllByRecursion Fits items
  pub parts : IsBytes bytes → bytes ≡ flat_map spelled_item items ++ rest

pub items_takes : {A : Type 0} (item_at : Reader A) (name_in spelled_item : A → List ℕ) (Fits : A → Type 0)
    → ((previous bytes : List ℕ) (x : A × List ℕ) → item_at previous bytes ≡ Ok x
    → TakesItem name_in spelled_item Fits previous bytes x.0 x.1)
    → (count : ℕ) (previous bytes : List ℕ) (x : List A × List ℕ)
    → items_at item_at name_in count previous bytes ≡ Ok x
    → TakesItems name_in spelled_item Fits count previous bytes x.0 x.1
items_takes {A} item_at name_in spelled_item Fits takes zero previous bytes x e =
    subst (λ (p : List A × List ℕ). TakesItems name_in spelled_item Fits 0 previous bytes p.0 p.1) (ok_is ([], bytes) x e) (record { number = refl; rises = tt; fits = tt; parts = λ is_bytes. refl })
items_takes {A} item_at name_in spelled_item Fits takes (suc count) previous bytes x e =
    let f = bind_ok (item_at previous bytes) (after_first item_at name_in count) x e in
    let o = bind_ok (items_at item_at name_in count (name_in f.0.0) f.0.1) (after_others f.0) x f.2 in
    let first = takes previous bytes f.0 f.1 in
    let others = items_takes item_at name_in spelled_item Fits takes count (name_in f.0.0) f.0.1 o.0 o.1 in
    let taken : TakesItems name_in spelled_item Fits (suc count) previous bytes (f.0.0 ∷ o.0.0) o.0.1 = record {
      number = ap suc others.number;
      rises = (first.above, others.rises);
      fits = (first.fits, others.fits);
      parts = λ is_bytes.
          let here : bytes ≡ spelled_item f.0.0 ++ f.0.1 = first.parts is_bytes in
          let behind : IsBytes f.0.1 = IsBytes-behind (spelled_item f.0.0) f.0.1 (subst IsBytes here is_bytes) in
          here ∙ ap (λ (left : List ℕ). spelled_item f.0.0 ++ left) (others.parts behind) ∙ sym (append_assoc (spelled_item f.0.0) (flat_map spelled_item o.0.0) o.0.1);
    } in
    subst (λ (p : List A × List ℕ). TakesItems name_in spelled_item Fits (suc count) previous bytes p.0 p.1) (ok_is (f.0.0 ∷ o.0.0, o.0.1) x o.2) taken

pub items_again : {A : Type 0} (item_at : Reader A) (name_in spelled_item : A → List ℕ) (Fits : A → Type 0)
    → ((previous : List ℕ) (x : A) (rest : List ℕ) → Fits x → slice_cmp nat_cmp previous (name_in x) ≡ Less
    → item_at previous (spelled_item x ++ rest) ≡ Ok (x, rest))
    → (previous : List ℕ) (items : List A) (rest : List ℕ) → Rises previous (map name_in items)
    → AllByRecursion Fits items
    → items_at item_at name_in (length items) previous (flat_map spelled_item items ++ rest) ≡ Ok (items, rest)
items_again item_at name_in spelled_item Fits again previous [] rest rises fits = refl
items_again item_at name_in spelled_item Fits again previous (x ∷ items) rest rises fits =
    let more = flat_map spelled_item items ++ rest in
    let first = again previous x more fits.0 rises.0 in
    let others = items_again item_at name_in spelled_item Fits again (name_in x) items rest rises.1 fits.1 in
    let behind : after_first item_at name_in (length items) (x, more) ≡ Ok (x ∷ items, rest) =
    bind_is (items_at item_at name_in (length items) (name_in x) more) (after_others (x, more)) (items, rest) (Ok (x ∷ items, rest)) others refl in
    ap (λ (bytes : List ℕ). item_at previous bytes >>= after_first item_at name_in (length items)) (append_assoc (spelled_item x) (flat_map spelled_item items) rest)
    ∙ bind_is (item_at previous (spelled_item x ++ more)) (after_first item_at name_in (length items)) (x, more) (Ok (x ∷ items, rest)) first behind

-- what each item that is read passes, all of them pass
pub items_keep : {A : Type 0} (item_at : Reader A) (name_in : A → List ℕ) (test : A → Bool)
    → ((previous bytes : List ℕ) (x : A × List ℕ) → item_at previous bytes ≡ Ok x → test x.0 ≡ true)
    → (count : ℕ) (previous bytes : List ℕ) (x : List A × List ℕ)
    → items_at item_at name_in count previous bytes ≡ Ok x → list_all test x.0 ≡ true
items_keep {A} item_at name_in test keeps zero previous bytes x e =
    subst (λ (p : List A × List ℕ). list_all test p.0 ≡ true) (ok_is ([], bytes) x e) refl
items_keep {A} item_at name_in test keeps (suc count) previous bytes x e =
    let f = bind_ok (item_at previous bytes) (after_first item_at name_in count) x e in
    let o = bind_ok (items_at item_at name_in count (name_in f.0.0) f.0.1) (after_others f.0) x f.2 in
    let others = items_keep item_at name_in test keeps count (name_in f.0.0) f.0.1 o.0 o.1 in
    let both : list_all test (f.0.0 ∷ o.0.0) ≡ true =
    and_from (test f.0.0) (list_all test o.0.0) (keeps previous bytes f.0 f.1) others in
    subst (λ (p : List A × List ℕ). list_all test p.0 ≡ true) (ok_is (f.0.0 ∷ o.0.0, o.0.1) x o.2) both

-- items that pass are read another way too, where each of them is
pub items_alike : {A : Type 0} (item_at other_at : Reader A) (name_in : A → List ℕ) (test : A → Bool)
    → ((previous bytes : List ℕ) (x : A × List ℕ) → item_at previous bytes ≡ Ok x → test x.0 ≡ true
    → other_at previous bytes ≡ Ok x)
    → (count : ℕ) (previous bytes : List ℕ) (x : List A × List ℕ)
    → items_at item_at name_in count previous bytes ≡ Ok x → list_all test x.0 ≡ true
    → items_at other_at name_in count previous bytes ≡ Ok x
items_alike item_at other_at name_in test alike zero previous bytes x e passes = e
items_alike {A} item_at other_at name_in test alike (suc count) previous bytes x e passes =
    let f = bind_ok (item_at previous bytes) (after_first item_at name_in count) x e in
    let o = bind_ok (items_at item_at name_in count (name_in f.0.0) f.0.1) (after_others f.0) x f.2 in
    let is = ok_is (f.0.0 ∷ o.0.0, o.0.1) x o.2 in
    let both = and_parts (test f.0.0) (list_all test o.0.0) (subst (λ (p : List A × List ℕ). list_all test p.0 ≡ true) (sym is) passes) in
    let others = items_alike item_at other_at name_in test alike count (name_in f.0.0) f.0.1 o.0 o.1 both.1 in
    bind_is (other_at previous bytes) (after_first other_at name_in count) f.0 (Ok x) (alike previous bytes f.0 f.1 both.0)
    (bind_is (items_at other_at name_in count (name_in f.0.0) f.0.1) (after_others f.0) o.0 (Ok x) others o.2)
