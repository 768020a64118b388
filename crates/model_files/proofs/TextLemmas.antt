-- Which text an entry has for a file: that of the mount whose file it is, where the commit touches it.
use Rattle.std.proofs.Common.{◌≡◌, ◌≢◌, ◌⊎◌, inl, inr, ℕ, Bool, true, false, cond, ◌||◌, nat_eq, bytes_eq, List, [], ◌∷◌, map as over, slice_get, Option, Some, None, refl, sym, ap, ◌∙◌, eqb-true, eq-eqb}
use Rattle.std.specs.Bool.{Decides, one_answer}
use Rattle.std.specs.FinMap as map
use Rattle.std.specs.FinMap.{find}
use Rattle.std.specs.Ordering.{eq_by_cmp}
use Rattle.std.proofs.lemmas.Slice.Eq.{bytes_eq-Decides}
use Rattle.general_words.specs.Texts.{text_cmp}
use Rattle.general_words.proofs.Lists.{some_is}
use Rattle.general_words.proofs.Lookups.{tied_or_not, get-elsewhere}
use Rattle.general_words.proofs.Maps.{get-insert_same}
use Rattle.general_words.proofs.Orders.{itself}
use Rattle.general_words.proofs.Texts.{text_cmp-total, text_cmp-IsAntisymmetric}
use Rattle.journal_steps.specs.Outcomes.{content_in}
use Rattle.model_maps.specs.KeyMap.{KeyMap}
use Rattle.model_history.specs.History.{is_among}
use Rattle.model_store.specs.Store.{Store, Formats}
use Rattle.model_files.specs.Files.{HaveOwnFiles, text_of}
use Rattle.model_files.specs.Texts.{Texts, with_text, texts_at, as_file, as_entry}
use Rattle.mount_table.specs.declared.mounts.Mount.{Mount}

-- ---- an entry is looked up as its texts are

pub text_tied : (a b : List ℕ) → Decides (eq_by_cmp text_cmp b a) (a ≡ b)
text_tied a b =
    (λ e. is e (tied_or_not {R = text_cmp} text_cmp-IsAntisymmetric b a), λ e. ap (λ x. eq_by_cmp text_cmp b x) e ∙ itself text_cmp-total b)
  where
    is : eq_by_cmp text_cmp b a ≡ true → (eq_by_cmp text_cmp b a ≡ false) ⊎ ((eq_by_cmp text_cmp b a ≡ true) × (b ≡ a))
        → a ≡ b
    is e (inl off) = absurd cc
    is e (inr on) = sym on.1

content_in-found : (es : List (List ℕ × List ℕ)) (file : List ℕ)
    → content_in (over as_file es) file ≡ find text_cmp file es
content_in-found [] file = refl
content_in-found (e ∷ es) file =
    ap (λ b. cond b (Some e.1) (content_in (over as_file es) file)) (one_answer (bytes_eq e.0 file) (eq_by_cmp text_cmp file e.0) (bytes_eq-Decides e.0 file) (text_tied e.0 file))
    ∙ ap (cond (eq_by_cmp text_cmp file e.0) (Some e.1)) (content_in-found es file)

pub content_in-entry : (texts : Texts) (file : List ℕ) → content_in (as_entry texts) file ≡ map.get texts file
content_in-entry texts file = content_in-found (map.entries texts) file ∙ sym (map.get-entries texts file)

-- ---- the texts of some mounts

module _ (formats : Formats) (store : Store) (keys : KeyMap) where
  -- a file that is no mount's has no text
  pub get-texts_none : (mounts : List ℕ) (file : List ℕ)
      → ((n : ℕ) (other : Mount) → slice_get store.mounts n ≡ Some other → other.file ≢ file)
      → map.get (texts_at formats store keys mounts) file ≡ None
  get-texts_none [] file none = map.get-empty text_cmp file
  get-texts_none (n ∷ mounts) file none = by (slice_get store.mounts n) refl (get-texts_none mounts file none)
    where
      by : (o : Option Mount) → slice_get store.mounts n ≡ o → map.get (texts_at formats store keys mounts) file ≡ None
          → map.get (with_text formats store keys n o (texts_at formats store keys mounts)) file ≡ None
      by None is rest = rest
      by (Some other) is rest =
          get-elsewhere text_cmp-total text_cmp-IsAntisymmetric (texts_at formats store keys mounts) other.file (text_of formats store keys n other) file (λ e. none n other is (sym e))
          ∙ rest

  -- the file of a mount has the text of that mount, where it is among them
  pub get-texts : HaveOwnFiles store.mounts → (mounts : List ℕ) (m : ℕ) (mount : Mount)
      → slice_get store.mounts m ≡ Some mount
      → map.get (texts_at formats store keys mounts) mount.file
      ≡ cond (is_among mounts m) (Some (text_of formats store keys m mount)) None
  get-texts own [] m mount there = map.get-empty text_cmp mount.file
  get-texts own (n ∷ mounts) m mount there =
      by (slice_get store.mounts n) refl (nat_eq m n) refl (get-texts own mounts m mount there)
    where
      by : (o : Option Mount) → slice_get store.mounts n ≡ o → (b : Bool) → nat_eq m n ≡ b
          → map.get (texts_at formats store keys mounts) mount.file
          ≡ cond (is_among mounts m) (Some (text_of formats store keys m mount)) None
          → map.get (with_text formats store keys n o (texts_at formats store keys mounts)) mount.file
          ≡ cond (b || is_among mounts m) (Some (text_of formats store keys m mount)) None
      by None is true same rest =
          let at : slice_get store.mounts m ≡ None = ap (slice_get store.mounts) (eqb-true m n same) ∙ is in absurd cc
      by None is false same rest = rest
      by (Some other) is true same rest =
          let number : n ≡ m = sym (eqb-true m n same) in
          let one : other ≡ mount = some_is other mount (sym is ∙ ap (slice_get store.mounts) number ∙ there) in
          ap (λ (x : Mount). map.get (map.insert (texts_at formats store keys mounts) x.file (text_of formats store keys n x)) mount.file) one
          ∙ get-insert_same text_cmp-total (texts_at formats store keys mounts) mount.file (text_of formats store keys n mount)
          ∙ ap (λ i. Some (text_of formats store keys i mount)) number
      by (Some other) is false same rest =
          get-elsewhere text_cmp-total text_cmp-IsAntisymmetric (texts_at formats store keys mounts) other.file (text_of formats store keys n other) mount.file
          (λ e. let on : nat_eq m n ≡ true = eq-eqb m n (own m n mount other there is e) in absurd cc)
          ∙ rest
