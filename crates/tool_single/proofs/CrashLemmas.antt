-- What a crash may leave of a run that one command makes, by what it stores.
use Rattle.std.proofs.Common.{◌≡◌, ◌⊎◌, inl, inr, ℕ, zero, suc, ◌≤◌, List, [], ◌∷◌, ◌++◌, take, Option, Some, None, Contains, refl, sym, ap, subst, arith}
use Rattle.std.proofs.lemmas.Option.{none-some}
use Rattle.intent_journal.specs.Outcomes.{HasOnly}
use Rattle.journal_steps.specs.Outcomes.{with_entry, with_entries, IsEither}
use Rattle.journal_codec.specs.declared.files.FileText.{FileText}
use Rattle.kdb_outside.specs.Images.{Image}
use Rattle.model_crashes.specs.Runs.{Begun, IsBegun, IsReached, begun_before}
use Rattle.model_crashes.proofs.Reached.{only_weaker}
use Rattle.tool_single.specs.Answer.{Texts}
use Rattle.tool_single.specs.Crashing.{MayBeLeft}

abbrev Entry : Type 0
Entry = List FileText

-- what was begun before the first commit is the doubt
begun_first : (d : Option Entry) (n : ℕ) (e : Entry) → Contains (begun_before d) (n, e) → d ≡ Some e
begun_first None n e (k, within, is) = absurd (omega arith)
begun_first (Some x) n e (zero, within, is) = ap (λ (b : Begun). Some b.1) is
begun_first (Some x) n e (suc k, within, is) = absurd (omega arith)

-- with one entry more that was begun there
begun_next : (d : Option Entry) (entry : Entry) (n : ℕ) (e : Entry)
    → Contains (begun_before d ++ (0, entry) ∷ []) (n, e) → (n ≡ 0) × ((d ≡ Some e) ⊎ (entry ≡ e))
begun_next None entry n e (zero, within, is) = (sym (ap (λ (b : Begun). b.0) is), inr (ap (λ (b : Begun). b.1) is))
begun_next None entry n e (suc k, within, is) = absurd (omega arith)
begun_next (Some x) entry n e (zero, within, is) =
    (sym (ap (λ (b : Begun). b.0) is), inl (ap (λ (b : Begun). Some b.1) is))
begun_next (Some x) entry n e (suc zero, within, is) =
    (sym (ap (λ (b : Begun). b.0) is), inr (ap (λ (b : Begun). b.1) is))
begun_next (Some x) entry n e (suc (suc k), within, is) = absurd (omega arith)

none-either : (opened : Image) (d : Option Entry) (o : Image) → IsEither opened None o → IsEither opened d o
none-either opened d o (inl same) = inl same
none-either opened d o (inr one) = absurd (none-some one.0 one.1)

no_entries : (opened : Image) (n : ℕ) → with_entries opened (take n []) ≡ opened
no_entries opened zero = refl
no_entries opened (suc n) = refl

module _ (files : Image) (doubt : Option Entry) (opened : Image) (d : Option Entry) (within : (o : Image) → IsEither opened d o → IsEither files doubt o) where
  -- the files as the opening left them, with nothing in doubt or with the former doubt, are files as they were found
  pub found : (e : Option Entry) (image : Image) → (e ≡ None) ⊎ (e ≡ d) → HasOnly (IsEither opened e) image
      → HasOnly (IsEither files doubt) image
  found e image (inl none) only =
      only_weaker (IsEither opened e) (IsEither files doubt) image (λ o is. within o (none-either opened d o (subst (λ (x : Option Entry). IsEither opened x o) none is))) only
  found e image (inr same) only =
      only_weaker (IsEither opened e) (IsEither files doubt) image (λ o is. within o (subst (λ (x : Option Entry). IsEither opened x o) same is)) only

  -- a run without a commit, in which nothing was begun
  pub reached_none : (image : Image) → IsReached opened [] (begun_before d) image → HasOnly (IsEither files doubt) image
  reached_none image reached =
      by reached.doubt reached.was_begun (subst (λ (fs : Image). HasOnly (IsEither fs reached.doubt) image) (no_entries opened reached.number) reached.is)
    where
      by : (e : Option Entry) → IsBegun (begun_before d) reached.number e → HasOnly (IsEither opened e) image
          → HasOnly (IsEither files doubt) image
      by None was only = found None image (inl refl) only
      by (Some e) was only = found (Some e) image (inr (sym (begun_first d reached.number e was))) only

  -- the files as they were found, or those of the opening with the entry or without
  abbrev Left : Entry → Image → Type 0
  Left entry image = HasOnly (IsEither files doubt) image ⊎ HasOnly (IsEither opened (Some entry)) image

  begun_here : (entry : Entry) (image : Image) (n : ℕ) (e : Option Entry)
      → IsBegun (begun_before d ++ (0, entry) ∷ []) n e → HasOnly (IsEither opened e) image → Left entry image
  begun_here entry image n None was only = inl (found None image (inl refl) only)
  begun_here entry image n (Some e) was only = by (begun_next d entry n e was).1
    where
      by : (d ≡ Some e) ⊎ (entry ≡ e) → Left entry image
      by (inl same) = inl (found (Some e) image (inr (sym same)) only)
      by (inr same) = inr (subst (λ (x : Entry). HasOnly (IsEither opened (Some x)) image) (sym same) only)

  -- an entry was begun and no commit made
  pub reached_begun : (entry : Entry) (image : Image) → IsReached opened [] (begun_before d ++ (0, entry) ∷ []) image
      → Left entry image
  reached_begun entry image reached =
      begun_here entry image reached.number reached.doubt reached.was_begun (subst (λ (fs : Image). HasOnly (IsEither fs reached.doubt) image) (no_entries opened reached.number) reached.is)

  -- it was committed
  committed : (entry : Entry) (image : Image) (e : Option Entry) → IsBegun (begun_before d ++ (0, entry) ∷ []) 1 e
      → HasOnly (IsEither (with_entry opened entry) e) image → Left entry image
  committed entry image None was only =
      inr (only_weaker (IsEither (with_entry opened entry) None) (IsEither opened (Some entry)) image
      (λ o is. elim is as (λ x. IsEither opened (Some entry) o) [ inl same ↦ inr (entry, refl, same) | inr one ↦ absurd (none-some one.0 one.1) ]) only)
  committed entry image (Some e) was only =
      let none : 1 ≡ 0 = (begun_next d entry 1 e was).0 in absurd (omega (arith, none))

  pub reached_commit : (entry : Entry) (image : Image)
      → IsReached opened (entry ∷ []) (begun_before d ++ (0, entry) ∷ []) image → Left entry image
  reached_commit entry image reached = by reached.number reached.within reached.doubt reached.was_begun reached.is
    where
      by : (n : ℕ) → n ≤ 1 → (e : Option Entry) → IsBegun (begun_before d ++ (0, entry) ∷ []) n e
          → HasOnly (IsEither (with_entries opened (take n (entry ∷ []))) e) image → Left entry image
      by zero few e was only = begun_here entry image 0 e was only
      by (suc zero) few e was only = committed entry image e was only
      by (suc (suc n)) few e was only = absurd (omega (arith, few))

  -- ---- by what a command stores

  -- the files as they were found may be left amid any command
  pub left_found : (stored : Texts) (image : Image) → HasOnly (IsEither files doubt) image
      → MayBeLeft files doubt opened stored image
  left_found [] image only = only
  left_found (text ∷ texts) image only = inl only
