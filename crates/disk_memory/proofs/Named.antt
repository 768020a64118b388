-- The place of a file of a name, and what a change there leaves. This project's own.
use Rattle.std.proofs.Common.{◌≡◌, ◌≢◌, ◌⊎◌, inl, inr, ℕ, zero, suc, ◌<◌, ◌≤◌, Bool, true, false, cond, List, [], ◌∷◌, ◌++◌, length, None, Some, bytes_eq, slice_index_or, slice_set, refl, sym, ap, ◌∙◌, subst, arith, append-nil}
use Rattle.std.specs.List.{position, position_or_len}
use Rattle.std.proofs.lemmas.Bool.{cond-true, cond-false, false_from_ne_true, false≢true}
use Rattle.std.proofs.lemmas.Bool.Decides.{nat_tests}
use Rattle.std.proofs.lemmas.List.Quantifiers.{position-Some}
use Rattle.std.proofs.lemmas.List.Sums.{fails_before_first}
use Rattle.std.proofs.Math.Seq.{take-nil, drop-nil}
use Rattle.std.proofs.lemmas.Slice.Eq.{bytes_eq-Decides}
use Rattle.kdb_outside.specs.Files.{written, ChangesTo}
use Rattle.disk_memory.specs.DiskState.{File, bytes_of}

abbrev pub is_named : List ℕ → File → Bool
is_named name file = bytes_eq file.name name

-- the file at this place is the first of this name
pub record IsFirst (files : List File) (name : List ℕ) (i : ℕ) : Type 0 where
  pub within : i < length files
  pub named : (d : File) → bytes_eq (slice_index_or files i d).name name ≡ true
  pub before : (k : ℕ) (d : File) → k < i → bytes_eq (slice_index_or files k d).name name ≡ false

-- no file has this name
pub record IsMissing (files : List File) (name : List ℕ) : Type 0 where
  pub none : (k : ℕ) (d : File) → k < length files → bytes_eq (slice_index_or files k d).name name ≡ false

blank : File
blank = record { name = []; bytes = [] }

pub IsFirst-position : (files : List File) (name : List ℕ) (i : ℕ) → position (λ f. bytes_eq f.name name) files ≡ Some i
    → IsFirst files name i
IsFirst-position files name i found = record {
  within = (position-Some (is_named name) files i blank found).0;
  named = λ d. (position-Some (is_named name) files i d found).1;
  before = λ k d h. (position-Some (is_named name) files i d found).2 k h;
}

past_all : (p : File → Bool) (files : List File) → position p files ≡ None → length files ≤ position_or_len p files
past_all p files none = grind (arith, nat_tests)

pub IsMissing-position : (files : List File) (name : List ℕ) → position (λ f. bytes_eq f.name name) files ≡ None
    → IsMissing files name
IsMissing-position files name none = record {
  none = λ k d h. let all = past_all (is_named name) files none in fails_before_first (is_named name) files k d (omega arith);
}

later_first : (file : File) (files : List File) (name : List ℕ) (i : ℕ) → IsFirst (file ∷ files) name (suc i)
    → IsFirst files name i
later_first file files name i first = record {
  within = omega arith;
  named = λ d. first.named d;
  before = λ k d h. first.before (suc k) d (omega arith);
}

later_missing : (file : File) (files : List File) (name : List ℕ) → IsMissing (file ∷ files) name → IsMissing files name
later_missing file files name missing = record { none = λ k d h. missing.none (suc k) d (omega arith) }

-- a name is that of its file
pub is_this_name : (name : List ℕ) → bytes_eq name name ≡ true
is_this_name name = (bytes_eq-Decides name name).1 refl

-- a name is not that of another file
pub is_other_name : (name other : List ℕ) → other ≢ name → bytes_eq name other ≡ false
is_other_name name other differ =
    false_from_ne_true (bytes_eq name other) (λ is. differ (sym ((bytes_eq-Decides name other).0 is)))

-- whether a name is that of another file
same_or_other_by : (name other : List ℕ) (is : Bool) → bytes_eq name other ≡ is → (name ≡ other) ⊎ (other ≢ name)
same_or_other_by name other true e = inl ((bytes_eq-Decides name other).0 e)
same_or_other_by name other false e = inr (λ same. false≢true (sym e ∙ (bytes_eq-Decides name other).1 (sym same)))

-- a name is that of this file or of another one
pub same_or_other : (name other : List ℕ) → (name ≡ other) ⊎ (other ≢ name)
same_or_other name other = same_or_other_by name other (bytes_eq name other) refl

-- what holds of the file that changed and of every other one
pub every_file : (P : List ℕ → Type 0) (name : List ℕ) → P name → ((other : List ℕ) → other ≢ name → P other)
    → (file : List ℕ) → P file
every_file P name this others file =
    elim (same_or_other name file) [ inl same ↦ subst P same this | inr differ ↦ others file differ ]

-- a file of this name has no other one
other_name : (given name other : List ℕ) → bytes_eq given name ≡ true → other ≢ name → bytes_eq given other ≡ false
other_name given name other is_name differ =
    false_from_ne_true (bytes_eq given other) (λ is_other. differ (sym ((bytes_eq-Decides given other).0 is_other) ∙ (bytes_eq-Decides given name).0 is_name))

pub bytes_of-first : (files : List File) (name : List ℕ) (i : ℕ) (d : File) → IsFirst files name i
    → bytes_of files name ≡ (slice_index_or files i d).bytes
bytes_of-first [] name i d first = absurd (omega arith)
bytes_of-first (file ∷ files) name zero d first = cond-true _ _ _ (first.named d)
bytes_of-first (file ∷ files) name (suc i) d first =
    cond-false _ _ _ (first.before zero d (omega arith))
    ∙ bytes_of-first files name i d (later_first file files name i first)

pub bytes_of-missing : (files : List File) (name : List ℕ) → IsMissing files name → bytes_of files name ≡ []
bytes_of-missing [] name missing = refl
bytes_of-missing (file ∷ files) name missing =
    cond-false _ _ _ (missing.none zero file (omega arith))
    ∙ bytes_of-missing files name (later_missing file files name missing)

bytes_of-set : (files : List File) (name : List ℕ) (i : ℕ) (file : File) → IsFirst files name i
    → bytes_eq file.name name ≡ true
    → bytes_of (slice_set files i file) name ≡ file.bytes
bytes_of-set [] name i file first named = absurd (omega arith)
bytes_of-set (f ∷ files) name zero file first named = cond-true _ _ _ named
bytes_of-set (f ∷ files) name (suc i) file first named =
    cond-false _ _ _ (first.before zero f (omega arith))
    ∙ bytes_of-set files name i file (later_first f files name i first) named

bytes_of-set_other : (files : List File) (name : List ℕ) (i : ℕ) (file : File) (other : List ℕ) → IsFirst files name i
    → bytes_eq file.name name ≡ true → other ≢ name
    → bytes_of (slice_set files i file) other ≡ bytes_of files other
bytes_of-set_other [] name i file other first named differ = refl
bytes_of-set_other (f ∷ files) name zero file other first named differ =
    cond-false _ _ _ (other_name file.name name other named differ)
    ∙ sym (cond-false _ _ _ (other_name f.name name other (first.named f) differ))
bytes_of-set_other (f ∷ files) name (suc i) file other first named differ =
    ap (cond (bytes_eq f.name other) f.bytes) (bytes_of-set_other files name i file other (later_first f files name i first) named differ)

-- what a file was that stands first of its name
pub bytes_of-found : (files : List File) (name : List ℕ) (i : ℕ) (d old : File) → IsFirst files name i
    → old ≡ slice_index_or files i d → bytes_of files name ≡ old.bytes
bytes_of-found files name i d old first was = bytes_of-first files name i d first ∙ sym (ap (λ f. f.bytes) was)

-- the first file of this name was changed
pub ChangesTo-set : (files : List File) (name : List ℕ) (i : ℕ) (d old new : File) (change : List ℕ → List ℕ)
    → IsFirst files name i
    → old ≡ slice_index_or files i d → new ≡ record old { bytes = change old.bytes }
    → ChangesTo name (change (bytes_of files name)) (bytes_of files) (bytes_of (slice_set files i new))
ChangesTo-set files name i d old new change first was is =
    let test : File → Bool = λ f. bytes_eq f.name name in
    let named : bytes_eq new.name name ≡ true = ap test is ∙ (ap test was ∙ first.named d) in
    record {
      this = bytes_of-set files name i new first named ∙ (ap (λ f. f.bytes) is ∙ sym (ap change (bytes_of-found files name i d old first was)));
      others = λ other differ. bytes_of-set_other files name i new other first named differ;
    }

bytes_of-push : (files : List File) (name : List ℕ) (file : File) → IsMissing files name
    → bytes_eq file.name name ≡ true
    → bytes_of (files ++ file ∷ []) name ≡ file.bytes
bytes_of-push [] name file missing named = cond-true _ _ _ named
bytes_of-push (f ∷ files) name file missing named =
    cond-false _ _ _ (missing.none zero f (omega arith))
    ∙ bytes_of-push files name file (later_missing f files name missing) named

bytes_of-push_other : (files : List File) (file : File) (other : List ℕ) → bytes_eq file.name other ≡ false
    → bytes_of (files ++ file ∷ []) other ≡ bytes_of files other
bytes_of-push_other [] file other differ = cond-false _ _ _ differ
bytes_of-push_other (f ∷ files) file other differ =
    ap (cond (bytes_eq f.name other) f.bytes) (bytes_of-push_other files file other differ)

-- a file of a new name was made
pub ChangesTo-push : (files : List File) (name : List ℕ) (file : File) (now : List ℕ) → IsMissing files name
    → file.name ≡ name → file.bytes ≡ now
    → ChangesTo name now (bytes_of files) (bytes_of (files ++ file ∷ []))
ChangesTo-push files name file now missing same is =
    let named : bytes_eq file.name name ≡ true = (bytes_eq-Decides file.name name).1 same in
    record {
      this = bytes_of-push files name file missing named ∙ is;
      others = λ other differ. bytes_of-push_other files file other (other_name file.name name other named differ);
    }

-- a write to a file that has no bytes yet
pub written_new : (before : List ℕ) (at : ℕ) (bytes : List ℕ) → before ≡ [] → at ≤ length before
    → bytes ≡ written before at bytes
written_new before at bytes none start =
    subst (λ old. bytes ≡ written old at bytes) (sym none) (rw (take-nil, drop-nil) (sym (append-nil bytes)))
