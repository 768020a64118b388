-- How images read whose own files are the same, and images made of a disk's own files and of others.
use Rattle.std.proofs.Common.{◌≡◌, inl, inr, ℕ, ◌≤◌, List, [], ◌∷◌, ◌++◌, length, drop, Bool, true, false, cond, Option, None, Result, Ok, Err, bytes_eq, refl, sym, ap, ap₂, ◌∙◌, subst, arith}
use Rattle.std.proofs.lemmas.Bool.{cases_lt}
use Rattle.std.proofs.lemmas.Slice.Eq.{bytes_eq-Decides}
use Rattle.kdb_outside.specs.Images.{Image, IsImage, Only}
use Rattle.journal_codec.specs.declared.files.FileText.{FileText}
use Rattle.journal_codec.specs.Entry.{journal_name, journal2_name}
use Rattle.journal_lists.specs.Grammar.{head_size}
use Rattle.journal_lists.specs.Heads.{head_start}
use Rattle.journal_lists.specs.Journals.{ReadsFormer, BreaksFormer, ReadsJournal, BreaksJournal, former_in, journal_in}
use Rattle.journal_lists.specs.Lists.{HasGate, as_one}
use Rattle.journal_lists.specs.Rules.{plain}
use Rattle.journal_lists.proofs.Journals.{former_breaks, journal_breaks}
use Rattle.journal_steps.specs.declared.faults.JournalFault.{JournalFault}
use Rattle.journal_steps.specs.JournalBytes.{IsOwnFile}
use Rattle.journal_steps.specs.Outcomes.{content_in, IsEither}
use Rattle.journal_steps.specs.States.{IsOwnImage}
use Rattle.intent_journal.specs.Opened.{found_in, with_former}
use Rattle.intent_journal.specs.Outcomes.{ReadsAs, IsBroken, HasOnly}
use Rattle.intent_journal.specs.States.{IsUnopened, HasJournalGate, IsOneGate, IsCalm}
use Rattle.intent_journal.proofs.Contents.{content_in-second, cut_none}

-- what neither of two lists names
pub as_one-neither : (entries more : List (List FileText)) (file : List ℕ) → content_in (as_one entries) file ≡ None
    → content_in (as_one more) file ≡ None
    → content_in (as_one (entries ++ more)) file ≡ None
as_one-neither [] more file first second = second
as_one-neither (entry ∷ entries) more file first second =
    let parts = cut_none (as_one entries) entry file first in
    content_in-second (as_one (entries ++ more)) entry file (as_one-neither entries more file parts.0 second) ∙ parts.1

-- images with the same own files read alike, and are broken alike
pub reads_same : (image other : Image) (entries : List (List FileText)) → other journal_name ≡ image journal_name
    → other journal2_name ≡ image journal2_name → ReadsAs image entries → ReadsAs other entries
reads_same image other entries first second reads = record {
  before = reads.before;
  behind = reads.behind;
  are = reads.are;
  former = subst (λ (c : List ℕ). ReadsFormer c reads.before) (sym first) reads.former;
  journal = subst (λ (c : List ℕ). ReadsJournal c reads.behind) (sym second) reads.journal;
}

pub broken_same : (image other : Image) → other journal_name ≡ image journal_name
    → other journal2_name ≡ image journal2_name → IsBroken image → IsBroken other
broken_same image other first second (inl broken) = inl (subst (λ (c : List ℕ). BreaksFormer c) (sym first) broken)
broken_same image other first second (inr (inl broken)) =
    inr (inl (subst (λ (c : List ℕ). BreaksJournal c) (sym second) broken))
broken_same image other first second (inr (inr both)) =
    inr (inr (record {
      one = both.one;
      others = both.others;
      former = subst (λ (c : List ℕ). ReadsFormer c (both.one ∷ both.others)) (sym first) both.former;
      first = both.first;
      more = both.more;
      journal = subst (λ (c : List ℕ). ReadsJournal c (both.first ∷ both.more)) (sym second) both.journal;
    }))

-- an image that an opening refuses is broken
pub found_breaks : (image : Image) (fault : JournalFault) → found_in image ≡ Err fault → IsBroken image
found_breaks image fault is = by (former_in (image journal_name)) refl (journal_in (image journal2_name)) refl
  where
    by : (former : Result (List (List FileText)) JournalFault) → former_in (image journal_name) ≡ former
        → (behind : Result (List (List FileText)) JournalFault)
        → journal_in (image journal2_name) ≡ behind → IsBroken image
    by (Err other) first behind second = inl (former_breaks (image journal_name) other first)
    by (Ok entries) first (Err other) second = inr (inl (journal_breaks (image journal2_name) other second))
    by (Ok entries) first (Ok more) second = absurd (let found = sym (ap₂ with_former first second) ∙ is in cc)

-- another `journal2` in the place of the one that is read
abbrev pub put_journal : Image → List ℕ → Image
put_journal seen c file = cond (bytes_eq file journal2_name) c (seen file)

pub put_leaves : (leaves : List ℕ → List ℕ → Type 0) (seen : Image) (c : List ℕ) → IsImage leaves seen
    → leaves journal2_name c → IsImage leaves (put_journal seen c)
put_leaves leaves seen c is left file = by (bytes_eq file journal2_name) refl
  where
    by : (b : Bool) → bytes_eq file journal2_name ≡ b → leaves file (cond b c (seen file))
    by true here = subst (λ (n : List ℕ). leaves n c) (sym ((bytes_eq-Decides file journal2_name).0 here)) left
    by false other = is file

pub put_same : (seen : Image) (c file : List ℕ) → ¬ IsOwnFile file → put_journal seen c file ≡ seen file
put_same seen c file own = by (bytes_eq file journal2_name) refl
  where
    by : (b : Bool) → bytes_eq file journal2_name ≡ b → cond b c (seen file) ≡ seen file
    by true here = absurd (own (inr ((bytes_eq-Decides file journal2_name).0 here)))
    by false other = refl

-- the own files of an image, over the others of another one
abbrev pub over : Image → Image → Image
over seen image file =
    cond (bytes_eq file journal_name) (image file) (cond (bytes_eq file journal2_name) (image file) (seen file))

over_leaves : (leaves : List ℕ → List ℕ → Type 0) (seen image : Image) → IsImage leaves seen → IsOwnImage leaves image
    → IsImage leaves (over seen image)
over_leaves leaves seen image is own file = by (bytes_eq file journal_name) refl (bytes_eq file journal2_name) refl
  where
    by : (b : Bool) → bytes_eq file journal_name ≡ b → (d : Bool) → bytes_eq file journal2_name ≡ d
        → leaves file (cond b (image file) (cond d (image file) (seen file)))
    by true here d second = own file (inl ((bytes_eq-Decides file journal_name).0 here))
    by false other true here = own file (inr ((bytes_eq-Decides file journal2_name).0 here))
    by false other false another = is file

-- which images a disk may have, in one gate, where these are fewer
pub one_gate_kept : (Gate : ℕ → Type 0) (least : ℕ) (journal : List ℕ) (old new : List ℕ → Type 0)
    → ((c : List ℕ) → new c → old c) → IsOneGate Gate least journal old → IsOneGate Gate least journal new
one_gate_kept Gate least journal old new kept (inl one) = inl (one.0, one.1, λ c is. one.2 c (kept c is))
one_gate_kept Gate least journal old new kept (inr (inl ends)) =
    inr (inl (ends.0, ends.1, λ c is. ends.2 c (kept c is)))
one_gate_kept Gate least journal old new kept (inr (inr short)) = inr (inr (λ c is. short c (kept c is)))

pub one_image_gate : (Gate : ℕ → Type 0) (least : ℕ) (journal : List ℕ) (leaves : List ℕ → Type 0) → Gate 0 → 1 ≤ least
    → Only journal leaves → IsOneGate Gate least journal leaves
one_image_gate Gate least journal leaves first some only = elim (cases_lt (length journal) least) [
  | inl short ↦ inr (inr (λ c is. let sized = ap length (only c is) in omega arith))
  | inr long ↦ inl (0, first, λ c is. let sized = ap length (only c is) in record { there = omega arith; front = refl; back = ap (drop 1) (only c is) })
]

-- a disk is calm whose images have these outcomes
pub calm_from : (seen : Image) (leaves : List ℕ → List ℕ → Type 0) (files : Image) (doubt : Option (List FileText))
    → ((file : List ℕ) → ¬ IsOwnFile file → IsUnopened seen file → Only (seen file) (leaves file))
    → IsOneGate (HasGate plain (seen journal_name)) head_size (seen journal_name) (leaves journal_name)
    → IsOneGate (HasJournalGate (seen journal2_name)) head_start (seen journal2_name) (leaves journal2_name)
    → IsImage leaves seen
    → ((image : Image) → IsImage leaves image → HasOnly (IsEither files doubt) image) → IsCalm seen leaves files doubt
calm_from seen leaves files doubt same former journal seen_is each = record {
  same = same;
  former = former;
  journal = journal;
  not_broken = λ image own broken.
      (each (over seen image) (over_leaves leaves seen image seen_is own)).not_broken (broken_same image (over seen image) refl refl broken);
  outcomes = λ image outcome is has. (each image is).each outcome has;
}

-- and each image of a calm disk has them
pub calm_each : (seen : Image) (leaves : List ℕ → List ℕ → Type 0) (files : Image) (doubt : Option (List FileText))
    → IsCalm seen leaves files doubt
    → (image : Image) → IsImage leaves image → HasOnly (IsEither files doubt) image
calm_each seen leaves files doubt calm image is = record {
  not_broken = calm.not_broken image (λ file own. is file);
  each = λ outcome has. calm.outcomes image outcome is has;
}
