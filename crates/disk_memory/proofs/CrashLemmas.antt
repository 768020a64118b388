-- How far a crash has gone along the changes of a disk in memory. This project's own.
use Rattle.std.proofs.Common.{◌≡◌, ℕ, List, [], ◌∷◌, ◌++◌, length, sym, ap, ◌∙◌, arith}
use Rattle.std.proofs.lemmas.Bool.{cond-true, cond-false}
use Rattle.kdb_outside.specs.Files.{ChangesTo}
use Rattle.disk_memory.specs.declared.changes.Change.{Change}
use Rattle.disk_memory.specs.Choices.{left_of_step, left_along}
use Rattle.disk_memory.specs.Steps.{steps_of, after, after_all}
use Rattle.disk_memory.specs.DiskState.{File, bytes_of, Agrees}
use Rattle.disk_memory.proofs.Named.{every_file, is_this_name, is_other_name}
use Rattle.disk_memory.proofs.ChangeLemmas.{Agrees-push}
use Rattle.disk_memory.proofs.ChoiceLemmas.{left_along-push}

-- what reads give, and what the crash of this number leaves, behind these changes
pub record HasGone (number : ℕ) (initial : List File) (past : List Change) (seen left : List File) : Type 0 where
  pub sees : Agrees initial past seen
  pub leaves : (file : List ℕ)
      → bytes_of left file ≡ left_along number file 0 (bytes_of initial file) (bytes_of initial file) past

-- the crash goes on over one more change
pub HasGone-more : (number : ℕ) (initial : List File) (past : List Change) (change : Change)
    (seen left seen_next left_next : List File) (now : List ℕ) → HasGone number initial past seen left
    → now
    ≡ left_of_step (record { number = number; step = length past }) change.step (bytes_of seen change.file) (bytes_of left change.file)
    → ChangesTo change.file now (bytes_of left) (bytes_of left_next)
    → ChangesTo change.file (after (bytes_of seen change.file) change.step) (bytes_of seen) (bytes_of seen_next)
    → HasGone number initial (past ++ change ∷ []) seen_next left_next
HasGone-more number initial past change seen left seen_next left_next now gone chosen changes_left changes_seen =
    record {
      sees = Agrees-push initial past change seen seen_next gone.sees changes_seen;
      leaves =
          every_file (λ file. bytes_of left_next file ≡ left_along number file 0 (bytes_of initial file) (bytes_of initial file) (past ++ change ∷ [])) change.file
          (changes_left.this ∙ chosen
          ∙ ap (λ bytes. left_of_step (record { number = number; step = length past }) change.step bytes (bytes_of left change.file)) (gone.sees change.file)
          ∙ ap (left_of_step (record { number = number; step = length past }) change.step (after_all (bytes_of initial change.file) (steps_of change.file past))) (gone.leaves change.file)
          ∙ sym (left_along-push number change.file 0 (length past) (bytes_of initial change.file) (bytes_of initial change.file) past change (omega arith) ∙ cond-true _ _ _ (is_this_name change.file)))
          (λ other differ. changes_left.others other differ ∙ gone.leaves other
          ∙ sym (left_along-push number other 0 (length past) (bytes_of initial other) (bytes_of initial other) past change (omega arith) ∙ cond-false _ _ _ (is_other_name change.file other differ)));
    }
