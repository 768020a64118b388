-- What a run may have left, while it goes on.
use Rattle.std.proofs.Common.{◌≡◌, ℕ, ◌+◌, List, [], ◌∷◌, ◌++◌, length, inl, inr, Option, Some, None, refl, sym, subst, arith, rules, length-append}
use Rattle.std.specs.Prelude.{Contains}
use Rattle.std.proofs.lemmas.List.{take-append-le, take_all}
use Rattle.std.proofs.lemmas.List.Elements.{Contains-append_left, Contains-append_right}
use Rattle.kdb_outside.specs.Images.{Image}
use Rattle.journal_codec.specs.declared.files.FileText.{FileText}
use Rattle.intent_journal.specs.Outcomes.{HasOnly}
use Rattle.journal_steps.specs.Outcomes.{with_entry, with_entries, IsEither}
use Rattle.model_crashes.specs.Runs.{Run, Begun, files_of, IsBegun, IsReached, IsAmid, begun_before, after_commit}

-- entries one after the other
pub with_entries-append : (files : Image) (first second : List (List FileText))
    → with_entries files (first ++ second) ≡ with_entries (with_entries files first) second
with_entries-append files [] second = refl
with_entries-append files (entry ∷ first) second = with_entries-append (with_entry files entry) first second

-- the files behind a commit
pub files_of-commit : (run : Run) (entry : List FileText)
    → files_of (after_commit run entry) ≡ with_entry (files_of run) entry
files_of-commit run entry = with_entries-append run.files run.commits (entry ∷ [])

-- a property that follows has the same images
pub only_weaker : (P Q : Image → Type 0) (image : Image) → ((outcome : Image) → P outcome → Q outcome) → HasOnly P image
    → HasOnly Q image
only_weaker P Q image follows only =
    record { not_broken = only.not_broken; each = λ outcome has. follows outcome (only.each outcome has) }

-- what was begun stays begun
pub IsBegun-more : (begun more : List Begun) (number : ℕ) (doubt : Option (List FileText)) → IsBegun begun number doubt
    → IsBegun (begun ++ more) number doubt
IsBegun-more begun more number None was = tt
IsBegun-more begun more number (Some entry) was = Contains-append_left begun more (number, entry) was

-- the doubt at the beginning was begun
pub IsBegun-before : (doubt : Option (List FileText)) → IsBegun (begun_before doubt) 0 doubt
IsBegun-before None = tt
IsBegun-before (Some entry) = search rules

-- what was begun last was begun
pub begun_last : (begun : List Begun) (number : ℕ) (entry : List FileText)
    → Contains (begun ++ (number, entry) ∷ []) (number, entry)
begun_last begun number entry = Contains-append_right begun ((number, entry) ∷ []) (number, entry) (search rules)

-- what was reached stays reached: behind more commits, and where more was begun
pub reached_next : (files : Image) (commits next : List (List FileText)) (begun : List Begun) (image : Image)
    → IsReached files commits begun image → IsReached files (commits ++ next) begun image
reached_next files commits next begun image reached = record {
  number = reached.number;
  within = let within = reached.within in omega (arith, length-append commits next);
  doubt = reached.doubt;
  was_begun = reached.was_begun;
  is = subst (λ (prefix : List (List FileText)). HasOnly (IsEither (with_entries files prefix) reached.doubt) image)
      (sym (take-append-le reached.number commits next reached.within)) reached.is;
}

pub reached_begun : (files : Image) (commits : List (List FileText)) (begun more : List Begun) (image : Image)
    → IsReached files commits begun image → IsReached files commits (begun ++ more) image
reached_begun files commits begun more image reached = record {
  number = reached.number;
  within = reached.within;
  doubt = reached.doubt;
  was_begun = IsBegun-more begun more reached.number reached.doubt reached.was_begun;
  is = reached.is;
}

pub reached_more : (files : Image) (commits next : List (List FileText)) (begun more : List Begun) (image : Image)
    → IsReached files commits begun image
    → IsReached files (commits ++ next) (begun ++ more) image
reached_more files commits next begun more image reached =
    reached_next files commits next (begun ++ more) image (reached_begun files commits begun more image reached)

-- an image of now is reached, with all commits
pub reached_now : (files : Image) (commits : List (List FileText)) (begun : List Begun) (doubt : Option (List FileText))
    (image : Image) → IsBegun begun (length commits) doubt
    → HasOnly (IsEither (with_entries files commits) doubt) image → IsReached files commits begun image
reached_now files commits begun doubt image was only = record {
  number = length commits;
  within = omega arith;
  doubt = doubt;
  was_begun = was;
  is = subst (λ (prefix : List (List FileText)). HasOnly (IsEither (with_entries files prefix) doubt) image) (sym (take_all (length commits) commits (omega arith))) only;
}

-- an image amid a commit is reached
pub reached_amid : (files : Image) (commits : List (List FileText)) (begun : List Begun)
    (doubt : Option (List FileText)) (entry : List FileText) (image : Image) → IsBegun begun (length commits) doubt
    → IsAmid (with_entries files commits) doubt entry image
    → IsReached files commits (begun ++ (length commits, entry) ∷ []) image
reached_amid files commits begun doubt entry image was (inl only) =
    reached_now files commits (begun ++ (length commits, entry) ∷ []) doubt image (IsBegun-more begun ((length commits, entry) ∷ []) (length commits) doubt was) only
reached_amid files commits begun doubt entry image was (inr only) =
    reached_now files commits (begun ++ (length commits, entry) ∷ []) (Some entry) image (begun_last begun (length commits) entry) only
