-- What each rule allows, what it reads, and where it tells that a body isn't whole.
use Rattle.std.proofs.Common.{◌≡◌, ℕ, ◌+◌, ◌-◌, ◌≤◌, Bool, true, false, cond, List, length, Option, Some, None, Result, Ok, Err, refl, ap, ◌∙◌, arith}
use Rattle.journal_codec.specs.declared.files.FileText.{FileText}
use Rattle.journal_codec.specs.Entry.{IsEntry}
use Rattle.journal_codec.specs.Forms.{followed, uncounted}
use Rattle.journal_codec.specs.Listed.{are_listed, is_next_of, read_listed}
use Rattle.journal_codec.specs.Reading.{Fails, is_next_name, all_of, reading_of, read_body}
use Rattle.journal_codec.proofs.FormLemmas.{length-uncounted, read_again_on}
use Rattle.journal_codec.proofs.ListedLemmas.{listed_again}
use Rattle.journal_codec.specs.declared.faults.DecodeFault.{DecodeFault}
use Rattle.journal_codec.specs.declared.faults.DecodeFault.TheVariants.{BadJournal as BadBytes, Memory as OutOfMemory}
use Rattle.journal_steps.specs.declared.faults.JournalFault.TheVariants.{BadJournal}
use Rattle.journal_lists.specs.Grammar.{placed}
use Rattle.journal_lists.specs.Rules.{Rule, plain, listed, rule_of, IsAllowed}
use Rattle.journal_lists.specs.Starts.{told_fault}

-- an entry that is written
pub allowed_plain : (entry : List FileText) → IsEntry entry → IsAllowed plain entry
allowed_plain entry is = record { is_entry = is; again = read_again_on entry is }

pub allowed_listed : (names : List (List ℕ)) (entry : List FileText) → IsEntry entry → are_listed names entry ≡ true
    → IsAllowed (listed names) entry
allowed_listed names entry is in_names = record { is_entry = is; again = listed_again names entry is in_names }

-- the place is in the body
place_within : (size at : ℕ) (read : Result (List FileText) ℕ) → reading_of size read ≡ Fails at → at ≤ size
place_within size at (Ok files) is = absurd (cc)
place_within size at (Err left) is = let placed : size - left ≡ at = cc in omega arith

plain_within : (body : List ℕ) (at : ℕ) → read_body body ≡ Fails at → at ≤ length body
unfolding read_body
plain_within body at is = place_within (length body) at (all_of is_next_name body) is

place_if : (b : Bool) (size at : ℕ) (read : Result (List FileText) ℕ)
    → cond b (reading_of size read) (Fails 0) ≡ Fails at → at ≤ size
place_if true size at read is = place_within size at read is
place_if false size at read is = let first : 0 ≡ at = cc in omega arith

listed_within : (names : List (List ℕ)) (body : List ℕ) (at : ℕ) → read_listed names body ≡ Fails at → at ≤ length body
unfolding read_listed
listed_within names body at is =
    place_if (followed body) (length body) at (all_of (is_next_of (Some names)) (uncounted body)) is

pub fails_within : (names : Option (List (List ℕ))) (body : List ℕ) (at : ℕ) → (rule_of names).read body ≡ Fails at
    → at ≤ length body
fails_within None body at is =
    let within = plain_within (uncounted body) at is in let sized = length-uncounted body in omega arith
fails_within (Some names) body at is = listed_within names body at is

-- the fault of a body that isn't whole, so many bytes behind the first one that is counted
pub told_bad : (rule : Rule) (before place : ℕ) (fault : DecodeFault) (r : Result (List FileText) ℕ) (at : ℕ)
    → ((inner : ℕ) → rule.told place inner ≡ before + inner)
    → ((inner : ℕ) → fault ≡ BadBytes inner → r ≡ Err inner) → told_fault before fault ≡ BadJournal at
    → placed rule place r ≡ Err at
told_bad rule before place (BadBytes inner) r at told bad is =
    let same : before + inner ≡ at = cc in
    ap (placed rule place) (bad inner refl) ∙ ap (λ (n : ℕ). Err n) (told inner ∙ same)
told_bad rule before place OutOfMemory r at told bad is = absurd (cc)
