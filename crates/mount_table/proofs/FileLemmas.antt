-- Which texts name files of mounts, by the test of files' names.
use Rattle.std.proofs.Common.{◌≡◌, ℕ, false, not, ◌&&◌, nat_eq, List, Option, Some, None, SomeIff, codes, sym, ap, ◌∙◌}
use Rattle.std.specs.List.{starts_with}
use Rattle.std.proofs.lemmas.Bool.{cond-true, cond-false, and_from, false_from_ne_true, not_from_false, and_parts}
use Rattle.kdb_outside.specs.FileName.{IsFileName, is_file_name}
use Rattle.kdb_outside.proofs.FileNameLemmas.{is_file_name-Decides}
use Rattle.mount_table.specs.Points.{file_of}

-- any other names one where it is a file's name
pub file_of-other : (text : List ℕ) (found : Option (List ℕ)) → starts_with nat_eq text (codes "journal") ≡ false
    → SomeIff found (IsFileName text) text → found ≡ file_of text
file_of-other text None other none =
    sym (cond-false (is_file_name text && not (starts_with nat_eq text (codes "journal"))) _ _ (false_from_ne_true _ (λ h. none ((is_file_name-Decides text).0 (and_parts _ _ h).0))))
file_of-other text (Some file) other is =
    ap (λ f. Some f) is.1
    ∙ sym (cond-true (is_file_name text && not (starts_with nat_eq text (codes "journal"))) (Some text) None (and_from _ _ ((is_file_name-Decides text).1 is.0) (not_from_false _ other)))
