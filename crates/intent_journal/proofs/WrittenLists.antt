-- What this program wrote is read as it is.
use Rattle.std.proofs.Common.{◌≡◌, List, ℕ, Ok, sym, subst}
use Rattle.kdb_outside.specs.Images.{Image}
use Rattle.journal_codec.specs.declared.files.FileText.{FileText}
use Rattle.journal_codec.specs.Entry.{journal2_name}
use Rattle.journal_lists.specs.Journals.{OpensJournal, journal_in}
use Rattle.journal_lists.proofs.Journals.{journal_is, written_opens}
use Rattle.intent_journal.specs.States.{IsListed}

-- the entries of a list that is there for good are open
pub listed_opens : (c : List ℕ) (leaves : List ℕ → List ℕ → Type 0) (names : List (List ℕ)) (before : Image)
    (entries : List (List FileText)) → leaves journal2_name c
    → IsListed leaves names before entries → OpensJournal c entries
listed_opens c leaves names before entries is state =
    let begins = state.journal c is in
    subst (λ (bytes : List ℕ). OpensJournal bytes entries) (sym begins.1) (written_opens names entries begins.0 state.header state.fits begins.2)

-- so the list is read again
pub listed_again : (c : List ℕ) (leaves : List ℕ → List ℕ → Type 0) (names : List (List ℕ)) (before : Image)
    (entries : List (List FileText)) → leaves journal2_name c
    → IsListed leaves names before entries → journal_in c ≡ Ok entries
listed_again c leaves names before entries is state =
    journal_is c entries (listed_opens c leaves names before entries is state)
