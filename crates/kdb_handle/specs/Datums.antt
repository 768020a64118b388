-- A journal over a disk as a datum, which tells two of them apart and names no type: so what knows of an opening
-- needn't name the type of the disk. (This project's own.)
use Rattle.std.specs.Prelude.{ℕ, Bool, List, refl}
use Rattle.std.specs.Coded.{Coded, code_by, coded×, coded_list, coded_ℕ, coded_bool}
use Rattle.intent_journal.specs.Journal.{JournalValue}
use Rattle.journal_codec.specs.declared.files.FileText.{FileText}

abbrev pub coded_text : Coded FileText
coded_text =
    code_by (List ℕ × List ℕ) (coded× (coded_list coded_ℕ) (coded_list coded_ℕ)) (λ t. (t.file, t.bytes)) (λ p. record { file = p.0; bytes = p.1 }) (λ _. refl)

-- a journal, by the datum of its disk
abbrev pub coded_journal : {D : Type 0} → Coded D → Coded (JournalValue D)
coded_journal {D} code =
    code_by (D × ((Bool × ℕ) × (List (List FileText) × (Bool × Bool))))
    (coded× code (coded× (coded× coded_bool coded_ℕ) (coded× (coded_list (coded_list coded_text)) (coded× coded_bool coded_bool))))
    (λ j. (j.disk, ((j.headed, j.start), (j.list, (j.in_doubt, j.recovered)))))
    (λ p. record { disk = p.0; headed = p.1.0.0; start = p.1.0.1; list = p.1.1.0; in_doubt = p.1.1.1.0; recovered = p.1.1.1.1 }) (λ _. refl)
