-- Dumps keep the laws of every format.
use Rattle.std.specs.Prelude.{◌≡◌, ◌⊎◌, ℕ, List}
use Rattle.std.proofs.Common.{refl, sym, ap, ◌∙◌, inl, inr}
use Rattle.model_maps.specs.KeyMap.{KeyMap}
use Rattle.model_formats.specs.Format.{IsLawful}
use Rattle.model_dump.specs.Adds.{Adds}
use Rattle.model_dump.specs.Dump.{Reads, IsBadAt, line_at}
use Rattle.model_dump.specs.DumpFormat.{dump}
use Rattle.model_dump.proofs.AddsOnce.{Adds-once}
use Rattle.model_dump.proofs.AddsTold.{Adds-told}
use Rattle.model_dump.proofs.LimitedReads.{Reads-limited}
use Rattle.model_dump.proofs.Readings.{Reads-once, Reads-or-stops, Stops-once}
use Rattle.model_dump.proofs.TextReads.{text-reads}
use Rattle.model_dump.proofs.Totality.{Reads-or_else}

reads_or_bad : (bytes : List ℕ) → ((keys : KeyMap) × Reads Adds bytes keys) ⊎ ((line : ℕ) × IsBadAt Adds bytes line)
reads_or_bad bytes = elim (Reads-or_else Adds Adds-told bytes) as (λ _. ((keys : KeyMap) × Reads Adds bytes keys) ⊎ ((line : ℕ) × IsBadAt Adds bytes line)) [
  | inl reads ↦ inl reads
  | inr stops ↦ inr (line_at bytes stops.0, record { place = stops.0; stops = stops.1; is = refl })
]

one_line : (bytes : List ℕ) (line other : ℕ) → IsBadAt Adds bytes line → IsBadAt Adds bytes other → line ≡ other
one_line bytes line other bad again =
    bad.is
    ∙ (ap (line_at bytes) (Stops-once Adds Adds-once bytes bad.place again.place bad.stops again.stops) ∙ sym again.is)

pub dump-lawful : IsLawful dump
dump-lawful = record {
  text_reads = λ keys limited storable. text-reads keys limited;
  one_reading = Reads-once Adds Adds-once;
  read_is_storable = λ bytes keys reads name entry found. tt;
  read_is_limited = Reads-limited;
  empty_reads = inl (refl, refl);
  reads_or_bad = reads_or_bad;
  read_is_not_bad = λ bytes keys line reads bad. Reads-or-stops Adds Adds-once bytes keys bad.place reads bad.stops;
  one_line = one_line;
  holds_or_not = λ keys name entry. inl tt;
  held_alone = λ keys other name entry keywise holds. tt;
}
