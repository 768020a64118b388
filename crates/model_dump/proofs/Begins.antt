-- For a reader that goes record by record: how the beginning that it has read grows.
use Rattle.std.specs.Prelude.{◌≡◌, ℕ, ◌≤◌, List, [], ◌∷◌, ◌++◌, length}
use Rattle.std.specs.List.{flat_map}
use Rattle.std.proofs.Common.{refl, sym, ap, subst, ◌∙◌, arith, append_assoc, append-nil, length-append}
use Rattle.std.proofs.lemmas.List.Concat.{flat_map-append}
use Rattle.model_dump.specs.Record.{Record, IsSized, spelled_record, header}
use Rattle.model_dump.specs.Adds.{Progress, start}
use Rattle.model_dump.specs.Dump.{Leads, Begins}

moved : (records : List Record) (r : Record) (rest : List ℕ)
    → flat_map spelled_record records ++ (spelled_record r ++ rest)
    ≡ flat_map spelled_record (records ++ r ∷ []) ++ rest
moved records r rest =
    sym (append_assoc (flat_map spelled_record records) (spelled_record r) rest)
    ∙ ap (λ x. x ++ rest) (ap (λ x. flat_map spelled_record records ++ x) (sym (append-nil (spelled_record r))) ∙ sym (flat_map-append spelled_record records (r ∷ [])))

module _ (Step : Progress → Record → Progress → Type 0) where
  -- one more record behind those that were read
  pub Leads-more : (before progress after : Progress) (records : List Record) (r : Record)
      → Leads Step before records progress → IsSized r → Step progress r after
      → Leads Step before (records ++ r ∷ []) after
  Leads-more before progress after [] r leads sized step =
      (after, sized, subst (λ p. Step p r after) (sym leads) step, refl)
  Leads-more before progress after (s ∷ records) r leads sized step =
      (leads.0, leads.1, leads.2, Leads-more leads.0 progress after records r leads.3 sized step)

  -- behind the header, no record was read
  pub Begins-start : (bytes rest : List ℕ) → bytes ≡ header ++ rest → Begins Step bytes [] start rest
  Begins-start bytes rest e = record { leads = refl; whole = e }

  -- a record that has a reading joins those that were read
  pub Begins-more : (bytes : List ℕ) (records : List Record) (progress after : Progress) (r : Record) (rest : List ℕ)
      → Begins Step bytes records progress (spelled_record r ++ rest) → IsSized r → Step progress r after
      → Begins Step bytes (records ++ r ∷ []) after rest
  Begins-more bytes records progress after r rest begins sized step =
      record {
        leads = Leads-more start progress after records r begins.leads sized step;
        whole = begins.whole ∙ ap (λ x. header ++ x) (moved records r rest);
      }

  -- what is left to read is a part of the bytes
  pub length_rest-le : (bytes : List ℕ) (records : List Record) (progress : Progress) (rest : List ℕ)
      → Begins Step bytes records progress rest → length rest ≤ length bytes
  length_rest-le bytes records progress rest begins =
      omega (arith, ap length begins.whole, length-append header (flat_map spelled_record records ++ rest), length-append (flat_map spelled_record records) rest)
