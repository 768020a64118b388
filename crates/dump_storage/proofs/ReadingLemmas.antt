-- How reading goes on record by record, and where it ends.
use Rattle.std.proofs.Common.{◌≡◌, ◌⊎◌, ℕ, ◌+◌, ◌-◌, ◌<◌, ◌≤◌, List, [], ◌∷◌, ◌++◌, length, sym, ap, subst, ◌∙◌, arith, inl, inr, length-append}
use Rattle.std.proofs.lemmas.List.{nil_from_length}
use Rattle.model_maps.specs.KeyMap.{KeyMap}
use Rattle.model_dump.specs.Record.{Record, ending}
use Rattle.model_dump.specs.Adds.{Progress, Adds}
use Rattle.model_dump.specs.Dump.{Begins, Reads, Inside, Behind, IsBadAt, line_at}
use Rattle.model_dump.proofs.Begins.{Begins-more, length_rest-le}
use Rattle.model_dump.proofs.SpelledRecords.{spelled_record-once}
use Rattle.dump_storage.specs.Pieces.{BeginsWith}
use Rattle.dump_storage.specs.ProgressView.{AddsNothing}
use Rattle.dump_storage.specs.Reading.{ReadsRecord, ReadsNoRecord, HasRead, HasReadAll, EndsBefore, HasNoEnding}

-- a record at the front that has no reading goes nowhere
pub ReadsNoRecord-front : (before : Progress) (bytes : List ℕ) (r : Record) (rest : List ℕ) → BeginsWith bytes r rest
    → AddsNothing before r → ReadsNoRecord before bytes
ReadsNoRecord-front before bytes r rest begins nothing after more goes =
    let one = spelled_record-once r goes.r rest more (sym begins.whole ∙ goes.begins.whole) begins.sized goes.begins.sized in
    nothing after (subst (λ (s : Record). Adds before s after) (sym one.0) goes.adds)

-- one record more was read
pub HasRead-more : (bytes rest more : List ℕ) (before after : Progress) → HasRead bytes before rest
    → ReadsRecord before rest after more → HasRead bytes after more
HasRead-more bytes rest more before after read goes = record {
  records = read.records ++ goes.r ∷ [];
  begins = Begins-more Adds bytes read.records before after goes.r more (subst (Begins Adds bytes read.records before) goes.begins.whole read.begins) goes.begins.sized goes.adds;
}

ending_alone : (rest more : List ℕ) → EndsBefore rest more → more ≡ [] → (rest ≡ ending) ⊎ (rest ≡ ending ++ 10 ∷ [])
ending_alone rest more (inl e) none = inl e.0
ending_alone rest more (inr e) none = inr (e ∙ ap (λ x. ending ++ (10 ∷ x)) none)

ending_line : (rest more : List ℕ) → EndsBefore rest more → 1 ≤ length more → rest ≡ ending ++ 10 ∷ more
ending_line rest more (inl e) some = absurd (omega (arith, ap length e.1))
ending_line rest more (inr e) some = e

module _ (bytes rest : List ℕ) (keys : KeyMap) (read : HasReadAll bytes keys rest) where
  -- a whole dump was read where nothing stands behind the ending
  pub Reads-ending : (more : List ℕ) → EndsBefore rest more → length more < 1 → Reads Adds bytes keys
  Reads-ending more ends none =
      inr (record { records = read.read.records; progress = read.progress; rest = rest; begins = read.read.begins; ends = ending_alone rest more ends (nil_from_length more (omega arith)); made = read.made })

  place_at : (more : List ℕ) → length more ≤ length rest → (length bytes - length more) + length more ≡ length bytes
  place_at more part = omega (arith, length_rest-le Adds bytes read.read.records read.progress rest read.read.begins)

  -- reading stops where something stands behind the ending
  pub IsBadAt-behind : (more : List ℕ) (number : ℕ) → EndsBefore rest more → 1 ≤ length more
      → number ≡ line_at bytes (length bytes - length more) → IsBadAt Adds bytes number
  IsBadAt-behind more number ends some is =
      let line = ending_line rest more ends some in
      record {
        place = length bytes - length more;
        stops = Behind (record {
          records = read.read.records;
          progress = read.progress;
          more = more;
          begins = subst (Begins Adds bytes read.read.records read.progress) line read.read.begins;
          some_more = λ none. omega (arith, ap length none);
          at = place_at more (omega (arith, ap length line, length-append ending (10 ∷ more)));
        });
        is = is;
      }

  -- reading stops where neither a record nor the ending stands
  pub IsBadAt-inside : (number : ℕ) → HasNoEnding rest → number ≡ line_at bytes (length bytes - length rest)
      → IsBadAt Adds bytes number
  IsBadAt-inside number none is = record {
    place = length bytes - length rest;
    stops = Inside (record {
      records = read.read.records;
      progress = read.progress;
      rest = rest;
      begins = read.read.begins;
      stops = record {
        no_record = λ r after more sized step e. read.no_more after more (record { r = r; begins = record { sized = sized; whole = e }; adds = step });
        no_end = none.no_end;
        no_end_line = none.no_end_line;
      };
      at = place_at rest (omega arith);
    });
    is = is;
  }
