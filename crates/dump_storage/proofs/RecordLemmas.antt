-- Bytes begin with the pieces of a record in one way.
use Rattle.std.proofs.Common.{◌≡◌, ◌≢◌, ℕ, false, List, ◌∷◌, ◌++◌, length, refl, sym, ◌∙◌}
use Rattle.std.specs.Char.{is_ascii_digit}
use Rattle.std.specs.Fmt.{decimal}
use Rattle.model_dump.specs.Record.{RecordKind, KeyKind, MetaKind, CopyKind, Record, words_of}
use Rattle.model_dump.proofs.SpelledRecords.{size_once, fronts_once, words_once, spelled_record-lengths}
use Rattle.dump_storage.specs.Pieces.{BeginsWithSize, BeginsWithNoSize, BeginsWithNoWords, BeginsWithSizes, BeginsWithNoSizes, BeginsWithText, BeginsWithNoText, BeginsWith, BeginsWithNoRecord}
use Rattle.dump_storage.proofs.SizeLemmas.{take_while-size}

BeginsWithSize-once : (bytes x y : List ℕ) (last m n : ℕ) → is_ascii_digit last ≡ false → BeginsWithSize bytes last m x
    → BeginsWithSize bytes last n y → (m ≡ n) × (x ≡ y)
BeginsWithSize-once bytes x y last m n ends p q =
    let one = take_while-size bytes x last m ends p in
    let other = take_while-size bytes y last n ends q in
    let rests = sym one.1 ∙ other.1 in
    (size_once m n p.small q.small (sym one.0 ∙ other.0), cc)

BeginsWithText-once : (bytes a b x y : List ℕ) (size : ℕ) → BeginsWithText bytes size a x
    → BeginsWithText bytes size b y → (a ≡ b) × (x ≡ y)
BeginsWithText-once bytes a b x y size p q =
    let fronts = fronts_once a b (10 ∷ x) (10 ∷ y) (p.sized ∙ sym q.sized) (sym p.whole ∙ q.whole) in
    (fronts.0, cc)

-- three kinds have words
pub BeginsWithNoWords-three : (bytes : List ℕ) → ((rest : List ℕ) → bytes ≢ words_of KeyKind ++ rest)
    → ((rest : List ℕ) → bytes ≢ words_of MetaKind ++ rest) → ((rest : List ℕ) → bytes ≢ words_of CopyKind ++ rest)
    → BeginsWithNoWords bytes
BeginsWithNoWords-three bytes no_key no_meta no_copy KeyKind = no_key
BeginsWithNoWords-three bytes no_key no_meta no_copy MetaKind = no_meta
BeginsWithNoWords-three bytes no_key no_meta no_copy CopyKind = no_copy

module _ (bytes sizes : List ℕ) (kind : RecordKind) (words : bytes ≡ words_of kind ++ sizes) where
  -- behind the words stands the first size
  first_size : (k : RecordKind) (first second : ℕ) (rest : List ℕ) → BeginsWithSizes bytes k first second rest
      → BeginsWithSize sizes 32 first (decimal second ++ (10 ∷ rest))
  first_size k first second rest begins =
      record { small = begins.first_small; whole = (words_once kind k sizes _ (sym words ∙ begins.whole)).1 }

  -- nor where no second one does
  pub BeginsWithNoSizes-second : (n : ℕ) (seconds : List ℕ) → BeginsWithSize sizes 32 n seconds
      → BeginsWithNoSize seconds 10 → BeginsWithNoSizes bytes
  BeginsWithNoSizes-second n seconds one none k first second rest begins =
      let same = BeginsWithSize-once sizes seconds _ 32 n first refl one (first_size k first second rest begins) in
      none second rest (record { small = begins.second_small; whole = same.1 })

module _ (bytes texts : List ℕ) (kind : RecordKind) (m n : ℕ) (sizes : BeginsWithSizes bytes kind m n texts) where
  -- behind the sizes stands the first text
  first_text : (r : Record) (rest : List ℕ) → BeginsWith bytes r rest
      → BeginsWithText texts m r.first (r.second ++ (10 ∷ rest)) × (length r.second ≡ n)
  first_text r rest begins =
      let lengths = spelled_record-lengths r kind rest m n texts begins.sized sizes.first_small sizes.second_small (sym begins.whole ∙ sizes.whole) in
      (record { sized = lengths.1; whole = sym lengths.3 }, lengths.2)

  -- no record stands where no first text of its size does
  pub BeginsWithNoRecord-first : BeginsWithNoText texts m → BeginsWithNoRecord bytes
  BeginsWithNoRecord-first none r rest begins = none r.first _ (first_text r rest begins).0

  -- nor where no second one of its size does
  pub BeginsWithNoRecord-second : (front more : List ℕ) → BeginsWithText texts m front more → BeginsWithNoText more n
      → BeginsWithNoRecord bytes
  BeginsWithNoRecord-second front more one none r rest begins =
      let text = first_text r rest begins in
      let same = BeginsWithText-once texts front r.first more _ m one text.0 in
      none r.second rest (record { sized = text.1; whole = same.1 })
