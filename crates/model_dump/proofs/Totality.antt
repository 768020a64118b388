-- Bytes read as a map or stop somewhere: of each record it can be told whether it stands at the front and has a
-- reading.
use Rattle.std.specs.Prelude.{◌≡◌, ◌≢◌, ◌⊎◌, ℕ, zero, suc, ◌-◌, ◌<◌, ◌≤◌, List, [], ◌∷◌, ◌++◌, length}
use Rattle.std.specs.List.{flat_map}
use Rattle.std.specs.Fmt.{decimal}
use Rattle.std.proofs.Common.{refl, sym, ap, subst, ◌∙◌, arith, append_assoc, append-nil, length-append, inl, inr}
use Rattle.std.proofs.lemmas.List.{append_cancel_left}
use Rattle.model_maps.specs.KeyMap.{KeyMap, no_keys}
use Rattle.model_formats.proofs.Telling.{IsTold, told-along, equal-told, below-told}
use Rattle.model_dump.specs.Record.{RecordKind, KeyKind, MetaKind, CopyKind, Record, words_of, size_limit, IsSized, sizes_and_texts, spelled_record, header, ending}
use Rattle.model_dump.specs.Adds.{Progress, start}
use Rattle.model_dump.specs.Dump.{Begins, Reads, Stops, AtHeader, Inside, Behind}
use Rattle.model_dump.proofs.SpelledRecords.{fronts_once, spelled_record-once}
use Rattle.model_dump.proofs.Readings.{GoesOn}
use Rattle.model_dump.proofs.Begins.{Begins-start, Begins-more}

-- bytes begin with a front, or they don't
pub front-told : (front bytes : List ℕ) → IsTold ((rest : List ℕ) × (bytes ≡ front ++ rest))
front-told [] bytes = inl (bytes, refl)
front-told (b ∷ front) [] = inr (λ found. let e = found.1 in absurd cc)
front-told (b ∷ front) (c ∷ bytes) = elim (equal-told c b) as (λ _. IsTold ((rest : List ℕ) × (c ∷ bytes ≡ b ∷ front ++ rest))) [
  | inl same ↦ told-along (λ found. (found.0, λ i. same i ∷ found.1 i)) (λ found. let e = found.1 in (found.0, cc)) (front-told front bytes)
  | inr other ↦ inr (λ found. let e = found.1 in other cc)
]

-- the bytes begin with a text of this size, and a line feed behind it
pub record BeginsWithText (size : ℕ) (bytes : List ℕ) : Type 0 where
  pub text : List ℕ
  pub rest : List ℕ
  pub sized : length text ≡ size
  pub whole : bytes ≡ text ++ (10 ∷ rest)

text-told : (size : ℕ) (bytes : List ℕ) → IsTold (BeginsWithText size bytes)
text-told zero bytes = told-along
    (λ found. record { text = []; rest = found.0; sized = refl; whole = found.1 })
    (λ (t : BeginsWithText zero bytes). (t.rest, t.whole ∙ none t.text t.rest t.sized))
    (front-told (10 ∷ []) bytes)
  where
    none : (text rest : List ℕ) → length text ≡ 0 → text ++ (10 ∷ rest) ≡ 10 ∷ rest
    none [] rest e = refl
    none (b ∷ text) rest e = absurd (omega arith)
text-told (suc size) [] = inr (λ t. empty t.text t.rest t.whole)
  where
    empty : (text rest : List ℕ) → [] ≡ text ++ (10 ∷ rest) → ⊥
    empty [] rest e = absurd cc
    empty (b ∷ text) rest e = absurd cc
text-told (suc size) (b ∷ bytes) = told-along
    (λ (t : BeginsWithText size bytes). record { text = b ∷ t.text; rest = t.rest; sized = ap suc t.sized; whole = ap (λ rest. b ∷ rest) t.whole })
    (λ (t : BeginsWithText (suc size) (b ∷ bytes)). shorter t.text t.rest t.sized t.whole)
    (text-told size bytes)
  where
    shorter : (text rest : List ℕ) → length text ≡ suc size → b ∷ bytes ≡ text ++ (10 ∷ rest)
        → BeginsWithText size bytes
    shorter [] rest sized whole = absurd (omega arith)
    shorter (c ∷ text) rest sized whole =
        let behind : bytes ≡ text ++ (10 ∷ rest) = cc in record { text = text; rest = rest; sized = omega arith; whole = behind }

-- behind the line of a record stand its two texts
pub record HasTexts (m n : ℕ) (bytes : List ℕ) : Type 0 where
  pub first : List ℕ
  pub second : List ℕ
  pub rest : List ℕ
  pub first_sized : length first ≡ m
  pub second_sized : length second ≡ n
  pub whole : bytes ≡ first ++ (10 ∷ (second ++ (10 ∷ rest)))

texts-told : (m n : ℕ) (bytes : List ℕ) → IsTold (HasTexts m n bytes)
texts-told m n bytes = elim (text-told m bytes) as (λ _. IsTold (HasTexts m n bytes)) [
  | inl one ↦ told-along
      (λ (two : BeginsWithText n one.rest). record { first = one.text; second = two.text; rest = two.rest; first_sized = one.sized; second_sized = two.sized; whole = one.whole ∙ ap (λ rest. one.text ++ (10 ∷ rest)) two.whole })
      (λ (t : HasTexts m n bytes).
      let same = fronts_once one.text t.first (10 ∷ one.rest) _ (one.sized ∙ sym t.first_sized) (sym one.whole ∙ t.whole) in
      let behind : one.rest ≡ t.second ++ (10 ∷ t.rest) = let e = same.1 in cc in
      record { text = t.second; rest = t.rest; sized = t.second_sized; whole = behind })
      (text-told n one.rest)
  | inr fails ↦ inr (λ (t : HasTexts m n bytes). fails (record { text = t.first; rest = t.second ++ (10 ∷ t.rest); sized = t.first_sized; whole = t.whole }))
]

-- a record stands at the front
pub record HasRecord (bytes : List ℕ) : Type 0 where
  pub r : Record
  pub rest : List ℕ
  pub sized : IsSized r
  pub whole : bytes ≡ spelled_record r ++ rest

-- the same with its kind and sizes
pub record HasRecordOf (kind : RecordKind) (m n : ℕ) (bytes : List ℕ) : Type 0 where
  pub first : List ℕ
  pub second : List ℕ
  pub rest : List ℕ
  pub first_sized : length first ≡ m
  pub second_sized : length second ≡ n
  pub whole : bytes ≡ words_of kind ++ (sizes_and_texts first second ++ rest)

-- a record's first line
abbrev line_of : RecordKind → ℕ → ℕ → List ℕ
line_of kind m n = words_of kind ++ (decimal m ++ (32 ∷ (decimal n ++ (10 ∷ []))))

line_of-behind : (kind : RecordKind) (first second rest : List ℕ)
    → words_of kind ++ (sizes_and_texts first second ++ rest)
    ≡ line_of kind (length first) (length second) ++ (first ++ (10 ∷ (second ++ (10 ∷ rest))))
line_of-behind kind first second rest = simp append_assoc

of-told : (kind : RecordKind) (bytes : List ℕ) (m n : ℕ) → IsTold (HasRecordOf kind m n bytes)
of-told kind bytes m n = elim (front-told (line_of kind m n) bytes) as (λ _. IsTold (HasRecordOf kind m n bytes)) [
  | inl line ↦ told-along
      (λ (t : HasTexts m n line.0). record {
        first = t.first;
        second = t.second;
        rest = t.rest;
        first_sized = t.first_sized;
        second_sized = t.second_sized;
        whole =
            line.1 ∙ ap (λ x. line_of kind m n ++ x) t.whole ∙ ap (λ k. line_of kind k n ++ (t.first ++ (10 ∷ (t.second ++ (10 ∷ t.rest))))) (sym t.first_sized) ∙ ap (λ k. line_of kind (length t.first) k ++ (t.first ++ (10 ∷ (t.second ++ (10 ∷ t.rest))))) (sym t.second_sized) ∙ sym (line_of-behind kind t.first t.second t.rest);
      })
      (λ (r : HasRecordOf kind m n bytes). record { first = r.first; second = r.second; rest = r.rest; first_sized = r.first_sized; second_sized = r.second_sized; whole = append_cancel_left (line_of kind m n) line.0 _ (sym line.1 ∙ behind r) })
      (texts-told m n line.0)
  | inr fails ↦ inr (λ (r : HasRecordOf kind m n bytes). fails (r.first ++ (10 ∷ (r.second ++ (10 ∷ r.rest))), behind r))
]
  where
    behind : (r : HasRecordOf kind m n bytes)
        → bytes ≡ line_of kind m n ++ (r.first ++ (10 ∷ (r.second ++ (10 ∷ r.rest))))
    behind r = r.whole ∙ line_of-behind kind r.first r.second r.rest
        ∙ ap (λ k. line_of kind k (length r.second) ++ (r.first ++ (10 ∷ (r.second ++ (10 ∷ r.rest))))) r.first_sized
        ∙ ap (λ k. line_of kind m k ++ (r.first ++ (10 ∷ (r.second ++ (10 ∷ r.rest))))) r.second_sized

-- a record of this kind, of any sizes
abbrev HasKind : RecordKind → List ℕ → Type 0
HasKind kind bytes = (m : ℕ) × (m < size_limit) × ((n : ℕ) × (n < size_limit) × HasRecordOf kind m n bytes)

kind-told : (kind : RecordKind) (bytes : List ℕ) → IsTold (HasKind kind bytes)
kind-told kind bytes =
    below-told (λ m. (n : ℕ) × (n < size_limit) × HasRecordOf kind m n bytes) (λ m. below-told (λ n. HasRecordOf kind m n bytes) (of-told kind bytes m) size_limit) size_limit

of-record : (kind : RecordKind) (bytes : List ℕ) → HasKind kind bytes → HasRecord bytes
of-record kind bytes found = let f = found.2.2 in
    record {
      r = record { kind = kind; first = f.first; second = f.second };
      rest = f.rest;
      sized = record { first = subst (λ k. k < size_limit) (sym f.first_sized) found.1; second = subst (λ k. k < size_limit) (sym f.second_sized) found.2.1 };
      whole = f.whole ∙ sym (append_assoc (words_of kind) (sizes_and_texts f.first f.second) f.rest);
    }

to-kind : (bytes : List ℕ) (r : HasRecord bytes) → HasKind r.r.kind bytes
to-kind bytes r =
    (length r.r.first, r.sized.first, (length r.r.second, r.sized.second, record { first = r.r.first; second = r.r.second; rest = r.rest; first_sized = refl; second_sized = refl; whole = r.whole ∙ append_assoc (words_of r.r.kind) (sizes_and_texts r.r.first r.r.second) r.rest }))

no_kind : (bytes : List ℕ) → (HasKind KeyKind bytes → ⊥) → (HasKind MetaKind bytes → ⊥) → (HasKind CopyKind bytes → ⊥)
    → (kind : RecordKind) → HasKind kind bytes → ⊥
no_kind bytes key meta copy KeyKind = key
no_kind bytes key meta copy MetaKind = meta
no_kind bytes key meta copy CopyKind = copy

record-told : (bytes : List ℕ) → IsTold (HasRecord bytes)
record-told bytes = elim (kind-told KeyKind bytes) as (λ _. IsTold (HasRecord bytes)) [
  | inl found ↦ inl (of-record KeyKind bytes found)
  | inr key ↦ elim (kind-told MetaKind bytes) as (λ _. IsTold (HasRecord bytes)) [
    | inl found ↦ inl (of-record MetaKind bytes found)
    | inr meta ↦ elim (kind-told CopyKind bytes) as (λ _. IsTold (HasRecord bytes)) [
      | inl found ↦ inl (of-record CopyKind bytes found)
      | inr copy ↦ inr (λ r. no_kind bytes key meta copy r.r.kind (to-kind bytes r))
    ]
  ]
]

-- a record has a reading or none
abbrev pub IsDecided : (Progress → Record → Progress → Type 0) → Type 0
IsDecided Step = (before : Progress) (r : Record) → IsTold ((after : Progress) × Step before r after)

-- the bytes behind the header, as far as records have a reading
pub record IsRead (Step : Progress → Record → Progress → Type 0) (bytes : List ℕ) : Type 0 where
  pub records : List Record
  pub progress : Progress
  pub rest : List ℕ
  pub begins : Begins Step bytes records progress rest
  pub stops : GoesOn Step progress rest → ⊥

some_record : (r : Record) → 0 < length (spelled_record r)
some_record r = words r.kind (sizes_and_texts r.first r.second)
  where
    words : (kind : RecordKind) (x : List ℕ) → 0 < length (words_of kind ++ x)
    words KeyKind x = omega arith
    words MetaKind x = omega arith
    words CopyKind x = omega arith

module _ (Step : Progress → Record → Progress → Type 0) (decided : IsDecided Step) where
  next-told : (progress : Progress) (rest : List ℕ) → IsTold (GoesOn Step progress rest)
  next-told progress rest = elim (record-told rest) as (λ _. IsTold (GoesOn Step progress rest)) [
    | inl found ↦ told-along
        (λ (step : (after : Progress) × Step progress found.r after). record { next = found.r; after = step.0; more = found.rest; sized = found.sized; step = step.1; whole = found.whole })
        (λ (next : GoesOn Step progress rest).
        let one = spelled_record-once next.next found.r next.more found.rest (sym next.whole ∙ found.whole) next.sized found.sized in
        (next.after, subst (λ k. Step progress k next.after) one.0 next.step))
        (decided progress found.r)
    | inr fails ↦ inr (λ (next : GoesOn Step progress rest). fails (record { r = next.next; rest = next.more; sized = next.sized; whole = next.whole }))
  ]

  read_on : (bytes : List ℕ) (most : ℕ) (records : List Record) (progress : Progress) (rest : List ℕ)
      → length rest < most → Begins Step bytes records progress rest → IsRead Step bytes
  read_on bytes zero records progress rest fits begins = absurd (omega arith)
  read_on bytes (suc most) records progress rest fits begins = elim (next-told progress rest) as (λ _. IsRead Step bytes) [
    | inl next ↦
        let shorter : length next.more < most = omega (arith, ap length next.whole, length-append (spelled_record next.next) next.more, some_record next.next) in
        read_on bytes most (records ++ next.next ∷ []) next.after next.more shorter
        (Begins-more Step bytes records progress next.after next.next next.more (subst (Begins Step bytes records progress) next.whole begins) next.sized next.step)
    | inr stops ↦ record { records = records; progress = progress; rest = rest; begins = begins; stops = stops }
  ]

  -- behind the last record stands the ending, or something that has no reading
  ended : (bytes : List ℕ) → IsRead Step bytes
      → ((keys : KeyMap) × Reads Step bytes keys) ⊎ ((place : ℕ) × Stops Step bytes place)
  ended bytes read = elim (front-told ending read.rest) as (λ _. ((keys : KeyMap) × Reads Step bytes keys) ⊎ ((place : ℕ) × Stops Step bytes place)) [
    | inl end ↦ at_end end.0 end.1
    | inr fails ↦ inside (λ e. fails ([], e ∙ sym (append-nil ending))) (λ more e. fails (10 ∷ more, e))
  ]
    where
      rest_fits : length read.rest ≤ length bytes
      rest_fits =
          omega (arith, ap length read.begins.whole, length-append header (flat_map spelled_record read.records ++ read.rest), length-append (flat_map spelled_record read.records) read.rest)

      inside : (read.rest ≢ ending) → ((more : List ℕ) → read.rest ≢ ending ++ 10 ∷ more)
          → ((keys : KeyMap) × Reads Step bytes keys) ⊎ ((place : ℕ) × Stops Step bytes place)
      inside no_end no_line = inr (
        length bytes - length read.rest,
        Inside (record {
          records = read.records;
          progress = read.progress;
          rest = read.rest;
          begins = read.begins;
          stops = record { no_record = λ r after more sized step whole. read.stops (record { next = r; after = after; more = more; sized = sized; step = step; whole = whole }); no_end = no_end; no_end_line = no_line };
          at = omega (arith, rest_fits);
        }),
      )

      behind : (more : List ℕ) → read.rest ≡ ending ++ 10 ∷ more
          → ((keys : KeyMap) × Reads Step bytes keys) ⊎ ((place : ℕ) × Stops Step bytes place)
      behind [] e =
          inl (read.progress.keys, inr (record { records = read.records; progress = read.progress; rest = read.rest; begins = read.begins; ends = inr e; made = refl }))
      behind (b ∷ more) e = inr (
        length bytes - length (b ∷ more),
        Behind (record {
          records = read.records;
          progress = read.progress;
          more = b ∷ more;
          begins = subst (Begins Step bytes read.records read.progress) e read.begins;
          some_more = λ none. absurd cc;
          at = omega (arith, rest_fits, ap length e, length-append ending (10 ∷ b ∷ more));
        }),
      )

      at_end : (more : List ℕ) → read.rest ≡ ending ++ more
          → ((keys : KeyMap) × Reads Step bytes keys) ⊎ ((place : ℕ) × Stops Step bytes place)
      at_end [] e =
          inl (read.progress.keys, inr (record { records = read.records; progress = read.progress; rest = read.rest; begins = read.begins; ends = inl (e ∙ append-nil ending); made = refl }))
      at_end (b ∷ more) e = elim (equal-told b 10) as (λ _. ((keys : KeyMap) × Reads Step bytes keys) ⊎ ((place : ℕ) × Stops Step bytes place)) [
        | inl feed ↦ behind more (e ∙ ap (λ c. ending ++ c ∷ more) feed)
        | inr other ↦ inside
            (λ none. let longer = ap length (sym e ∙ none) in absurd (omega arith))
            (λ rest line. let same = append_cancel_left ending (b ∷ more) (10 ∷ rest) (sym e ∙ line) in other cc)
      ]

  -- bytes read as a map or stop somewhere
  pub Reads-or_else : (bytes : List ℕ)
      → ((keys : KeyMap) × Reads Step bytes keys) ⊎ ((place : ℕ) × Stops Step bytes place)
  Reads-or_else [] = inl (no_keys, inl (refl, refl))
  Reads-or_else (b ∷ bytes) = elim (front-told header (b ∷ bytes)) as (λ _. ((keys : KeyMap) × Reads Step (b ∷ bytes) keys) ⊎ ((place : ℕ) × Stops Step (b ∷ bytes) place)) [
    | inl first ↦ ended (b ∷ bytes) (read_on (b ∷ bytes) (suc (length first.0)) [] start first.0 (omega arith) (Begins-start Step (b ∷ bytes) first.0 first.1))
    | inr fails ↦ inr (0, AtHeader (record { some = λ none. absurd cc; no_header = λ more e. fails (more, e); at = refl }))
  ]
