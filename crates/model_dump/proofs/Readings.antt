-- The same bytes are read in one way, record by record. Each lemma holds of every reader that makes one progress of a
-- record.
use Rattle.std.specs.Prelude.{◌≡◌, ◌≢◌, ◌⊎◌, ℕ, List, [], ◌∷◌, ◌++◌, length}
use Rattle.std.specs.List.{flat_map}
use Rattle.std.proofs.Common.{refl, sym, ap, subst, ◌∙◌, arith, append_assoc, inl, inr}
use Rattle.std.proofs.lemmas.List.{append_cancel_left}
use Rattle.model_maps.specs.KeyMap.{KeyMap}
use Rattle.model_dump.specs.Record.{Record, IsSized, spelled_record, header, ending}
use Rattle.model_dump.specs.Adds.{Progress, start}
use Rattle.model_dump.specs.Dump.{Leads, Begins, IsDump, Reads, HasNoNext, StopsInside, StopsBehind, Stops, AtHeader, Inside, Behind}
use Rattle.model_dump.proofs.SpelledRecords.{spelled_record-once, spelled_record-ending}

-- a record makes one progress of another
abbrev pub IsFunctional : (Progress → Record → Progress → Type 0) → Type 0
IsFunctional Step = (before : Progress) (r : Record) (a b : Progress) → Step before r a → Step before r b → a ≡ b

-- a record that has a reading stands at the front
pub record GoesOn (Step : Progress → Record → Progress → Type 0) (progress : Progress) (rest : List ℕ) : Type 0 where
  pub next : Record
  pub after : Progress
  pub more : List ℕ
  pub sized : IsSized next
  pub step : Step progress next after
  pub whole : rest ≡ spelled_record next ++ more

-- two readings end at one place, with the same records behind them
pub record IsSameReading (rs ss : List Record) (a b : Progress) (x y : List ℕ) : Type 0 where
  pub records : rs ≡ ss
  pub progress : a ≡ b
  pub rest : x ≡ y

-- one of two readings of the same bytes goes on where the other stopped, or they are the same
pub data Compared (Step : Progress → Record → Progress → Type 0) (rs ss : List Record) (a b : Progress) (x y : List ℕ) : Type 0 where
  Same : IsSameReading rs ss a b x y → Compared Step rs ss a b x y
  FirstStopped : GoesOn Step a x → Compared Step rs ss a b x y
  SecondStopped : GoesOn Step b y → Compared Step rs ss a b x y

goes_on : (Step : Progress → Record → Progress → Type 0) (before a middle : Progress) (r : Record) (more x y : List ℕ)
    → before ≡ a → IsSized r → Step before r middle → x ≡ (spelled_record r ++ more) ++ y → GoesOn Step a x
goes_on Step before a middle r more x y same sized step e =
    record {
      next = r;
      after = middle;
      more = more ++ y;
      sized = sized;
      step = subst (λ p. Step p r middle) same step;
      whole = e ∙ append_assoc (spelled_record r) more y;
    }

behind_one : (Step : Progress → Record → Progress → Type 0) (r s : Record) (rs ss : List Record) (a b : Progress)
    (x y : List ℕ) → r ≡ s → Compared Step rs ss a b x y → Compared Step (r ∷ rs) (s ∷ ss) a b x y
behind_one Step r s rs ss a b x y one (Same same) =
    Same (record { records = λ i. one i ∷ same.records i; progress = same.progress; rest = same.rest })
behind_one Step r s rs ss a b x y one (FirstStopped next) = FirstStopped next
behind_one Step r s rs ss a b x y one (SecondStopped next) = SecondStopped next

no_bytes_begin : (Step : Progress → Record → Progress → Type 0) (bytes : List ℕ) (records : List Record)
    (progress : Progress) (rest : List ℕ) → bytes ≡ [] → Begins Step bytes records progress rest → ⊥
no_bytes_begin Step bytes records progress rest none begins = let some = sym none ∙ begins.whole in absurd cc

-- the ending is no record
pub GoesOn-ending : (Step : Progress → Record → Progress → Type 0) (progress : Progress) (rest z : List ℕ)
    → rest ≡ ending ++ z → GoesOn Step progress rest → ⊥
GoesOn-ending Step progress rest z e next = spelled_record-ending next.next next.more z (sym next.whole ∙ e)

pub GoesOn-dump_end : (Step : Progress → Record → Progress → Type 0) (progress : Progress) (rest : List ℕ)
    → (rest ≡ ending) ⊎ (rest ≡ ending ++ 10 ∷ []) → GoesOn Step progress rest → ⊥
GoesOn-dump_end Step progress rest (inl e) = GoesOn-ending Step progress rest [] e
GoesOn-dump_end Step progress rest (inr e) = GoesOn-ending Step progress rest (10 ∷ []) e

pub GoesOn-no_next : (Step : Progress → Record → Progress → Type 0) (progress : Progress) (rest : List ℕ)
    → HasNoNext Step progress rest → GoesOn Step progress rest → ⊥
GoesOn-no_next Step progress rest none next =
    none.no_record next.next next.after next.more next.sized next.step next.whole

no_dump_end : (Step : Progress → Record → Progress → Type 0) (progress : Progress) (rest : List ℕ)
    → HasNoNext Step progress rest → (rest ≡ ending) ⊎ (rest ≡ ending ++ 10 ∷ []) → ⊥
no_dump_end Step progress rest none (inl e) = none.no_end e
no_dump_end Step progress rest none (inr e) = none.no_end_line [] e

nothing_behind : (more : List ℕ) → more ≢ []
    → (ending ++ 10 ∷ more ≡ ending) ⊎ (ending ++ 10 ∷ more ≡ ending ++ 10 ∷ []) → ⊥
nothing_behind more some (inl e) = let longer = ap length e in absurd (omega arith)
nothing_behind more some (inr e) = some (append_cancel_left (ending ++ 10 ∷ []) more [] e)

at_same_rest : (x y : List ℕ) → x ≡ y → (x ≡ ending) ⊎ (x ≡ ending ++ 10 ∷ []) → (y ≡ ending) ⊎ (y ≡ ending ++ 10 ∷ [])
at_same_rest x y same ends = subst (λ z. (z ≡ ending) ⊎ (z ≡ ending ++ 10 ∷ [])) same ends

same_if_none_goes_on : (Step : Progress → Record → Progress → Type 0) (rs ss : List Record) (a b : Progress)
    (x y : List ℕ) → Compared Step rs ss a b x y → (GoesOn Step a x → ⊥) → (GoesOn Step b y → ⊥)
    → IsSameReading rs ss a b x y
same_if_none_goes_on Step rs ss a b x y (Same same) f g = same
same_if_none_goes_on Step rs ss a b x y (FirstStopped next) f g = absurd (f next)
same_if_none_goes_on Step rs ss a b x y (SecondStopped next) f g = absurd (g next)

module _ (Step : Progress → Record → Progress → Type 0) (functional : IsFunctional Step) where
  -- two readings of the same bytes from one progress
  pub Leads-compared : (before : Progress) (rs ss : List Record) (a b : Progress) (x y : List ℕ)
      → Leads Step before rs a → Leads Step before ss b
      → flat_map spelled_record rs ++ x ≡ flat_map spelled_record ss ++ y → Compared Step rs ss a b x y
  Leads-compared before [] [] a b x y p q e = Same (record { records = refl; progress = sym p ∙ q; rest = e })
  Leads-compared before [] (s ∷ ss) a b x y p q e =
      FirstStopped (goes_on Step before a q.0 s (flat_map spelled_record ss) x y p q.1 q.2 e)
  Leads-compared before (r ∷ rs) [] a b x y p q e =
      SecondStopped (goes_on Step before b p.0 r (flat_map spelled_record rs) y x q p.1 p.2 (sym e))
  Leads-compared before (r ∷ rs) (s ∷ ss) a b x y p q e =
      let regrouped = sym (append_assoc (spelled_record r) (flat_map spelled_record rs) x) ∙ e ∙ append_assoc (spelled_record s) (flat_map spelled_record ss) y in
      let one = spelled_record-once r s _ _ regrouped p.1 q.1 in
      let middle = functional before s p.0 q.0 (subst (λ k. Step before k p.0) one.0 p.2) q.2 in
      behind_one Step r s rs ss a b x y one.0 (Leads-compared q.0 rs ss a b x y (subst (λ m. Leads Step m rs a) middle p.3) q.3 one.1)

  -- two readings of the same bytes from their first on
  pub Begins-compared : (bytes : List ℕ) (rs ss : List Record) (a b : Progress) (x y : List ℕ)
      → Begins Step bytes rs a x → Begins Step bytes ss b y → Compared Step rs ss a b x y
  Begins-compared bytes rs ss a b x y p q =
      Leads-compared start rs ss a b x y p.leads q.leads (append_cancel_left header _ _ (sym p.whole ∙ q.whole))

  -- two readings of the same bytes that both go on nowhere are one
  pub Begins-once : (bytes : List ℕ) (rs ss : List Record) (a b : Progress) (x y : List ℕ) → Begins Step bytes rs a x
      → Begins Step bytes ss b y → (GoesOn Step a x → ⊥) → (GoesOn Step b y → ⊥) → IsSameReading rs ss a b x y
  Begins-once bytes rs ss a b x y p q f g =
      same_if_none_goes_on Step rs ss a b x y (Begins-compared bytes rs ss a b x y p q) f g

  -- bytes read as at most one map
  pub Reads-once : (bytes : List ℕ) (a b : KeyMap) → Reads Step bytes a → Reads Step bytes b → a ≡ b
  Reads-once bytes a b (inl p) (inl q) = p.1 ∙ sym q.1
  Reads-once bytes a b (inl p) (inr q) = absurd (no_bytes_begin Step bytes q.records q.progress q.rest p.0 q.begins)
  Reads-once bytes a b (inr p) (inl q) = absurd (no_bytes_begin Step bytes p.records p.progress p.rest q.0 p.begins)
  Reads-once bytes a b (inr p) (inr q) =
      let same = Begins-once bytes p.records q.records p.progress q.progress p.rest q.rest p.begins q.begins (GoesOn-dump_end Step p.progress p.rest p.ends) (GoesOn-dump_end Step q.progress q.rest q.ends) in
      p.made ∙ ap (λ (progress : Progress). progress.keys) same.progress ∙ sym q.made

  -- a whole dump stops nowhere behind some records
  dump_or_inside : (bytes : List ℕ) (keys : KeyMap) (place : ℕ) → IsDump Step bytes keys → StopsInside Step bytes place
      → ⊥
  dump_or_inside bytes keys place p q =
      let same = Begins-once bytes p.records q.records p.progress q.progress p.rest q.rest p.begins q.begins (GoesOn-dump_end Step p.progress p.rest p.ends) (GoesOn-no_next Step q.progress q.rest q.stops) in
      no_dump_end Step q.progress q.rest q.stops (at_same_rest p.rest q.rest same.rest p.ends)

  -- a whole dump has nothing behind the ending's line
  dump_or_behind : (bytes : List ℕ) (keys : KeyMap) (place : ℕ) → IsDump Step bytes keys → StopsBehind Step bytes place
      → ⊥
  dump_or_behind bytes keys place p q =
      let same = Begins-once bytes p.records q.records p.progress q.progress p.rest (ending ++ 10 ∷ q.more) p.begins q.begins (GoesOn-dump_end Step p.progress p.rest p.ends) (GoesOn-ending Step q.progress _ (10 ∷ q.more) refl) in
      nothing_behind q.more q.some_more (at_same_rest p.rest _ same.rest p.ends)

  -- bytes that read as a map stop nowhere
  pub Reads-or-stops : (bytes : List ℕ) (keys : KeyMap) (place : ℕ) → Reads Step bytes keys → Stops Step bytes place → ⊥
  Reads-or-stops bytes keys place (inl p) (AtHeader q) = q.some p.0
  Reads-or-stops bytes keys place (inl p) (Inside q) =
      no_bytes_begin Step bytes q.records q.progress q.rest p.0 q.begins
  Reads-or-stops bytes keys place (inl p) (Behind q) = no_bytes_begin Step bytes q.records q.progress _ p.0 q.begins
  Reads-or-stops bytes keys place (inr p) (AtHeader q) = q.no_header _ p.begins.whole
  Reads-or-stops bytes keys place (inr p) (Inside q) = dump_or_inside bytes keys place p q
  Reads-or-stops bytes keys place (inr p) (Behind q) = dump_or_behind bytes keys place p q

  inside_once : (bytes : List ℕ) (m n : ℕ) → StopsInside Step bytes m → StopsInside Step bytes n → m ≡ n
  inside_once bytes m n p q =
      let same = Begins-once bytes p.records q.records p.progress q.progress p.rest q.rest p.begins q.begins (GoesOn-no_next Step p.progress p.rest p.stops) (GoesOn-no_next Step q.progress q.rest q.stops) in
      omega (arith, ap length same.rest)

  inside_or_behind : (bytes : List ℕ) (m n : ℕ) → StopsInside Step bytes m → StopsBehind Step bytes n → ⊥
  inside_or_behind bytes m n p q =
      let same = Begins-once bytes p.records q.records p.progress q.progress p.rest (ending ++ 10 ∷ q.more) p.begins q.begins (GoesOn-no_next Step p.progress p.rest p.stops) (GoesOn-ending Step q.progress _ (10 ∷ q.more) refl) in
      p.stops.no_end_line q.more same.rest

  behind_once : (bytes : List ℕ) (m n : ℕ) → StopsBehind Step bytes m → StopsBehind Step bytes n → m ≡ n
  behind_once bytes m n p q =
      let same = Begins-once bytes p.records q.records p.progress q.progress (ending ++ 10 ∷ p.more) (ending ++ 10 ∷ q.more) p.begins q.begins (GoesOn-ending Step p.progress _ (10 ∷ p.more) refl) (GoesOn-ending Step q.progress _ (10 ∷ q.more) refl) in
      omega (arith, ap length same.rest)

  -- bytes stop at one place at most
  pub Stops-once : (bytes : List ℕ) (m n : ℕ) → Stops Step bytes m → Stops Step bytes n → m ≡ n
  Stops-once bytes m n (AtHeader p) (AtHeader q) = p.at ∙ sym q.at
  Stops-once bytes m n (AtHeader p) (Inside q) = absurd (p.no_header _ q.begins.whole)
  Stops-once bytes m n (AtHeader p) (Behind q) = absurd (p.no_header _ q.begins.whole)
  Stops-once bytes m n (Inside p) (AtHeader q) = absurd (q.no_header _ p.begins.whole)
  Stops-once bytes m n (Inside p) (Inside q) = inside_once bytes m n p q
  Stops-once bytes m n (Inside p) (Behind q) = absurd (inside_or_behind bytes m n p q)
  Stops-once bytes m n (Behind p) (AtHeader q) = absurd (q.no_header _ p.begins.whole)
  Stops-once bytes m n (Behind p) (Inside q) = absurd (inside_or_behind bytes n m q p)
  Stops-once bytes m n (Behind p) (Behind q) = behind_once bytes m n p q
