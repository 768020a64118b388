-- Raw parts are cut at the bare slashes, and at these alone.
use Rattle.std.proofs.Common.{◌≡◌, ◌≢◌, ℕ, Bool, true, false, ◌==◌, List, [], ◌∷◌, ◌++◌, refl, sym, ap, subst, ◌∙◌, inl, inr, arith}
use Rattle.std.specs.List.{onto_first}
use Rattle.std.proofs.lemmas.Bool.{cases_eq, eq-eqb, ne_eqb}
use Rattle.model_names.specs.RawParts.{raw_parts_from, put_before}
use Rattle.model_names.specs.RawCuts.{HasWholeEscapes, Empty, Byte, Escape, HasBareSlash, AreCut}
use Rattle.general_words.proofs.Lists.{head_is, tail_is}

whole_behind : (b : ℕ) (bytes : List ℕ) → b ≢ 92 → HasWholeEscapes (b ∷ bytes) → HasWholeEscapes bytes
whole_behind b bytes other (Byte c left ne rest) = rest
whole_behind b bytes other (Escape c left rest) = absurd (other refl)

-- what stands behind an escape
record Escaped (bytes : List ℕ) : Type 0 where
  byte : ℕ
  left : List ℕ
  is : bytes ≡ byte ∷ left
  whole : HasWholeEscapes left

escape_behind : (b : ℕ) (bytes : List ℕ) → b ≡ 92 → HasWholeEscapes (b ∷ bytes) → Escaped bytes
escape_behind b bytes is (Byte c left ne rest) = absurd (ne is)
escape_behind b bytes is (Escape c left rest) = record { byte = c; left = left; is = refl; whole = rest }

no_bare-nil : HasBareSlash [] → ⊥
no_bare-nil h = by h.before h.split
  where
    by : (before : List ℕ) → [] ≡ before ++ 47 ∷ h.behind → ⊥
    by [] e = absurd cc
    by (b ∷ before) e = absurd cc

-- an ordinary byte brings no bare slash
no_bare-byte : (b : ℕ) (raw : List ℕ) → b ≢ 92 → b ≢ 47 → (HasBareSlash raw → ⊥) → HasBareSlash (b ∷ raw) → ⊥
no_bare-byte b raw ordinary other none h = by h.before h.split h.whole
  where
    by : (before : List ℕ) → b ∷ raw ≡ before ++ 47 ∷ h.behind → HasWholeEscapes before → ⊥
    by [] e whole = other (head_is _ _ _ _ e)
    by (c ∷ before) e whole =
        let same = head_is b c raw (before ++ 47 ∷ h.behind) e in
        none (record { before = before; behind = h.behind; split = tail_is _ _ _ _ e; whole = whole_behind c before (λ q. ordinary (same ∙ q)) whole })

-- nor does an escaped one
no_bare-escape : (b : ℕ) (raw : List ℕ) → (HasBareSlash raw → ⊥) → HasBareSlash (92 ∷ b ∷ raw) → ⊥
no_bare-escape b raw none h = by h.before h.split h.whole
  where
    at : (before : List ℕ) → b ∷ raw ≡ before ++ 47 ∷ h.behind → Escaped before → ⊥
    at before e escaped =
        let split : b ∷ raw ≡ escaped.byte ∷ (escaped.left ++ 47 ∷ h.behind) = e ∙ ap (λ t. t ++ 47 ∷ h.behind) escaped.is in
        none (record { before = escaped.left; behind = h.behind; split = tail_is _ _ _ _ split; whole = escaped.whole })

    by : (before : List ℕ) → 92 ∷ b ∷ raw ≡ before ++ 47 ∷ h.behind → HasWholeEscapes before → ⊥
    by [] e whole = absurd (omega (arith, head_is 92 47 (b ∷ raw) h.behind e))
    by (c ∷ before) e whole =
        at before (tail_is _ _ _ _ e) (escape_behind c before (sym (head_is 92 c (b ∷ raw) (before ++ 47 ∷ h.behind) e)) whole)

no_bare-backslash : HasBareSlash (92 ∷ []) → ⊥
no_bare-backslash h = by h.before h.split
  where
    none : (before : List ℕ) → [] ≡ before ++ 47 ∷ h.behind → ⊥
    none [] e = absurd cc
    none (c ∷ before) e = absurd cc

    by : (before : List ℕ) → 92 ∷ [] ≡ before ++ 47 ∷ h.behind → ⊥
    by [] e = absurd (omega (arith, head_is 92 47 [] h.behind e))
    by (c ∷ before) e = none before (tail_is _ _ _ _ e)

-- a slash before cut parts begins a new one
cut-slash : (raws : List (List ℕ)) → AreCut raws → AreCut ([] ∷ raws)
cut-slash [] h = absurd h
cut-slash (raw ∷ raws) h = (no_bare-nil, Empty, h)

cut-byte : (b : ℕ) (raws : List (List ℕ)) → b ≢ 92 → b ≢ 47 → AreCut raws → AreCut (onto_first b raws)
cut-byte b [] ordinary other h = absurd h
cut-byte b (raw ∷ []) ordinary other h = no_bare-byte b raw ordinary other h
cut-byte b (raw ∷ next ∷ raws) ordinary other h = (no_bare-byte b raw ordinary other h.0, Byte b raw ordinary h.1, h.2)

cut-escape : (b : ℕ) (raws : List (List ℕ)) → AreCut raws → AreCut (onto_first 92 (onto_first b raws))
cut-escape b [] h = absurd h
cut-escape b (raw ∷ []) h = no_bare-escape b raw h
cut-escape b (raw ∷ next ∷ raws) h = (no_bare-escape b raw h.0, Escape b raw h.1, h.2)

-- a backslash that waits is put before the first part
abbrev pub unescaped_yet : Bool → List (List ℕ) → List (List ℕ)
unescaped_yet true raws = onto_first 92 raws
unescaped_yet false raws = raws

pub AreCut-from : (is_escaped : Bool) (bytes : List ℕ)
    → AreCut (unescaped_yet is_escaped (raw_parts_from is_escaped bytes))
AreCut-from true [] = no_bare-backslash
AreCut-from false [] = no_bare-nil
AreCut-from true (b ∷ bytes) = cut-escape b (raw_parts_from false bytes) (AreCut-from false bytes)
AreCut-from false (b ∷ bytes) =
    elim (cases_eq b 47) [
      | inl slash ↦
          let other : (b == 92) ≡ false = ne_eqb b 92 (λ e. omega (arith, slash, e)) in
          subst AreCut (sym (step (b == 47) (b == 92) true false (eq-eqb b 47 slash) other)) (cut-slash (raw_parts_from false bytes) (AreCut-from false bytes))
      | inr other ↦ elim (cases_eq b 92) [
        | inl back ↦
            subst AreCut (sym (step (b == 47) (b == 92) false true (ne_eqb b 47 other) (eq-eqb b 92 back) ∙ ap (λ c. onto_first c (raw_parts_from true bytes)) back)) (AreCut-from true bytes)
        | inr ordinary ↦
            subst AreCut (sym (step (b == 47) (b == 92) false false (ne_eqb b 47 other) (ne_eqb b 92 ordinary))) (cut-byte b (raw_parts_from false bytes) ordinary other (AreCut-from false bytes))
      ]
    ]
  where
    step : (s t u v : Bool) → s ≡ u → t ≡ v
        → put_before s b (raw_parts_from t bytes) ≡ put_before u b (raw_parts_from v bytes)
    step s t u v e f = (λ i. put_before (e i) b (raw_parts_from (f i) bytes))

pub AreCut-raw_parts : (bytes : List ℕ) → AreCut (raw_parts_from false bytes)
AreCut-raw_parts bytes = AreCut-from false bytes
