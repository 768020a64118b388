-- Parts behind NULs: they are found again between the NULs, and compare as their bytes do.
use Rattle.std.proofs.Common.{◌≡◌, ◌≢◌, ℕ, ◌+◌, ◌<◌, ◌≤◌, Bool, true, false, eqb, ◌==◌, cond, List, [], ◌∷◌, ◌++◌, length, drop, zero, suc, get_or, slice_get, map, Result, Ok, Err, is_ok, Option, Some, None, refl, sym, ap, ap₂, subst, ◌∙◌, arith, append_assoc, length-drop}
use Rattle.std.proofs.lemmas.Bool.Decides.{nat_tests}
use Rattle.std.specs.Cmp.Lexicographic.{lists_ties, pointwise, slice_cmp, texts_ties}
use Rattle.std.specs.List.{AllByRecursion, count_by, onto_first, slice_split, starts_with}
use Rattle.std.specs.Result.{OnOk}
use Rattle.std.specs.Ordering.{is_eq, nat_cmp, ordering_then}
use Rattle.std.specs.declared.cmp.Ordering.{Ordering}
use Rattle.std.specs.declared.cmp.Ordering.TheVariants.{Less, Equal, Greater}
use Rattle.std.specs.Option.{IfNone, IfSome, MatchOption, option_map, option_map_or}
use Rattle.std.proofs.lemmas.Bool.{cond_both, eqb-false, eqb-true, false_from_ne_true, ne_eqb}
use Rattle.std.proofs.lemmas.List.{append-nil, drop-drop, get_or_default}
use Rattle.std.proofs.lemmas.List.Splits.{length-slice_split, slice_split_none}
use Rattle.std.proofs.lemmas.Slice.Eq.{bytes_eq-Decides, starts_is}
use denote.Ref.{Bor}
use Rattle.std.proofs.lemmas.List.Concat.{flat_map-append}
use Rattle.model_names.specs.Name.{Part}
use Rattle.model_names.specs.WellFormed.{IsPart}
use Rattle.key_name.specs.PartList.{HasNoNul, behind_nuls, between_nuls, parts_in, begins_part}
use Rattle.general_words.proofs.Lists.{all_append, all_back}

-- nothing, or a part begins with its NUL
abbrev pub BeginsPart : List ℕ → Type 0
BeginsPart [] = Unit {0}
BeginsPart (b ∷ bytes) = b ≡ 0

BeginsPart-behind_nuls : (parts : List Part) (rest : List ℕ) → BeginsPart rest → BeginsPart (behind_nuls parts ++ rest)
BeginsPart-behind_nuls [] rest h = h
BeginsPart-behind_nuls (part ∷ parts) rest h = refl

BeginsPart-nuls : (parts : List Part) → BeginsPart (behind_nuls parts)
BeginsPart-nuls [] = tt
BeginsPart-nuls (part ∷ parts) = refl

-- ---- parts are found again

pub between_nuls-part : (part : Part) (rest : List ℕ) → HasNoNul part → BeginsPart rest
    → between_nuls (part ++ rest) ≡ part ∷ parts_in rest
between_nuls-part [] [] p h = refl
between_nuls-part [] (b ∷ rest) p h = subst (λ (b : ℕ). between_nuls (b ∷ rest) ≡ [] ∷ parts_in (b ∷ rest)) (sym h) refl
between_nuls-part (b ∷ part) rest p h =
    ap (λ t. cond t ([] ∷ between_nuls (part ++ rest)) (onto_first b (between_nuls (part ++ rest)))) (ne_eqb b 0 (omega (arith, p.0)))
    ∙ ap (onto_first b) (between_nuls-part part rest p.1 h)

pub parts_in-append : (parts : List Part) (rest : List ℕ) → AllByRecursion HasNoNul parts → BeginsPart rest
    → parts_in (behind_nuls parts ++ rest) ≡ parts ++ parts_in rest
parts_in-append [] rest p h = refl
parts_in-append (part ∷ parts) rest p h =
    ap between_nuls (append_assoc part (behind_nuls parts) rest)
    ∙ between_nuls-part part (behind_nuls parts ++ rest) p.0 (BeginsPart-behind_nuls parts rest h)
    ∙ ap (λ rest. part ∷ rest) (parts_in-append parts rest p.1 h)

pub parts_in-behind_nuls : (parts : List Part) → AllByRecursion HasNoNul parts → parts_in (behind_nuls parts) ≡ parts
parts_in-behind_nuls parts p =
    ap parts_in (sym (append-nil (behind_nuls parts))) ∙ parts_in-append parts [] p tt ∙ append-nil parts

-- what stands between NULs has none
NoNuls-onto_first : (b : ℕ) (parts : List Part) → 0 < b → AllByRecursion HasNoNul parts
    → AllByRecursion HasNoNul (onto_first b parts)
NoNuls-onto_first b [] some p = ((some, tt), tt)
NoNuls-onto_first b (part ∷ parts) some p = ((some, p.0), p.1)

pub NoNuls-between : (bytes : List ℕ) → AllByRecursion HasNoNul (between_nuls bytes)
NoNuls-between [] = (tt, tt)
NoNuls-between (b ∷ bytes) =
    let rest = NoNuls-between bytes in
    cond_both (b == 0) ([] ∷ between_nuls bytes) (onto_first b (between_nuls bytes)) (AllByRecursion HasNoNul) (λ _. (tt, rest)) (λ e. let other = eqb-false b 0 e in NoNuls-onto_first b (between_nuls bytes) (omega (arith, other)) rest)

NoNuls-drop : (parts : List Part) → AllByRecursion HasNoNul parts → AllByRecursion HasNoNul (drop 1 parts)
NoNuls-drop [] p = tt
NoNuls-drop (part ∷ parts) p = p.1

pub NoNuls-in : (bytes : List ℕ) → AllByRecursion HasNoNul (parts_in bytes)
NoNuls-in bytes = NoNuls-drop (between_nuls bytes) (NoNuls-between bytes)

pub NoNuls-parts : (parts : List Part) → AllByRecursion IsPart parts → AllByRecursion HasNoNul parts
NoNuls-parts [] p = tt
NoNuls-parts (part ∷ parts) p = (p.0.no_nul, NoNuls-parts parts p.1)

-- ---- order

nul_first : (b : ℕ) → 0 < b → nat_cmp 0 b ≡ Less
nul_first b h = grind (arith, nat_tests)

nul_last : (b : ℕ) → 0 < b → nat_cmp b 0 ≡ Greater
nul_last b h = grind (arith, nat_tests)

then_assoc : (p c l : Ordering) → ordering_then p (ordering_then c l) ≡ ordering_then (ordering_then p c) l
then_assoc Less c l = refl
then_assoc Equal c l = refl
then_assoc Greater c l = refl

cmp_part : (p q : Part) (xs ys : List ℕ) → HasNoNul p → HasNoNul q → BeginsPart xs → BeginsPart ys
    → slice_cmp nat_cmp (p ++ xs) (q ++ ys) ≡ ordering_then (slice_cmp nat_cmp p q) (slice_cmp nat_cmp xs ys)
cmp_part [] [] xs ys hp hq hx hy = refl
cmp_part [] (b ∷ q) [] ys hp hq hx hy = refl
cmp_part [] (b ∷ q) (x ∷ xs) ys hp hq hx hy =
    ap (λ o. ordering_then o (slice_cmp nat_cmp xs (q ++ ys))) (ap (λ x. nat_cmp x b) hx ∙ nul_first b hq.0)
cmp_part (a ∷ p) [] xs [] hp hq hx hy = refl
cmp_part (a ∷ p) [] xs (y ∷ ys) hp hq hx hy =
    ap (λ o. ordering_then o (slice_cmp nat_cmp (p ++ xs) ys)) (ap (nat_cmp a) hy ∙ nul_last a hp.0)
cmp_part (a ∷ p) (b ∷ q) xs ys hp hq hx hy =
    ap (ordering_then (nat_cmp a b)) (cmp_part p q xs ys hp.1 hq.1 hx hy)
    ∙ then_assoc (nat_cmp a b) (slice_cmp nat_cmp p q) (slice_cmp nat_cmp xs ys)

-- lists of parts compare as their bytes do
pub cmp_behind_nuls : (ps qs : List Part) → AllByRecursion HasNoNul ps → AllByRecursion HasNoNul qs
    → slice_cmp nat_cmp (behind_nuls ps) (behind_nuls qs) ≡ slice_cmp (slice_cmp nat_cmp) ps qs
cmp_behind_nuls [] [] hp hq = refl
cmp_behind_nuls [] (q ∷ qs) hp hq = refl
cmp_behind_nuls (p ∷ ps) [] hp hq = refl
cmp_behind_nuls (p ∷ ps) (q ∷ qs) hp hq =
    cmp_part p q (behind_nuls ps) (behind_nuls qs) hp.0 hq.0 (BeginsPart-nuls ps) (BeginsPart-nuls qs)
    ∙ ap (ordering_then (slice_cmp nat_cmp p q)) (cmp_behind_nuls ps qs hp.1 hq.1)

pub eq_behind_nuls : (ps qs : List Part) → AllByRecursion HasNoNul ps → AllByRecursion HasNoNul qs
    → pointwise eqb (behind_nuls ps) (behind_nuls qs) ≡ pointwise (pointwise eqb) ps qs
eq_behind_nuls ps qs hp hq =
    texts_ties (behind_nuls ps) (behind_nuls qs) ∙ ap is_eq (cmp_behind_nuls ps qs hp hq)
    ∙ sym (lists_ties (slice_cmp nat_cmp) texts_ties ps qs)

-- ---- a text whose parts are known

-- nothing stands in a text but parts, each behind a NUL
pub record HasParts (text : List ℕ) (parts : List Part) : Type 0 where
  pub bytes : text ≡ behind_nuls parts
  pub no_nuls : AllByRecursion HasNoNul parts

pub HasParts-in : (text : List ℕ) → text ≡ behind_nuls (parts_in text) → HasParts text (parts_in text)
HasParts-in text h = record { bytes = h; no_nuls = NoNuls-in text }

pub seen_as : (text : List ℕ) (parts : List Part) → HasParts text parts → parts_in text ≡ parts
seen_as text parts h = ap parts_in h.bytes ∙ parts_in-behind_nuls parts h.no_nuls

pub parts_alone : (text : List ℕ) (parts : List Part) → HasParts text parts → text ≡ behind_nuls (parts_in text)
parts_alone text parts h = h.bytes ∙ ap behind_nuls (sym (seen_as text parts h))

NoNuls-append : (xs ys : List Part) → AllByRecursion HasNoNul xs → AllByRecursion HasNoNul ys
    → AllByRecursion HasNoNul (xs ++ ys)
NoNuls-append xs ys p q = all_append HasNoNul xs ys p q

pub HasParts-append : (a b : List ℕ) (xs ys : List Part) → HasParts a xs → HasParts b ys → HasParts (a ++ b) (xs ++ ys)
HasParts-append a b xs ys p q =
    record {
      bytes = ap₂ (λ x y. x ++ y) p.bytes q.bytes ∙ sym (flat_map-append (λ part. 0 ∷ part) xs ys);
      no_nuls = NoNuls-append xs ys p.no_nuls q.no_nuls;
    }

pub HasParts-one : (part : Part) → HasNoNul part → HasParts (0 ∷ part) (part ∷ [])
HasParts-one part h = record { bytes = sym (append-nil (0 ∷ part)); no_nuls = (h, tt) }

pub HasParts-at : (text whole : List ℕ) (parts : List Part) → whole ≡ text → HasParts text parts → HasParts whole parts
HasParts-at text whole parts e h = record { bytes = e ∙ h.bytes; no_nuls = h.no_nuls }

-- ---- what is pushed, or isn't where memory is wanted

pub append_either : (pushed : Bool) (old back new : List ℕ) (ps qs : List Part) → HasParts old ps → HasParts back qs
    → new ≡ cond pushed (old ++ back) old → HasParts new (cond pushed (ps ++ qs) ps)
append_either true old back new ps qs p q e = HasParts-at _ _ _ e (HasParts-append old back ps qs p q)
append_either false old back new ps qs p q e = HasParts-at _ _ _ e p

pub push_either : (pushed : Bool) (old part begun new : List ℕ) (ps : List Part) → HasParts old ps → HasNoNul part
    → begun ≡ old ++ 0 ∷ [] → new ≡ cond pushed (begun ++ part) begun
    → HasParts new (cond pushed (ps ++ part ∷ []) (ps ++ [] ∷ []))
push_either true old part begun new ps p q b e =
    HasParts-at _ _ _ (e ∙ ap (λ front. front ++ part) b ∙ append_assoc old (0 ∷ []) part) (HasParts-append old (0 ∷ part) ps (part ∷ []) p (HasParts-one part q))
push_either false old part begun new ps p q b e =
    HasParts-at _ _ _ (e ∙ b) (HasParts-append old (0 ∷ []) ps ([] ∷ []) p (HasParts-one [] tt))

pub seen_if_ok : {A E : Type 0} (r : Result A E) (text : List ℕ) (xs ys : List Part)
    → HasParts text (cond (is_ok r) xs ys) → OnOk r (parts_in text ≡ xs)
seen_if_ok (Ok a) text xs ys h = seen_as text xs h
seen_if_ok (Err e) text xs ys h = tt

-- each item of a list of texts without NUL has none
pub no_nul_at : {X : Type 0} (f : X → Part) (xs : List X) (i : ℕ) (x : X) → AllByRecursion HasNoNul (map f xs)
    → i < length xs → x ≡ get_or xs i x → HasNoNul (f x)
no_nul_at f [] i x h lt e = absurd (omega arith)
no_nul_at f (y ∷ xs) zero x h lt e = subst (λ z. HasNoNul (f z)) (sym e) h.0
no_nul_at f (y ∷ xs) (suc i) x h lt e = no_nul_at f xs i x h.1 (omega arith) e

-- ---- the parts behind others

drop-front : {A : Type 0} (xs ys : List A) → drop (length xs) (xs ++ ys) ≡ ys
drop-front [] ys = refl
drop-front (x ∷ xs) ys = drop-front xs ys

same_rest : (front a b : List ℕ) → front ++ a ≡ front ++ b → a ≡ b
same_rest front a b e = sym (drop-front front a) ∙ ap (drop (length front)) e ∙ drop-front front b

begins : (rest : List ℕ) → begins_part rest ≡ true → BeginsPart rest
begins [] h = tt
begins (b ∷ rest) h = eqb-true b 0 h

begins_part-nuls : (parts : List Part) → begins_part (behind_nuls parts) ≡ true
begins_part-nuls [] = refl
begins_part-nuls (part ∷ parts) = refl

NoNuls-rest : (xs ys : List Part) → AllByRecursion HasNoNul (xs ++ ys) → AllByRecursion HasNoNul ys
NoNuls-rest xs ys p = all_back HasNoNul xs ys p

module _ (text front : List ℕ) (ps qs : List Part) (p : HasParts text ps) (q : HasParts front qs) where
  -- a text goes on from another where a part begins
  pub behind_some : (rest : List ℕ) → text ≡ front ++ rest → begins_part rest ≡ true
      → (starts_with (pointwise eqb) ps qs ≡ true) × (rest ≡ behind_nuls (drop (length qs) ps))
  behind_some rest e b =
      let split : ps ≡ qs ++ parts_in rest = sym (seen_as text ps p) ∙ ap parts_in (e ∙ ap (λ f. f ++ rest) q.bytes) ∙ parts_in-append qs rest q.no_nuls (begins rest b) in
      let left : drop (length qs) ps ≡ parts_in rest = ap (drop (length qs)) split ∙ drop-front qs (parts_in rest) in
      let bytes : behind_nuls qs ++ rest ≡ behind_nuls qs ++ behind_nuls (parts_in rest) = ap (λ f. f ++ rest) (sym q.bytes) ∙ sym e ∙ p.bytes ∙ ap behind_nuls split ∙ flat_map-append (λ part. 0 ∷ part) qs (parts_in rest) in
      ((starts_is bytes_eq-Decides ps qs _ refl).1 (parts_in rest) split, same_rest (behind_nuls qs) rest _ bytes ∙ ap behind_nuls (sym left))

  pub behind_none : ((rest : List ℕ) → text ≡ front ++ rest → begins_part rest ≡ false)
      → starts_with (pointwise eqb) ps qs ≡ false
  behind_none none = false_from_ne_true _ (λ yes.
      let split = (starts_is bytes_eq-Decides ps qs _ refl).0 yes in
      let rest = drop (length qs) ps in
      let bytes : text ≡ front ++ behind_nuls rest = p.bytes ∙ ap behind_nuls split ∙ flat_map-append (λ part. 0 ∷ part) qs rest ∙ ap (λ f. f ++ behind_nuls rest) (sym q.bytes) in
      let no = none (behind_nuls rest) bytes in
      let yes = begins_part-nuls rest in
      absurd (cc))

  -- what is left has the parts that are left
  pub HasParts-behind : (rest : List ℕ)
      → (starts_with (pointwise eqb) ps qs ≡ true) × (rest ≡ behind_nuls (drop (length qs) ps))
      → HasParts rest (drop (length qs) ps)
  HasParts-behind rest h =
      let split = (starts_is bytes_eq-Decides ps qs _ refl).0 h.0 in
      record {
        bytes = h.1;
        no_nuls = NoNuls-rest qs (drop (length qs) ps) (subst (AllByRecursion HasNoNul) split p.no_nuls);
      }

  pub found_some : (r : Option (Bor (List ℕ)))
      → IfSome r (λ rest. (text ≡ front ++ rest.now) × (begins_part rest.now ≡ true))
      → IfSome r (λ rest. (starts_with (pointwise eqb) ps qs ≡ true) × (rest.now ≡ behind_nuls (drop (length qs) ps)) × AllByRecursion HasNoNul (drop (length qs) ps))
  found_some None h = tt
  found_some (Some rest) h =
      let found = behind_some rest.now h.0 h.1 in (found.0, found.1, (HasParts-behind rest.now found).no_nuls)

  pub found_none : (r : Option (Bor (List ℕ)))
      → IfNone r ((rest : List ℕ) → text ≡ front ++ rest → begins_part rest ≡ false)
      → IfNone r (starts_with (pointwise eqb) ps qs ≡ false)
  found_none None h = behind_none h
  found_none (Some rest) h = tt

  pub cmp_parts : slice_cmp nat_cmp text front ≡ slice_cmp (slice_cmp nat_cmp) ps qs
  cmp_parts = ap₂ (slice_cmp nat_cmp) p.bytes q.bytes ∙ cmp_behind_nuls ps qs p.no_nuls q.no_nuls

  pub eq_parts : pointwise eqb text front ≡ pointwise (pointwise eqb) ps qs
  eq_parts = ap₂ (pointwise eqb) p.bytes q.bytes ∙ eq_behind_nuls ps qs p.no_nuls q.no_nuls

-- ---- going over the parts

-- the parts that are still to come, of what stands behind a NUL
pub parts_to_come : (text : List ℕ) → text ≡ behind_nuls (parts_in text) → (rest : Option (Bor (List ℕ)))
    → MatchOption rest ((tail : List ℕ) → text ≢ 0 ∷ tail) (λ x. text ≡ 0 ∷ x.now)
    → option_map_or (λ x. between_nuls x.now) rest [] ≡ parts_in text
parts_to_come text h (Some x) e = sym (ap parts_in e)
parts_to_come text h None none = by (parts_in text) h
  where
    by : (parts : List Part) → text ≡ behind_nuls parts → [] ≡ parts
    by [] e = refl
    by (part ∷ parts) e = absurd (none _ e)

pub split-none : (letter : ℕ) (text : List ℕ) → ((i : ℕ) → i < length text → get_or text i 0 ≢ letter)
    → slice_split (λ b. b == letter) text ≡ text ∷ []
split-none letter text none =
    slice_split_none (λ b. b == letter) text (λ k d lt. ne_eqb _ letter (λ e. none k lt (get_or_default text k 0 d lt ∙ e)))

-- ---- how many there are

pub length-parts_in : (text : List ℕ) → length (parts_in text) ≡ count_by (λ b. b == 0) text
length-parts_in text = omega (arith, length-drop 1 (between_nuls text), length-slice_split (λ b. b == 0) text)

-- ---- one after another

slice_get-drop : {A : Type 0} (xs : List A) (i : ℕ) → slice_get xs i ≡ slice_get (drop i xs) 0
slice_get-drop [] zero = refl
slice_get-drop [] (suc i) = refl
slice_get-drop (x ∷ xs) zero = refl
slice_get-drop (x ∷ xs) (suc i) = slice_get-drop xs i

-- a step over what is left, which ends or gives the next part
abbrev pub Steps : List Part → Option (Bor Part) → List Part → Type 0
Steps left next rest = MatchOption next ((left ≡ []) × (rest ≡ [])) (λ part. left ≡ part.now ∷ rest)

pub next_is : (parts left rest : List Part) (i : ℕ) (next : Option (Bor Part)) → left ≡ drop i parts
    → Steps left next rest → option_map (λ part. part.now) next ≡ slice_get parts i
next_is parts left rest i None e h = sym (slice_get-drop parts i ∙ ap (λ left. slice_get left 0) (sym e ∙ h.0))
next_is parts left rest i (Some part) e h = sym (slice_get-drop parts i ∙ ap (λ left. slice_get left 0) (sym e ∙ h))

pub rest_is : (parts left rest : List Part) (i : ℕ) (part : Part) → left ≡ drop i parts → left ≡ part ∷ rest
    → rest ≡ drop (i + 1) parts
rest_is parts left rest i part e h = ap (drop 1) (sym h ∙ e) ∙ drop-drop 1 i parts

pub none_left : (parts left : List Part) (i : ℕ) → left ≡ drop i parts → left ≡ [] → length parts ≤ i
none_left parts left i e h = let none = ap length (sym e ∙ h) in omega (arith, none, length-drop i parts)
