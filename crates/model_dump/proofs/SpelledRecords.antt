-- Bytes are cut into a record and what follows it in one way at most.
use Rattle.std.specs.Prelude.{◌≡◌, ℕ, ◌<◌, List, [], ◌∷◌, ◌++◌, length}
use Rattle.std.specs.Char.{digit_value}
use Rattle.std.specs.Fmt.{decimal}
use Rattle.std.specs.Str.Parse.{AllDigits}
use Rattle.std.proofs.Common.{cond, eqb, get_or, refl, sym, ap, subst, ◌∙◌, arith, append_assoc}
use Rattle.std.proofs.lemmas.List.{append_cancel_left}
use Rattle.std.proofs.lemmas.Fmt.{decimal_injective, decimal_is_IsNumeral}
use Rattle.model_dump.specs.Record.{RecordKind, KeyKind, MetaKind, CopyKind, Record, words_of, size_limit, IsSized, sizes_and_texts, spelled_record, ending}

-- two fronts of one length of the same bytes are one
pub fronts_once : (a b x y : List ℕ) → length a ≡ length b → a ++ x ≡ b ++ y → (a ≡ b) × (x ≡ y)
fronts_once [] [] x y same e = (refl, e)
fronts_once [] (k ∷ b) x y same e = absurd (omega arith)
fronts_once (k ∷ a) [] x y same e = absurd (omega arith)
fronts_once (k ∷ a) (l ∷ b) x y same e =
    let rest = fronts_once a b x y (omega arith) cc in
    let heads : k ≡ l = cc in
    (λ i. heads i ∷ rest.0 i, rest.1)

-- a byte that is no digit ends the digits before it
pub digits_once : (c d : ℕ) → ¬ (digit_value c < 10) → ¬ (digit_value d < 10) → (ds es x y : List ℕ) → AllDigits 10 ds
    → AllDigits 10 es → ds ++ c ∷ x ≡ es ++ d ∷ y → (ds ≡ es) × (c ≡ d) × (x ≡ y)
digits_once c d c_ends d_ends [] [] x y p q e = (refl, cc, cc)
digits_once c d c_ends d_ends [] (k ∷ es) x y p q e =
    let heads : k ≡ c = cc in
    absurd (c_ends (subst (λ n. digit_value n < 10) heads q.0))
digits_once c d c_ends d_ends (k ∷ ds) [] x y p q e =
    let heads : k ≡ d = cc in
    absurd (d_ends (subst (λ n. digit_value n < 10) heads p.0))
digits_once c d c_ends d_ends (k ∷ ds) (l ∷ es) x y p q e =
    let rest = digits_once c d c_ends d_ends ds es x y p.1 q.1 cc in
    let heads : k ≡ l = cc in
    (λ i. heads i ∷ rest.0 i, rest.1, rest.2)

-- a size is written in digits
pub decimal_digits : (n : ℕ) → n < size_limit → AllDigits 10 (decimal n)
decimal_digits n small = (decimal_is_IsNumeral n (omega arith)).0.1

-- and its digits tell it
pub size_once : (m n : ℕ) → m < size_limit → n < size_limit → decimal m ≡ decimal n → m ≡ n
size_once m n small little = decimal_injective m n (omega arith) (omega arith)

-- the sizes and the texts, one behind the other
pub sizes_and_texts-append : (f s x : List ℕ)
    → sizes_and_texts f s ++ x
    ≡ decimal (length f) ++ (32 ∷ (decimal (length s) ++ (10 ∷ (f ++ (10 ∷ (s ++ (10 ∷ x)))))))
sizes_and_texts-append f s x = simp append_assoc

-- digits that stand in the places of the sizes are the sizes, and the texts follow
pub sizes_once : (f s x ds es rest : List ℕ) → length f < size_limit → length s < size_limit → AllDigits 10 ds
    → AllDigits 10 es → sizes_and_texts f s ++ x ≡ ds ++ (32 ∷ (es ++ (10 ∷ rest)))
    → (decimal (length f) ≡ ds) × (decimal (length s) ≡ es) × (f ++ (10 ∷ (s ++ (10 ∷ x))) ≡ rest)
sizes_once f s x ds es rest small little p q e =
    let first = digits_once 32 32 (λ digit. omega arith) (λ digit. omega arith) (decimal (length f)) ds _ _ (decimal_digits (length f) small) p (sym (sizes_and_texts-append f s x) ∙ e) in
    let second = digits_once 10 10 (λ digit. omega arith) (λ digit. omega arith) (decimal (length s)) es _ _ (decimal_digits (length s) little) q first.2 in
    (first.0, second.0, second.2)

-- two texts with their sizes before them are cut from what follows in one way
pub sizes_and_texts-once : (f s g t x y : List ℕ) → length f < size_limit → length s < size_limit
    → length g < size_limit → length t < size_limit → sizes_and_texts f s ++ x ≡ sizes_and_texts g t ++ y
    → (f ≡ g) × (s ≡ t) × (x ≡ y)
sizes_and_texts-once f s g t x y f_small s_small g_small t_small e =
    let sizes = sizes_once f s x (decimal (length g)) (decimal (length t)) _ f_small s_small (decimal_digits (length g) g_small) (decimal_digits (length t) t_small) (e ∙ sizes_and_texts-append g t y) in
    let first = fronts_once f g _ _ (size_once (length f) (length g) f_small g_small sizes.0) sizes.2 in
    let second = fronts_once s t (10 ∷ x) (10 ∷ y) (size_once (length s) (length t) s_small t_small sizes.1) cc in
    (first.0, second.0, cc)

-- the kind that the second byte tells
kind_of : List ℕ → RecordKind
kind_of text = cond (eqb (get_or text 1 0) 107) KeyKind (cond (eqb (get_or text 1 0) 109) MetaKind CopyKind)

kind_of-words : (k : RecordKind) (x : List ℕ) → kind_of (words_of k ++ x) ≡ k
unfolding kind_of
kind_of-words KeyKind x = refl
kind_of-words MetaKind x = refl
kind_of-words CopyKind x = refl

-- the words of a kind begin those of no other
pub words_once : (k l : RecordKind) (x y : List ℕ) → words_of k ++ x ≡ words_of l ++ y → (k ≡ l) × (x ≡ y)
words_once k l x y e =
    let kinds : k ≡ l = sym (kind_of-words k x) ∙ ap kind_of e ∙ kind_of-words l y in
    (kinds, append_cancel_left (words_of k) x y (e ∙ ap (λ m. words_of m ++ y) (sym kinds)))

-- nor the ending
pub words-ending : (k : RecordKind) (x y : List ℕ) → words_of k ++ x ≡ ending ++ y → ⊥
words-ending KeyKind x y e = let second : ◌≡◌ {A = ℕ} 107 101 = ap (λ b. get_or b 1 0) e in omega arith
words-ending MetaKind x y e = let second : ◌≡◌ {A = ℕ} 109 101 = ap (λ b. get_or b 1 0) e in omega arith
words-ending CopyKind x y e = let second : ◌≡◌ {A = ℕ} 99 101 = ap (λ b. get_or b 1 0) e in omega arith

-- a record behind the words of a kind is of that kind, and its sizes and texts follow
pub spelled_record-words : (r : Record) (k : RecordKind) (x rest : List ℕ) → spelled_record r ++ x ≡ words_of k ++ rest
    → (r.kind ≡ k) × (sizes_and_texts r.first r.second ++ x ≡ rest)
spelled_record-words r k x rest e =
    words_once r.kind k _ rest (sym (append_assoc (words_of r.kind) (sizes_and_texts r.first r.second) x) ∙ e)

-- a record behind the words of a kind and digits in the places of its sizes: the digits are its sizes, and its texts
-- follow
pub spelled_record-sizes : (r : Record) (k : RecordKind) (x ds es rest : List ℕ) → IsSized r → AllDigits 10 ds
    → AllDigits 10 es → spelled_record r ++ x ≡ words_of k ++ (ds ++ (32 ∷ (es ++ (10 ∷ rest))))
    → (r.kind ≡ k) × (decimal (length r.first) ≡ ds) × (decimal (length r.second) ≡ es)
    × (r.first ++ (10 ∷ (r.second ++ (10 ∷ x))) ≡ rest)
spelled_record-sizes r k x ds es rest sized p q e =
    let words = spelled_record-words r k x _ e in
    let sizes = sizes_once r.first r.second x ds es rest sized.first sized.second p q words.1 in
    (words.0, sizes.0, sizes.1, sizes.2)

-- the same where two numbers stand in the places of the sizes: they are the lengths of its texts
pub spelled_record-lengths : (r : Record) (k : RecordKind) (x : List ℕ) (m n : ℕ) (rest : List ℕ) → IsSized r
    → m < size_limit → n < size_limit
    → spelled_record r ++ x ≡ words_of k ++ (decimal m ++ (32 ∷ (decimal n ++ (10 ∷ rest))))
    → (r.kind ≡ k) × (length r.first ≡ m) × (length r.second ≡ n) × (r.first ++ (10 ∷ (r.second ++ (10 ∷ x))) ≡ rest)
spelled_record-lengths r k x m n rest sized m_small n_small e =
    let sizes = spelled_record-sizes r k x (decimal m) (decimal n) rest sized (decimal_digits m m_small) (decimal_digits n n_small) e in
    (sizes.0, size_once (length r.first) m sized.first m_small sizes.1, size_once (length r.second) n sized.second n_small sizes.2, sizes.3)

-- two records at the front of the same bytes are one
pub spelled_record-once : (r s : Record) (x y : List ℕ) → spelled_record r ++ x ≡ spelled_record s ++ y → IsSized r
    → IsSized s → (r ≡ s) × (x ≡ y)
spelled_record-once r s x y e r_sized s_sized =
    let kinds = spelled_record-words r s.kind x _ (e ∙ append_assoc (words_of s.kind) (sizes_and_texts s.first s.second) y) in
    let texts = sizes_and_texts-once r.first r.second s.first s.second x y r_sized.first r_sized.second s_sized.first s_sized.second kinds.1 in
    (λ i. record { kind = kinds.0 i; first = texts.0 i; second = texts.1 i }, texts.2)

-- no record begins like the ending
pub spelled_record-ending : (r : Record) (x y : List ℕ) → spelled_record r ++ x ≡ ending ++ y → ⊥
spelled_record-ending r x y e =
    words-ending r.kind _ y (sym (append_assoc (words_of r.kind) (sizes_and_texts r.first r.second) x) ∙ e)
