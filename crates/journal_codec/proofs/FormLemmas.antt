-- The two forms of a body: with the plain count, and with the one that says that another gate follows.
use Rattle.std.proofs.Common.{◌≡◌, ℕ, zero, suc, ◌+◌, ◌-◌, ◌<◌, ◌≤◌, Bool, true, false, cond, List, [], ◌∷◌, length, All, refl, sym, ap, ap₂, ◌∙◌, arith}
use Rattle.std.specs.List.{flat_map}
use Rattle.std.proofs.lemmas.Bool.{lt-ltb, ltb-true, false_from_ne_true}
use Rattle.journal_codec.specs.declared.files.FileText.{FileText}
use Rattle.journal_codec.specs.Entry.{spelled, spelled_file, IsEntry}
use Rattle.journal_codec.specs.Forms.{over, is_over, number_in, followed, uncounted, spelled_on}
use Rattle.journal_codec.specs.Reading.{Reads, read_body}
use Rattle.journal_codec.proofs.BodyLemmas.{is_read, is_read_again, spelled_apart}
use Rattle.journal_codec.proofs.FieldLemmas.{IsBytes, IsBytes-from_All}

over_is : (n : ℕ) → 1 ≤ n → is_over (over + n) ≡ true
over_is n some = lt-ltb over (over + n) (omega arith)

plain_is : (n : ℕ) → n ≤ over → is_over n ≡ false
plain_is n few = false_from_ne_true (is_over n) (λ yes. let past = ltb-true over n yes in omega arith)

-- a body keeps its length when its count is made plain
pub length-uncounted : (body : List ℕ) → length (uncounted body) ≡ length body
length-uncounted [] = refl
length-uncounted (count ∷ rest) = omega arith

-- the count tells whether a gate follows
pub followed-spelled_on : (entry : List FileText) → IsEntry entry → followed (spelled_on entry) ≡ true
followed-spelled_on entry is = over_is (length entry) is.not_empty

pub followed-spelled : (entry : List FileText) → IsEntry entry → followed (spelled entry) ≡ false
followed-spelled entry is = plain_is (length entry) (omega (arith, is.not_many))

-- and with its plain count it is the body of an entry alone
pub uncounted-spelled_on : (entry : List FileText) → IsEntry entry → uncounted (spelled_on entry) ≡ spelled entry
uncounted-spelled_on entry is =
    let plain : number_in (over + length entry) ≡ length entry =
    ap (λ (b : Bool). cond b (over + length entry - over) (over + length entry)) (over_is (length entry) is.not_empty) ∙ omega arith in
    ap (λ (n : ℕ). n ∷ flat_map spelled_file entry) plain

pub uncounted-plain : (body : List ℕ) → followed body ≡ false → uncounted body ≡ body
uncounted-plain [] ends = refl
uncounted-plain (count ∷ rest) ends = ap (λ (b : Bool). cond b (count - over) count ∷ rest) ends

-- both forms are read again
pub read_again : (entry : List FileText) → IsEntry entry → read_body (uncounted (spelled entry)) ≡ Reads entry
read_again entry is =
    ap read_body (uncounted-plain (spelled entry) (followed-spelled entry is)) ∙ is_read_again entry is

pub read_again_on : (entry : List FileText) → IsEntry entry → read_body (uncounted (spelled_on entry)) ≡ Reads entry
read_again_on entry is = ap read_body (uncounted-spelled_on entry is) ∙ is_read_again entry is

pub apart_on : (entry other : List FileText) → IsEntry entry → IsEntry other → spelled_on entry ≡ spelled_on other
    → entry ≡ other
apart_on entry other is are same =
    spelled_apart entry other is are (sym (uncounted-spelled_on entry is) ∙ ap uncounted same ∙ uncounted-spelled_on other are)

-- a plain count is a byte too
less_or_same : (b : Bool) (count : ℕ) → cond b (count - over) count ≤ count
less_or_same true count = omega arith
less_or_same false count = omega arith

pub IsBytes-uncounted : (body : List ℕ) → IsBytes body → IsBytes (uncounted body)
IsBytes-uncounted [] bytes i = bytes i
IsBytes-uncounted (count ∷ rest) bytes zero =
    let less = less_or_same (is_over count) count in let byte = bytes 0 in omega arith
IsBytes-uncounted (count ∷ rest) bytes (suc i) = bytes (suc i)

-- what was read is spelled by the body, in the form that its count tells
over_again : (count : ℕ) → is_over count ≡ true → over + number_in count ≡ count
over_again count is =
    let past : over < count = ltb-true over count is in
    ap (λ (b : Bool). over + cond b (count - over) count) is ∙ omega arith

pub spelled_so : (body : List ℕ) (files : List FileText) → followed body ≡ true → spelled files ≡ uncounted body
    → spelled_on files ≡ body
spelled_so [] files goes_on is = absurd (cc)
spelled_so (count ∷ rest) files goes_on is =
    let number : length files ≡ number_in count = cc in
    let behind : flat_map spelled_file files ≡ rest = cc in
    ap₂ (λ (n : ℕ) (bytes : List ℕ). n ∷ bytes) (ap (λ (n : ℕ). over + n) number ∙ over_again count goes_on) behind

pub spelling_plain : (body : List ℕ) (files : List FileText) → All (λ b. b < 256) body → followed body ≡ false
    → read_body (uncounted body) ≡ Reads files → spelled files ≡ body
spelling_plain body files bytes ends read =
    (is_read (uncounted body) files read).spelling (IsBytes-uncounted body (IsBytes-from_All body bytes))
    ∙ uncounted-plain body ends

pub spelling_on : (body : List ℕ) (files : List FileText) → All (λ b. b < 256) body → followed body ≡ true
    → read_body (uncounted body) ≡ Reads files → spelled_on files ≡ body
spelling_on body files bytes goes_on read =
    spelled_so body files goes_on ((is_read (uncounted body) files read).spelling (IsBytes-uncounted body (IsBytes-from_All body bytes)))
