-- The body of an entry that stands behind a gate, where another gate follows.
use Rattle.std.proofs.Common.{◌≡◌, ℕ, ◌+◌, ◌<◌, ◌≤◌, Bool, true, cond, List, ◌++◌, length, take, drop, Result, Ok, Err, refl, sym, ap, ◌∙◌, subst, arith}
use Rattle.std.proofs.lemmas.Bool.{eq-eqb}
use Rattle.std.proofs.lemmas.Nat.{from_le_bytes-to_le_bytes_4}
use Rattle.std.proofs.Math.Seq.{take-append_seam, drop-append_seam}
use Rattle.journal_codec.specs.declared.files.FileText.{FileText}
use Rattle.journal_codec.specs.Entry.{IsEntry}
use Rattle.journal_codec.specs.Reading.{Reading}
use Rattle.journal_codec.proofs.FormLemmas.{followed-spelled_on}
use Rattle.journal_steps.specs.JournalBytes.{body_or_place}
use Rattle.journal_steps.proofs.Bodies.{length-spelled}
use Rattle.journal_codec.specs.Forms.{followed, spelled_on, behind_gate}
use Rattle.journal_lists.specs.Rules.{Rule, IsAllowed}
use Rattle.journal_lists.specs.Grammar.{size_of, body_of, rest_of, body_in, most_entries, head_size, last_place, IsWhole}

-- both forms of a body have as many bytes
pub length-spelled_on : (entry : List FileText) → IsEntry entry → length (spelled_on entry) ≤ 67200000
length-spelled_on entry is = let short = length-spelled entry is in omega arith

same_entry : (other entry : List FileText) → ◌≡◌ {A = Result (List FileText) ℕ} (Ok other) (Ok entry) → other ≡ entry
same_entry other entry is = cc

-- what stands behind the gate of an entry
module _ (rule : Rule) (entry : List FileText) (is : IsAllowed rule entry) (more : List ℕ) where
  size_there : size_of (behind_gate entry ++ more) ≡ length (spelled_on entry)
  size_there =
      let short = length-spelled_on entry is.is_entry in from_le_bytes-to_le_bytes_4 (length (spelled_on entry)) (omega arith)

  body_there : body_of (behind_gate entry ++ more) ≡ spelled_on entry
  body_there = ap (λ (n : ℕ). take n (spelled_on entry ++ more)) size_there ∙ take-append_seam (spelled_on entry) more

  rest_there : rest_of (behind_gate entry ++ more) ≡ more
  rest_there = ap (λ (n : ℕ). drop n (spelled_on entry ++ more)) size_there ∙ drop-append_seam (spelled_on entry) more

  whole_there : body_in rule (size_of (behind_gate entry ++ more)) (body_of (behind_gate entry ++ more)) ≡ Ok entry
  whole_there =
      let n = length (spelled_on entry) in
      ap (λ (body : List ℕ). body_or_place (rule.read body) (size_of (behind_gate entry ++ more)) (length body)) body_there
      ∙ ap (λ (size : ℕ). body_or_place (rule.read (spelled_on entry)) size n) size_there
      ∙ ap (λ (r : Reading). body_or_place r n n) is.again
      ∙ ap (λ (b : Bool). cond b (Ok entry) (Err n)) (eq-eqb n n refl)

  -- the entry alone is whole there, another gate follows, and what holds from that gate on holds of what stands there
  module _ (tail : List ℕ) (there : tail ≡ behind_gate entry ++ more) where
    pub whole_is : (number place : ℕ) (other : List FileText) → IsWhole rule number place tail other → other ≡ entry
    whole_is number place other whole =
        same_entry other entry (sym whole.body ∙ subst (λ (t : List ℕ). body_in rule (size_of t) (body_of t) ≡ Ok entry) (sym there) whole_there)

    pub is_whole : (number place : ℕ) → number < most_entries
        → place + head_size + length (spelled_on entry) ≤ last_place → IsWhole rule number place tail entry
    is_whole number place few within =
        let size = ap size_of there ∙ size_there in
        record {
          few = few;
          within = omega arith;
          body = subst (λ (t : List ℕ). body_in rule (size_of t) (body_of t) ≡ Ok entry) (sym there) whole_there;
        }

    pub goes_on : followed (body_of tail) ≡ true
    goes_on =
        ap (λ (t : List ℕ). followed (body_of t)) there ∙ ap followed body_there ∙ followed-spelled_on entry is.is_entry

    pub next_gate : (P : ℕ → ℕ → List ℕ → Type 0) (number place : ℕ)
        → P (number + 1) (place + head_size + size_of tail) (rest_of tail)
        → P (number + 1) (place + head_size + length (spelled_on entry)) more
    next_gate P number place holds =
        subst (λ (size : ℕ). P (number + 1) (place + head_size + size) more) (ap size_of there ∙ size_there)
        (subst (λ (rest : List ℕ). P (number + 1) (place + head_size + size_of tail) rest) (ap rest_of there ∙ rest_there) holds)
