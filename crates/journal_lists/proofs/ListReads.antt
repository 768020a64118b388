-- How the bytes of a written list read, and what stands behind them.
use Rattle.std.proofs.Common.{◌≡◌, ◌⊎◌, inl, inr, ℕ, ◌+◌, ◌<◌, ◌≤◌, Bool, true, List, [], ◌∷◌, ◌++◌, length, refl, ap₂, subst, arith, append_assoc, length-append}
use Rattle.std.specs.List.{AllByRecursion}
use Rattle.journal_codec.specs.declared.files.FileText.{FileText}
use Rattle.journal_steps.specs.JournalBytes.{IsClosed}
use Rattle.journal_codec.specs.Forms.{followed, spelled_on, behind_gate}
use Rattle.journal_lists.specs.Grammar.{most_entries, head_size, last_place, size_of, body_of, rest_of}
use Rattle.journal_lists.specs.Rules.{Rule, IsAllowed}
use Rattle.journal_lists.specs.Lists.{MayBeShut, Follows, ReadsFrom, Leads, Breaks, BreaksFrom, list_bytes}
use Rattle.journal_lists.proofs.Bodies.{whole_is, is_whole, goes_on, next_gate}

-- of a closed gate nothing is read, and nothing is broken
pub reads_closed : (rule : Rule) (number place : ℕ) (rest : List ℕ) (more : List (List FileText)) → IsClosed rest
    → ReadsFrom rule number place rest more → more ≡ []
reads_closed rule number place rest [] closed reads = refl
reads_closed rule number place rest (entry ∷ more) closed reads = absurd (reads.0.open_too closed.gate_is)

pub closed_not_broken : (rule : Rule) (number place : ℕ) (rest : List ℕ) → IsClosed rest
    → ¬ BreaksFrom rule number place rest
closed_not_broken rule number place rest closed broken = by broken.0 broken.1
  where
    by : (entries : List (List FileText)) → Leads rule (Breaks rule) number place rest entries → ⊥
    by [] breaks = breaks.opened.open_too closed.gate_is
    by (entry ∷ entries) leads = leads.0.open_too closed.gate_is

-- a list reads as its entries, and then as what stands behind them
pub record ReadsBehind (rule : Rule) (entries : List (List FileText)) (number place : ℕ) (rest : List ℕ) (read : List (List FileText)) : Type 0 where
  pub more : List (List FileText)
  pub is : read ≡ entries ++ more
  pub reads : ReadsFrom rule number place rest more

gate_open : (tail : List ℕ) → head_size ≤ length (1 ∷ tail) → ¬ MayBeShut (1 ∷ tail)
gate_open tail long (inl short) = omega arith
gate_open tail long (inr not_open) = not_open refl

followed_on : (b : Bool) (entries : List (List FileText)) (P : Type 0) → b ≡ true → Follows b entries P → P
followed_on b entries P is follows = subst (λ (x : Bool). Follows x entries P) is follows

pub reads_list : (rule : Rule) (entries : List (List FileText)) (number place last ends : ℕ) (rest : List ℕ)
    (read : List (List FileText))
    → AllByRecursion (IsAllowed rule) entries
    → last ≡ number + length entries → ends ≡ place + length (list_bytes entries)
    → ReadsFrom rule number place (list_bytes entries ++ rest) read → ReadsBehind rule entries last ends rest read
reads_list rule [] number place last ends rest read each counted placed reads = record {
  more = read;
  is = refl;
  reads =
      let same_number : number ≡ last = omega arith in
      let same_place : place ≡ ends = omega arith in
      subst (λ n. ReadsFrom rule n ends rest read) same_number (subst (λ p. ReadsFrom rule number p rest read) same_place reads);
}
reads_list rule (entry ∷ entries) number place last ends rest [] each counted placed reads =
    absurd (gate_open ((behind_gate entry ++ list_bytes entries) ++ rest) (omega arith) reads)
reads_list rule (entry ∷ entries) number place last ends rest (other ∷ read) each counted placed reads =
    let more = list_bytes entries ++ rest in
    let tail = (behind_gate entry ++ list_bytes entries) ++ rest in
    let there : tail ≡ behind_gate entry ++ more = append_assoc (behind_gate entry) (list_bytes entries) rest in
    let from = ReadsFrom rule (number + 1) (place + head_size + size_of tail) (rest_of tail) read in
    let next = next_gate rule entry each.0 more tail there (λ n p c. ReadsFrom rule n p c read) number place
    (followed_on (followed (body_of tail)) read from (goes_on rule entry each.0 more tail there) reads.2) in
    let sized = length-append (behind_gate entry) (list_bytes entries) in
    let behind = reads_list rule entries (number + 1) (place + head_size + length (spelled_on entry)) last ends rest read each.1 (omega arith) (omega arith) next in
    record {
      more = behind.more;
      is = ap₂ (λ (e : List FileText) (es : List (List FileText)). e ∷ es) (whole_is rule entry each.0 more tail there number place other reads.1) behind.is;
      reads = behind.reads;
    }

-- and it is broken only where what stands behind it is
pub breaks_list : (rule : Rule) (entries : List (List FileText)) (number place last ends : ℕ) (rest : List ℕ)
    → AllByRecursion (IsAllowed rule) entries → last ≤ most_entries → ends ≤ last_place
    → last ≡ number + length entries → ends ≡ place + length (list_bytes entries)
    → BreaksFrom rule number place (list_bytes entries ++ rest) → BreaksFrom rule last ends rest
breaks_list rule entries number place last ends rest each few within counted placed broken =
    by entries broken.0 number place each counted placed broken.1
  where
    by : (written read : List (List FileText)) (n p : ℕ) → AllByRecursion (IsAllowed rule) written
        → last ≡ n + length written → ends ≡ p + length (list_bytes written)
        → Leads rule (Breaks rule) n p (list_bytes written ++ rest) read → BreaksFrom rule last ends rest
    by [] read n p are counts places leads =
        let same_number : n ≡ last = omega arith in
        let same_place : p ≡ ends = omega arith in
        (read, subst (λ m. Leads rule (Breaks rule) m ends rest read) same_number (subst (λ q. Leads rule (Breaks rule) n q rest read) same_place leads))
    by (entry ∷ written) [] n p are counts places breaks =
        let more = list_bytes written ++ rest in
        let tail = (behind_gate entry ++ list_bytes written) ++ rest in
        let there : tail ≡ behind_gate entry ++ more = append_assoc (behind_gate entry) (list_bytes written) rest in
        let sized = length-append (behind_gate entry) (list_bytes written) in
        absurd (breaks.never entry (is_whole rule entry are.0 more tail there n p (omega arith) (omega arith)))
    by (entry ∷ written) (other ∷ read) n p are counts places leads =
        let more = list_bytes written ++ rest in
        let tail = (behind_gate entry ++ list_bytes written) ++ rest in
        let there : tail ≡ behind_gate entry ++ more = append_assoc (behind_gate entry) (list_bytes written) rest in
        let sized = length-append (behind_gate entry) (list_bytes written) in
        by written read (n + 1) (p + head_size + length (spelled_on entry)) are.1 (omega arith) (omega arith)
        (next_gate rule entry are.0 more tail there (λ m q c. Leads rule (Breaks rule) m q c read) n p leads.3)

-- a gate in front of an entry and a closed gate reads as none or as this entry
pub reads_with_gate : (rule : Rule) (entry : List FileText) (number place b : ℕ) (more : List ℕ)
    (read : List (List FileText))
    → IsAllowed rule entry
    → ReadsFrom rule number place (b ∷ (behind_gate entry ++ 0 ∷ more)) read → (read ≡ []) ⊎ (read ≡ entry ∷ [])
reads_with_gate rule entry number place b more [] is reads = inl refl
reads_with_gate rule entry number place b more (other ∷ read) is reads =
    let tail = behind_gate entry ++ 0 ∷ more in
    let from = ReadsFrom rule (number + 1) (place + head_size + size_of tail) (rest_of tail) read in
    let next = next_gate rule entry is (0 ∷ more) tail refl (λ n p c. ReadsFrom rule n p c read) number place
    (followed_on (followed (body_of tail)) read from (goes_on rule entry is (0 ∷ more) tail refl) reads.2) in
    let closed : IsClosed (0 ∷ more) = record { there = omega arith; gate_is = refl } in
    inr (ap₂ (λ (e : List FileText) (es : List (List FileText)). e ∷ es) (whole_is rule entry is (0 ∷ more) tail refl number place other reads.1)
    (reads_closed rule (number + 1) (place + head_size + length (spelled_on entry)) (0 ∷ more) read closed next))

pub gate_not_broken : (rule : Rule) (entry : List FileText) (number place b : ℕ) (more : List ℕ) → IsAllowed rule entry
    → number < most_entries → place + head_size + length (spelled_on entry) ≤ last_place
    → ¬ BreaksFrom rule number place (b ∷ (behind_gate entry ++ 0 ∷ more))
gate_not_broken rule entry number place b more is few within broken = by broken.0 broken.1
  where
    by : (read : List (List FileText))
        → Leads rule (Breaks rule) number place (b ∷ (behind_gate entry ++ 0 ∷ more)) read → ⊥
    by [] breaks =
        breaks.never entry (is_whole rule entry is (0 ∷ more) (behind_gate entry ++ 0 ∷ more) refl number place few within)
    by (other ∷ read) leads =
        closed_not_broken rule (number + 1) (place + head_size + length (spelled_on entry)) (0 ∷ more) (record { there = omega arith; gate_is = refl })
        (read, next_gate rule entry is (0 ∷ more) (behind_gate entry ++ 0 ∷ more) refl (λ m q c. Leads rule (Breaks rule) m q c read) number place leads.3)
