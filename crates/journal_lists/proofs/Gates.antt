-- What a list gains by a body behind its closed gate, what a torn gate may be, and what a written list and every
-- reading begin with.
use Rattle.std.proofs.Common.{◌≡◌, ℕ, ◌+◌, ◌<◌, ◌≤◌, Bool, List, [], ◌∷◌, ◌++◌, inl, inr, length, drop, true, false, refl, sym, ap, ap₂, ◌∙◌, subst, arith, append_assoc, append-nil, length-append}
use Rattle.std.specs.List.{AllByRecursion}
use Rattle.general_words.proofs.Lists.{all_back}
use Rattle.kdb_outside.specs.Images.{IsTornWrite}
use Rattle.journal_codec.specs.declared.files.FileText.{FileText}
use Rattle.journal_codec.specs.Forms.{followed, spelled_on, behind_gate}
use Rattle.journal_steps.specs.BadJournals.{entries_read}
use Rattle.journal_steps.specs.JournalBytes.{IsShut, IsClosed}
use Rattle.journal_steps.proofs.GateBytes.{IsShut-kept}
use Rattle.journal_lists.specs.Grammar.{most_entries, head_size, last_place, size_of, body_of, rest_of, IsWhole}
use Rattle.journal_lists.specs.Lists.{MayBeShut, MayBeOpen, Follows, ReadsFrom, OpensFrom, Leads, Breaks, BreaksFrom, list_bytes, Fits, BeginsSo}
use Rattle.journal_lists.specs.Rules.{Rule, IsAllowed}
use Rattle.journal_lists.proofs.Bodies.{is_whole, goes_on, next_gate}
use Rattle.journal_lists.proofs.OpenReads.{may_open, list_reads}

-- ---- the bytes of lists

pub list_bytes-append : (entries more : List (List FileText))
    → list_bytes (entries ++ more) ≡ list_bytes entries ++ list_bytes more
list_bytes-append [] more = refl
list_bytes-append (entry ∷ entries) more =
    ap (λ (l : List ℕ). 1 ∷ (behind_gate entry ++ l)) (list_bytes-append entries more)
    ∙ ap (λ (l : List ℕ). 1 ∷ l) (sym (append_assoc (behind_gate entry) (list_bytes entries) (list_bytes more)))

-- the list of one entry more, with what stands behind it
pub bytes_with : (entries : List (List FileText)) (entry : List FileText) (rest : List ℕ)
    → list_bytes (entries ++ entry ∷ []) ++ rest ≡ list_bytes entries ++ 1 ∷ (behind_gate entry ++ rest)
bytes_with entries entry rest =
    ap (λ (l : List ℕ). l ++ rest) (list_bytes-append entries (entry ∷ []))
    ∙ append_assoc (list_bytes entries) (1 ∷ (behind_gate entry ++ [])) rest
    ∙ ap (λ (l : List ℕ). list_bytes entries ++ 1 ∷ (l ++ rest)) (append-nil (behind_gate entry))

-- one entry more has room
pub record HasRoom (rule : Rule) (entries : List (List FileText)) (entry : List FileText) : Type 0 where
  pub is : IsAllowed rule entry
  pub few : length entries < most_entries
  pub within : length (list_bytes entries) + head_size + length (spelled_on entry) ≤ last_place

pub room_of : (rule : Rule) (entries : List (List FileText)) (entry : List FileText) → Fits rule (entries ++ entry ∷ [])
    → HasRoom rule entries entry
room_of rule entries entry fits =
    let sized = ap length (list_bytes-append entries (entry ∷ [])) in
    let joined = length-append (list_bytes entries) (list_bytes (entry ∷ [])) in
    let alone = length-append (behind_gate entry) [] in
    record {
      is = (all_back (IsAllowed rule) entries (entry ∷ []) fits.each).0;
      few = omega (arith, fits.few, length-append entries (entry ∷ []));
      within = omega (arith, fits.within);
    }

pub no_entries : (rule : Rule) → Fits rule []
no_entries rule = record { few = omega arith; within = omega arith; each = tt }

-- ---- what a torn gate may be

-- the gate's write leaves what stands behind the gate
pub torn_gate : (b x : ℕ) (tail now : List ℕ) → IsTornWrite 0 (b ∷ []) (x ∷ tail) now → (y : ℕ) × (now ≡ y ∷ tail)
torn_gate b x tail [] torn = absurd (omega (arith, torn.no_shorter))
torn_gate b x tail (y ∷ now) torn = (y, ap (λ (l : List ℕ). y ∷ l) torn.back)

-- a gate that may be open behind the closing of it might be open before
pub open_before : (rest now : List ℕ) → IsTornWrite 0 (0 ∷ []) rest now → MayBeOpen now → MayBeOpen rest
open_before rest now torn opened = record {
  there = omega (arith, torn.no_longer, opened.there);
  open_too = λ closed. by (IsShut-kept rest now torn (inr closed));
}
  where
    by : IsShut now → ⊥
    by (inl short) = omega (arith, opened.there)
    by (inr closed) = opened.open_too closed

-- so what is broken behind the closing of it was broken before, and each entry that is read then was read
pub closing_breaks : (rule : Rule) (number place : ℕ) (rest now : List ℕ) → IsTornWrite 0 (0 ∷ []) rest now
    → BreaksFrom rule number place now → BreaksFrom rule number place rest
closing_breaks rule number place rest now torn broken = by broken.0 broken.1
  where
    by : (entries : List (List FileText)) → Leads rule (Breaks rule) number place now entries
        → BreaksFrom rule number place rest
    by [] breaks = (
      [],
      record {
        opened = open_before rest now torn breaks.opened;
        never = λ entry whole. breaks.never entry (subst (λ (tail : List ℕ). IsWhole rule number place tail entry) (sym torn.back) whole);
      },
    )
    by (entry ∷ entries) leads = (
      entry ∷ entries,
      (
        open_before rest now torn leads.0,
        subst (λ (tail : List ℕ). IsWhole rule number place tail entry) torn.back leads.1,
        subst (λ (tail : List ℕ). followed (body_of tail) ≡ true) torn.back leads.2,
        subst (λ (tail : List ℕ). Leads rule (Breaks rule) (number + 1) (place + head_size + size_of tail) (rest_of tail) entries) torn.back leads.3,
      ),
    )

pub closing_reads : (rule : Rule) (number place : ℕ) (rest now : List ℕ) (entry : List FileText)
    (more : List (List FileText))
    → IsTornWrite 0 (0 ∷ []) rest now → ReadsFrom rule number place now (entry ∷ more)
    → ReadsFrom rule number place rest (entry ∷ more)
closing_reads rule number place rest now entry more torn reads = (
  open_before rest now torn reads.0,
  subst (λ (tail : List ℕ). IsWhole rule number place tail entry) torn.back reads.1,
  subst (λ (tail : List ℕ). Follows (followed (body_of tail)) more (ReadsFrom rule (number + 1) (place + head_size + size_of tail) (rest_of tail) more)) torn.back reads.2,
)

-- ---- what is open, and what is read

-- the entries of a written list are open, up to a closed gate
pub opens_list : (rule : Rule) (entries : List (List FileText)) (number place : ℕ) (rest : List ℕ)
    → AllByRecursion (IsAllowed rule) entries → number + length entries ≤ most_entries
    → place + length (list_bytes entries) ≤ last_place → IsClosed rest
    → OpensFrom rule number place (list_bytes entries ++ rest) entries
opens_list rule [] number place rest each few within closed = inr (λ one. let zero_too = closed.gate_is in omega arith)
opens_list rule (entry ∷ entries) number place rest each few within closed =
    let more = list_bytes entries ++ rest in
    let tail = (behind_gate entry ++ list_bytes entries) ++ rest in
    let there : tail ≡ behind_gate entry ++ more = append_assoc (behind_gate entry) (list_bytes entries) rest in
    let sized = length-append (behind_gate entry) (list_bytes entries) in
    let behind = opens_list rule entries (number + 1) (place + head_size + length (spelled_on entry)) rest each.1 (omega arith) (omega arith) closed in
    let from = OpensFrom rule (number + 1) (place + head_size + size_of tail) (rest_of tail) entries in
    let next = next_gate rule entry each.0 more tail there (λ n p c. OpensFrom rule n p c entries → from) number place (λ opens. opens) behind in (
      record { there = omega arith; gate_is = refl },
      is_whole rule entry each.0 more tail there number place (omega arith) (omega arith),
      subst (λ (b : Bool). Follows b entries from) (sym (goes_on rule entry each.0 more tail there)) next,
    )

-- every reading begins with the open entries
both_follow : (b : Bool) (opens reads : List (List FileText)) (X Y : Type 0) → Follows b opens X → Follows b reads Y
    → (X → Y → BeginsSo opens reads) → BeginsSo opens reads
both_follow true opens reads X Y first second on = on first second
both_follow false [] [] X Y first second on = ([], refl)
both_follow false [] (entry ∷ reads) X Y first second on = absurd second
both_follow false (entry ∷ opens) reads X Y first second on = absurd first

same_whole : (rule : Rule) (number place : ℕ) (tail : List ℕ) (one other : List FileText)
    → IsWhole rule number place tail one → IsWhole rule number place tail other → other ≡ one
same_whole rule number place tail one other first second = let bodies = sym second.body ∙ first.body in cc

pub opens_reads : (rule : Rule) (number place : ℕ) (c : List ℕ) (opens reads : List (List FileText))
    → OpensFrom rule number place c opens → ReadsFrom rule number place c reads → BeginsSo opens reads
opens_reads rule number place c [] reads first second = (reads, refl)
opens_reads rule number place c (entry ∷ opens) [] first second = absurd (not_shut second)
  where
    not_shut : ¬ MayBeShut c
    not_shut (inl short) = let there = first.0.there in omega arith
    not_shut (inr not_open) = not_open first.0.gate_is
opens_reads rule number place c (entry ∷ opens) (other ∷ reads) first second =
    let next = place + head_size + size_of (drop 1 c) in
    let rest = rest_of (drop 1 c) in
    let behind = both_follow (followed (body_of (drop 1 c))) opens reads (OpensFrom rule (number + 1) next rest opens) (ReadsFrom rule (number + 1) next rest reads) first.2 second.2
    (λ one two. opens_reads rule (number + 1) next rest opens reads one two) in
    (behind.0, ap₂ (λ (e : List FileText) (es : List (List FileText)). e ∷ es) (same_whole rule number place (drop 1 c) entry other first.1 second.1) behind.1)

-- and the open entries are a reading
follow_weaker : (b : Bool) (entries : List (List FileText)) (X Y : Type 0) → (X → Y) → Follows b entries X
    → Follows b entries Y
follow_weaker true entries X Y weaker follows = weaker follows
follow_weaker false [] X Y weaker follows = tt
follow_weaker false (entry ∷ entries) X Y weaker follows = absurd follows

pub opens_read : (rule : Rule) (number place : ℕ) (c : List ℕ) (entries : List (List FileText))
    → OpensFrom rule number place c entries → ReadsFrom rule number place c entries
opens_read rule number place c [] opens = opens
opens_read rule number place c (entry ∷ entries) opens =
    let next = place + head_size + size_of (drop 1 c) in
    let rest = rest_of (drop 1 c) in (
      may_open c opens.0,
      opens.1,
      follow_weaker (followed (body_of (drop 1 c))) entries (OpensFrom rule (number + 1) next rest entries) (ReadsFrom rule (number + 1) next rest entries)
          (λ behind. opens_read rule (number + 1) next rest entries behind) opens.2,
    )

-- there are no others
pub opens_once : (rule : Rule) (journal : List ℕ) (entries others : List (List FileText))
    → OpensFrom rule 0 0 journal entries → OpensFrom rule 0 0 journal others → others ≡ entries
opens_once rule journal entries others first second =
    ap entries_read (sym (list_reads rule journal others second) ∙ list_reads rule journal entries first)
