-- The former journal, once it is retired: nothing is read in it, and nothing is broken.
use Rattle.std.proofs.Common.{◌≡◌, ◌≢◌, inl, inr, ℕ, List, [], ◌∷◌, length, refl, ap, arith}
use Rattle.kdb_outside.specs.Images.{Only}
use Rattle.journal_codec.specs.declared.files.FileText.{FileText}
use Rattle.journal_codec.specs.Entry.{journal_name, journal2_name}
use Rattle.journal_lists.specs.Grammar.{head_size}
use Rattle.journal_lists.specs.Journals.{ReadsFormer, OpensFormer, BreaksFormer}
use Rattle.journal_lists.specs.Lists.{MayBeOpen, Leads, Breaks}
use Rattle.journal_lists.specs.Rules.{plain}
use Rattle.journal_steps.specs.JournalBytes.{IsShut}
use Rattle.intent_journal.specs.States.{IsRetired, IsOneGate}

-- the journal's two files have two names
pub names_apart : journal2_name ≢ journal_name
names_apart same = omega (arith, ap length same)

pub retired_shut : (leaves : List ℕ → List ℕ → Type 0) (c : List ℕ) → IsRetired leaves → leaves journal_name c
    → IsShut c
retired_shut leaves c (inl short) is = inl (short c is)
retired_shut leaves c (inr closed) is = inr (closed c is)

pub retired_kept : (old new : List ℕ → List ℕ → Type 0) → ((c : List ℕ) → new journal_name c → old journal_name c)
    → IsRetired old → IsRetired new
retired_kept old new kept (inl short) = inl (λ c is. short c (kept c is))
retired_kept old new kept (inr closed) = inr (λ c is. closed c (kept c is))

pub retired_only : (leaves : List ℕ → List ℕ → Type 0) → Only (0 ∷ []) (leaves journal_name) → IsRetired leaves
retired_only leaves only = inl (λ c is. let sized : length c ≡ 1 = ap length (only c is) in omega arith)

-- and its images differ in no open gate
pub retired_gate : (leaves : List ℕ → List ℕ → Type 0) (Gate : ℕ → Type 0) (journal : List ℕ) → Gate 0
    → IsRetired leaves → IsOneGate Gate head_size journal (leaves journal_name)
retired_gate leaves Gate journal first (inl short) = inr (inr short)
retired_gate leaves Gate journal first (inr closed) =
    inr (inl (0, first, λ c is. record { front = refl; closed = closed c is }))

-- a shut journal
not_open : (c : List ℕ) → IsShut c → ¬ MayBeOpen c
not_open c (inl short) opened = let there = opened.there in omega arith
not_open c (inr closed) opened = opened.open_too closed

pub shut_reads : (c : List ℕ) (entries : List (List FileText)) → IsShut c → ReadsFormer c entries → entries ≡ []
shut_reads c [] shut reads = refl
shut_reads c (entry ∷ entries) shut reads = absurd (not_open c shut reads.0)

pub shut_opens : (c : List ℕ) → IsShut c → OpensFormer c []
shut_opens c (inl short) = inl short
shut_opens c (inr closed) = inr (λ one. omega arith)

pub shut_not_broken : (c : List ℕ) → IsShut c → ¬ BreaksFormer c
shut_not_broken c shut broken = by broken.0 broken.1
  where
    by : (entries : List (List FileText)) → Leads plain (Breaks plain) 0 0 c entries → ⊥
    by [] breaks = not_open c shut breaks.opened
    by (entry ∷ entries) leads = not_open c shut leads.0
