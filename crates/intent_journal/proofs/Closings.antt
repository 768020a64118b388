-- What the closing of the list's first gate in `journal2` makes of what is read there: the head before it stays, and
-- behind it no list begins.
use Rattle.std.proofs.Common.{◌≡◌, ◌≢◌, ◌⊎◌, inl, inr, ℕ, ◌+◌, ◌≤◌, List, [], ◌∷◌, ◌++◌, length, take, drop, refl, sym, ap, ◌∙◌, subst, arith, length-drop, length-take, take-append-drop, take-take}
use Rattle.std.specs.Prelude.{get_or}
use Rattle.std.proofs.lemmas.List.{drop-take, drop_at, get_or-take}
use Rattle.kdb_outside.specs.Files.{written}
use Rattle.kdb_outside.specs.Images.{IsTornWrite}
use Rattle.kdb_outside.proofs.TornLemmas.{IsTornWrite-whole}
use Rattle.journal_codec.specs.declared.files.FileText.{FileText}
use Rattle.journal_codec.specs.Entry.{number_of}
use Rattle.journal_codec.specs.Header.{spelled_header}
use Rattle.journal_lists.specs.Heads.{head_start, front_size, header_size, header_of, header_or_place, IsHead}
use Rattle.journal_lists.specs.Journals.{IsHeaded, ReadsBehindHead, OpensBehindHead, BreaksBehindHead, ReadsJournal, OpensJournal, BreaksJournal, BeginsAt}
use Rattle.journal_lists.specs.Lists.{ReadsFrom, BreaksFrom}
use Rattle.journal_lists.specs.Rules.{listed}
use Rattle.journal_lists.proofs.Bytes.{torn_behind, written_behind}
use Rattle.journal_lists.proofs.Gates.{closing_breaks, closing_reads}
use Rattle.journal_lists.proofs.Heads.{same_names}
use Rattle.journal_lists.proofs.FirstGates.{first_gate}
use Rattle.journal_lists.proofs.Journals.{may_headed, head_of}
use Rattle.journal_lists.proofs.ListReads.{reads_closed, closed_not_broken}
use Rattle.journal_steps.specs.JournalBytes.{IsClosed}
use Rattle.journal_steps.proofs.GateBytes.{IsClosed-written}
use Rattle.intent_journal.specs.States.{HoldsNone}

-- behind a head that is open stands a list's first gate, at this place
pub record IsListAt (c : List ℕ) (at : ℕ) : Type 0 where
  pub names : List (List ℕ)
  pub headed : IsHeaded c
  pub head : IsHead c names
  pub sized : header_size c ≡ length (spelled_header names)
  pub at_is : at ≡ front_size names
  pub there : at ≤ length c

-- a list with entries whose place was read stands there
pub stands_at : (c : List ℕ) (at : ℕ) (list : List (List FileText)) → BeginsAt c at → OpensJournal c list → list ≢ []
    → IsListAt c at
stands_at c at [] begins opens some = absurd (some refl)
stands_at c at (entry ∷ list) begins opens some = by opens (first_gate c at entry list begins opens)
  where
    by : OpensJournal c (entry ∷ list) → (behind : OpensBehindHead c (entry ∷ list)) × (at ≡ front_size behind.names)
        → IsListAt c at
    by (inl headless) found = absurd (let none = headless.1 in cc)
    by (inr (headed, other)) found =
        let behind = found.0 in
        let long = behind.opens.0.there in
        record {
          names = behind.names;
          headed = headed;
          head = behind.head;
          sized = omega (arith, begins.sized (λ none. let both = sym begins.head ∙ head_of c behind.names headed behind.head in cc), found.1);
          at_is = found.1;
          there = omega (arith, found.1, long, length-drop (front_size behind.names) c);
        }

-- bytes that begin with those of a head begin with it
six : (front_is : ℕ) (c now : List ℕ) → 6 ≤ front_is → take front_is now ≡ take front_is c → take 6 now ≡ take 6 c
six front_is c now long same = sym (take-take 6 front_is now long) ∙ ap (take 6) same ∙ take-take 6 front_is c long

pub head_front : (c now : List ℕ) (names : List (List ℕ)) → IsHead c names
    → header_size c ≡ length (spelled_header names) → take (front_size names) now ≡ take (front_size names) c
    → IsHead now names
head_front c now names head sized same =
    let q = front_size names in
    let first = six q c now (omega arith) same in
    let sizes : header_size now ≡ header_size c = ap number_of (sym (drop-take 2 4 now) ∙ ap (drop 2) first ∙ drop-take 2 4 c) in
    let n = header_size c in
    let ends : head_start + n ≡ q = ap (λ (k : ℕ). head_start + k) sized in
    let there : take n (drop head_start now) ≡ header_of c =
    sym (drop-take head_start n now) ∙ ap (λ (k : ℕ). drop head_start (take k now)) ends ∙ ap (drop head_start) same
    ∙ sym (ap (λ (k : ℕ). drop head_start (take k c)) ends)
    ∙ drop-take head_start n c in
    record {
      version = sym (get_or-take 6 now 1 0 (omega arith)) ∙ ap (λ (l : List ℕ). get_or l 1 0) first ∙ get_or-take 6 c 1 0 (omega arith) ∙ head.version;
      header =
          ap (λ (size : ℕ). header_or_place size (take size (drop head_start now))) sizes
          ∙ ap (λ (bytes : List ℕ). header_or_place n bytes) there ∙ head.header;
    }

-- a journal whose list's first gate was closed, or that was torn meanwhile
module _ (c now : List ℕ) (at : ℕ) (stands : IsListAt c at) (torn : IsTornWrite at (0 ∷ []) c now) where
  head_now : IsHead now stands.names
  head_now =
      head_front c now stands.names stands.head stands.sized (subst (λ (n : ℕ). take n now ≡ take n c) stands.at_is torn.front)

  list_torn : IsTornWrite 0 (0 ∷ []) (drop (front_size stands.names) c) (drop (front_size stands.names) now)
  list_torn =
      let before = take at c in
      let rest = drop at c in
      let fits : at ≡ length before + 0 = omega (arith, length-take at c, stands.there) in
      let whole = subst (λ (l : List ℕ). IsTornWrite at (0 ∷ []) l now) (sym (take-append-drop at c)) torn in
      let behind = torn_behind before (0 ∷ []) rest now at 0 fits whole in
      let here : drop at now ≡ behind.0 = ap (drop at) behind.1 ∙ drop_at before behind.0 at (omega (arith, fits)) in
      subst (λ (n : ℕ). IsTornWrite 0 (0 ∷ []) (drop n c) (drop n now)) stands.at_is (subst (λ (l : List ℕ). IsTornWrite 0 (0 ∷ []) rest l) (sym here) behind.2)

  -- the list that another head names is that one
  reads_there : (entries : List (List FileText)) → ReadsBehindHead now entries
      → ReadsFrom (listed stands.names) 0 0 (drop (front_size stands.names) now) entries
  reads_there entries behind =
      let same : behind.names ≡ stands.names = same_names now stands.names behind.names head_now behind.head in
      subst (λ (names : List (List ℕ)). ReadsFrom (listed names) 0 0 (drop (front_size names) now) entries) same behind.reads

  breaks_there : BreaksBehindHead now → BreaksFrom (listed stands.names) 0 0 (drop (front_size stands.names) now)
  breaks_there behind =
      let same : behind.names ≡ stands.names = same_names now stands.names behind.names head_now behind.head in
      subst (λ (names : List (List ℕ)). BreaksFrom (listed names) 0 0 (drop (front_size names) now)) same behind.breaks

  pub closing_breaks_journal : BreaksJournal now → BreaksJournal c
  closing_breaks_journal broken = by broken.1
    where
      by : (((names : List (List ℕ)) → ¬ IsHead now names) ⊎ BreaksBehindHead now) → BreaksJournal c
      by (inl never) = absurd (never stands.names head_now)
      by (inr behind) = (
        may_headed c stands.headed,
        inr (record {
          names = stands.names;
          head = stands.head;
          breaks = closing_breaks (listed stands.names) 0 0 (drop (front_size stands.names) c) (drop (front_size stands.names) now) list_torn (breaks_there behind);
        }),
      )

  was_read : (entries : List (List FileText))
      → ReadsFrom (listed stands.names) 0 0 (drop (front_size stands.names) now) entries
      → (entries ≡ []) ⊎ ReadsJournal c entries
  was_read [] reads = inl refl
  was_read (entry ∷ entries) reads =
      inr (inr (
        may_headed c stands.headed,
        record {
          names = stands.names;
          head = stands.head;
          reads = closing_reads (listed stands.names) 0 0 (drop (front_size stands.names) c) (drop (front_size stands.names) now) entry entries list_torn reads;
        },
      ))

  pub closing_reads_any : (entries : List (List FileText)) → ReadsJournal now entries
      → (entries ≡ []) ⊎ ReadsJournal c entries
  closing_reads_any entries (inl headless) = inl headless.1
  closing_reads_any entries (inr headed) = was_read entries (reads_there entries headed.1)

  -- closed for good it holds no entry
  none_there : IsClosed (drop (front_size stands.names) now) → HoldsNone now
  none_there closed = record { not_broken = unbroken; none = none }
    where
      unbroken : ¬ BreaksJournal now
      unbroken (headed, inl never) = never stands.names head_now
      unbroken (headed, inr behind) =
          closed_not_broken (listed stands.names) 0 0 (drop (front_size stands.names) now) closed (breaks_there behind)

      none : (more : List (List FileText)) → ReadsJournal now more → more ≡ []
      none more (inl headless) = headless.1
      none more (inr headed) =
          reads_closed (listed stands.names) 0 0 (drop (front_size stands.names) now) more closed (reads_there more headed.1)

pub closing_reads_journal : (c now : List ℕ) (at : ℕ) (entries : List (List FileText)) → IsListAt c at
    → IsTornWrite at (0 ∷ []) c now → ReadsJournal now entries → (entries ≡ []) ⊎ ReadsJournal c entries
closing_reads_journal c now at entries stands torn reads = closing_reads_any c now at stands torn entries reads

pub closed_holds_none : (c : List ℕ) (at : ℕ) → IsListAt c at → HoldsNone (written c at (0 ∷ []))
closed_holds_none c at stands =
    let now = written c at (0 ∷ []) in
    let before = take at c in
    let fits : at ≡ length before + 0 = omega (arith, length-take at c, stands.there) in
    let joined : now ≡ before ++ written (drop at c) 0 (0 ∷ []) =
    ap (λ (l : List ℕ). written l at (0 ∷ [])) (sym (take-append-drop at c)) ∙ written_behind before (drop at c) (0 ∷ []) at 0 fits in
    let here : drop at now ≡ written (drop at c) 0 (0 ∷ []) = ap (drop at) joined ∙ drop_at before (written (drop at c) 0 (0 ∷ [])) at (omega (arith, fits)) in
    let closed : IsClosed (drop at now) = subst IsClosed (sym here) (IsClosed-written (drop at c)) in
    none_there c now at stands (IsTornWrite-whole c at (0 ∷ []) stands.there) (subst (λ (n : ℕ). IsClosed (drop n now)) stands.at_is closed)
