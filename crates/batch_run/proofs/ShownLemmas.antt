-- Rooms that stand in rows, one for each session, and the transcripts that are shown of them: both say the same.
use Rattle.std.proofs.Common.{◌≡◌, ◌≢◌, ◌⊎◌, inl, inr, ℕ, zero, suc, ◌+◌, ◌<◌, ◌≤◌, Bool, true, false, cond, nat_eq, ◌||◌, List, [], ◌∷◌, ◌++◌, length, get_or, set, drop, slice_get, Some, map, refl, sym, ap, ◌∙◌, arith, eq-eqb, eqb-true, ne_eqb}
use Rattle.std.proofs.lemmas.List.{drop_more, get_or-map, length-map, nil_from_length, same_lists}
use Rattle.std.specs.List.{AllByRecursion, list_any}
use Rattle.batch_script.specs.Rising.{IsRising}
use Rattle.batch_script.specs.Rows.{most_sessions}
use Rattle.batch_run.specs.Shown.{IsApart, IsOrdered, number_of, shown_row, shown_rows, told_at}
use Rattle.batch_run.specs.Stands.{IsFull, rows_of}
use Rattle.batch_run.proofs.Rising.{IsAt, at-filter, rising-filter, rising_apart, rising_at}
use Rattle.batch_script.specs.declared.steps.Phase.{Phase}
use Rattle.batch_script.specs.declared.steps.ProcLine.{ProcLine}
use Rattle.batch_script.specs.declared.steps.Script.{Script}
use Rattle.batch_script.specs.declared.steps.Step.{Step}
use Rattle.batch_script.specs.declared.steps.Steps.{Steps}
use Rattle.kdb_handle.specs.declared.replies.Reply.{Reply}
use Rattle.model_batch.specs.Fair.{in_row}
use Rattle.model_batch.specs.Scripts.{AnswerEach, AreTranscripts, has_session, replies_in, rows_by, sessions_of, steps_in}

-- ---- what stands in a row

pub in_row-at : {A : Type 0} (row : List (List A)) (i : ℕ) (d : List A) → i < length row → in_row i row ≡ get_or row i d
in_row-at [] i d lt = absurd (omega arith)
in_row-at (x ∷ row) zero d lt = refl
in_row-at (x ∷ row) (suc i) d lt = in_row-at row i d (omega arith)

-- what stands for the number of a place stands there
told-place : (least : ℕ) (ns : List ℕ) (row : List (List Reply)) (i : ℕ) → IsRising least ns → length row ≡ length ns
    → i < length ns → told_at ns row (get_or ns i 0) ≡ in_row i row
told-place least [] row i rises wide lt = absurd (omega arith)
told-place least (n ∷ ns) [] i rises wide lt = absurd (omega arith)
told-place least (n ∷ ns) (told ∷ row) zero rises wide lt = ap (λ b. cond b told (told_at ns row n)) (eq-eqb n n refl)
told-place least (n ∷ ns) (told ∷ row) (suc i) rises wide lt =
    let further = rising_at (n + 1) ns i 0 rises.1 (omega arith) in
    let apart = ne_eqb n (get_or ns i 0) (λ same. omega arith) in
    ap (λ b. cond b told (told_at ns row (get_or ns i 0))) apart
    ∙ told-place (n + 1) ns row i rises.1 (omega arith) (omega arith)

-- the steps of a session that a phase names are those that it names there
steps-place : (least : ℕ) (phase : List Steps) (k : ℕ) (d : Steps) → IsRising least (map number_of phase)
    → k < length phase → steps_in phase (number_of (get_or phase k d)) ≡ (get_or phase k d).steps
steps-place least [] k d rises lt = absurd (omega arith)
steps-place least (steps ∷ phase) zero d rises lt =
    ap (λ b. cond b steps.steps (steps_in phase steps.session)) (eq-eqb steps.session steps.session refl)
steps-place least (steps ∷ phase) (suc k) d rises lt =
    let number = number_of (get_or phase k d) in
    let there = get_or-map number_of phase k d 0 (omega arith) in
    let further = rising_at (steps.session + 1) (map number_of phase) k 0 rises.1 (omega (arith, length-map phase number_of)) in
    let apart = ne_eqb steps.session number (λ same. omega arith) in
    ap (λ b. cond b steps.steps (steps_in phase number)) apart
    ∙ steps-place (steps.session + 1) phase k d rises.1 (omega arith)

-- ---- shown, and looked up again

-- what is shown of a number is found, or the phase doesn't name it
shown-found : (f : ℕ → List Reply) (phase : List Steps) (n : ℕ) → let shown = replies_in phase (map (λ (steps : Steps). f steps.session) phase) n in (shown ≡ f n) ⊎ ((shown ≡ []) × (steps_in phase n ≡ []))
shown-found f [] n = inr (refl, refl)
shown-found f (steps ∷ phase) n = by (nat_eq steps.session n) refl (shown-found f phase n)
  where
    rest : List Reply
    rest = replies_in phase (map (λ (steps : Steps). f steps.session) phase) n

    by : (b : Bool) → nat_eq steps.session n ≡ b → (rest ≡ f n) ⊎ ((rest ≡ []) × (steps_in phase n ≡ []))
        → (cond b (f steps.session) rest ≡ f n)
        ⊎ ((cond b (f steps.session) rest ≡ []) × (cond b steps.steps (steps_in phase n) ≡ []))
    by true is found = inl (ap f (eqb-true steps.session n is))
    by false is found = found

row-back : (ns : List ℕ) (phase : List Steps) (row : List (List Reply)) → IsRising 1 ns
    → IsFull (length ns) (map (steps_in phase) ns) row → map (replies_in phase (shown_row ns row phase)) ns ≡ row
row-back ns phase row rises full = same_lists (map back ns) row (length-map ns back ∙ sym full.wide) each
  where
    back : ℕ → List Reply
    back n = replies_in phase (shown_row ns row phase) n

    by : (k : ℕ) → k < length ns
        → (back (get_or ns k 0) ≡ told_at ns row (get_or ns k 0))
        ⊎ ((back (get_or ns k 0) ≡ []) × (steps_in phase (get_or ns k 0) ≡ []))
        → back (get_or ns k 0) ≡ in_row k row
    by k lt (inl found) = found ∙ told-place 1 ns row k rises full.wide lt
    by k lt (inr none) =
        let made = in_row-at (map (steps_in phase) ns) k [] (omega (arith, length-map ns (steps_in phase))) ∙ get_or-map (steps_in phase) ns k 0 [] lt ∙ none.1 in
        none.0 ∙ sym (nil_from_length (in_row k row) (full.even k lt ∙ ap length made))

    each : (k : ℕ) (d : List Reply) → k < length (map back ns) → get_or (map back ns) k d ≡ get_or row k d
    each k d lt =
        let lt' : k < length ns = omega (arith, length-map ns back) in
        get_or-map back ns k 0 d lt' ∙ by k lt' (shown-found (told_at ns row) phase (get_or ns k 0))
        ∙ in_row-at row k d (omega (arith, full.wide))

pub rows-back : (ns : List ℕ) (phases : List Phase) (rows : List (List (List Reply))) → IsRising 1 ns
    → length rows ≡ length phases
    → ((p : ℕ) (made : List (List Step)) (row : List (List Reply)) → slice_get (rows_of ns phases) p ≡ Some made → slice_get rows p ≡ Some row → IsFull (length ns) made row)
    → rows_by ns phases (shown_rows ns phases rows) ≡ rows
rows-back ns [] [] rises long full = refl
rows-back ns [] (row ∷ rows) rises long full = absurd (omega arith)
rows-back ns (phase ∷ phases) [] rises long full = absurd (omega arith)
rows-back ns (phase ∷ phases) (row ∷ rows) rises long full =
    let first = row-back ns phase.sessions row rises (full 0 (map (steps_in phase.sessions) ns) row refl refl) in
    let rest = rows-back ns phases rows rises (omega arith) (λ p made one there is. full (suc p) made one there is) in
    λ i. first i ∷ rest i

-- ---- one reply for each step

answer-each : (f : ℕ → List Reply) (phase : List Steps)
    → ((k : ℕ) (d : Steps) → k < length phase → length (f (number_of (get_or phase k d))) ≡ length (get_or phase k d).steps)
    → AnswerEach phase (map (λ (steps : Steps). f steps.session) phase)
answer-each f [] each = tt
answer-each f (steps ∷ phase) each =
    (each 0 steps (omega arith), answer-each f phase (λ k d lt. each (suc k) d (omega arith)))

row-answers : (ns : List ℕ) (phase : List Steps) (row : List (List Reply)) → IsRising 1 ns
    → IsRising 1 (map number_of phase)
    → ((k : ℕ) (d : Steps) → k < length phase → IsAt ns (number_of (get_or phase k d)))
    → IsFull (length ns) (map (steps_in phase) ns) row → AnswerEach phase (shown_row ns row phase)
row-answers ns phase row rises ordered known full = answer-each (told_at ns row) phase (λ k d lt.
    let at = known k d lt in
    let number = number_of (get_or phase k d) in
    let told = ap (told_at ns row) (sym (at.there 0)) ∙ told-place 1 ns row at.place rises full.wide at.within in
    let made = in_row-at (map (steps_in phase) ns) at.place [] (let lt' = at.within in omega (arith, length-map ns (steps_in phase))) ∙ get_or-map (steps_in phase) ns at.place 0 [] at.within ∙ ap (steps_in phase) (at.there 0) in
    ap length told ∙ full.even at.place at.within ∙ ap length (made ∙ steps-place 1 phase k d ordered lt))

pub rows-answer : (ns : List ℕ) (phases : List Phase) (rows : List (List (List Reply))) → IsRising 1 ns
    → length rows ≡ length phases
    → ((p : ℕ) (d : Phase) → p < length phases → IsRising 1 (map number_of (get_or phases p d).sessions))
    → ((p : ℕ) (d : Phase) → p < length phases → (k : ℕ) (e : Steps) → k < length (get_or phases p d).sessions → IsAt ns (number_of (get_or (get_or phases p d).sessions k e)))
    → ((p : ℕ) (made : List (List Step)) (row : List (List Reply)) → slice_get (rows_of ns phases) p ≡ Some made → slice_get rows p ≡ Some row → IsFull (length ns) made row)
    → AreTranscripts phases (shown_rows ns phases rows)
rows-answer ns [] [] rises long ordered known full = tt
rows-answer ns [] (row ∷ rows) rises long ordered known full = absurd (omega arith)
rows-answer ns (phase ∷ phases) [] rises long ordered known full = absurd (omega arith)
rows-answer ns (phase ∷ phases) (row ∷ rows) rises long ordered known full = (
  row-answers ns phase.sessions row rises (ordered 0 phase (omega arith)) (known 0 phase (omega arith)) (full 0 (map (steps_in phase.sessions) ns) row refl refl),
  rows-answer ns phases rows rises (omega arith) (λ p d lt. ordered (suc p) d (omega arith)) (λ p d lt. known (suc p) d (omega arith)) (λ p made one there is. full (suc p) made one there is),
)

-- ---- the sessions of a script

pub sessions-rise : (script : Script) → IsRising 1 (sessions_of script)
sessions-rise script = rising-filter (has_session script) 1 most_sessions

any-at : {A : Type 0} (test : A → Bool) (xs : List A) (k : ℕ) (d : A) → k < length xs → test (get_or xs k d) ≡ true
    → list_any test xs ≡ true
any-at test [] k d lt is = absurd (omega arith)
any-at test (x ∷ xs) zero d lt is = ap (λ b. b || list_any test xs) is
any-at test (x ∷ xs) (suc k) d lt is =
    let rest = any-at test xs k d (omega arith) is in elim (test x) as (λ b. (b || list_any test xs) ≡ true) [ true ↦ refl | false ↦ rest ]

each-at : {A : Type 0} (P : A → Type 0) (xs : List A) (k : ℕ) (d : A) → AllByRecursion P xs → k < length xs
    → P (get_or xs k d)
each-at P [] k d all lt = absurd (omega arith)
each-at P (x ∷ xs) zero d all lt = all.0
each-at P (x ∷ xs) (suc k) d all lt = each-at P xs k d all.1 (omega arith)

-- each that a phase names is one of them
pub named-there : (script : Script) → IsOrdered script → (p : ℕ) (d : Phase) → p < length script.phases
    → (k : ℕ) (e : Steps) → k < length (get_or script.phases p d).sessions
    → IsAt (sessions_of script) (number_of (get_or (get_or script.phases p d).sessions k e))
named-there script ordered p d lt k e within =
    let sessions = (get_or script.phases p d).sessions in
    let number = number_of (get_or sessions k e) in
    let named = ordered p d lt in
    let there = get_or-map number_of sessions k e 0 within in
    let least = rising_at 1 (map number_of sessions) k 0 named.rising (omega (arith, length-map sessions number_of)) in
    let most = each-at (λ (steps : Steps). steps.session ≤ most_sessions) sessions k e named.most within in
    let steps = any-at (λ (steps : Steps). nat_eq steps.session number) sessions k e within (eq-eqb number number refl) in
    let phase = any-at (λ (phase : Phase). list_any (λ (steps : Steps). nat_eq steps.session number) phase.sessions) script.phases p d lt steps in
    at-filter (has_session script) 1 most_sessions number (omega arith) (omega arith) (or-true (list_any (λ (line : ProcLine). nat_eq line.session number) script.proc) _ phase)
  where
    or-true : (a b : Bool) → b ≡ true → (a || b) ≡ true
    or-true true b is = refl
    or-true false b is = is

-- ---- taking a room out

-- the numbers that a phase names are apart
pub named-apart : (phase : List Steps) → IsRising 1 (map number_of phase) → IsApart phase
named-apart phase rises i j d lt within same =
    let less = rising_apart 1 (map number_of phase) i j 0 rises lt (omega (arith, length-map phase number_of)) in
    omega (arith, get_or-map number_of phase i d 0 (omega arith), get_or-map number_of phase j d 0 within, same)

-- what stands for the number of the first place that has it stands there
pub told-first : (ns : List ℕ) (row : List (List Reply)) (number place d : ℕ) → place < length ns
    → get_or ns place d ≡ number → ((k : ℕ) → k < place → get_or ns k d ≢ number)
    → told_at ns row number ≡ in_row place row
told-first [] row number place d lt is none = absurd (omega arith)
told-first (n ∷ ns) [] number place d lt is none = refl
told-first (n ∷ ns) (told ∷ row) number zero d lt is none =
    ap (λ b. cond b told (told_at ns row number)) (eq-eqb n number is)
told-first (n ∷ ns) (told ∷ row) number (suc place) d lt is none =
    ap (λ b. cond b told (told_at ns row number)) (ne_eqb n number (none 0 (omega arith)))
    ∙ told-first ns row number place d (omega arith) is (λ k within. none (suc k) (omega arith))

-- a number that isn't there has nothing
pub told-none : (ns : List ℕ) (row : List (List Reply)) (number d : ℕ)
    → ((k : ℕ) → k < length ns → get_or ns k d ≢ number) → told_at ns row number ≡ []
told-none [] row number d none = refl
told-none (n ∷ ns) [] number d none = refl
told-none (n ∷ ns) (told ∷ row) number d none =
    ap (λ b. cond b told (told_at ns row number)) (ne_eqb n number (none 0 (omega arith)))
    ∙ told-none ns row number d (λ k within. none (suc k) (omega arith))

-- a write at the place of one number changes what stands for no other
pub told-other : (ns : List ℕ) (row : List (List Reply)) (other place d : ℕ) (new : List Reply) → place < length ns
    → get_or ns place d ≢ other → told_at ns (set row place new) other ≡ told_at ns row other
told-other [] row other place d new lt apart = refl
told-other (n ∷ ns) [] other place d new lt apart = refl
told-other (n ∷ ns) (told ∷ row) other zero d new lt apart =
    ap (λ b. cond b new (told_at ns row other)) (ne_eqb n other apart)
    ∙ sym (ap (λ b. cond b told (told_at ns row other)) (ne_eqb n other apart))
told-other (n ∷ ns) (told ∷ row) other (suc place) d new lt apart =
    let rest = told-other ns row other place d new (omega arith) apart in
    elim (nat_eq n other) as (λ b. cond b told (told_at ns (set row place new) other) ≡ cond b told (told_at ns row other)) [ true ↦ refl | false ↦ rest ]

-- one phase more
pub shown-snoc : (ns : List ℕ) (phases : List Phase) (rows : List (List (List Reply))) (phase : Phase)
    (row : List (List Reply)) → length phases ≡ length rows
    → shown_rows ns (phases ++ phase ∷ []) (rows ++ row ∷ [])
    ≡ shown_rows ns phases rows ++ shown_row ns row phase.sessions ∷ []
shown-snoc ns [] [] phase row long = refl
shown-snoc ns [] (one ∷ rows) phase row long = absurd (omega arith)
shown-snoc ns (first ∷ phases) [] phase row long = absurd (omega arith)
shown-snoc ns (first ∷ phases) (one ∷ rows) phase row long =
    ap (λ (l : List (List (List Reply))). shown_row ns one first.sessions ∷ l) (shown-snoc ns phases rows phase row (omega arith))

-- ---- a search for the steps of a session

-- the session at the next place is the one that was sought
pub steps-found : (phase : List Steps) (k : ℕ) (d : Steps) (number : ℕ) → k < length phase
    → steps_in (drop k phase) number ≡ steps_in phase number → number_of (get_or phase k d) ≡ number
    → (get_or phase k d).steps ≡ steps_in phase number
steps-found phase k d number lt left is =
    let steps = get_or phase k d in
    sym (ap (λ b. cond b steps.steps (steps_in (drop (k + 1) phase) number)) (eq-eqb steps.session number is))
    ∙ (ap (λ (l : List Steps). steps_in l number) (sym (drop_more phase k d lt)) ∙ left)

-- past its end a row has nothing
pub in_row-past : {A : Type 0} (row : List (List A)) (i : ℕ) → length row ≤ i → in_row i row ≡ []
in_row-past [] i le = refl
in_row-past (x ∷ row) zero le = absurd (omega arith)
in_row-past (x ∷ row) (suc i) le = in_row-past row i (omega arith)
