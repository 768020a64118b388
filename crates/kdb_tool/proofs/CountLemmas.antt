-- A fault of the disk among the replies of a script's sessions is counted, and what the status says of the replies.
use Rattle.std.specs.Prelude.{sum_by}
use Rattle.std.proofs.Common.{◌≡◌, ℕ, zero, suc, ◌+◌, ◌<◌, ◌≤◌, Bool, true, false, cond, nat_eq, ◌||◌, List, [], ◌∷◌, map, filter, refl, sym, ap, subst, ◌∙◌, arith, eq-eqb, eqb-true, ne_eqb}
use Rattle.std.specs.List.{AllByRecursion, list_any, range_with_len}
use Rattle.std.proofs.lemmas.List.Elements.{recursion_from_All}
use Rattle.std.proofs.lemmas.List.Sums.{sum_by-cons}
use Rattle.batch_run.specs.Shown.{IsOrdered, number_of}
use Rattle.batch_script.specs.Rising.{AreAscending, IsRising}
use Rattle.batch_script.specs.Rows.{most_sessions}
use Rattle.batch_script.specs.declared.steps.Phase.{Phase}
use Rattle.batch_script.specs.declared.steps.ProcLine.{ProcLine}
use Rattle.batch_script.specs.declared.steps.Script.{Script}
use Rattle.batch_script.specs.declared.steps.Steps.{Steps}
use Rattle.kdb_handle.specs.declared.merging.MergeEnd.{MergeEnd}
use Rattle.kdb_handle.specs.declared.merging.MergeEnd.TheVariants as merge_end
use Rattle.kdb_handle.specs.declared.replies.Reply.{Reply}
use Rattle.kdb_handle.specs.declared.replies.Reply.TheVariants.{SetRefused, MergeRefused, UndoRefused}
use Rattle.kdb_handle.specs.declared.replies.Transcripts.{Transcripts}
use Rattle.kdb_handle.specs.declared.setting.SetFault.TheVariants.{Commit}
use Rattle.kdb_handle.specs.declared.undoing.UndoFault.{UndoFault}
use Rattle.kdb_handle.specs.declared.undoing.UndoFault.TheVariants as undo_fault
use Rattle.kdb_print.specs.Replies.{end_meets_fault, is_disk_fault, is_memory, some_reply, status_of, undo_meets_fault}
use Rattle.model_batch.specs.Fair.{count_failed}
use Rattle.model_batch.specs.Replies.{failures_of_end, failures_of_undo, failures_told}
use Rattle.model_batch.specs.Scripts.{AnswerEach, AreTranscripts, has_session, replies_in, reply_rows, rows_by, sessions_of}
use Rattle.store_core.specs.declared.committing.CommitFault.TheVariants.{DiskFault}
use Rattle.tool_commands.specs.Report.{IsAnswered}

-- ---- one session

end-counts : (end : MergeEnd) → end_meets_fault end ≡ true → failures_of_end end ≡ 1
end-counts (merge_end.Set (Commit (DiskFault front))) is = refl
end-counts end is = absurd cc

undo-counts : (why : UndoFault) → undo_meets_fault why ≡ true → failures_of_undo why ≡ 1
undo-counts (undo_fault.Set (Commit (DiskFault front))) is = refl
undo-counts why is = absurd cc

reply-counts : (reply : Reply) → is_disk_fault reply ≡ true → failures_told reply ≡ 1
reply-counts (SetRefused (Commit (DiskFault front))) is = refl
reply-counts (MergeRefused fault) is = end-counts fault.end is
reply-counts (UndoRefused why) is = undo-counts why is
reply-counts reply is = absurd cc

replies-count : (replies : List Reply) → list_any is_disk_fault replies ≡ true → 0 < sum_by failures_told replies
replies-count [] is = absurd cc
replies-count (reply ∷ replies) is = by (λ some. replies-count replies some) (is_disk_fault reply) refl is
  where
    cons : sum_by failures_told (reply ∷ replies) ≡ failures_told reply + sum_by failures_told replies
    cons = sum_by-cons failures_told reply replies

    by : (list_any is_disk_fault replies ≡ true → 0 < sum_by failures_told replies) → (b : Bool)
        → is_disk_fault reply ≡ b → (b || list_any is_disk_fault replies) ≡ true
        → 0 < sum_by failures_told (reply ∷ replies)
    by rest true fails some = omega (arith, cons, reply-counts reply fails)
    by rest false none some = omega (arith, cons, rest some)

-- ---- a sum over those numbers of a range that pass a test

sum-filter : {A : Type 0} (f : A → ℕ) (h : ℕ → A) (test : ℕ → Bool) (n first count : ℕ) → first ≤ n → n < first + count
    → test n ≡ true → 0 < f (h n) → 0 < sum_by f (map h (filter test (range_with_len first count)))
sum-filter f h test n first zero le lt passes some = absurd (omega arith)
sum-filter f h test n first (suc count) le lt passes some =
    by (λ le'. sum-filter f h test n (first + 1) count le' (omega (arith, lt)) passes some) (nat_eq first n) refl
  where
    rest : List ℕ
    rest = filter test (range_with_len (first + 1) count)

    cons : sum_by f (h first ∷ map h rest) ≡ f (h first) + sum_by f (map h rest)
    cons = sum_by-cons f (h first) (map h rest)

    not_both : nat_eq first n ≡ true → nat_eq first n ≡ false → ⊥
    not_both t f = absurd cc

    further : (b : Bool) → 0 < sum_by f (map h rest) → 0 < sum_by f (map h (cond b (first ∷ rest) rest))
    further true more = omega (arith, cons, more)
    further false more = more

    by : (first + 1 ≤ n → 0 < sum_by f (map h rest)) → (b : Bool) → nat_eq first n ≡ b
        → 0 < sum_by f (map h (cond (test first) (first ∷ rest) rest))
    by behind true is =
        let same = eqb-true first n is in
        let here : f (h first) ≡ f (h n) = ap (λ m. f (h m)) same in
        let sum : 0 < sum_by f (h first ∷ map h rest) = omega (arith, cons, here, some) in
        subst (λ (b : Bool). 0 < sum_by f (map h (cond b (first ∷ rest) rest))) (sym (ap test same ∙ passes)) sum
    by behind false is =
        let apart : first ≡ n → ⊥ = λ same. not_both (eq-eqb first n same) is in
        further (test first) (behind (omega (arith, le, apart)))

-- ---- one phase

-- a session that a phase names had a set that failed
record IsFaulty (least : ℕ) (phase : List Steps) (answers : List (List Reply)) : Type 0 where
  session : ℕ
  from : least ≤ session
  most : session ≤ most_sessions
  named : list_any (λ (steps : Steps). nat_eq steps.session session) phase ≡ true
  fails : list_any is_disk_fault (replies_in phase answers session) ≡ true

row-faulty : (least : ℕ) (phase : List Steps) (answers : List (List Reply)) → IsRising least (map number_of phase)
    → AllByRecursion (λ (steps : Steps). steps.session ≤ most_sessions) phase
    → AnswerEach phase answers → list_any (list_any is_disk_fault) answers ≡ true → IsFaulty least phase answers
row-faulty least [] [] rises most each is = absurd cc
row-faulty least [] (one ∷ answers) rises most each is = absurd each
row-faulty least (steps ∷ phase) [] rises most each is = absurd each
row-faulty least (steps ∷ phase) (one ∷ answers) rises most each is =
    by (λ some. row-faulty (steps.session + 1) phase answers rises.1 most.1 each.1 some) (list_any is_disk_fault one) refl is
  where
    by : (list_any (list_any is_disk_fault) answers ≡ true → IsFaulty (steps.session + 1) phase answers) → (b : Bool)
        → list_any is_disk_fault one ≡ b → (b || list_any (list_any is_disk_fault) answers) ≡ true
        → IsFaulty least (steps ∷ phase) (one ∷ answers)
    by further true fails some = record {
      session = steps.session;
      from = rises.0;
      most = most.0;
      named = ap (λ b. b || list_any (λ (other : Steps). nat_eq other.session steps.session) phase) (eq-eqb steps.session steps.session refl);
      fails = ap (λ b. list_any is_disk_fault (cond b one (replies_in phase answers steps.session))) (eq-eqb steps.session steps.session refl) ∙ fails;
    }
    by further false none some =
        let rest = further some in
        let from = rest.from in
        let least_here = rises.0 in
        let there = rest.named in
        let apart = ne_eqb steps.session rest.session (λ same. omega (arith, from, same)) in
        record {
          session = rest.session;
          from = omega (arith, from, least_here);
          most = rest.most;
          named = elim (nat_eq steps.session rest.session) as (λ b. (b || list_any (λ (other : Steps). nat_eq other.session rest.session) phase) ≡ true) [ true ↦ refl | false ↦ there ];
          fails = ap (λ b. list_any is_disk_fault (cond b one (replies_in phase answers rest.session))) apart ∙ rest.fails;
        }

-- ---- all phases

or-true : (a b : Bool) → b ≡ true → (a || b) ≡ true
or-true true b is = refl
or-true false b is = is

-- a session is named in some of these phases
abbrev names : ℕ → List Phase → Bool
names n phases =
    list_any (λ (phase : Phase). list_any (λ (steps : Steps). nat_eq steps.session n) phase.sessions) phases

rows-count : (script : Script) (phases : List Phase) (rows : List (List (List Reply)))
    → AllByRecursion (λ (phase : Phase). AreAscending phase.sessions) phases → AreTranscripts phases rows
    → ((n : ℕ) → names n phases ≡ true → has_session script n ≡ true) → some_reply is_disk_fault rows ≡ true
    → 0 < count_failed (rows_by (sessions_of script) phases rows)
rows-count script [] [] ascends each known is = absurd cc
rows-count script [] (row ∷ rows) ascends each known is = absurd each
rows-count script (phase ∷ phases) [] ascends each known is = absurd each
rows-count script (phase ∷ phases) (row ∷ rows) ascends each known is =
    by (λ some. rows-count script phases rows ascends.1 each.1 (λ n is. known n (or-true (list_any (λ (steps : Steps). nat_eq steps.session n) phase.sessions) (names n phases) is)) some) (list_any (list_any is_disk_fault) row) refl is
  where
    shown : List (List Reply)
    shown = map (replies_in phase.sessions row) (sessions_of script)

    rest : List (List (List Reply))
    rest = rows_by (sessions_of script) phases rows

    cons : count_failed (shown ∷ rest) ≡ sum_by (sum_by failures_told) shown + count_failed rest
    cons = sum_by-cons (λ row. sum_by (λ answers. sum_by failures_told answers) row) shown rest

    by : (some_reply is_disk_fault rows ≡ true → 0 < count_failed rest) → (b : Bool)
        → list_any (list_any is_disk_fault) row ≡ b → (b || some_reply is_disk_fault rows) ≡ true
        → 0 < count_failed (shown ∷ rest)
    by further true fails some =
        let faulty = row-faulty 1 phase.sessions row ascends.0.rising ascends.0.most each.0 fails in
        let most = faulty.most in
        let has = known faulty.session (ap (λ b. b || names faulty.session phases) faulty.named) in
        let here = sum-filter (sum_by failures_told) (replies_in phase.sessions row) (has_session script) faulty.session 1 most_sessions faulty.from (omega (arith, most)) has (replies-count (replies_in phase.sessions row faulty.session) faulty.fails) in
        omega (arith, cons, here)
    by further false none some = omega (arith, cons, further some)

pub faults-count : (script : Script) (transcripts : Transcripts) → IsOrdered script
    → AreTranscripts script.phases transcripts.phases → some_reply is_disk_fault transcripts.phases ≡ true
    → 0 < count_failed (reply_rows script transcripts)
faults-count script transcripts ordered each is =
    rows-count script script.phases transcripts.phases (recursion_from_All (λ (phase : Phase). AreAscending phase.sessions) script.phases ordered) each
    (λ n named. or-true (list_any (λ (line : ProcLine). nat_eq line.session n) script.proc) (names n script.phases) named) is

-- ---- the status

abbrev status_with : Bool → Bool → ℕ
status_with memory fault = cond memory 70 (cond fault 74 0)

status_by : (memory fault : Bool) → status_with memory fault ≡ 74 → fault ≡ true
status_by true fault is = absurd (omega (arith, is))
status_by false true is = refl
status_by false false is = absurd (omega (arith, is))

pub status-fault : (replies : List (List (List Reply))) → status_of replies ≡ 74
    → some_reply is_disk_fault replies ≡ true
status-fault replies is = status_by (some_reply is_memory replies) (some_reply is_disk_fault replies) is

status_none_by : (memory fault : Bool) → IsAnswered (status_with memory fault) → status_with memory fault ≡ 0
status_none_by true fault own = absurd (own.0 refl)
status_none_by false true own = absurd (own.1 refl)
status_none_by false false own = refl

-- a status that is neither is 0
pub status-none : (replies : List (List (List Reply))) → IsAnswered (status_of replies) → status_of replies ≡ 0
status-none replies own = status_none_by (some_reply is_memory replies) (some_reply is_disk_fault replies) own
