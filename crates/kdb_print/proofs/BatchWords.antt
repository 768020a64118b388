-- The words of the lines of a batch's phases, and that they tell the replies, but for those to edits and the places of
-- wants of memory.
use Rattle.std.specs.Prelude.{◌≡◌, ◌≢◌, ℕ, ◌+◌, ◌≤◌, not, List, [], ◌∷◌, ◌++◌, drop, map as over, filter, codes}
use Rattle.std.proofs.Common.{refl, sym, ap, ap₂, ◌∙◌, subst, arith, append_assoc}
use Rattle.std.specs.Fmt.{decimal}
use Rattle.std.specs.List.{AllByRecursion, flat_map}
use Rattle.batch_script.specs.declared.steps.Phase.{Phase}
use Rattle.batch_script.specs.declared.steps.Step.{Step}
use Rattle.batch_script.specs.declared.steps.Steps.{Steps}
use Rattle.kdb_handle.specs.declared.merging.MergeEnd.{MergeEnd}
use Rattle.kdb_handle.specs.declared.merging.MergeEnd.TheVariants as merge_end
use Rattle.kdb_handle.specs.declared.merging.Tried.{Tried}
use Rattle.kdb_handle.specs.declared.replies.Reply.{Reply}
use Rattle.kdb_handle.specs.declared.replies.Reply.TheVariants.{Got, GetRefused, Quiet, LookFound, LookNone, SetDone, SetRefused, Merged, MergeRefused, Watching, News, NoWatch, Undone, UndoRefused, Memory}
use Rattle.kdb_handle.specs.declared.undoing.UndoFault.{UndoFault}
use Rattle.kdb_handle.specs.declared.undoing.UndoFault.TheVariants as undoing
use Rattle.kdb_print.proofs.OnceLemmas.{changed-once, reply-once, try-once}
use Rattle.kdb_print.proofs.ReplyWords.{changes_of, end_kind, kind, kind_of, reply-HasWords, reply-kind, reply-spells, undo_kind, words_of, words_of_changed, words_of_lines, words_of_try}
use Rattle.kdb_print.proofs.Words.{AllSpell, AllSpell-append, HasWords, Line, line_at, number-IsWord, numbers_test, words-append}
use Rattle.kdb_print.specs.Printed.{lines_of_phases, lines_of_sessions}
use Rattle.kdb_print.specs.Replies.{lines_of_reply}
use Rattle.kdb_print.specs.Reading.{AreOfPhases, AreOfSessions, AreOfSteps, IsChanged, IsReply, IsTry, is_quiet, told, told_of, tries_of}
use Rattle.model_quoting.proofs.CutLemmas.{Plain}
use Rattle.watch_feed.specs.declared.news.Changed.{Changed}

-- the replies that have lines
abbrev pub loud : List Reply → List Reply
loud replies = filter (λ reply. not (is_quiet reply)) replies

abbrev pub words_of_sessions : List Steps → List (List Reply) → List Line
words_of_sessions [] replies = []
words_of_sessions (steps ∷ others) [] = []
words_of_sessions (steps ∷ others) (replies ∷ rest) =
    (codes "session", decimal steps.session ∷ []) ∷ (flat_map words_of_lines (loud replies) ++ words_of_sessions others rest)

abbrev pub words_of_phases : ℕ → List Phase → List (List (List Reply)) → List Line
words_of_phases number [] replies = []
words_of_phases number (phase ∷ phases) [] = []
words_of_phases number (phase ∷ phases) (replies ∷ rest) =
    (codes "phase", decimal number ∷ []) ∷ (words_of_sessions phase.sessions replies ++ words_of_phases (number + 1) phases rest)

replies-spell : (replies : List Reply)
    → AllSpell (flat_map words_of_lines (loud replies)) (flat_map lines_of_reply replies)
replies-spell [] = tt
replies-spell (Quiet ∷ replies) = replies-spell replies
replies-spell (reply ∷ replies) =
    AllSpell-append (words_of_lines reply) (flat_map words_of_lines (loud replies)) (lines_of_reply reply) (flat_map lines_of_reply replies) (reply-spells reply refl) (replies-spell replies)

sessions-spell : (sessions : List Steps) (replies : List (List Reply))
    → AllSpell (words_of_sessions sessions replies) (lines_of_sessions sessions replies)
sessions-spell [] replies = tt
sessions-spell (steps ∷ others) [] = tt
sessions-spell (steps ∷ others) (replies ∷ rest) =
    (λ text. refl, AllSpell-append (flat_map words_of_lines (loud replies)) (words_of_sessions others rest) (flat_map lines_of_reply replies) (lines_of_sessions others rest) (replies-spell replies) (sessions-spell others rest))

pub phases-spell : (number : ℕ) (phases : List Phase) (replies : List (List (List Reply)))
    → AllSpell (words_of_phases number phases replies) (lines_of_phases number phases replies)
phases-spell number [] replies = tt
phases-spell number (phase ∷ phases) [] = tt
phases-spell number (phase ∷ phases) (replies ∷ rest) =
    (λ text. refl, AllSpell-append (words_of_sessions phase.sessions replies) (words_of_phases (number + 1) phases rest) (lines_of_sessions phase.sessions replies) (lines_of_phases (number + 1) phases rest) (sessions-spell phase.sessions replies) (phases-spell (number + 1) phases rest))

replies-HasWords : (replies : List Reply) → AllByRecursion HasWords (flat_map words_of_lines replies)
replies-HasWords [] = tt
replies-HasWords (reply ∷ replies) =
    words-append (words_of_lines reply) (flat_map words_of_lines replies) (reply-HasWords reply) (replies-HasWords replies)

sessions-HasWords : (sessions : List Steps) (replies : List (List Reply))
    → AllByRecursion HasWords (words_of_sessions sessions replies)
sessions-HasWords [] replies = tt
sessions-HasWords (steps ∷ others) [] = tt
sessions-HasWords (steps ∷ others) (replies ∷ rest) =
    ((Plain refl, (number-IsWord steps.session, tt)), words-append (flat_map words_of_lines (loud replies)) (words_of_sessions others rest) (replies-HasWords (loud replies)) (sessions-HasWords others rest))

pub phases-HasWords : (number : ℕ) (phases : List Phase) (replies : List (List (List Reply)))
    → AllByRecursion HasWords (words_of_phases number phases replies)
phases-HasWords number [] replies = tt
phases-HasWords number (phase ∷ phases) [] = tt
phases-HasWords number (phase ∷ phases) (replies ∷ rest) =
    ((Plain refl, (number-IsWord number, tt)), words-append (words_of_sessions phase.sessions replies) (words_of_phases (number + 1) phases rest) (sessions-HasWords phase.sessions replies) (phases-HasWords (number + 1) phases rest))

-- lines of which the first begins a session, a phase or the history
abbrev pub Begins : List Line → Type 0
Begins [] = Unit {0}
Begins (line ∷ lines) = kind_of line ≡ 11

end_small : (end : MergeEnd) → end_kind end ≤ 10
end_small (merge_end.MergeConflicts names) = omega arith
end_small (merge_end.TriesSpent mount by front) = omega arith
end_small (merge_end.Set fault) = omega arith
end_small merge_end.Memory = omega arith

undo_small : (fault : UndoFault) → undo_kind fault ≤ 10
undo_small (undoing.NoCommit number front) = omega arith
undo_small (undoing.Overtaken name by front) = omega arith
undo_small fault = omega arith

kind_small : (reply : Reply) → kind reply ≤ 10
kind_small (Got front count) = omega arith
kind_small (LookFound name value) = omega arith
kind_small LookNone = omega arith
kind_small (SetDone done) = omega arith
kind_small (GetRefused fault) = omega arith
kind_small (SetRefused fault) = omega arith
kind_small (Merged merging) = omega arith
kind_small (MergeRefused fault) = end_small fault.end
kind_small (Watching front) = omega arith
kind_small (News news) = omega arith
kind_small NoWatch = omega arith
kind_small (Undone done) = omega arith
kind_small (UndoRefused fault) = undo_small fault
kind_small Memory = omega arith
kind_small Quiet = omega arith

-- a last line of a reply begins nothing, and is no try and no change
last_small : (reply : Reply) → kind_of (words_of reply) ≤ 10
last_small reply = let is = reply-kind reply in let small = kind_small reply in omega arith

not_begun : (tried : List Tried) (last : Line) (lines : List Line) → kind_of last ≤ 10
    → Begins (over words_of_try tried ++ last ∷ lines) → ⊥
not_begun [] last lines small begins = omega arith
not_begun (item ∷ tried) last lines small begins = numbers_test 12 11 begins

-- the lines of a reply and what stands behind them: its tries, its last line, its changes, and the others
lines-behind : (reply : Reply) (others rest : List Line)
    → (words_of_lines reply ++ others) ++ rest
    ≡ over words_of_try (tries_of reply) ++ words_of reply ∷ (over words_of_changed (changes_of reply) ++ (others ++ rest))
lines-behind reply others rest =
    append_assoc (words_of_lines reply) others rest
    ∙ append_assoc (over words_of_try (tries_of reply)) (words_of reply ∷ over words_of_changed (changes_of reply)) (others ++ rest)

-- no reply goes on where lines begin another session
no_reply : (reply : Reply) (replies : List Reply) (s t : List Line) → Begins s
    → s ≢ (words_of_lines reply ++ flat_map words_of_lines replies) ++ t
no_reply reply replies s t begins e =
    not_begun (tries_of reply) (words_of reply) (over words_of_changed (changes_of reply) ++ (flat_map words_of_lines replies ++ t)) (last_small reply) (subst Begins (e ∙ lines-behind reply (flat_map words_of_lines replies) t) begins)

-- where the tries of a merge end
tries-cut : (xs ys : List Tried) (l m : Line) (s t : List Line) → AllByRecursion IsTry xs → AllByRecursion IsTry ys
    → kind_of l ≤ 10 → kind_of m ≤ 10 → over words_of_try xs ++ l ∷ s ≡ over words_of_try ys ++ m ∷ t
    → (xs ≡ ys) × (l ≡ m) × (s ≡ t)
tries-cut [] [] l m s t hs ks p q e = (refl, ap (line_at 0) e, ap (drop 1) e)
tries-cut [] (y ∷ ys) l m s t hs ks p q e =
    let first : l ≡ words_of_try y = ap (line_at 0) e in
    let tried : kind_of l ≡ 12 = ap kind_of first in absurd (omega arith)
tries-cut (x ∷ xs) [] l m s t hs ks p q e =
    let first : m ≡ words_of_try x = ap (line_at 0) (sym e) in
    let tried : kind_of m ≡ 12 = ap kind_of first in absurd (omega arith)
tries-cut (x ∷ xs) (y ∷ ys) l m s t hs ks p q e =
    let first = try-once x y hs.0 ks.0 (ap (line_at 0) e) in
    let rest = tries-cut xs ys l m s t hs.1 ks.1 p q (ap (drop 1) e) in
    (ap₂ (λ item items. item ∷ items) first rest.0, rest.1, rest.2)

tries-all : (reply : Reply) → IsReply reply → AllByRecursion IsTry (tries_of reply)
tries-all (Merged merging) is = is.0
tries-all (MergeRefused fault) is = is.0
tries-all reply is = tt

-- lines of which the first is no change
abbrev NoChanged : List Line → Type 0
NoChanged [] = Unit {0}
NoChanged (line ∷ lines) = kind_of line ≤ 12

-- where the changes of a poll end
changes-cut : (xs ys : List Changed) (s t : List Line) → AllByRecursion IsChanged xs → AllByRecursion IsChanged ys
    → NoChanged s → NoChanged t → over words_of_changed xs ++ s ≡ over words_of_changed ys ++ t → (xs ≡ ys) × (s ≡ t)
changes-cut [] [] s t hs ks p q e = (refl, e)
changes-cut [] (y ∷ ys) [] t hs ks p q e = absurd cc
changes-cut [] (y ∷ ys) (line ∷ s) t hs ks p q e =
    let first : line ≡ words_of_changed y = ap (line_at 0) e in
    let told : kind_of line ≡ 13 = ap kind_of first in absurd (omega arith)
changes-cut (x ∷ xs) [] s [] hs ks p q e = absurd cc
changes-cut (x ∷ xs) [] s (line ∷ t) hs ks p q e =
    let first : line ≡ words_of_changed x = ap (line_at 0) (sym e) in
    let told : kind_of line ≡ 13 = ap kind_of first in absurd (omega arith)
changes-cut (x ∷ xs) (y ∷ ys) s t hs ks p q e =
    let first = changed-once x y hs.0 ks.0 (ap (line_at 0) e) in
    let rest = changes-cut xs ys s t hs.1 ks.1 p q (ap (drop 1) e) in
    (ap₂ (λ item items. item ∷ items) first rest.0, rest.1)

changes-all : (reply : Reply) → IsReply reply → AllByRecursion IsChanged (changes_of reply)
changes-all (News news) is = is.2
changes-all reply is = tt

-- neither a reply nor what begins something begins with a change
tries-first : (tried : List Tried) (last : Line) (lines : List Line) → kind_of last ≤ 10
    → NoChanged (over words_of_try tried ++ last ∷ lines)
tries-first [] last lines small = omega (arith, small)
tries-first (item ∷ tried) last lines small = let is : kind_of (words_of_try item) ≡ 12 = refl in omega (arith, is)

replies-first : (replies : List Reply) (s : List Line) → Begins s → NoChanged (flat_map words_of_lines replies ++ s)
replies-first [] [] begins = tt
replies-first [] (line ∷ s) begins = omega (arith, begins)
replies-first (reply ∷ replies) s begins =
    subst NoChanged (sym (lines-behind reply (flat_map words_of_lines replies) s))
    (tries-first (tries_of reply) (words_of reply) (over words_of_changed (changes_of reply) ++ (flat_map words_of_lines replies ++ s)) (last_small reply))

replies-cut : (xs ys : List Reply) (s t : List Line) → AllByRecursion IsReply xs → AllByRecursion IsReply ys → Begins s
    → Begins t → flat_map words_of_lines xs ++ s ≡ flat_map words_of_lines ys ++ t
    → (over told_of xs ≡ over told_of ys) × (s ≡ t)
replies-cut [] [] s t hs ks p q e = (refl, e)
replies-cut [] (y ∷ ys) s t hs ks p q e = absurd (no_reply y ys s t p e)
replies-cut (x ∷ xs) [] s t hs ks p q e = absurd (no_reply x xs t s q (sym e))
replies-cut (x ∷ xs) (y ∷ ys) s t hs ks p q e =
    let behind_x = flat_map words_of_lines xs in
    let behind_y = flat_map words_of_lines ys in
    let there = sym (lines-behind x behind_x s) ∙ (e ∙ lines-behind y behind_y t) in
    let told_x = over words_of_changed (changes_of x) in
    let told_y = over words_of_changed (changes_of y) in
    let first = tries-cut (tries_of x) (tries_of y) (words_of x) (words_of y) (told_x ++ (behind_x ++ s)) (told_y ++ (behind_y ++ t)) (tries-all x hs.0) (tries-all y ks.0) (last_small x) (last_small y) there in
    let changes = changes-cut (changes_of x) (changes_of y) (behind_x ++ s) (behind_y ++ t) (changes-all x hs.0) (changes-all y ks.0) (replies-first xs s p) (replies-first ys t q) first.2 in
    let rest = replies-cut xs ys s t hs.1 ks.1 p q changes.1 in
    let one : told_of x ≡ told_of y = ap₂ (λ tried last. (tried, last)) first.0 (reply-once x y hs.0 ks.0 first.1 changes.0) in
    (ap₂ (λ reply replies. reply ∷ replies) one rest.0, rest.1)

steps-all : (steps : List Step) (replies : List Reply) → AreOfSteps steps replies → AllByRecursion IsReply replies
steps-all [] [] of = tt
steps-all [] (reply ∷ replies) of = absurd of
steps-all (step ∷ steps) [] of = absurd of
steps-all (step ∷ steps) (reply ∷ replies) of = (of.0.fits, steps-all steps replies of.1)

loud-all : (replies : List Reply) → AllByRecursion IsReply replies → AllByRecursion IsReply (loud replies)
loud-all [] all = tt
loud-all (Quiet ∷ replies) all = loud-all replies all.1
loud-all (reply ∷ replies) all = (all.0, loud-all replies all.1)

sessions-begin : (sessions : List Steps) (replies : List (List Reply)) (s : List Line) → Begins s
    → Begins (words_of_sessions sessions replies ++ s)
sessions-begin [] replies s p = p
sessions-begin (steps ∷ others) [] s p = p
sessions-begin (steps ∷ others) (replies ∷ rest) s p = refl

pub phases-begin : (number : ℕ) (phases : List Phase) (replies : List (List (List Reply))) (s : List Line) → Begins s
    → Begins (words_of_phases number phases replies ++ s)
phases-begin number [] replies s p = p
phases-begin number (phase ∷ phases) [] s p = p
phases-begin number (phase ∷ phases) (replies ∷ rest) s p = refl

sessions-cut : (sessions : List Steps) (xs ys : List (List Reply)) (s t : List Line) → AreOfSessions sessions xs
    → AreOfSessions sessions ys → Begins s → Begins t
    → words_of_sessions sessions xs ++ s ≡ words_of_sessions sessions ys ++ t → (over told xs ≡ over told ys) × (s ≡ t)
sessions-cut [] [] [] s t hs ks p q e = (refl, e)
sessions-cut [] [] (y ∷ ys) s t hs ks p q e = absurd ks
sessions-cut [] (x ∷ xs) ys s t hs ks p q e = absurd hs
sessions-cut (steps ∷ others) [] ys s t hs ks p q e = absurd hs
sessions-cut (steps ∷ others) (x ∷ xs) [] s t hs ks p q e = absurd ks
sessions-cut (steps ∷ others) (x ∷ xs) (y ∷ ys) s t hs ks p q e =
    let behind_head : (flat_map words_of_lines (loud x) ++ words_of_sessions others xs) ++ s ≡ (flat_map words_of_lines (loud y) ++ words_of_sessions others ys) ++ t = ap (drop 1) e in
    let there = sym (append_assoc (flat_map words_of_lines (loud x)) (words_of_sessions others xs) s) ∙ (behind_head ∙ append_assoc (flat_map words_of_lines (loud y)) (words_of_sessions others ys) t) in
    let first = replies-cut (loud x) (loud y) (words_of_sessions others xs ++ s) (words_of_sessions others ys ++ t) (loud-all x (steps-all steps.steps x hs.0)) (loud-all y (steps-all steps.steps y ks.0)) (sessions-begin others xs s p) (sessions-begin others ys t q) there in
    let rest = sessions-cut others xs ys s t hs.1 ks.1 p q first.1 in
    (ap₂ (λ replies all. replies ∷ all) first.0 rest.0, rest.1)

pub phases-cut : (number : ℕ) (phases : List Phase) (xs ys : List (List (List Reply))) (s t : List Line)
    → AreOfPhases phases xs → AreOfPhases phases ys → Begins s → Begins t
    → words_of_phases number phases xs ++ s ≡ words_of_phases number phases ys ++ t
    → (over (over told) xs ≡ over (over told) ys) × (s ≡ t)
phases-cut number [] [] [] s t hs ks p q e = (refl, e)
phases-cut number [] [] (y ∷ ys) s t hs ks p q e = absurd ks
phases-cut number [] (x ∷ xs) ys s t hs ks p q e = absurd hs
phases-cut number (phase ∷ phases) [] ys s t hs ks p q e = absurd hs
phases-cut number (phase ∷ phases) (x ∷ xs) [] s t hs ks p q e = absurd ks
phases-cut number (phase ∷ phases) (x ∷ xs) (y ∷ ys) s t hs ks p q e =
    let behind_head : (words_of_sessions phase.sessions x ++ words_of_phases (number + 1) phases xs) ++ s ≡ (words_of_sessions phase.sessions y ++ words_of_phases (number + 1) phases ys) ++ t = ap (drop 1) e in
    let there = sym (append_assoc (words_of_sessions phase.sessions x) (words_of_phases (number + 1) phases xs) s) ∙ (behind_head ∙ append_assoc (words_of_sessions phase.sessions y) (words_of_phases (number + 1) phases ys) t) in
    let first = sessions-cut phase.sessions x y (words_of_phases (number + 1) phases xs ++ s) (words_of_phases (number + 1) phases ys ++ t) hs.0 ks.0 (phases-begin (number + 1) phases xs s p) (phases-begin (number + 1) phases ys t q) there in
    let rest = phases-cut (number + 1) phases xs ys s t hs.1 ks.1 p q first.1 in
    (ap₂ (λ sessions all. sessions ∷ all) first.0 rest.0, rest.1)
