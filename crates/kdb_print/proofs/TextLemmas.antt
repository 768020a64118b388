-- The printed text of a batch tells its history and its replies.
use Rattle.std.specs.Prelude.{◌≡◌, ℕ, List, [], ◌∷◌, ◌++◌, length, drop, map as over, codes}
use Rattle.std.proofs.Common.{refl, sym, ap, ◌∙◌}
use Rattle.std.specs.Fmt.{decimal}
use Rattle.std.specs.List.{AllByRecursion}
use Rattle.batch_script.specs.declared.steps.Script.{Script}
use Rattle.kdb_handle.specs.declared.replies.Reply.{Reply}
use Rattle.kdb_print.proofs.BatchWords.{phases-HasWords, phases-cut, phases-spell, words_of_phases}
use Rattle.kdb_print.proofs.HistoryWords.{commits-HasWords, commits-once, commits-spell, words_of_commits}
use Rattle.kdb_print.proofs.Words.{AllSpell, AllSpell-append, HasWords, Line, ended-text_of, number-IsWord, text_of, text_of-once, words-append}
use Rattle.kdb_print.specs.Printed.{lines_of_commits, lines_of_history, lines_of_phases, printed}
use Rattle.kdb_print.specs.Reading.{AreNamed, IsBatch, told}
use Rattle.model_history.specs.History.{Commit}
use Rattle.model_quoting.proofs.CutLemmas.{Plain}
use Rattle.mount_table.specs.declared.mounts.Mount.{Mount}

abbrev words_behind : List Mount → List ℕ → List Commit → List Line
words_behind mounts sessions commits =
    (codes "history", decimal (length commits) ∷ []) ∷ (words_of_commits mounts sessions 1 commits ++ (codes "end", []) ∷ [])

abbrev words_of_batch : List Mount → List ℕ → Script → List (List (List Reply)) → List Commit → List Line
words_of_batch mounts sessions script replies commits =
    words_of_phases 1 script.phases replies ++ words_behind mounts sessions commits

behind-spell : (mounts : List Mount) (sessions : List ℕ) (commits : List Commit)
    → AllSpell (words_behind mounts sessions commits) (lines_of_history mounts sessions commits ++ codes "end" ∷ [])
behind-spell mounts sessions commits =
    (λ rest. refl, AllSpell-append (words_of_commits mounts sessions 1 commits) ((codes "end", []) ∷ []) (lines_of_commits mounts sessions 1 commits) (codes "end" ∷ []) (commits-spell mounts sessions 1 commits) (λ rest. refl, tt))

behind-HasWords : (mounts : List Mount) (sessions : List ℕ) (commits : List Commit)
    → AllByRecursion HasWords (words_behind mounts sessions commits)
behind-HasWords mounts sessions commits =
    ((Plain refl, (number-IsWord (length commits), tt)), words-append (words_of_commits mounts sessions 1 commits) ((codes "end", []) ∷ []) (commits-HasWords mounts sessions 1 commits) ((Plain refl, tt), tt))

printed-text_of : (mounts : List Mount) (sessions : List ℕ) (script : Script) (replies : List (List (List Reply)))
    (commits : List Commit)
    → printed mounts sessions script replies commits ≡ text_of (words_of_batch mounts sessions script replies commits)
printed-text_of mounts sessions script replies commits =
    ended-text_of (words_of_batch mounts sessions script replies commits) (lines_of_phases 1 script.phases replies ++ (lines_of_history mounts sessions commits ++ codes "end" ∷ []))
    (AllSpell-append (words_of_phases 1 script.phases replies) (words_behind mounts sessions commits) (lines_of_phases 1 script.phases replies) (lines_of_history mounts sessions commits ++ codes "end" ∷ []) (phases-spell 1 script.phases replies) (behind-spell mounts sessions commits))

batch-HasWords : (mounts : List Mount) (sessions : List ℕ) (script : Script) (replies : List (List (List Reply)))
    (commits : List Commit) → AllByRecursion HasWords (words_of_batch mounts sessions script replies commits)
batch-HasWords mounts sessions script replies commits =
    words-append (words_of_phases 1 script.phases replies) (words_behind mounts sessions commits) (phases-HasWords 1 script.phases replies) (behind-HasWords mounts sessions commits)

pub printed-once : (mounts : List Mount) (sessions : List ℕ) (script : Script) (a b : List (List (List Reply)))
    (h k : List Commit) → AreNamed mounts sessions → IsBatch mounts sessions script a h
    → IsBatch mounts sessions script b k
    → printed mounts sessions script a h ≡ printed mounts sessions script b k
    → (over (over told) a ≡ over (over told) b) × (h ≡ k)
printed-once mounts sessions script a b h k named one other e =
    let words = text_of-once (words_of_batch mounts sessions script a h) (words_of_batch mounts sessions script b k) (batch-HasWords mounts sessions script a h) (batch-HasWords mounts sessions script b k)
    (sym (printed-text_of mounts sessions script a h) ∙ (e ∙ printed-text_of mounts sessions script b k)) in
    let parts = phases-cut 1 script.phases a b (words_behind mounts sessions h) (words_behind mounts sessions k) one.shape other.shape refl refl words in
    (parts.0, commits-once mounts sessions named 1 h k one.made other.made (ap (drop 1) parts.1))
