-- What an undoing makes of the history.
use Rattle.std.proofs.Common.{◌≡◌, ℕ, ◌+◌, ◌-◌, List, [], ◌∷◌, ◌++◌, length, take, get_or, Ok, sym, ap, ap₂, subst, ◌∙◌, arith, length-take}
use Rattle.std.proofs.lemmas.List.{take_all}
use Rattle.std.proofs.lemmas.Option.{slice_get-get_or}
use Rattle.general_words.proofs.Lists.{take-next}
use Rattle.kdb_handle.specs.Handles.{HandleValue}
use Rattle.kdb_handle.specs.Opened.{store_at}
use Rattle.kdb_handle.specs.Story.{commits_of}
use Rattle.kdb_handle.specs.Undoing.{IsUndone, set_made, undo_by}
use Rattle.kdb_handle.proofs.StoryLemmas.{commits-append}
use Rattle.model_history.specs.Changes.{Change, changed_by}
use Rattle.model_history.specs.History.{Commit, replay}
use Rattle.model_history.proofs.HistoryLemmas.{replay-append}
use Rattle.model_maps.specs.KeyMap.{KeyMap}
use Rattle.model_store.specs.Store.{Formats}
use Rattle.model_undo.specs.Undoing.{inverse}
use Rattle.model_undo.proofs.UndoLemmas.{undone-last}
use Rattle.mounted_files.specs.declared.files.MountedFile.{MountedFile}
use Rattle.store_core.specs.declared.committing.Done.TheVariants.{Committed}

-- the last commit undone, by its number
undone-at : (start : KeyMap) (history : List Commit) (last : Commit) (number : ℕ)
    → history ≡ take (number - 1) history ++ last ∷ [] → length (take (number - 1) history) + 1 ≡ number
    → changed_by (inverse start history number) (replay start history) ≡ replay start (take (number - 1) history)
undone-at start history last number is long =
    ap₂ (λ (cs : List Commit) (n : ℕ). changed_by (inverse start cs n) (replay start cs)) is (sym long)
    ∙ undone-last (take (number - 1) history) last start

module _ (formats : Formats) (files : List MountedFile) (old new : HandleValue) (number commit aside : ℕ) (keys after : KeyMap) (undone : IsUndone formats files old new number keys after (Ok (Committed commit aside))) where
  abbrev history : List Commit
  history = commits_of undone.found

  abbrev start : KeyMap
  start = (store_at files).start

  abbrev commit_with : List Change → Commit
  commit_with changes =
      record {
        handle = old.number;
        touched = (set_made (undo_by files old undone.found number)).touched;
        changes = changes;
      }

  pub appends : commits_of new.seen ≡ history ++ commit_with (inverse start history number) ∷ []
  appends =
      ap commits_of undone.sees ∙ commits-append undone.found _
      ∙ ap (λ (changes : List Change). history ++ commit_with changes ∷ []) undone.undone.changes

  pub undoes_last : number ≡ length history
      → replay start (commits_of new.seen) ≡ replay start (take (number - 1) history)
  undoes_last is =
      let none : Commit = record { handle = 0; touched = []; changes = [] } in
      let last : Commit = get_or history (number - 1) none in
      let there = undone.undone.got.there in
      let next = take-next history (number - 1) last (sym (slice_get-get_or history (number - 1) none (omega (arith, there.some, there.within)))) in
      let place : number - 1 + 1 ≡ number = omega (arith, there.some) in
      let cut : history ≡ take (number - 1) history ++ last ∷ [] = sym (take_all number history (omega (arith, is))) ∙ ap (λ (n : ℕ). take n history) (sym place) ∙ next in
      let long : length (take (number - 1) history) + 1 ≡ number = omega (arith, length-take (number - 1) history, there.some, there.within) in
      ap (replay start) appends ∙ replay-append start history (commit_with (inverse start history number) ∷ [])
      ∙ undone-at start history last number cut long
