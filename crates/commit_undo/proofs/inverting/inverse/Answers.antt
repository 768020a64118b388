-- What was turned back is the inverse, and no later commit was found.
use Rattle.std.proofs.Common.{◌≡◌, ℕ, ◌+◌, Bool, List, drop, is_some, map as over, Some, None, sym, ap, ap₂, ◌∙◌}
use Rattle.std.specs.FinMap.{find}
use Rattle.commit_log.specs.CommitView.{change_of, commit_of}
use Rattle.model_history.specs.History.{Commit}
use Rattle.model_names.specs.Name.{Name}
use Rattle.model_names.specs.Order.{name_cmp}
use Rattle.model_undo.specs.Undoing.{changes_made, commit_at, first_with, is_changed, overtaken, turned_back}
use Rattle.model_undo.proofs.UndoLemmas.{made-there}
use Rattle.commit_undo.proofs.InverseLemmas.{number-there}
use Rattle.commit_undo.proofs.inverting.inverse.Goals as goal

pub returns-clause-ok : goal.returns-clause-ok
returns-clause-ok c =
    let commits : List Commit = c.args.history.now.commits in
    let number : ℕ = c.args.number in
    let test : Name → Bool = λ name. is_some (find name_cmp name c.in_ok-names.names) in
    let found : commit_at commits number ≡ Some (commit_of c.in-Some.commit.now) = sym c.in-Some.ensures in
    let made = made-there commits number (commit_of c.in-Some.commit.now) found in
    let bounds = number-there commits number (commit_of c.in-Some.commit.now) found in
    let gathered : test ≡ is_changed (over change_of c.as_slice.result.now) = λ i name. c.in_ok-names.ensures name i in
    let changed : test ≡ is_changed (changes_made commits number) = gathered ∙ ap (λ changes. is_changed (over change_of changes)) c.as_slice.ensures ∙ ap is_changed (sym made) in
    let none : first_with test (number + 1) (drop number (over commit_of c.behind.result.now)) ≡ None = sym c.in_default-first_with.ensures in
    let latest : overtaken commits number ≡ None = sym (ap₂ (λ t all. first_with t (number + 1) (drop number all)) changed c.behind.ensures.behind) ∙ none in
    record {
      there = record { some = bounds.0; within = bounds.1; latest = latest };
      is = c.in_ok-turned_back.ensures ∙ ap₂ (λ before changes. over (turned_back before) changes) c.in_ok-before.ensures (ap (over change_of) c.as_slice-2.ensures ∙ sym made);
    }
