-- A run goes on by one more entry of the story.
use Rattle.std.proofs.Common.{◌≡◌, ◌⊎◌, ℕ, ◌+◌, ◌<◌, ◌≤◌, zero, suc, inl, inr, List, [], ◌∷◌, ◌++◌, length, slice_index_or, Contains, Option, Some, None, refl, sym, ap, subst, ◌∙◌, append-nil, append_assoc, arith, length-append}
use Rattle.std.proofs.lemmas.List.Elements.{Contains-append_cases}
use Rattle.kdb_outside.proofs.Rises.{risen_still}
use Rattle.kdb_outside.specs.Faults.{HasRisen}
use Rattle.journal_codec.specs.declared.files.FileText.{FileText}
use Rattle.kdb_handle.specs.Rising.{HasRisenBy}
use Rattle.general_words.proofs.Lists.{not_both, some_is}
use Rattle.kdb_handle.specs.Runs.{ComesTo, IsBegunBy, IsLeftBy, RunsBy}
use Rattle.kdb_handle.specs.Story.{Told, Opened, Committed, Failed, Refused, commits_of}
use Rattle.model_crashes.specs.Runs.{Begun, Run, IsOneOf, after_begun, after_commit}
use Rattle.model_files.specs.Texts.{entries_from, entry_of}
use Rattle.model_history.specs.Changes.{changed_by}
use Rattle.model_history.specs.History.{Commit, replay}
use Rattle.model_maps.specs.KeyMap.{KeyMap}
use Rattle.model_store.specs.Store.{Store, Formats}

module _ (formats : Formats) (store : Store) where
  pub runs-committed : (keys : KeyMap) (first last : Run) (log : List Told) (commit : Commit)
      → RunsBy formats store keys first log last
      → RunsBy formats store keys first (log ++ Committed commit ∷ []) (after_commit last (entry_of formats store (replay keys (commits_of log)) commit))
  runs-committed keys first last [] commit runs =
      ap (λ (run : Run). after_commit run (entry_of formats store keys commit)) runs
  runs-committed keys first last (Opened opening ∷ log) commit runs = absurd runs
  runs-committed keys first last (Committed other ∷ log) commit runs =
      runs-committed (changed_by other.changes keys) (after_commit first (entry_of formats store keys other)) last log commit runs
  runs-committed keys first last (Failed other ∷ log) commit runs =
      (runs.0, runs.1, runs-committed keys (after_begun first (entry_of formats store keys other) runs.0) last log commit runs.2)
  runs-committed keys first last (Refused handle ∷ log) commit runs = runs-committed keys first last log commit runs

  pub runs-failed : (keys : KeyMap) (first last : Run) (log : List Told) (commit : Commit)
      (doubt : Option (List FileText)) → RunsBy formats store keys first log last
      → IsOneOf doubt last.doubt (entry_of formats store (replay keys (commits_of log)) commit)
      → RunsBy formats store keys first (log ++ Failed commit ∷ []) (after_begun last (entry_of formats store (replay keys (commits_of log)) commit) doubt)
  runs-failed keys first last [] commit doubt runs one =
      (doubt, subst (λ (run : Run). IsOneOf doubt run.doubt (entry_of formats store keys commit)) runs one, ap (λ (run : Run). after_begun run (entry_of formats store keys commit) doubt) runs)
  runs-failed keys first last (Opened opening ∷ log) commit doubt runs one = absurd runs
  runs-failed keys first last (Committed other ∷ log) commit doubt runs one =
      runs-failed (changed_by other.changes keys) (after_commit first (entry_of formats store keys other)) last log commit doubt runs one
  runs-failed keys first last (Failed other ∷ log) commit doubt runs one =
      (runs.0, runs.1, runs-failed keys (after_begun first (entry_of formats store keys other) runs.0) last log commit doubt runs.2 one)
  runs-failed keys first last (Refused handle ∷ log) commit doubt runs one =
      runs-failed keys first last log commit doubt runs one

  -- a refused pattern begins nothing
  pub runs-refused : (keys : KeyMap) (first last : Run) (log : List Told) (handle : ℕ)
      → RunsBy formats store keys first log last → RunsBy formats store keys first (log ++ Refused handle ∷ []) last
  runs-refused keys first last [] handle runs = runs
  runs-refused keys first last (Opened opening ∷ log) handle runs = absurd runs
  runs-refused keys first last (Committed other ∷ log) handle runs =
      runs-refused (changed_by other.changes keys) (after_commit first (entry_of formats store keys other)) last log handle runs
  runs-refused keys first last (Failed other ∷ log) handle runs =
      (runs.0, runs.1, runs-refused keys (after_begun first (entry_of formats store keys other) runs.0) last log handle runs.2)
  runs-refused keys first last (Refused other ∷ log) handle runs = runs-refused keys first last log handle runs

-- what is one of some entries and one more is one of them, or the last
one_more : (begun : List Begun) (last one : Begun) → Contains (begun ++ last ∷ []) one
    → Contains begun one ⊎ (one ≡ last)
one_more begun last one has = by (Contains-append_cases begun (last ∷ []) one has)
  where
    single : (k : ℕ) → k < 1 → slice_index_or (last ∷ []) k one ≡ one → one ≡ last
    single zero lt is = sym is
    single (suc k) lt is = absurd (omega arith)

    by : Contains begun one ⊎ Contains (last ∷ []) one → Contains begun one ⊎ (one ≡ last)
    by (inl there) = inl there
    by (inr here) = inr (single here.0 here.1 here.2)

module _ (formats : Formats) (store : Store) where
  -- what was begun by the rest of a story was begun by all of it
  later-begun : (told : Told) (keys next : KeyMap) (count behind : ℕ) (log : List Told) (number : ℕ)
      (entry : List FileText)
      → ((before : List Told) → replay next (commits_of before) ≡ replay keys (commits_of (told ∷ before)))
      → ((before : List Told) → behind + length (commits_of before) ≡ count + length (commits_of (told ∷ before)))
      → IsBegunBy formats store next behind log number entry
      → IsBegunBy formats store keys count (told ∷ log) number entry
  later-begun told keys next count behind log number entry same counts is = record {
    before = told ∷ is.before;
    commit = is.commit;
    behind = is.behind;
    story = by is.story;
    number_is = is.number_is ∙ counts is.before;
    entry_is = is.entry_is ∙ ap (λ (k : KeyMap). entry_of formats store k is.commit) (same is.before);
  }
    where
      by : (log ≡ is.before ++ Committed is.commit ∷ is.behind) ⊎ (log ≡ is.before ++ Failed is.commit ∷ is.behind)
          → (told ∷ log ≡ told ∷ (is.before ++ Committed is.commit ∷ is.behind))
          ⊎ (told ∷ log ≡ told ∷ (is.before ++ Failed is.commit ∷ is.behind))
      by (inl e) = inl (ap (λ (l : List Told). told ∷ l) e)
      by (inr e) = inr (ap (λ (l : List Told). told ∷ l) e)

  later-left : (told : Told) (keys next : KeyMap) (log : List Told) (entry : List FileText)
      → ((before : List Told) → replay next (commits_of before) ≡ replay keys (commits_of (told ∷ before)))
      → IsLeftBy formats store next log entry → IsLeftBy formats store keys (told ∷ log) entry
  later-left told keys next log entry same is = record {
    before = told ∷ is.before;
    commit = is.commit;
    behind = is.behind;
    story = ap (λ (l : List Told). told ∷ l) is.story;
    last = is.last;
    entry_is = is.entry_is ∙ ap (λ (k : KeyMap). entry_of formats store k is.commit) (same is.before);
  }

  -- a run whose next set was acknowledged, or begun, or neither
  comes-committed : (keys : KeyMap) (first last : Run) (log : List Told) (commit : Commit)
      → ComesTo formats store (changed_by commit.changes keys) (after_commit first (entry_of formats store keys commit)) log last
      → ComesTo formats store keys first (Committed commit ∷ log) last
  comes-committed keys first last log commit rest = record {
    names = rest.names;
    files = rest.files;
    faults = rest.faults;
    commits = rest.commits ∙ append_assoc first.commits (now ∷ []) (entries_from formats store next (commits_of log));
    begun = λ number entry has. by number entry (rest.begun number entry has);
    doubt = λ entry is. left entry (rest.doubt entry is);
  }
    where
      now : List FileText
      now = entry_of formats store keys commit

      next : KeyMap
      next = changed_by commit.changes keys

      counts : (before : List Told)
          → length (first.commits ++ now ∷ []) + length (commits_of before)
          ≡ length first.commits + length (commits_of (Committed commit ∷ before))
      counts before = omega (arith, length-append first.commits (now ∷ []))

      here : (number : ℕ) (entry : List FileText) → ◌≡◌ {A = Begun} (number, entry) (length first.commits, now)
          → IsBegunBy formats store keys (length first.commits) (Committed commit ∷ log) number entry
      here number entry is = record {
        before = [];
        commit = commit;
        behind = log;
        story = inl refl;
        number_is = ap (λ (b : Begun). b.0) is ∙ omega arith;
        entry_is = ap (λ (b : Begun). b.1) is;
      }

      was : (number : ℕ) (entry : List FileText)
          → Contains first.begun (number, entry) ⊎ ◌≡◌ {A = Begun} (number, entry) (length first.commits, now)
          → Contains first.begun (number, entry)
          ⊎ IsBegunBy formats store keys (length first.commits) (Committed commit ∷ log) number entry
      was number entry (inl before) = inl before
      was number entry (inr is) = inr (here number entry is)

      by : (number : ℕ) (entry : List FileText)
          → Contains (first.begun ++ (length first.commits, now) ∷ []) (number, entry)
          ⊎ IsBegunBy formats store next (length (first.commits ++ now ∷ [])) log number entry
          → Contains first.begun (number, entry)
          ⊎ IsBegunBy formats store keys (length first.commits) (Committed commit ∷ log) number entry
      by number entry (inl has) =
          was number entry (one_more first.begun (length first.commits, now) (number, entry) has)
      by number entry (inr later) =
          inr (later-begun (Committed commit) keys next (length first.commits) (length (first.commits ++ now ∷ [])) log number entry (λ before. refl) counts later)

      left : (entry : List FileText)
          → ((None ≡ Some entry) × (commits_of log ≡ [])) ⊎ IsLeftBy formats store next log entry
          → ((first.doubt ≡ Some entry) × (commits_of (Committed commit ∷ log) ≡ []))
          ⊎ IsLeftBy formats store keys (Committed commit ∷ log) entry
      left entry (inl nothing) = absurd (let none = nothing.0 in cc)
      left entry (inr later) = inr (later-left (Committed commit) keys next log entry (λ before. refl) later)

  comes-failed : (keys : KeyMap) (first last : Run) (log : List Told) (commit : Commit) (doubt : Option (List FileText))
      → IsOneOf doubt first.doubt (entry_of formats store keys commit)
      → ComesTo formats store keys (after_begun first (entry_of formats store keys commit) doubt) log last
      → ComesTo formats store keys first (Failed commit ∷ log) last
  comes-failed keys first last log commit doubt one rest = record {
    names = rest.names;
    files = rest.files;
    faults = rest.faults;
    commits = rest.commits;
    begun = λ number entry has. by number entry (rest.begun number entry has);
    doubt = λ entry is. left entry one (rest.doubt entry is);
  }
    where
      now : List FileText
      now = entry_of formats store keys commit

      here : (number : ℕ) (entry : List FileText) → ◌≡◌ {A = Begun} (number, entry) (length first.commits, now)
          → IsBegunBy formats store keys (length first.commits) (Failed commit ∷ log) number entry
      here number entry is = record {
        before = [];
        commit = commit;
        behind = log;
        story = inr refl;
        number_is = ap (λ (b : Begun). b.0) is ∙ omega arith;
        entry_is = ap (λ (b : Begun). b.1) is;
      }

      was : (number : ℕ) (entry : List FileText)
          → Contains first.begun (number, entry) ⊎ ◌≡◌ {A = Begun} (number, entry) (length first.commits, now)
          → Contains first.begun (number, entry)
          ⊎ IsBegunBy formats store keys (length first.commits) (Failed commit ∷ log) number entry
      was number entry (inl before) = inl before
      was number entry (inr is) = inr (here number entry is)

      by : (number : ℕ) (entry : List FileText)
          → Contains (first.begun ++ (length first.commits, now) ∷ []) (number, entry)
          ⊎ IsBegunBy formats store keys (length first.commits) log number entry
          → Contains first.begun (number, entry)
          ⊎ IsBegunBy formats store keys (length first.commits) (Failed commit ∷ log) number entry
      by number entry (inl has) =
          was number entry (one_more first.begun (length first.commits, now) (number, entry) has)
      by number entry (inr later) =
          inr (later-begun (Failed commit) keys keys (length first.commits) (length first.commits) log number entry (λ before. refl) (λ before. refl) later)

      left : (entry : List FileText) → IsOneOf doubt first.doubt now
          → ((doubt ≡ Some entry) × (commits_of log ≡ [])) ⊎ IsLeftBy formats store keys log entry
          → ((first.doubt ≡ Some entry) × (commits_of log ≡ []))
          ⊎ IsLeftBy formats store keys (Failed commit ∷ log) entry
      left entry (inl none) (inl is) = absurd (not_both entry none is.0)
      left entry (inr (inl same)) (inl is) = inl (sym same ∙ is.0, is.1)
      left entry (inr (inr own)) (inl is) =
          inr (record { before = []; commit = commit; behind = log; story = refl; last = is.1; entry_is = some_is entry now (sym is.0 ∙ own) })
      left entry any (inr later) = inr (later-left (Failed commit) keys keys log entry (λ before. refl) later)

  comes-refused : (keys : KeyMap) (first last : Run) (log : List Told) (handle : ℕ)
      → ComesTo formats store keys first log last → ComesTo formats store keys first (Refused handle ∷ log) last
  comes-refused keys first last log handle rest = record {
    names = rest.names;
    files = rest.files;
    faults = rest.faults;
    commits = rest.commits;
    begun = λ number entry has. by number entry (rest.begun number entry has);
    doubt = λ entry is. left entry (rest.doubt entry is);
  }
    where
      by : (number : ℕ) (entry : List FileText)
          → Contains first.begun (number, entry) ⊎ IsBegunBy formats store keys (length first.commits) log number entry
          → Contains first.begun (number, entry)
          ⊎ IsBegunBy formats store keys (length first.commits) (Refused handle ∷ log) number entry
      by number entry (inl has) = inl has
      by number entry (inr later) =
          inr (later-begun (Refused handle) keys keys (length first.commits) (length first.commits) log number entry (λ before. refl) (λ before. refl) later)

      left : (entry : List FileText)
          → ((first.doubt ≡ Some entry) × (commits_of log ≡ [])) ⊎ IsLeftBy formats store keys log entry
          → ((first.doubt ≡ Some entry) × (commits_of log ≡ []))
          ⊎ IsLeftBy formats store keys (Refused handle ∷ log) entry
      left entry (inl is) = inl is
      left entry (inr later) = inr (later-left (Refused handle) keys keys log entry (λ before. refl) later)

  -- what a run comes to by a story
  pub comes-to : (keys : KeyMap) (first last : Run) (log : List Told) → RunsBy formats store keys first log last
      → ComesTo formats store keys first log last
  comes-to keys first last [] same =
      subst (λ (run : Run). ComesTo formats store keys first [] run) (sym same)
      (record { names = refl; files = refl; faults = refl; commits = sym (append-nil first.commits); begun = λ number entry has. inl has; doubt = λ entry is. inl (is, refl) })
  comes-to keys first last (Opened opening ∷ log) runs = absurd runs
  comes-to keys first last (Committed commit ∷ log) runs =
      comes-committed keys first last log commit (comes-to (changed_by commit.changes keys) (after_commit first (entry_of formats store keys commit)) last log runs)
  comes-to keys first last (Failed commit ∷ log) runs =
      comes-failed keys first last log commit runs.0 runs.1 (comes-to keys (after_begun first (entry_of formats store keys commit) runs.0) last log runs.2)
  comes-to keys first last (Refused handle ∷ log) runs =
      comes-refused keys first last log handle (comes-to keys first last log runs)

-- a count that rises once more, and one that doesn't fall
pub risen-once : (n before mid now : ℕ) → HasRisenBy n before mid → HasRisen mid now → mid ≤ now
    → HasRisenBy (n + 1) before now
risen-once n before mid now (inl so) (inl rose) later = inl (omega arith)
risen-once n before mid now (inl so) (inr stands) later =
    inr (record { later = omega arith; rose = inr stands; top = omega arith })
risen-once n before mid now (inr at_top) rose later =
    let above = at_top.top in
    let first = at_top.later in
    inr (record { later = omega arith; rose = risen_still before mid now first later at_top.rose; top = omega arith })

pub risen-still : (n before mid now : ℕ) → HasRisenBy n before mid → mid ≤ now → HasRisenBy n before now
risen-still n before mid now (inl so) later = inl (omega arith)
risen-still n before mid now (inr at_top) later =
    let above = at_top.top in
    let first = at_top.later in
    inr (record { later = omega arith; rose = risen_still before mid now first later at_top.rose; top = omega arith })
