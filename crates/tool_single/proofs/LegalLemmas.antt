-- What a command stores is one legal commit: a run of the model gets the parent, prepares the set and commits it.
use Rattle.std.proofs.Common.{◌≡◌, ◌≢◌, ℕ, false, cond, List, [], ◌∷◌, ◌++◌, slice_get, Option, Some, None, option_and_then, Result, Ok, Err, IsSomeAnd, refl, sym, ap, subst, ◌∙◌}
use Rattle.std.specs.List.{flat_map}
use Rattle.std.specs.Option.{option_map_or}
use Rattle.std.proofs.lemmas.Option.{none-some, same_Some}
use Rattle.key_name.specs.Joining.{joined}
use Rattle.kdb_outside.specs.declared.kinds.Kind.{Kind}
use Rattle.model_history.specs.History.{Commit}
use Rattle.model_maps.specs.KeyMap.{KeyMap}
use Rattle.model_names.specs.Name.{Name}
use Rattle.model_store.specs.Cores as cores
use Rattle.model_store.specs.Cores.{core_after, first_core}
use Rattle.model_store.specs.Events as event
use Rattle.model_store.specs.Events.{first_bad, if_bad, put}
use Rattle.model_store.specs.First.{first_record}
use Rattle.model_store.specs.Legal.{IsLegal}
use Rattle.model_store.specs.Sets as sets
use Rattle.model_store.specs.Records.{no_record}
use Rattle.model_store.specs.Sound.{IsSound}
use Rattle.model_store.specs.Store.{Store, is_bad, points_of}
use Rattle.model_store.specs.Verdicts.{Same, Conflict, TooLarge, Invalid, DatabaseFull, HistoryFull, Commits, IsEarly, IsLate}
use Rattle.model_store.specs.Worlds.{first_world}
use Rattle.model_store.proofs.Accepting.{accepts-own}
use Rattle.model_store.proofs.Owning.{Goes, first_stands, follows}
use Rattle.mount_table.specs.declared.mounts.Mount.{Mount}
use Rattle.mounted_files.specs.Faults.{fault_in, fault_of}
use Rattle.mounted_files.specs.Opening.{IsOpened, Opens}
use Rattle.mounted_files.specs.declared.files.FileState.{FileState}
use Rattle.mounted_files.specs.declared.files.FileState.TheVariants as state
use Rattle.mounted_files.specs.declared.files.MountedFile.{MountedFile}
use Rattle.mounted_files.specs.declared.refusals.GetFault.{GetFault}
use Rattle.mounted_files.specs.declared.refusals.OpenRefusal.{OpenRefusal}
use Rattle.all_formats.specs.Meanings as all
use Rattle.store_core.specs.Gets.{fault_at}
use Rattle.set_split.specs.Involved.{involved_in}
use Rattle.store_verdict.specs.Preparing as preparing
use Rattle.store_verdict.specs.declared.faults.PrepareFault.{PrepareFault}
use Rattle.store_verdict.specs.declared.faults.PrepareFault.TheVariants as fault
use Rattle.tool_commands.specs.Commands.{every_key, parent_of, step_of}
use Rattle.tool_commands.specs.Lines.{line_of_mount}
use Rattle.store_lines.specs.Lines.{bad_table, database_full, file_too_large, history_full, invalid, not_storable, value_too_long}
use Rattle.tool_commands.specs.Report.{Report, checked, told, warned}
use Rattle.tool_commands.specs.Step.{Step, Tells, Sets}
use Rattle.tool_words.specs.Request.{Action, Replace, Question, Mounts, FileOf, TextOf, ViolationsOf, On, Request, Refuses, Bars, Asks, Imports}
use Rattle.tool_words.specs.Lines.{not_writable}
use Rattle.tool_words.specs.Rows.{request}
use Rattle.mounted_files.specs.Whole.{relative}
use Rattle.tool_single.specs.Alone.{got_alone, store_alone, the_handle}
use Rattle.tool_single.specs.Answer.{Answer, tells}
use Rattle.tool_single.specs.Answers.{Answers, AnswersBelow, AnswersChecked, AnswersGot, AnswersImport, AnswersIn, AnswersOpened, AnswersOver, AnswersRequest, AnswersStep, AnswersText, Bad, Held, NotHeld, Written, file_told, line_of_get, line_of_opening, owner_in}
use Rattle.tool_single.specs.Input.{taken}
use Rattle.tool_single.specs.OneCommit.{IsOneCommit}
use Rattle.tool_single.proofs.GetLemmas.{alone-bad}
use Rattle.tool_single.proofs.SetLemmas.{first_is}
use Rattle.tool_single.proofs.SoundLemmas.{opened-sound}
use Rattle.tool_single.specs.Sets.{AnswersSet, IsRefusal, Judged, Refused, formats, set_alone}

-- ---- the mounts of a parent that was got are good

-- a bad mount has a fault
bad_fault : (files : List MountedFile) (n m : ℕ) → if_bad (store_alone files) n ≡ Some m
    → (why : GetFault) × (fault_at files m ≡ Some why)
bad_fault files n m bad = by (slice_get files n) refl bad
  where
    in_state : (mount : Mount) (s : FileState) → slice_get files n ≡ Some (record { mount = mount; state = s })
        → cond (is_bad s) (Some n) None ≡ Some m → (why : GetFault) × (fault_at files m ≡ Some why)
    in_state mount (state.Good visible shadow) there e = absurd (none-some m e)
    in_state mount (state.Bad cause) there e =
        (fault_of mount.at cause, subst (λ (k : ℕ). fault_at files k ≡ Some (fault_of mount.at cause)) (same_Some n m e) (ap (option_and_then fault_in) there))

    by : (o : Option MountedFile) → slice_get files n ≡ o
        → cond (option_map_or (λ (file : MountedFile). is_bad file.state) o false) (Some n) None ≡ Some m
        → (why : GetFault) × (fault_at files m ≡ Some why)
    by None there e = absurd (none-some m e)
    by (Some file) there e = in_state file.mount file.state there e

good_parent : (files : List MountedFile) (parent : Name) (keys : KeyMap) → got_alone files parent ≡ Ok keys
    → first_bad (store_alone files) parent ≡ None
good_parent files parent keys has = by (first_bad (store_alone files) parent) refl
  where
    by : (o : Option ℕ) → first_bad (store_alone files) parent ≡ o → first_bad (store_alone files) parent ≡ None
    by None is = is
    by (Some m) is =
        let found = first_is (if_bad (store_alone files)) (involved_in (points_of (store_alone files)) parent) m is in
        let bad = bad_fault files found.0 m found.1 in
        absurd (let both : Err bad.0 ≡ Ok keys = sym (alone-bad files parent m bad.0 is bad.1) ∙ has in cc)

-- ---- a set that is a commit

module _ (files : List MountedFile) (sound : IsSound formats (store_alone files)) (parent : Name) (keys : KeyMap) (good : first_bad (store_alone files) parent ≡ None)
    (early : IsEarly formats (store_alone files) (set_alone (store_alone files) parent keys) None) (commit : Commit) (aside : ℕ)
    (late : IsLate formats (store_alone files) [] (store_alone files).start (set_alone (store_alone files) parent keys) (Commits commit aside)) where
  abbrev store : Store
  store = store_alone files

  abbrev set : sets.Prepared
  set = set_alone store parent keys

  abbrev got_core : cores.Core
  got_core = record (first_core store) { records = put the_handle (first_record store parent) (λ r. no_record) }

  abbrev set_core : cores.Core
  set_core = record got_core { sets = put 0 (Some set) (λ p. None) }

  abbrev after_get : Goes formats store first_world (event.Get the_handle parent) (event.Got 0 (event.got store store.start the_handle parent)) got_core
  after_get =
      follows formats store first_world (first_core store) (event.Get the_handle parent) (event.Got 0 (event.got store store.start the_handle parent)) got_core (first_stands formats store sound)
      (record { good = good; front_is = refl; keys_are = refl; next_is = refl })

  abbrev after_prepare : Goes formats store after_get.after (event.Prepare the_handle 0 parent keys) event.Ready set_core
  after_prepare =
      follows formats store after_get.after got_core (event.Prepare the_handle 0 parent keys) event.Ready set_core after_get.stands (record { early = early; next_is = refl })

  abbrev after_commit : Goes formats store after_prepare.after (event.Commit the_handle 0) (event.Judged 0 (Commits commit aside)) (core_after store set_core the_handle set (Commits commit aside))
  after_commit = follows formats store after_prepare.after set_core (event.Commit the_handle 0) (event.Judged 0 (Commits commit aside)) (core_after store set_core the_handle set (Commits commit aside)) after_prepare.stands (record {
    judged = record { set = set; is_set = refl; accepted = accepts-own (points_of store) the_handle (first_record store parent) parent keys; front_is = refl; late_is = late };
    next_is = refl;
  })

  pub legal : IsLegal formats store (commit ∷ [])
  legal =
      subst (λ (h : List Commit). IsLegal formats store h) (sym after_commit.stands.history) after_commit.stands.legal

-- ---- by what was asked

-- an answer that stores nothing has nothing to show
nothing : {P : Type 0} (answer : Answer) (report : Report) → answer ≡ tells report → answer.stored ≢ [] → P
nothing answer report is some = absurd (some (ap (λ (a : Answer). a.stored) is))

module _ (MayRefuse : List ℕ → Type 0) (bytes_of : List ℕ → List ℕ) (a : Answer) (some : a.stored ≢ []) where
  abbrev One : Type 0
  One = IsOneCommit bytes_of a.stored

  module _ (files : List MountedFile) (opened : IsOpened all.Reads all.IsBadAt bytes_of files) where
    refusal : (why : PrepareFault) → IsRefusal why a → One
    refusal (fault.NotFetched mount) p = absurd p
    refusal (fault.ValueTooLong key amount) p = nothing a (warned 5 (value_too_long key amount)) p some
    refusal (fault.FileTooLarge mount amount) p = nothing a (warned 5 (file_too_large mount amount)) p some
    refusal (fault.NotStorable mount key) p = nothing a (warned 5 (not_storable mount key)) p some
    refusal (fault.BadTable why) p = nothing a (warned 5 (bad_table why)) p some
    refusal fault.Memory p = absurd p

    of_set : (parent : Name) (keys : KeyMap) (out : List ℕ) → first_bad (store_alone files) parent ≡ None
        → AnswersSet MayRefuse files parent keys out a → One
    of_set parent keys out good (Refused why early p) = told (preparing.fault_of (store_alone files).mounts why) p
      where
        told : (o : Option PrepareFault) → IsSomeAnd o (λ f. IsRefusal f a) → One
        told None p = absurd p
        told (Some f) p = refusal f p
    of_set parent keys out good (Judged early (Same aside) late p) = nothing a (told out) p some
    of_set parent keys out good (Judged early (Conflict mount by) late p) = absurd p
    of_set parent keys out good (Judged early (TooLarge mount size) late p) = absurd p
    of_set parent keys out good (Judged early (Invalid violation risen) late p) =
        nothing a (warned 5 (invalid violation)) p.1 some
    of_set parent keys out good (Judged early (DatabaseFull weight) late p) =
        nothing a (warned 5 (database_full weight)) p some
    of_set parent keys out good (Judged early (HistoryFull weight) late p) =
        nothing a (warned 5 (history_full weight)) p some
    of_set parent keys out good (Judged early (Commits commit aside) late p) = record {
      files = files;
      opened = opened;
      commit = commit;
      legal = legal files (opened-sound bytes_of files opened) parent keys good early commit aside late;
      texts = ap (λ (x : Answer). x.stored) p;
    }

    of_step : (parent : Name) (step : Step) → first_bad (store_alone files) parent ≡ None
        → AnswersStep MayRefuse files parent step a → One
    of_step parent (Tells report) good p = nothing a report p some
    of_step parent (Sets keys out) good p = of_set parent keys out good p

    of_got : (name : Name) (action : Action) (keys : Result KeyMap GetFault)
        → got_alone files (parent_of name action) ≡ keys → AnswersGot MayRefuse files name action keys a → One
    of_got name action (Ok keys) is p =
        of_step (parent_of name action) (step_of keys name action) (good_parent files (parent_of name action) keys is) p
    of_got name action (Err why) is p = nothing a (warned 5 (line_of_get why)) p some

    of_text : (name : Name) (kind : Kind) (keys : KeyMap) → AnswersText name kind keys a → One
    of_text name kind keys (Written storable p) = nothing a (told (all.text kind keys)) p some
    of_text name kind keys (NotHeld key breaks p) = nothing a (warned 5 (not_storable name (joined name key))) p some

    of_below : (name : Name) (kind : Kind) (keys : Result KeyMap GetFault) → AnswersBelow name kind keys a → One
    of_below name kind (Ok keys) p = of_text name kind (relative name keys) p
    of_below name kind (Err why) p = nothing a (warned 5 (line_of_get why)) p some

    of_checked : (name : Name) (keys : Result KeyMap GetFault) → AnswersChecked MayRefuse name keys a → One
    of_checked name (Ok keys) p = nothing a (checked p.0) p.2 some
    of_checked name (Err why) p = nothing a (warned 5 (line_of_get why)) p some

    of_owner : (o : Option MountedFile) → IsSomeAnd o (λ file. a ≡ file_told file) → One
    of_owner None p = absurd p
    of_owner (Some file) p = nothing a (told (file.mount.file ++ 10 ∷ [])) p some

    of_question : (question : Question) → AnswersIn MayRefuse files question a → One
    of_question Mounts p = nothing a (told (flat_map (λ (file : MountedFile). line_of_mount file.mount) files)) p some
    of_question (FileOf name) p = of_owner (owner_in files name) p
    of_question (TextOf name kind) p = of_below name kind (got_alone files name) p
    of_question (ViolationsOf name) p = of_checked name (got_alone files every_key) p
    of_question (On name action) p = of_got name action (got_alone files (parent_of name action)) refl p

  of_opened : (opened : Result (List MountedFile) OpenRefusal) (question : Question)
      → Opens all.Reads all.IsBadAt bytes_of opened → AnswersOpened MayRefuse opened question a → One
  of_opened (Ok files) question opens p = of_question files opens question p
  of_opened (Err why) question opens p = nothing a (warned 5 (line_of_opening why)) p.1 some

  of_over : (question : Question) → AnswersOver MayRefuse question bytes_of a → One
  of_over question p = of_opened p.opened question p.opens p.answers

  of_import : (name : Name) (kind : Kind) (bytes : List ℕ) → AnswersImport MayRefuse name kind bytes bytes_of a → One
  of_import name kind bytes (Held keys holds p) = of_over (On name (Replace keys)) p
  of_import name kind bytes (Bad cause is p) = nothing a (warned 5 (line_of_get (fault_of name cause))) p some

  of_request : (asked : Request) (input : List ℕ) → AnswersRequest MayRefuse asked input bytes_of a → One
  of_request (Refuses status text) input p = nothing a (warned status text) p some
  of_request (Bars name) input p = nothing a (warned 2 (not_writable name)) p some
  of_request (Asks question) input p = of_over question p
  of_request (Imports name kind) input p = of_import name kind (taken input) p

pub stores_one : (MayRefuse : List ℕ → Type 0) (words : List (List ℕ)) (input : List ℕ) (files : List ℕ → List ℕ)
    (answer : Answer) → Answers MayRefuse words input files answer → answer.stored ≢ []
    → IsOneCommit files answer.stored
stores_one MayRefuse words input files answer answers some =
    of_request MayRefuse files answer some (request words) input answers
