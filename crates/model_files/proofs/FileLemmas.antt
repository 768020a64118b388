-- The files after a history are those with each entry of its commits.
use Rattle.std.proofs.Common.{◌≡◌, ◌≢◌, ℕ, zero, suc, ◌+◌, ◌<◌, ◌≤◌, Bool, true, false, cond, ◌||◌, bytes_eq, List, [], ◌∷◌, length, take, slice_get, Option, Some, None, refl, sym, ap, subst, ◌∙◌, arith}
use Rattle.std.specs.List.{position_from}
use Rattle.std.specs.Option.{option_map, unwrap_or}
use Rattle.std.specs.Prelude.{option_and_then}
use Rattle.std.proofs.lemmas.Slice.Eq.{bytes_eq-Decides}
use Rattle.general_words.proofs.Places.{there_is}
use Rattle.intent_journal.specs.Outcomes.{HasOnly}
use Rattle.journal_steps.specs.Outcomes.{with_entry, with_entries, IsEither}
use Rattle.journal_codec.specs.declared.files.FileText.{FileText}
use Rattle.kdb_outside.specs.Images.{Image}
use Rattle.model_crashes.specs.Runs.{Begun, IsBegun, IsReached}
use Rattle.model_maps.specs.KeyMap.{KeyMap}
use Rattle.model_history.specs.Changes.{changed_by}
use Rattle.model_history.specs.History.{Commit, replay, touches}
use Rattle.model_history.proofs.HistoryLemmas.{position-within, position-passes, position-none}
use Rattle.model_store.specs.Legal.{AreLegal}
use Rattle.model_store.specs.Store.{Store, Formats, contents}
use Rattle.model_store.proofs.Histories.{all_untouched}
use Rattle.model_files.specs.Files.{HaveOwnFiles, mount_with, text_of, is_touched, stored, files_from, files_after}
use Rattle.model_files.specs.Texts.{texts_at, entry_of, entries_from, entries_of}
use Rattle.model_files.proofs.TextLemmas.{content_in-entry, get-texts, get-texts_none}
use Rattle.mount_table.specs.declared.mounts.Mount.{Mount}

-- ---- the mount whose file has a name

pub mount_with-found : (mounts : List Mount) (file : List ℕ) (m : ℕ) → mount_with mounts file ≡ Some m
    → (mount : Mount) × (slice_get mounts m ≡ Some mount) × (mount.file ≡ file)
mount_with-found mounts file m e =
    let test = λ (mount : Mount). bytes_eq mount.file file in
    let within : m < 0 + length mounts = position-within test 0 mounts m e in
    let found = there_is mounts m (omega (arith, within)) in
    (found.0, found.1, (bytes_eq-Decides found.0.file file).0 (position-passes test 0 mounts m m found.0 e (omega arith) found.1))

pub mount_with-none : (mounts : List Mount) (file : List ℕ) → mount_with mounts file ≡ None → (n : ℕ) (other : Mount)
    → slice_get mounts n ≡ Some other → other.file ≢ file
mount_with-none mounts file none n other there same =
    let off : bytes_eq other.file file ≡ false = position-none (λ (mount : Mount). bytes_eq mount.file file) 0 mounts n other none there in
    let on : bytes_eq other.file file ≡ true = (bytes_eq-Decides other.file file).1 same in
    absurd cc

untouched-none : (m i : ℕ) (history : List Commit) → is_touched m history ≡ false
    → position_from (touches m) i history ≡ None
untouched-none m i [] off = refl
untouched-none m i (commit ∷ commits) off = elim (touches m commit) as (λ b. (b || is_touched m commits) ≡ false → cond b (Some i) (position_from (touches m) (i + 1) commits) ≡ None) [
  | true ↦ λ e. absurd cc
  | false ↦ λ e. untouched-none m (i + 1) commits e
] off

module _ (formats : Formats) (store : Store) where
  -- ---- a file that is no mount's

  no_content : (before : KeyMap) (commit : Commit) (files : Image) (file : List ℕ) → mount_with store.mounts file ≡ None
      → with_entry files (entry_of formats store before commit) file ≡ files file
  no_content before commit files file none =
      let keys = changed_by commit.changes before in
      ap (λ o. unwrap_or o (files file))
      (content_in-entry (texts_at formats store keys commit.touched) file ∙ get-texts_none formats store keys commit.touched file (mount_with-none store.mounts file none))

  stays : (start : KeyMap) (files : Image) (history : List Commit) (file : List ℕ) → mount_with store.mounts file ≡ None
      → with_entries files (entries_from formats store start history) file ≡ files file
  stays start files [] file none = refl
  stays start files (commit ∷ commits) file none =
      stays (changed_by commit.changes start) (with_entry files (entry_of formats store start commit)) commits file none
      ∙ no_content start commit files file none

  -- ---- the file of a mount

  module _ (own : HaveOwnFiles store.mounts) (m : ℕ) (mount : Mount) (there : slice_get store.mounts m ≡ Some mount) where
    -- what its file holds after some commits
    abbrev held : KeyMap → List ℕ → List Commit → List ℕ
    held start bytes history = cond (is_touched m history) (text_of formats store (replay start history) m mount) bytes

    with_content : (before : KeyMap) (commit : Commit) (files : Image)
        → with_entry files (entry_of formats store before commit) mount.file
        ≡ cond (touches m commit) (text_of formats store (changed_by commit.changes before) m mount) (files mount.file)
    with_content before commit files =
        let keys = changed_by commit.changes before in
        ap (λ o. unwrap_or o (files mount.file)) (content_in-entry (texts_at formats store keys commit.touched) mount.file ∙ get-texts formats store keys own commit.touched m mount there)
        ∙ elim (touches m commit) as (λ b. unwrap_or (cond b (Some (text_of formats store keys m mount)) None) (files mount.file) ≡ cond b (text_of formats store keys m mount) (files mount.file)) [ true ↦ refl | false ↦ refl ]

    same_text : (start : KeyMap) (commits : List Commit) → AreLegal formats store start commits
        → is_touched m commits ≡ false
        → text_of formats store (replay start commits) m mount ≡ text_of formats store start m mount
    same_text start commits legal off =
        ap (λ keys. formats.text mount.kind (contents store m mount keys)) (all_untouched formats store start 0 commits m legal (untouched-none m 0 commits off))

    holds : (start : KeyMap) (files : Image) (history : List Commit) → AreLegal formats store start history
        → with_entries files (entries_from formats store start history) mount.file
        ≡ held start (files mount.file) history
    holds start files [] legal = refl
    holds start files (commit ∷ commits) legal =
        let next = changed_by commit.changes start in
        holds next (with_entry files (entry_of formats store start commit)) commits legal.1
        ∙ ap (λ bytes. cond (is_touched m commits) (text_of formats store (replay next commits) m mount) bytes) (with_content start commit files)
        ∙ by (touches m commit) (is_touched m commits) refl
      where
        by : (first later : Bool) → is_touched m commits ≡ later
            → cond later (text_of formats store (replay (changed_by commit.changes start) commits) m mount) (cond first (text_of formats store (changed_by commit.changes start) m mount) (files mount.file))
            ≡ cond (first || later) (text_of formats store (replay (changed_by commit.changes start) commits) m mount) (files mount.file)
        by true true is = refl
        by true false is = sym (same_text (changed_by commit.changes start) commits legal.1 is)
        by false true is = refl
        by false false is = refl

    stored-is : (start : KeyMap) (files : Image) (history : List Commit)
        → unwrap_or (stored formats store start history m) (files mount.file) ≡ held start (files mount.file) history
    stored-is start files history =
        ap (λ o. unwrap_or (cond (is_touched m history) (option_map (text_of formats store (replay start history) m) o) None) (files mount.file)) there
        ∙ elim (is_touched m history) as (λ b. unwrap_or (cond b (Some (text_of formats store (replay start history) m mount)) None) (files mount.file) ≡ cond b (text_of formats store (replay start history) m mount) (files mount.file)) [ true ↦ refl | false ↦ refl ]

    at_mount : (start : KeyMap) (files : Image) (history : List Commit) (file : List ℕ) → mount.file ≡ file
        → AreLegal formats store start history
        → unwrap_or (stored formats store start history m) (files file)
        ≡ with_entries files (entries_from formats store start history) file
    at_mount start files history file same legal =
        subst (λ name. unwrap_or (stored formats store start history m) (files name) ≡ with_entries files (entries_from formats store start history) name) same
        (stored-is start files history ∙ sym (holds start files history legal))

  -- ---- every file

  pub files_from-entries : HaveOwnFiles store.mounts → (start : KeyMap) (files : Image) (history : List Commit)
      → AreLegal formats store start history
      → files_from formats store start files history ≡ with_entries files (entries_from formats store start history)
  files_from-entries own start files history legal = λ i file. at file (mount_with store.mounts file) refl i
    where
      at : (file : List ℕ) (o : Option ℕ) → mount_with store.mounts file ≡ o
          → unwrap_or (option_and_then (stored formats store start history) o) (files file)
          ≡ with_entries files (entries_from formats store start history) file
      at file None is = sym (stays start files history file is)
      at file (Some m) is =
          let found = mount_with-found store.mounts file m is in at_mount own m found.0 found.1 start files history file found.2 legal

  -- ---- prefixes

  pub entries_from-take : (n : ℕ) (start : KeyMap) (history : List Commit)
      → entries_from formats store start (take n history) ≡ take n (entries_from formats store start history)
  entries_from-take zero start history = refl
  entries_from-take (suc n) start [] = refl
  entries_from-take (suc n) start (commit ∷ commits) =
      ap (λ es. entry_of formats store start commit ∷ es) (entries_from-take n (changed_by commit.changes start) commits)

  pub length-entries : (start : KeyMap) (history : List Commit)
      → length (entries_from formats store start history) ≡ length history
  length-entries start [] = refl
  length-entries start (commit ∷ commits) = ap suc (length-entries (changed_by commit.changes start) commits)

  pub legal-take : (n : ℕ) (start : KeyMap) (history : List Commit) → AreLegal formats store start history
      → AreLegal formats store start (take n history)
  legal-take zero start history legal = tt
  legal-take (suc n) start [] legal = legal
  legal-take (suc n) start (commit ∷ commits) legal =
      (legal.0, legal-take n (changed_by commit.changes start) commits legal.1)

  pub files_after-take : (n : ℕ) → HaveOwnFiles store.mounts → (files : Image) (history : List Commit)
      → AreLegal formats store store.start history
      → files_after formats store files (take n history)
      ≡ with_entries files (take n (entries_of formats store history))
  files_after-take n own files history legal =
      files_from-entries own store.start files (take n history) (legal-take n store.start history legal)
      ∙ ap (with_entries files) (entries_from-take n store.start history)

  pub reached_history : HaveOwnFiles store.mounts
      → (files : Image) (history : List Commit) (begun : List Begun) (image : Image)
      → AreLegal formats store store.start history
      → IsReached files (entries_of formats store history) begun image
      → (number : ℕ) × (doubt : Option (List FileText)) × (number ≤ length history) × (IsBegun begun number doubt)
      × HasOnly (IsEither (files_after formats store files (take number history)) doubt) image
  reached_history own files history begun image legal reached = (
    reached.number,
    reached.doubt,
    subst (λ n. reached.number ≤ n) (length-entries store.start history) reached.within,
    reached.was_begun,
    subst (λ (now : Image). HasOnly (IsEither now reached.doubt) image) (sym (files_after-take reached.number own files history legal)) reached.is,
  )
