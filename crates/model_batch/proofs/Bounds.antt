-- In fair transcripts each conflict is with the commit of another, and a merge is spent only where others made as many
-- commits as it has tries.
use Rattle.std.proofs.Common.{◌≡◌, ◌⊎◌, inl, inr, ℕ, zero, suc, ◌+◌, ◌-◌, ◌<◌, ◌≤◌, Bool, true, false, ◌||◌, nat_eq, List, [], ◌∷◌, ◌++◌, length, slice_get, Option, Some, None, Err, refl, sym, ap, subst, ◌∙◌, arith}
use Rattle.std.specs.FinMap as map
use Rattle.std.specs.List.{AllByRecursion, flat_map}
use Rattle.batch_script.specs.declared.steps.Step.{Step}
use Rattle.batch_script.specs.declared.steps.Step.TheVariants.{Get, Put, MetaStep, Del, Cut, Look, Set, Merge, Watch, Poll, Undo}
use Rattle.general_words.proofs.Lists.{all_append, all_from_places, some_is}
use Rattle.key_edits.specs.Edits.{put_meta, put_value}
use Rattle.key_merge.specs.declared.strategies.Strategy.{Strategy}
use Rattle.kdb_handle.specs.Fronts.{IsAnothers}
use Rattle.kdb_handle.specs.Opened.{store_at}
use Rattle.kdb_handle.specs.declared.merging.MergeEnd.TheVariants as merge_end
use Rattle.kdb_handle.specs.declared.merging.Tried.{Tried}
use Rattle.kdb_handle.specs.declared.replies.Reply.{Reply}
use Rattle.kdb_handle.specs.declared.replies.Reply.TheVariants as reply
use Rattle.kdb_handle.specs.declared.undoing.UndoFault.TheVariants as undo_fault
use Rattle.model_batch.specs.Fair.{IsFair, of_session}
use Rattle.model_batch.specs.Replies.{conflicts_told, look_reply, merge_reply, numbers_told}
use Rattle.model_batch.specs.Sessions.{Session, first_session}
use Rattle.model_batch.specs.Sets.{Lacks, kept_then}
use Rattle.model_batch.specs.Steps.{Edits, Means, got_then}
use Rattle.model_batch.specs.Told.{IsAtLeast, Tells, count_of_others}
use Rattle.model_batch.specs.Watches.{news_then}
use Rattle.model_batch.proofs.Covering.{AreTold, Covers, Leaves, covers-kept, covers-later, lacks-covers, leaves, leaves-same, none-behind, set-covers, undo-covers}
use Rattle.model_batch.proofs.Knowing.{fair-flat}
use Rattle.model_batch.proofs.MergesCover.{merges-cover, merges-spent}
use Rattle.model_batch.proofs.OwnLemmas.{own-among}
use Rattle.model_batch.proofs.Telling.{means-later, means-numbers, numbers-behind, tells-later}
use Rattle.model_history.specs.History.{Commit, is_among}
use Rattle.model_maps.specs.KeyMap.{KeyMap, not_below}
use Rattle.model_names.specs.Name.{Name}
use Rattle.model_specified.specs.Specified.{specified}
use Rattle.model_store.specs.Store.{Formats, Store, points_of}
use Rattle.model_store.proofs.Members.{from_all}
use Rattle.mounted_files.specs.declared.files.MountedFile.{MountedFile}
use Rattle.mounted_files.specs.declared.refusals.GetFault.TheVariants as get_fault
use Rattle.set_split.specs.Involved.{involved_in}
use Rattle.spec_cascade.specs.Found.{found}
use Rattle.spec_cascade.specs.declared.founds.Found.{Found}

-- what is among two lists together is among one of them
among-both : (xs ys : List ℕ) (n : ℕ) → is_among (xs ++ ys) n ≡ true → (is_among xs n ≡ true) ⊎ (is_among ys n ≡ true)
among-both [] ys n among = inr among
among-both (x ∷ xs) ys n among = elim (nat_eq n x) as (λ (b : Bool). (b || is_among (xs ++ ys) n) ≡ true → ((b || is_among xs n) ≡ true) ⊎ (is_among ys n ≡ true)) [
  | true ↦ λ h. inl refl
  | false ↦ λ h. among-both xs ys n h
] among

-- a look tells of no conflict
looked : (one : Option Found) → conflicts_told (look_reply one) ≡ []
looked None = refl
looked (Some one) = refl

module _ (formats : Formats) (files : List MountedFile) (procs : KeyMap) (number : ℕ) (history : List Commit) where
  abbrev store : Store
  store = store_at files

  -- ---- one step

  same-covers : (said : Reply) (old new made : Session) (answer : Reply) → conflicts_told said ≡ [] → answer ≡ said
      → new ≡ made → made.rec ≡ old.rec → made.told ≡ old.told → Covers number history store old.rec old.told
      → Leaves number history store answer new
  same-covers said old new made answer none reply_is new_is rec_is told_is covers =
      leaves-same number history store said old new answer none reply_is (ap (λ (s : Session). s.rec) new_is ∙ rec_is) (ap (λ (s : Session). s.told) new_is ∙ told_is) covers

  edit-covers : (edited : KeyMap) (old new : Session) (answer : Reply)
      → Edits edited old answer new ⊎ Lacks reply.Memory old answer new → Covers number history store old.rec old.told
      → Leaves number history store answer new
  edit-covers edited old new answer (inl h) covers =
      same-covers reply.Quiet old new (record old { working = edited }) answer refl h.reply_is h.new_is refl refl covers
  edit-covers edited old new answer (inr h) covers =
      lacks-covers number history store reply.Memory old new answer refl h covers

  step-covers : (old new : Session) (step : Step) (answer : Reply)
      → Means formats files procs number history old step answer new → Covers number history store old.rec old.told
      → AreTold number history old.told (numbers_told answer) new.told → Leaves number history store answer new
  step-covers old new (Get parent) answer (inl h) covers told =
      let involved = involved_in (points_of store) parent in
      let keys : KeyMap = got_then files procs number h.past parent in
      let made : Session = record old { working = keys; rec = kept_then store h.past involved old.rec; told = length h.past } in
      leaves number history store old.told (reply.Got (length h.past) (length (map.entries keys))) answer made new h.reply_is h.new_is
      (λ told. (covers-kept number history store h.past involved old.rec old.told h.begins (none-behind number history old.told (length h.past) (length h.past) [] tt (omega arith) told) covers, tt)) told
  step-covers old new (Get parent) answer (inr (inl h)) covers told =
      same-covers (reply.GetRefused h.why) old new old answer refl h.reply_is h.new_is refl refl covers
  step-covers old new (Get parent) answer (inr (inr (inl h))) covers told =
      lacks-covers number history store (reply.GetRefused get_fault.Memory) old new answer refl h covers
  step-covers old new (Get parent) answer (inr (inr (inr h))) covers told =
      lacks-covers number history store reply.Memory old new answer refl h covers
  step-covers old new (Put name value) answer h covers told =
      edit-covers (put_value old.working name value) old new answer h covers
  step-covers old new (MetaStep name meta value) answer h covers told =
      edit-covers (put_meta old.working name meta value) old new answer h covers
  step-covers old new (Del name) answer h covers told =
      edit-covers (map.remove old.working name) old new answer h covers
  step-covers old new (Cut name) answer h covers told = edit-covers (not_below name old.working) old new answer h covers
  step-covers old new (Look name) answer (inl h) covers told =
      let one = found (specified old.working) name in
      same-covers (look_reply one) old new old answer (looked one) h.reply_is h.new_is refl refl covers
  step-covers old new (Look name) answer (inr h) covers told =
      lacks-covers number history store reply.Memory old new answer refl h covers
  step-covers old new (Set parent) answer h covers told =
      set-covers number history store parent formats old.working old new answer h covers told
  step-covers old new (Merge parent strategy tries) answer (inl h) covers told =
      merges-cover number history formats files parent strategy tries old new answer h covers told
  step-covers old new (Merge parent strategy tries) answer (inr h) covers told =
      lacks-covers number history store reply.Memory old new answer refl h covers
  step-covers old new (Watch parent room) answer (inl h) covers told =
      let made : Session = record old { told = length h.past; watching = Some (record { parent = parent; room = room; from = length h.past }) } in
      leaves number history store old.told (reply.Watching (length h.past)) answer made new h.reply_is h.new_is
      (λ told. (covers-later number history store h.past old.rec old.told h.begins told covers, tt)) told
  step-covers old new (Watch parent room) answer (inr h) covers told =
      lacks-covers number history store reply.Memory old new answer refl h covers
  step-covers old new Poll answer (inl h) covers told =
      same-covers reply.NoWatch old new old answer refl h.reply_is h.new_is refl refl covers
  step-covers old new Poll answer (inr (inl h)) covers told =
      let made : Session = record old { told = length h.past; watching = Some (record h.watched { from = length h.past }) } in
      leaves number history store old.told (reply.News (news_then h.watched h.past)) answer made new h.reply_is h.new_is
      (λ told. (covers-later number history store h.past old.rec old.told h.begins told covers, tt)) told
  step-covers old new Poll answer (inr (inr h)) covers told =
      lacks-covers number history store reply.Memory old new answer refl h covers
  step-covers old new (Undo undone) answer (inl h) covers told =
      undo-covers number history formats files procs undone old new answer h covers told
  step-covers old new (Undo undone) answer (inr (inl h)) covers told =
      lacks-covers number history store (reply.UndoRefused undo_fault.Memory) old new answer refl h covers
  step-covers old new (Undo undone) answer (inr (inr h)) covers told =
      lacks-covers number history store reply.Memory old new answer refl h covers

  -- ---- step by step

  -- an own commit from one place on is told by replies that come
  abbrev AreComing : ℕ → List Reply → Type 0
  AreComing from answers =
      (place : ℕ) (commit : Commit) → slice_get history place ≡ Some commit → commit.handle ≡ number → from ≤ place → is_among (flat_map numbers_told answers) (place + 1) ≡ true

  numbers-far : (floor : ℕ) (answers : List Reply) → AllByRecursion (IsAtLeast floor) answers
      → AllByRecursion (λ n. floor ≤ n - 1) (flat_map numbers_told answers)
  numbers-far floor [] all = tt
  numbers-far floor (answer ∷ answers) all =
      all_append (λ n. floor ≤ n - 1) (numbers_told answer) (flat_map numbers_told answers) (numbers-behind floor answer all.0) (numbers-far floor answers all.1)

  -- a step among others, with what the fronts cover before it
  pub record Amid (steps : List Step) (at : ℕ) (answer : Reply) : Type 0 where
    pub step : Step
    pub there : slice_get steps at ≡ Some step
    pub old : Session
    pub new : Session
    pub means : Means formats files procs number history old step answer new
    pub covers : Covers number history store old.rec old.told
    pub told : AreTold number history old.told (numbers_told answer) new.told

  pub amid : (old new : Session) (steps : List Step) (answers : List Reply)
      → Tells formats files procs number history old steps answers new → Covers number history store old.rec old.told
      → AreComing old.told answers
      → (at : ℕ) (answer : Reply) → slice_get answers at ≡ Some answer → Amid steps at answer
  amid old new [] [] h covers coming at answer there = absurd cc
  amid old new [] (one ∷ answers) h covers coming at answer there = absurd h
  amid old new (step ∷ steps) [] h covers coming at answer there = absurd h
  amid old new (step ∷ steps) (one ∷ answers) h covers coming at answer there =
      by (amid mid new steps answers h.2) at there
    where
      mid : Session
      mid = h.0

      -- what comes behind the step lies behind what it tells
      later : AllByRecursion (λ n. mid.told ≤ n - 1) (flat_map numbers_told answers)
      later = numbers-far mid.told answers (tells-later formats files procs number history mid new steps answers h.2).1

      told : AreTold number history old.told (numbers_told one) mid.told
      told place commit here own least =
          split (among-both (numbers_told one) (flat_map numbers_told answers) (place + 1) (coming place commit here own least))
        where
          split : (is_among (numbers_told one) (place + 1) ≡ true)
              ⊎ (is_among (flat_map numbers_told answers) (place + 1) ≡ true)
              → (is_among (numbers_told one) (place + 1) ≡ true) ⊎ (mid.told ≤ place)
          split (inl among) = inl among
          split (inr among) =
              let far : mid.told ≤ (place + 1) - 1 = from_all (λ n. mid.told ≤ n - 1) (flat_map numbers_told answers) (place + 1) later among in inr (omega (arith, far))

      rest : AreComing mid.told answers
      rest place commit here own least =
          let no_less = (means-later formats files procs number history old mid step one h.1).0 in
          split (among-both (numbers_told one) (flat_map numbers_told answers) (place + 1) (coming place commit here own (omega (arith, no_less, least))))
        where
          split : (is_among (numbers_told one) (place + 1) ≡ true)
              ⊎ (is_among (flat_map numbers_told answers) (place + 1) ≡ true)
              → is_among (flat_map numbers_told answers) (place + 1) ≡ true
          split (inl among) =
              let near : place + 1 ≤ mid.told = from_all (λ n. n ≤ mid.told) (numbers_told one) (place + 1) (means-numbers formats files procs number history old mid step one h.1) among in
              absurd (omega (arith, near, least))
          split (inr among) = among

      by : (Covers number history store mid.rec mid.told → AreComing mid.told answers → (at : ℕ) (answer : Reply) → slice_get answers at ≡ Some answer → Amid steps at answer)
          → (at : ℕ) → slice_get (one ∷ answers) at ≡ Some answer → Amid (step ∷ steps) at answer
      by behind zero there =
          let same = some_is one answer there in subst (Amid (step ∷ steps) zero) same (record { step = step; there = refl; old = old; new = mid; means = h.1; covers = covers; told = told })
      by behind (suc at) there =
          let next = behind (step-covers old mid step one h.1 covers told).0 rest at answer there in
          record {
            step = next.step;
            there = next.there;
            old = next.old;
            new = next.new;
            means = next.means;
            covers = next.covers;
            told = next.told;
          }

-- ---- fair transcripts

module _ (formats : Formats) (files : List MountedFile) (sessions : ℕ) (procs : ℕ → KeyMap) (history : List Commit) (steps : List (List (List Step))) (replies : List (List (List Reply)))
    (fair : IsFair formats files sessions procs history steps replies) where
  fair-amid : (i : ℕ) → i < sessions → (at : ℕ) (answer : Reply) → slice_get (of_session i replies) at ≡ Some answer
      → Amid formats files (procs (i + 1)) (i + 1) history (of_session i steps) at answer
  fair-amid i lt at answer there =
      let tells = fair-flat formats files sessions procs history steps replies fair i lt in
      amid formats files (procs (i + 1)) (i + 1) history first_session tells.0 (of_session i steps) (of_session i replies) tells.1 (λ place m commit here own touched whole before. absurd (omega (arith, before)))
      (λ place commit here own least.
      subst (λ (numbers : List ℕ). is_among numbers (place + 1) ≡ true) (fair.own i lt) (own-among (i + 1) 1 history place (place + 1) commit here own (omega arith)))
      at answer there

  pub conflict-anothers : (i : ℕ) → i < sessions
      → AllByRecursion (λ (answer : Reply). AllByRecursion (IsAnothers (i + 1) history) (conflicts_told answer)) (of_session i replies)
  conflict-anothers i lt =
      all_from_places (λ (answer : Reply). AllByRecursion (IsAnothers (i + 1) history) (conflicts_told answer)) (of_session i replies) each
    where
      each : (at : ℕ) (answer : Reply) → Some answer ≡ slice_get (of_session i replies) at
          → AllByRecursion (IsAnothers (i + 1) history) (conflicts_told answer)
      each at answer there =
          let one = fair-amid i lt at answer (sym there) in
          (step-covers formats files (procs (i + 1)) (i + 1) history one.old one.new one.step answer one.means one.covers one.told).1

  pub spent-others : (i at : ℕ) → i < sessions → (parent : Name) (strategy : Strategy) (tries : ℕ)
      → slice_get (of_session i steps) at ≡ Some (Merge parent strategy tries)
      → (tried : List Tried) (mount : Name) (by front : ℕ)
      → slice_get (of_session i replies) at ≡ Some (merge_reply tried (Err (merge_end.TriesSpent mount by front)))
      → tries ≤ count_of_others (i + 1) history
  spent-others i at lt parent strategy tries step_is tried mount by front there =
      by_means (subst (λ (step : Step). Means formats files (procs (i + 1)) (i + 1) history one.old step said one.new) same one.means)
    where
      said : Reply
      said = merge_reply tried (Err (merge_end.TriesSpent mount by front))

      one : Amid formats files (procs (i + 1)) (i + 1) history (of_session i steps) at said
      one = fair-amid i lt at said there

      same : one.step ≡ Merge parent strategy tries
      same = some_is one.step (Merge parent strategy tries) (sym one.there ∙ step_is)

      by_means : Means formats files (procs (i + 1)) (i + 1) history one.old (Merge parent strategy tries) said one.new
          → tries ≤ count_of_others (i + 1) history
      by_means (inl h) =
          merges-spent (i + 1) history formats files parent strategy tries one.old one.new tried mount by front h one.covers one.told
      by_means (inr h) = let e : said ≡ reply.Memory = h.reply_is in absurd cc

-- where one session is alone, none of the commits is another's
module _ (formats : Formats) (files : List MountedFile) (sessions : ℕ) (procs : ℕ → KeyMap) (history : List Commit) (steps : List (List (List Step))) (replies : List (List (List Reply)))
    (one : sessions ≡ 1) (fair : IsFair formats files sessions procs history steps replies) where
  none-else : (handle place : ℕ) (commit : Commit) → slice_get history place ≡ Some commit → commit.handle ≡ handle
      → (handle ≡ 0) ⊎ (1 < handle) → ⊥
  none-else handle place commit there is other =
      let among = own-among handle 1 history place (place + 1) commit there is (omega arith) in
      let none : is_among [] (place + 1) ≡ true = subst (λ (numbers : List ℕ). is_among numbers (place + 1) ≡ true) (fair.only handle (least other)) among in
      absurd cc
    where
      least : (handle ≡ 0) ⊎ (1 < handle) → (handle ≡ 0) ⊎ (sessions < handle)
      least (inl none) = inl none
      least (inr many) = inr (omega (arith, one, many))

  no-others : (by : ℕ) → IsAnothers 1 history by → ⊥
  no-others by is = at_handle is.commit.handle refl
    where
      at_handle : (handle : ℕ) → is.commit.handle ≡ handle → ⊥
      at_handle zero e = none-else zero is.place is.commit is.there e (inl refl)
      at_handle (suc zero) e = is.another e
      at_handle (suc (suc n)) e = none-else (suc (suc n)) is.place is.commit is.there e (inr (omega arith))

  no-numbers : (numbers : List ℕ) → AllByRecursion (IsAnothers 1 history) numbers → numbers ≡ []
  no-numbers [] all = refl
  no-numbers (by ∷ numbers) all = absurd (no-others by all.0)

  no-replies : (answers : List Reply)
      → AllByRecursion (λ (answer : Reply). AllByRecursion (IsAnothers 1 history) (conflicts_told answer)) answers
      → AllByRecursion (λ (answer : Reply). conflicts_told answer ≡ []) answers
  no-replies [] all = tt
  no-replies (answer ∷ answers) all = (no-numbers (conflicts_told answer) all.0, no-replies answers all.1)

  pub alone-unblocked : AllByRecursion (λ (answer : Reply). conflicts_told answer ≡ []) (of_session 0 replies)
  alone-unblocked =
      no-replies (of_session 0 replies) (conflict-anothers formats files sessions procs history steps replies fair 0 (omega (arith, one)))
