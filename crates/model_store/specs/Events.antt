-- What is asked of a store, and what it answers. (After Elektra's kdbGet and kdbSet; a set is prepared before it is
-- stored.)
use Rattle.std.specs.Prelude.{ℕ, nat_eq, Bool, ◌||◌, if◌then◌else◌, Option, Some, None}
use Rattle.general_words.specs.Searches.{first_some}
use Rattle.key_set.specs.WithAll.{with_all}
use Rattle.model_names.specs.declared.namespaces.Namespace.{Namespace}
use Rattle.model_names.specs.declared.namespaces.Namespace.TheVariants.{Cascading, Proc}
use Rattle.model_names.specs.Name.{Name, rank}
use Rattle.model_maps.specs.KeyMap.{KeyMap}
use Rattle.model_store.specs.Store.{Store, points_of}
use Rattle.model_store.specs.Fitting.{Early}
use Rattle.model_store.specs.Verdicts.{Late}
use Rattle.set_split.specs.Involved.{involved_in}
use Rattle.set_split.specs.Parts.{in_reach}

-- a handle gets a parent; prepares some keys at a parent, as the set of a number; or stores the set of a number
pub data Event : Type 0 where
  Get : ℕ → Name → Event
  Prepare : ℕ → ℕ → Name → KeyMap → Event
  Commit : ℕ → ℕ → Event

-- want of memory; a bad mount; the length of the history and the keys; a refusal of the preparing; a prepared set; what
-- became of it, with the length of the history; a disk that failed, with that length
pub data Answer : Type 0 where
  Memory : Answer
  Bad : ℕ → Answer
  Got : ℕ → KeyMap → Answer
  Refused : Early → Answer
  Ready : Answer
  Judged : ℕ → Late → Answer
  Failed : ℕ → Answer

-- the first bad mount that a parent involves
abbrev pub if_bad : Store → ℕ → Option ℕ
if_bad store m = if store.is_bad m then Some m else None

abbrev pub first_bad : Store → Name → Option ℕ
first_bad store parent = first_some (if_bad store) (involved_in (points_of store) parent)

-- a parent for which a get gives the handle's keys in `proc` too
abbrev pub shows_proc : Namespace → Bool
shows_proc namespace = nat_eq (rank namespace) (rank Cascading) || nat_eq (rank namespace) (rank Proc)

-- what a get of a parent gives a handle: the keys of the involved mounts
abbrev pub got : Store → KeyMap → ℕ → Name → KeyMap
got store keys handle parent =
    if shows_proc parent.namespace then with_all (store.procs handle) (in_reach (points_of store) parent keys) else in_reach (points_of store) parent keys

-- something told of numbers, with one of them told anew
abbrev pub put : {A : Type 0} → ℕ → A → (ℕ → A) → ℕ → A
put r new told n = if nat_eq n r then new else told n
