-- The parts of the worked examples.
use Rattle.std.specs.Prelude.{ℕ, true, false, List, [], ◌∷◌, Some, None, codes}
use Rattle.batch_script.specs.declared.steps.Phase.{Phase}
use Rattle.batch_script.specs.declared.steps.Script.{Script}
use Rattle.batch_script.specs.declared.steps.Steps.{Steps}
use Rattle.kdb_handle.specs.declared.merging.MergeEnd.{MergeEnd}
use Rattle.kdb_handle.specs.declared.merging.Tried.{Tried}
use Rattle.kdb_handle.specs.declared.replies.Reply.{Reply}
use Rattle.kdb_handle.specs.declared.replies.Reply.TheVariants.{Merged, MergeRefused, News}
use Rattle.kdb_outside.specs.declared.kinds.Kind.TheVariants.{Dump}
use Rattle.model_history.specs.Changes.{Change}
use Rattle.model_maps.specs.Entry.{plain_entry, with_meta}
use Rattle.model_names.specs.declared.namespaces.Namespace.{Namespace}
use Rattle.model_names.specs.declared.namespaces.Namespace.TheVariants.{System, User}
use Rattle.model_names.specs.Name.{Name}
use Rattle.mount_table.specs.declared.mounts.Mount.{Mount}
use Rattle.store_core.specs.declared.committing.Done.{Done}
use Rattle.watch_feed.specs.declared.news.Changed.{Changed}

abbrev pub name : Namespace → List (List ℕ) → Name
name namespace parts = record { namespace = namespace; parts = parts }

abbrev pub mount : Namespace → List ℕ → Mount
mount namespace file = record { at = name namespace []; file = file; kind = Dump; by_key = false }

-- two mounts, numbered 0 and 1
abbrev pub mounts : List Mount
mounts = mount User (codes "user.ecf") ∷ mount System (codes "system.ecf") ∷ []

-- the steps of a session, of which the text tells only their replies
abbrev pub steps_of : ℕ → Steps
steps_of session = record { session = session; steps = [] }

abbrev pub phase_of : List Steps → Phase
phase_of sessions = record { sessions = sessions }

abbrev pub script_of : List Phase → Script
script_of phases = record { proc = []; phases = phases }

-- a key gets a value and no metadata, or a value and one metadata, or is removed
abbrev pub sets : Name → List ℕ → Change
sets key value = (key, Some (plain_entry value))

abbrev pub sets_with : Name → List ℕ → List ℕ → List ℕ → Change
sets_with key value meta text = (key, Some (with_meta (plain_entry value) meta text))

abbrev pub removes : Name → Change
removes key = (key, None)

-- a try of a merge that met a conflict in the first mount
abbrev pub tried : ℕ → ℕ → ℕ → Tried
tried by front again = record { mount = name User []; by = by; front = front; again = again }

-- a merge that was stored, and one that was not
abbrev pub merged : List Tried → Done → Reply
merged items done = Merged (record { tried = items; done = done })

abbrev pub unmerged : List Tried → MergeEnd → Reply
unmerged items end = MergeRefused (record { tried = items; end = end })

-- what a watch tells: a key with a new entry, or one that went
abbrev pub new : ℕ → Name → Changed
new number key = record { number = number; name = key; removed = false }

abbrev pub gone : ℕ → Name → Changed
gone number key = record { number = number; name = key; removed = true }

abbrev pub asked : ℕ → ℕ → List Changed → Reply
asked front missed changes = News (record { front = front; missed = missed; changes = changes })
