-- Events one after the other.
use Rattle.std.proofs.Common.{◌≡◌, ℕ, ◌+◌, ◌≤◌, List, [], ◌∷◌, ◌++◌, length, take, slice_get, Option, Some, refl, sym, ap, subst}
use Rattle.std.proofs.lemmas.List.{take_all}
use Rattle.general_words.proofs.Lists.{take-next}
use Rattle.kdb_outside.specs.declared.disks.Disk.{Ghosts}
use Rattle.model_crashes.specs.Runs.{Run}
use Rattle.model_maps.specs.KeyMap.{KeyMap}
use Rattle.model_store.specs.Cores.{Made, first_core}
use Rattle.model_store.specs.Events as event
use Rattle.model_store.specs.Promise.{Runs}
use Rattle.model_store.specs.Store.{Store, Formats, store_of}
use Rattle.model_store.specs.Sets as sets
use Rattle.model_store.specs.Worlds.{World}
use Rattle.model_store.proofs.Owning.{one_owner}
use Rattle.mounted_files.specs.declared.files.MountedFile.{MountedFile}
use Rattle.store_core.specs.declared.cores.Core.{Core}
use Rattle.store_play.specs.Handles.{Holds}
use Rattle.store_play.specs.Plays.{AreCalls, Does, HasPlayed, Plays, Stepped, Stood}
use Rattle.store_play.specs.Stages.{Stage, stage_of}
use Rattle.store_play.specs.Told.{asked_of}
use Rattle.store_play.specs.declared.events.Answer.{Answer}
use Rattle.store_play.specs.declared.events.Answer.TheVariants as told
use Rattle.store_play.specs.declared.events.Event.{Event}
use Rattle.store_verdict.specs.declared.prepared.Prepared.{Prepared}
use Rattle.store_verdict.specs.declared.records.Record.{Record}

-- calls one after the other, and more
pub runs-append : {S : Type 0} (Step : S → event.Event → event.Answer → S → Type 0) (first mid last : S)
    (one two : List (event.Event × event.Answer)) → Runs Step first one mid → Runs Step mid two last
    → Runs Step first (one ++ two) last
runs-append Step first mid last [] two runs more = subst (λ s. Runs Step s two last) runs more
runs-append Step first mid last (call ∷ one) two runs more =
    (runs.0, runs.1, runs-append Step runs.0 mid last one two runs.2 more)

module _ (formats : Formats) (store : Store) (files : List MountedFile) where
  -- one event more
  pub plays-next : (first mid last : Stage) (events : List Event) (answers : List Answer) (event : Event)
      (answer : Answer) → Plays formats store files first events answers mid
      → Does formats store files mid event answer last
      → Plays formats store files first (events ++ event ∷ []) (answers ++ answer ∷ []) last
  plays-next first mid last [] [] event answer plays does =
      (last, subst (λ (s : Stage). Does formats store files s event answer last) plays does, refl)
  plays-next first mid last [] (a ∷ answers) event answer plays does = absurd plays
  plays-next first mid last (e ∷ events) [] event answer plays does = absurd plays
  plays-next first mid last (e ∷ events) (a ∷ answers) event answer plays does =
      (plays.0, plays.1, plays-next plays.0 mid last events answers event answer plays.2 does)

  -- the calls of some events
  pub record Called (first : Stage) (events : List Event) (answers : List Answer) (last : Stage) : Type 0 where
    pub calls : List (event.Event × event.Answer)
    pub are : AreCalls files events answers calls
    pub runs : Runs (Made formats store) first.core calls last.core

  called_first : (first mid last : Stage) (event : Event) (events : List Event) (answer : Answer)
      (answers : List Answer) → Does formats store files first event answer mid → Called mid events answers last
      → Called first (event ∷ events) (answer ∷ answers) last
  called_first first mid last event events (told.Skipped why) answers does rest =
      record {
        calls = rest.calls;
        are = rest.are;
        runs = subst (λ (s : Stage). Runs (Made formats store) s.core rest.calls last.core) does.1 rest.runs;
      }
  called_first first mid last event events (told.Got result) answers does rest =
      record {
        calls = (asked_of event, does.answer) ∷ rest.calls;
        are = (refl, does.tells, rest.are);
        runs = (mid.core, does.made, rest.runs);
      }
  called_first first mid last event events (told.Prepared result) answers does rest =
      record {
        calls = (asked_of event, does.answer) ∷ rest.calls;
        are = (refl, does.tells, rest.are);
        runs = (mid.core, does.made, rest.runs);
      }
  called_first first mid last event events (told.Committed result) answers does rest =
      record {
        calls = (asked_of event, does.answer) ∷ rest.calls;
        are = (refl, does.tells, rest.are);
        runs = (mid.core, does.made, rest.runs);
      }

  pub called : (first last : Stage) (events : List Event) (answers : List Answer)
      → Plays formats store files first events answers last → Called first events answers last
  called first last [] [] plays = record { calls = []; are = refl; runs = ap (λ (s : Stage). s.core) plays }
  called first last [] (a ∷ answers) plays = absurd plays
  called first last (e ∷ events) [] plays = absurd plays
  called first last (e ∷ events) (a ∷ answers) plays =
      called_first first plays.0 last e events a answers plays.1 (called plays.0 last events answers plays.2)

-- ---- step by step

module _ (formats : Formats) {D P : Type 0} (g : Ghosts D) (files : List MountedFile) (procs : ℕ → KeyMap) (opened : D) (first : Stage) (events : List Event) where
  -- where nothing was played yet
  pub stood_first : (answers : List Answer) (core : Core D P) (records : List Record) (places : List (Option Prepared))
      (known : ℕ → Option sets.Prepared) (world : World) (run : Run) → answers ≡ []
      → first ≡ stage_of core records places known run
      → Holds formats g files procs opened core records places known world run
      → Stood formats g files procs opened first [] answers core records places
  stood_first answers core records places known world run none same holds = record {
    known = known;
    world = world;
    run = run;
    plays = subst (λ (told : List Answer). Plays formats (store_of files procs) files first [] told (stage_of core records places known run)) (sym none) (sym same);
    holds = holds;
  }

  -- one event more
  pub stood_next : (i : ℕ) (event : Event) (answer : Answer) (answers more : List Answer) (core next : Core D P)
      (records later : List Record) (places left : List (Option Prepared)) → Some event ≡ slice_get events i
      → more ≡ answers ++ answer ∷ []
      → ((known : ℕ → Option sets.Prepared) (world : World) (run : Run) → Holds formats g files procs opened core records places known world run → Stepped formats g files procs opened (stage_of core records places known run) event answer next later left)
      → Stood formats g files procs opened first (take i events) answers core records places
      → Stood formats g files procs opened first (take (i + 1) events) more next later left
  stood_next i event answer answers more core next records later places left there is steps stood =
      let step = steps stood.known stood.world stood.run stood.holds in
      record {
        known = step.known;
        world = step.world;
        run = step.run;
        plays =
            subst (λ (es : List Event). Plays formats (store_of files procs) files first es more (stage_of next later left step.known step.run)) (sym (take-next events i event there))
            (subst (λ (told : List Answer). Plays formats (store_of files procs) files first (take i events ++ event ∷ []) told (stage_of next later left step.known step.run)) (sym is)
            (plays-next formats (store_of files procs) files first (stage_of core records places stood.known stood.run) (stage_of next later left step.known step.run) (take i events) answers event answer stood.plays step.does));
        holds = step.holds;
      }

  -- all events
  pub has_played : (i : ℕ) (answers all : List Answer) (core : Core D P) (records : List Record)
      (places : List (Option Prepared)) → length events ≤ i → all ≡ answers
      → Stood formats g files procs opened first (take i events) answers core records places
      → HasPlayed formats g files procs opened first events all core records places
  has_played i answers all core records places ends is stood =
      let last = stage_of core records places stood.known stood.run in
      let plays : Plays formats (store_of files procs) files first events all last =
      subst (λ (told : List Answer). Plays formats (store_of files procs) files first events told last) (sym is)
      (subst (λ (es : List Event). Plays formats (store_of files procs) files first es answers last) (take_all i events ends) stood.plays) in
      let calls = called formats (store_of files procs) files first last events all plays in
      record {
        stood = record { known = stood.known; world = stood.world; run = stood.run; plays = plays; holds = stood.holds };
        calls = calls.calls;
        are_calls = calls.are;
        runs = calls.runs;
        one_owner = λ earlier before.
            one_owner formats (store_of files procs) stood.holds.stands.here.stands.sound (earlier ++ calls.calls) last.core
            (runs-append (Made formats (store_of files procs)) (first_core (store_of files procs)) first.core last.core earlier calls.calls before calls.runs);
      }
