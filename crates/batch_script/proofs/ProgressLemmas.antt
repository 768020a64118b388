-- What the code keeps stands for one item more, and in the end for the script.
use Rattle.std.specs.Prelude.{◌≡◌, ◌≢◌, ℕ, ◌+◌, ◌<◌, ◌≤◌, ◌==◌, Bool, true, false, ◌&&◌, List, [], ◌∷◌, ◌++◌, length, map, filter_map, slice_index_or, slice_set, Option, Some, None, IfSome}
use Rattle.std.specs.List.{cons_option, list_all, range_with_len}
use Rattle.std.specs.declared.alloc.Global.{Global}
use Rattle.std.specs.declared.vec.Vec.{Vec}
use Rattle.std.proofs.Common.{refl, sym, ap, subst, ◌∙◌, inl, inr, arith}
use Rattle.std.proofs.lemmas.Bool.{cases_eq, cond-true, cond-false, eq-eqb, ne_eqb}
use Rattle.std.proofs.lemmas.List.{append-nil, get_or-set_other, get_or-set_same, map-append}
use Rattle.std.proofs.lemmas.Option.{same_Some, slice_get-get_or}
use Rattle.std.proofs.lemmas.List.Elements.{filter_map-append}
use Rattle.std.proofs.lemmas.List.Folds.{list_all-append}
use Rattle.batch_script.specs.declared.items.Item.{Item}
use Rattle.batch_script.specs.declared.items.Item.TheVariants.{Proc, Session, Phase, Does}
use Rattle.batch_script.specs.declared.progress.Progress.{Progress}
use Rattle.batch_script.specs.declared.steps.ProcLine.{ProcLine}
use Rattle.batch_script.specs.declared.steps.Step.{Step}
use Rattle.batch_script.specs.declared.steps.Steps.{Steps}
use Rattle.batch_script.specs.declared.steps.Script.{Script}
use Rattle.batch_script.specs.Rows.{most_sessions, said}
use Rattle.batch_script.specs.Places.{is_proc, session_behind}
use Rattle.batch_script.specs.Phases.{phase_of, phases_of, proc_of, script_of, steps_behind, with_steps}
use Rattle.batch_script.specs.Progresses.{Follows, GoesOn, HasRooms, IsProgress}
use Rattle.batch_script.specs.Words.{is_nothing, behind_blanks, HasWords}
use Rattle.model_lines.specs.Lines.{without_return}
use Rattle.std.specs.Str.{IsUtf8}
use Rattle.batch_script.specs.Rooms.{gathered}
use Rattle.batch_script.proofs.LineLemmas.{follow-lacks, item-adds}
use Rattle.batch_script.proofs.ItemLemmas.{gathered-each, phases-end, phases-put, session-more, steps-more}

-- ---- the parts

-- the session that was named, behind one item more
session-put : (item : Item) (items : List Item)
    → session_behind None (items ++ item ∷ []) ≡ session_behind (session_behind None items) (item ∷ [])
session-put item items = session-more None items (item ∷ [])

procs-same : (item : Item) (items : List Item) → proc_of item ≡ None
    → filter_map proc_of (items ++ item ∷ []) ≡ filter_map proc_of items
procs-same item items none =
    filter_map-append proc_of items (item ∷ []) ∙ ap (λ o. filter_map proc_of items ++ cons_option o []) none
    ∙ append-nil (filter_map proc_of items)

header-more : (item : Item) (items : List Item)
    → list_all is_proc (items ++ item ∷ []) ≡ (list_all is_proc items && (is_proc item && true))
header-more item items = list_all-append is_proc items (item ∷ [])

and-false : (t : Bool) → (t && false) ≡ false
and-false true = refl
and-false false = refl

and-true : (t : Bool) → (t && true) ≡ t
and-true true = refl
and-true false = refl

-- the rooms stay where no step comes
rooms-same : (rooms : List (Vec Step Global)) (items : List Item) (item : Item) → HasRooms rooms items
    → ((session : ℕ) (named : Option ℕ) → steps_behind session named (item ∷ []) ≡ [])
    → HasRooms rooms (items ++ item ∷ [])
rooms-same rooms items item h none = record {
  many = h.many;
  each = λ i d lt. h.each i d lt ∙ sym (steps-more (i + 1) None items (item ∷ []) ∙ ap (λ steps. steps_behind (i + 1) None items ++ steps) (none (i + 1) (session_behind None items)) ∙ append-nil (steps_behind (i + 1) None items));
}

-- a step goes into the room of the session that was named last
pub rooms-step : (rooms new : List (Vec Step Global)) (items : List Item) (step : Step) (session : ℕ)
    → HasRooms rooms items → session_behind None items ≡ Some session
    → length new ≡ length rooms
    → ((i : ℕ) (d : Vec Step Global) → i < most_sessions → i + 1 ≢ session → (slice_index_or new i d).items ≡ (slice_index_or rooms i d).items)
    → ((i : ℕ) (d : Vec Step Global) → i < most_sessions → i + 1 ≡ session → (slice_index_or new i d).items ≡ (slice_index_or rooms i d).items ++ step ∷ [])
    → HasRooms new (items ++ Does step ∷ [])
rooms-step rooms new items step session h named many others here = record { many = many ∙ h.many; each = each }
  where
    each : (i : ℕ) (d : Vec Step Global) → i < most_sessions
        → (slice_index_or new i d).items ≡ steps_behind (i + 1) None (items ++ Does step ∷ [])
    each i d lt =
        let more = steps-more (i + 1) None items (Does step ∷ []) ∙ ap (λ n. steps_behind (i + 1) None items ++ steps_behind (i + 1) n (Does step ∷ [])) named in
        elim (cases_eq (i + 1) session) [
          | inl is ↦
              here i d lt is ∙ ap (λ steps. steps ++ step ∷ []) (h.each i d lt)
              ∙ sym (more ∙ ap (λ steps. steps_behind (i + 1) None items ++ steps) (cond-true (session == (i + 1)) (step ∷ []) [] (eq-eqb session (i + 1) (sym is))))
          | inr other ↦
              others i d lt other ∙ h.each i d lt
              ∙ sym (more ∙ ap (λ steps. steps_behind (i + 1) None items ++ steps) (cond-false (session == (i + 1)) (step ∷ []) [] (ne_eqb session (i + 1) (λ e. other (sym e)))) ∙ append-nil (steps_behind (i + 1) None items))
        ]

-- the sessions of a phase, by the rooms
pub gathered-rooms : (rooms : List (Vec Step Global)) (items : List Item) → HasRooms rooms items
    → gathered 1 rooms ≡ (phase_of items).sessions
gathered-rooms rooms items h =
    gathered-each (λ session. steps_behind session None items) rooms 1 (λ i d lt. h.each i d (omega (arith, h.many, lt)) ∙ ap (λ session. steps_behind session None items) (omega arith))
    ∙ ap (λ n. filter_map (λ session. with_steps session (steps_behind session None items)) (range_with_len 1 n)) h.many

-- the phases with the one that goes on
phases-with : (old : Progress) (items : List Item) (sessions : List Steps) (h : IsProgress old items)
    → sessions ≡ gathered 1 old.rooms.items
    → old.phases.items ++ record { sessions = sessions } ∷ [] ≡ map phase_of (h.over ++ h.latest ∷ [])
phases-with old items sessions h all =
    let latest : sessions ≡ (phase_of h.latest).sessions = all ∙ gathered-rooms old.rooms.items h.latest h.rooms in
    ap (λ ps. ps ++ record { sessions = sessions } ∷ []) h.phases
    ∙ ap (λ s. map phase_of h.over ++ record { sessions = s } ∷ []) latest
    ∙ sym (map-append phase_of h.over (h.latest ∷ []))

-- ---- one item more

pub progress-proc : (old new : Progress) (items : List Item) (line : ProcLine) → IsProgress old items
    → old.is_header ≡ true
    → new.proc.items ≡ old.proc.items ++ line ∷ [] → new.phases.items ≡ old.phases.items
    → new.rooms.items ≡ old.rooms.items → new.named ≡ old.named → new.is_header ≡ old.is_header
    → IsProgress new (items ++ Proc line ∷ [])
progress-proc old new items line h header proc phases rooms named same = record {
  over = h.over;
  latest = h.latest ++ Proc line ∷ [];
  cut = phases-put (Proc line) (λ _. refl) items h.over h.latest h.cut;
  proc = proc ∙ ap (λ lines. lines ++ line ∷ []) h.proc ∙ sym (filter_map-append proc_of items (Proc line ∷ []));
  phases = phases ∙ h.phases;
  rooms = subst (λ (rs : List (Vec Step Global)). HasRooms rs (h.latest ++ Proc line ∷ [])) (sym rooms) (rooms-same old.rooms.items h.latest (Proc line) h.rooms (λ _ _. refl));
  named = named ∙ h.named ∙ sym (session-put (Proc line) items);
  named_here = named ∙ h.named_here ∙ sym (session-put (Proc line) h.latest);
  numbered = subst (λ (o : Option ℕ). IfSome o (λ session. (1 ≤ session) × (session ≤ most_sessions))) (sym named) h.numbered;
  header = same ∙ h.header ∙ sym (header-more (Proc line) items ∙ and-true (list_all is_proc items));
}

pub progress-session : (old new : Progress) (items : List Item) (session : ℕ) → IsProgress old items → 1 ≤ session
    → session ≤ most_sessions
    → new.proc.items ≡ old.proc.items → new.phases.items ≡ old.phases.items → new.rooms.items ≡ old.rooms.items
    → new.named ≡ Some session → new.is_header ≡ false
    → IsProgress new (items ++ Session session ∷ [])
progress-session old new items session h first last proc phases rooms named header = record {
  over = h.over;
  latest = h.latest ++ Session session ∷ [];
  cut = phases-put (Session session) (λ _. refl) items h.over h.latest h.cut;
  proc = proc ∙ h.proc ∙ sym (procs-same (Session session) items refl);
  phases = phases ∙ h.phases;
  rooms = subst (λ (rs : List (Vec Step Global)). HasRooms rs (h.latest ++ Session session ∷ [])) (sym rooms) (rooms-same old.rooms.items h.latest (Session session) h.rooms (λ _ _. refl));
  named = named ∙ sym (session-put (Session session) items);
  named_here = named ∙ sym (session-put (Session session) h.latest);
  numbered = subst (λ (o : Option ℕ). IfSome o (λ session. (1 ≤ session) × (session ≤ most_sessions))) (sym named) (first, last);
  header = header ∙ sym (header-more (Session session) items ∙ and-false (list_all is_proc items));
}

pub progress-phase : (old new : Progress) (items : List Item) (sessions : List Steps) → IsProgress old items
    → sessions ≡ gathered 1 old.rooms.items
    → new.proc.items ≡ old.proc.items → new.phases.items ≡ old.phases.items ++ record { sessions = sessions } ∷ []
    → HasRooms new.rooms.items [] → new.named ≡ None → new.is_header ≡ false
    → IsProgress new (items ++ Phase ∷ [])
progress-phase old new items sessions h all proc phases rooms named header = record {
  over = h.over ++ h.latest ∷ [];
  latest = [];
  cut = phases-end items ∙ ap (λ ps. ps ++ [] ∷ []) h.cut;
  proc = proc ∙ h.proc ∙ sym (procs-same Phase items refl);
  phases = phases ∙ phases-with old items sessions h all;
  rooms = rooms;
  named = named ∙ sym (session-put Phase items);
  named_here = named;
  numbered = subst (λ (o : Option ℕ). IfSome o (λ session. (1 ≤ session) × (session ≤ most_sessions))) (sym named) tt;
  header = header ∙ sym (header-more Phase items ∙ and-false (list_all is_proc items));
}

-- only header lines stand before the first session, so that the header is over where one was named
header-over : (items : List Item) (session : ℕ) → session_behind None items ≡ Some session
    → list_all is_proc items ≡ false
header-over [] session e = absurd cc
header-over (Proc line ∷ items) session e = header-over items session e
header-over (Session other ∷ items) session e = refl
header-over (Phase ∷ items) session e = refl
header-over (Does step ∷ items) session e = refl

pub progress-step : (old new : Progress) (items : List Item) (step : Step) (session : ℕ) → IsProgress old items
    → old.named ≡ Some session
    → new.proc.items ≡ old.proc.items → new.phases.items ≡ old.phases.items → new.named ≡ old.named
    → new.is_header ≡ old.is_header
    → length new.rooms.items ≡ length old.rooms.items
    → ((i : ℕ) (d : Vec Step Global) → i < most_sessions → i + 1 ≢ session → (slice_index_or new.rooms.items i d).items ≡ (slice_index_or old.rooms.items i d).items)
    → ((i : ℕ) (d : Vec Step Global) → i < most_sessions → i + 1 ≡ session → (slice_index_or new.rooms.items i d).items ≡ (slice_index_or old.rooms.items i d).items ++ step ∷ [])
    → IsProgress new (items ++ Does step ∷ [])
progress-step old new items step session h is proc phases named header many others here = record {
  over = h.over;
  latest = h.latest ++ Does step ∷ [];
  cut = phases-put (Does step) (λ _. refl) items h.over h.latest h.cut;
  proc = proc ∙ h.proc ∙ sym (procs-same (Does step) items refl);
  phases = phases ∙ h.phases;
  rooms = rooms-step old.rooms.items new.rooms.items h.latest step session h.rooms (sym h.named_here ∙ is) many others here;
  named = named ∙ h.named ∙ sym (session-put (Does step) items);
  named_here = named ∙ h.named_here ∙ sym (session-put (Does step) h.latest);
  numbered = subst (λ (o : Option ℕ). IfSome o (λ session. (1 ≤ session) × (session ≤ most_sessions))) (sym named) h.numbered;
  header = header ∙ h.header ∙ header-over items session (sym h.named ∙ is) ∙ sym (header-more (Does step) items ∙ and-false (list_all is_proc items));
}

-- the script in the end
pub script-all : (old : Progress) (items : List Item) (sessions : List Steps) (script : Script) → IsProgress old items
    → sessions ≡ gathered 1 old.rooms.items
    → script.proc ≡ old.proc.items → script.phases ≡ old.phases.items ++ record { sessions = sessions } ∷ []
    → script ≡ script_of items
script-all old items sessions script h all proc phases =
    let parts : script.phases ≡ map phase_of (phases_of items) = phases ∙ phases-with old items sessions h all ∙ ap (map phase_of) (sym h.cut) in
    let lines : script.proc ≡ filter_map proc_of items = proc ∙ h.proc in
    λ i. record { proc = lines i; phases = parts i }

-- ---- one room written

pub room-other : (rooms : List (Vec Step Global)) (at i : ℕ) (room d : Vec Step Global) → i ≢ at
    → (slice_index_or (slice_set rooms at room) i d).items ≡ (slice_index_or rooms i d).items
room-other rooms at i room d other = ap (λ (r : Vec Step Global). r.items) (get_or-set_other rooms at i room d other)

pub room-here : (rooms : List (Vec Step Global)) (at i : ℕ) (room old d : Vec Step Global) (more : List Step) → i ≡ at
    → at < length rooms → old ≡ slice_index_or rooms at old → room.items ≡ old.items ++ more
    → (slice_index_or (slice_set rooms at room) i d).items ≡ (slice_index_or rooms i d).items ++ more
room-here rooms at i room old d more is within was written =
    let here : slice_index_or (slice_set rooms at room) i d ≡ room = ap (λ k. slice_index_or (slice_set rooms at room) k d) is ∙ get_or-set_same rooms at room d within in
    let one : slice_index_or rooms at old ≡ slice_index_or rooms at d = same_Some (slice_index_or rooms at old) (slice_index_or rooms at d) (sym (slice_get-get_or rooms at old within) ∙ slice_get-get_or rooms at d within) in
    let there : old ≡ slice_index_or rooms i d = was ∙ one ∙ ap (λ k. slice_index_or rooms k d) (sym is) in
    ap (λ (r : Vec Step Global). r.items) here ∙ written ∙ ap (λ (r : Vec Step Global). r.items ++ more) there

-- ---- a line

-- what the words of a line say adds to what was said, or nothing does
pub goes-on : (new : Progress) (items : List Item) (line : List ℕ) (words : List (List ℕ)) (item : Item) (read : Bool)
    → IsUtf8 line → is_nothing (behind_blanks (without_return line)) ≡ false
    → HasWords (behind_blanks (without_return line)) words → said words ≡ Some item
    → Follows new items item read → GoesOn new items line read
goes-on new items line words item true utf8 something has told follows =
    (items ++ item ∷ [], item-adds items line words item utf8 has told follows.0, follows.1)
goes-on new items line words item false utf8 something has told follows =
    λ after. follow-lacks items after line words item something has told follows
