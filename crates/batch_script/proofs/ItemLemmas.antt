-- What one item more does to what items say: to the phases, the session that was named last and the steps of a session.
use Rattle.std.specs.Prelude.{◌≡◌, ◌≢◌, ℕ, suc, ◌+◌, ◌<◌, List, [], ◌∷◌, ◌++◌, length, filter_map, reverse, slice_index_or, Option, Some, None}
use Rattle.std.specs.List.{cons_option, onto_first, range_with_len}
use Rattle.std.specs.Option.{option_to_list}
use Rattle.std.specs.declared.alloc.Global.{Global}
use Rattle.std.specs.declared.vec.Vec.{Vec}
use Rattle.std.proofs.Common.{refl, sym, ap, ◌∙◌, inl, inr, arith, append_assoc}
use Rattle.std.proofs.lemmas.Bool.{cases_Bool, cond-true, cond-false}
use Rattle.std.proofs.lemmas.List.{append-nil, reverse-append}
use Rattle.batch_script.specs.declared.items.Item.{Item}
use Rattle.batch_script.specs.declared.items.Item.TheVariants.{Proc, Session, Phase, Does}
use Rattle.batch_script.specs.declared.steps.Step.{Step}
use Rattle.batch_script.specs.declared.steps.Steps.{Steps}
use Rattle.batch_script.specs.Places.{session_behind}
use Rattle.batch_script.specs.Phases.{names, phases_of, steps_behind, with_steps}
use Rattle.batch_script.specs.Rooms.{gathered}

-- ---- phases

onto-some : {A : Type 0} (x : A) (parts : List (List A)) → onto_first x parts ≢ []
onto-some x [] e = absurd cc
onto-some x (part ∷ parts) e = absurd cc

phases-some : (items : List Item) → phases_of items ≢ []
phases-some [] e = absurd cc
phases-some (Proc line ∷ items) e = onto-some (Proc line) (phases_of items) e
phases-some (Session session ∷ items) e = onto-some (Session session) (phases_of items) e
phases-some (Phase ∷ items) e = absurd cc
phases-some (Does step ∷ items) e = onto-some (Does step) (phases_of items) e

onto-append : {A : Type 0} (x : A) (parts more : List (List A)) → parts ≢ []
    → onto_first x (parts ++ more) ≡ onto_first x parts ++ more
onto-append x [] more some = absurd (some refl)
onto-append x (part ∷ parts) more some = refl

-- a phase ends
pub phases-end : (items : List Item) → phases_of (items ++ Phase ∷ []) ≡ phases_of items ++ [] ∷ []
phases-end [] = refl
phases-end (Proc line ∷ items) =
    ap (onto_first (Proc line)) (phases-end items)
    ∙ onto-append (Proc line) (phases_of items) ([] ∷ []) (phases-some items)
phases-end (Session session ∷ items) =
    ap (onto_first (Session session)) (phases-end items)
    ∙ onto-append (Session session) (phases_of items) ([] ∷ []) (phases-some items)
phases-end (Phase ∷ items) = ap (λ ps. [] ∷ ps) (phases-end items)
phases-end (Does step ∷ items) =
    ap (onto_first (Does step)) (phases-end items)
    ∙ onto-append (Does step) (phases_of items) ([] ∷ []) (phases-some items)

-- an element behind the last part
abbrev onto_last : {A : Type 0} → A → List (List A) → List (List A)
onto_last x [] = (x ∷ []) ∷ []
onto_last x (part ∷ []) = (part ++ x ∷ []) ∷ []
onto_last x (part ∷ next ∷ parts) = part ∷ onto_last x (next ∷ parts)

onto-both : {A : Type 0} (x y : A) (parts : List (List A))
    → onto_first y (onto_last x parts) ≡ onto_last x (onto_first y parts)
onto-both x y [] = refl
onto-both x y (part ∷ []) = refl
onto-both x y (part ∷ next ∷ parts) = refl

onto_last-cons : {A : Type 0} (x : A) (part : List A) (parts : List (List A)) → parts ≢ []
    → part ∷ onto_last x parts ≡ onto_last x (part ∷ parts)
onto_last-cons x part [] some = absurd (some refl)
onto_last-cons x part (next ∷ parts) some = refl

onto_last-at : {A : Type 0} (x : A) (over : List (List A)) (latest : List A)
    → onto_last x (over ++ latest ∷ []) ≡ over ++ (latest ++ x ∷ []) ∷ []
onto_last-at x [] latest = refl
onto_last-at x (part ∷ []) latest = refl
onto_last-at x (part ∷ next ∷ over) latest = ap (λ ps. part ∷ ps) (onto_last-at x (next ∷ over) latest)

-- an item that goes into the phase that goes on
abbrev pub IsInPhase : Item → Type 0
IsInPhase item = (items : List Item) → phases_of (item ∷ items) ≡ onto_first item (phases_of items)

phases-more : (item : Item) → IsInPhase item → (items : List Item)
    → phases_of (items ++ item ∷ []) ≡ onto_last item (phases_of items)
phases-more item puts [] = puts []
phases-more item puts (Proc line ∷ items) =
    ap (onto_first (Proc line)) (phases-more item puts items) ∙ onto-both item (Proc line) (phases_of items)
phases-more item puts (Session session ∷ items) =
    ap (onto_first (Session session)) (phases-more item puts items) ∙ onto-both item (Session session) (phases_of items)
phases-more item puts (Phase ∷ items) =
    ap (λ ps. [] ∷ ps) (phases-more item puts items) ∙ onto_last-cons item [] (phases_of items) (phases-some items)
phases-more item puts (Does step ∷ items) =
    ap (onto_first (Does step)) (phases-more item puts items) ∙ onto-both item (Does step) (phases_of items)

pub phases-put : (item : Item) → IsInPhase item → (items : List Item) (over : List (List Item)) (latest : List Item)
    → phases_of items ≡ over ++ latest ∷ [] → phases_of (items ++ item ∷ []) ≡ over ++ (latest ++ item ∷ []) ∷ []
phases-put item puts items over latest cut =
    phases-more item puts items ∙ ap (onto_last item) cut ∙ onto_last-at item over latest

-- ---- the session that was named last, and its steps

pub session-more : (named : Option ℕ) (items more : List Item)
    → session_behind named (items ++ more) ≡ session_behind (session_behind named items) more
session-more named [] more = refl
session-more named (Proc line ∷ items) more = session-more named items more
session-more named (Session session ∷ items) more = session-more (Some session) items more
session-more named (Phase ∷ items) more = session-more None items more
session-more named (Does step ∷ items) more = session-more named items more

pub steps-more : (session : ℕ) (named : Option ℕ) (items more : List Item)
    → steps_behind session named (items ++ more)
    ≡ steps_behind session named items ++ steps_behind session (session_behind named items) more
steps-more session named [] more = refl
steps-more session named (Proc line ∷ items) more = steps-more session named items more
steps-more session named (Session other ∷ items) more = steps-more session (Some other) items more
steps-more session named (Phase ∷ items) more = steps-more session None items more
steps-more session named (Does step ∷ items) more =
    let left = steps_behind session named items in
    let all = steps_behind session named (items ++ more) in
    elim (cases_Bool (names named session)) [
      | inl is ↦
          cond-true (names named session) (step ∷ all) all is
          ∙ ap (λ steps. step ∷ steps) (steps-more session named items more)
          ∙ ap (λ steps. steps ++ steps_behind session (session_behind named items) more) (sym (cond-true (names named session) (step ∷ left) left is))
      | inr other ↦
          cond-false (names named session) (step ∷ all) all other ∙ steps-more session named items more
          ∙ ap (λ steps. steps ++ steps_behind session (session_behind named items) more) (sym (cond-false (names named session) (step ∷ left) left other))
    ]

-- ---- rooms

cons_option-list : {A : Type 0} (o : Option A) (xs : List A) → cons_option o xs ≡ option_to_list o ++ xs
cons_option-list None xs = refl
cons_option-list (Some x) xs = refl

-- the sessions of rooms that hold the steps of the sessions from one on
pub gathered-each : (steps : ℕ → List Step) (rooms : List (Vec Step Global)) (first : ℕ)
    → ((i : ℕ) (d : Vec Step Global) → i < length rooms → (slice_index_or rooms i d).items ≡ steps (first + i))
    → gathered first rooms
    ≡ filter_map (λ session. with_steps session (steps session)) (range_with_len first (length rooms))
gathered-each steps [] first each = refl
gathered-each steps (room ∷ rooms) first each =
    let head : room.items ≡ steps first = each 0 room (omega arith) ∙ ap steps (omega arith) in
    let tail = gathered-each steps rooms (first + 1) (λ i d lt. each (suc i) d (omega (arith, lt)) ∙ ap steps (omega arith)) in
    ap (λ s. option_to_list (with_steps first s) ++ gathered (first + 1) rooms) head
    ∙ ap (λ sessions. option_to_list (with_steps first (steps first)) ++ sessions) tail
    ∙ sym (cons_option-list (with_steps first (steps first)) (filter_map (λ session. with_steps session (steps session)) (range_with_len (first + 1) (length rooms))))

pub gathered-last : (rooms : List (Vec Step Global)) (room : Vec Step Global) (first : ℕ)
    → gathered first (rooms ++ room ∷ [])
    ≡ gathered first rooms ++ option_to_list (with_steps (first + length rooms) room.items)
gathered-last [] room first =
    append-nil (option_to_list (with_steps first room.items))
    ∙ ap (λ n. option_to_list (with_steps n room.items)) (omega arith)
gathered-last (other ∷ rooms) room first =
    ap (λ sessions. option_to_list (with_steps first other.items) ++ sessions) (gathered-last rooms room (first + 1) ∙ ap (λ n. gathered (first + 1) rooms ++ option_to_list (with_steps n room.items)) (omega arith))
    ∙ sym (append_assoc (option_to_list (with_steps first other.items)) (gathered (first + 1) rooms) (option_to_list (with_steps (first + length (other ∷ rooms)) room.items)))

with_steps-none : (session : ℕ) (steps : List Step) → steps ≡ [] → with_steps session steps ≡ None
with_steps-none session steps e = ap (with_steps session) e

with_steps-some : (session : ℕ) (steps : List Step) → steps ≢ []
    → with_steps session steps ≡ Some (record { session = session; steps = steps })
with_steps-some session [] some = absurd (some refl)
with_steps-some session (step ∷ steps) some = refl

-- the last room goes: one with steps is a session more behind it
pub gathered-pop : (whole rooms : List (Vec Step Global)) (room : Vec Step Global) (session : ℕ) (steps : List Step)
    (before after back : List Steps) → whole ≡ rooms ++ room ∷ [] → room.items ≢ [] → session ≡ 1 + length rooms
    → steps ≡ room.items
    → after ≡ before ++ record { session = session; steps = steps } ∷ [] → back ≡ gathered 1 whole ++ reverse before
    → back ≡ gathered 1 rooms ++ reverse after
gathered-pop whole rooms room session steps before after back split some number same pushed all =
    let one : Steps = record { session = session; steps = steps } in
    let told : with_steps (1 + length rooms) room.items ≡ Some one = with_steps-some (1 + length rooms) room.items some ∙ (λ i. Some (record { session = sym number i; steps = sym same i })) in
    let last : gathered 1 whole ≡ gathered 1 rooms ++ one ∷ [] = ap (gathered 1) split ∙ gathered-last rooms room 1 ∙ ap (λ o. gathered 1 rooms ++ option_to_list o) told in
    all ∙ ap (λ g. g ++ reverse before) last ∙ append_assoc (gathered 1 rooms) (one ∷ []) (reverse before)
    ∙ ap (λ t. gathered 1 rooms ++ t) (sym (reverse-append before (one ∷ [])))
    ∙ ap (λ t. gathered 1 rooms ++ reverse t) (sym pushed)

-- and one without is none
pub gathered-pop_none : (whole rooms : List (Vec Step Global)) (room : Vec Step Global) (before back : List Steps)
    → whole ≡ rooms ++ room ∷ [] → room.items ≡ [] → back ≡ gathered 1 whole ++ reverse before
    → back ≡ gathered 1 rooms ++ reverse before
gathered-pop_none whole rooms room before back split none all =
    let last : gathered 1 whole ≡ gathered 1 rooms =
    ap (gathered 1) split ∙ gathered-last rooms room 1 ∙ ap (λ o. gathered 1 rooms ++ option_to_list o) (with_steps-none (1 + length rooms) room.items none) ∙ append-nil (gathered 1 rooms) in
    all ∙ ap (λ g. g ++ reverse before) last
