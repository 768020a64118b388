-- Where no edit of a session wanted memory, its lines tell each of its replies, but for the place of a want of memory.
use Rattle.std.specs.Prelude.{◌≡◌, ℕ, zero, suc, ◌+◌, ◌≤◌, false, if◌then◌else◌, List, [], ◌∷◌, length, map as over, slice_get, Some}
use Rattle.std.proofs.Common.{refl, sym, ap, ap₂, subst, ◌∙◌, inl, inr, arith}
use Rattle.std.specs.Option.{option_map}
use Rattle.std.proofs.lemmas.Bool.{cases_Bool, cond-false, cond-true}
use Rattle.std.proofs.lemmas.Option.{slice_get-map}
use Rattle.general_words.proofs.Lists.{head_is, some_is, tail_is}
use Rattle.batch_script.specs.declared.steps.Phase.{Phase}
use Rattle.batch_script.specs.declared.steps.Script.{Script}
use Rattle.batch_script.specs.declared.steps.Step.{Step}
use Rattle.batch_script.specs.declared.steps.Steps.{Steps}
use Rattle.kdb_handle.specs.declared.merging.Tried.{Tried}
use Rattle.kdb_handle.specs.declared.replies.Reply.{Reply}
use Rattle.kdb_handle.specs.declared.replies.Reply.TheVariants.{Memory}
use Rattle.kdb_print.proofs.WholeLemmas.{memory-told_of, quiet_is, reply-same, told-line, told-quiet, wants_memory}
use Rattle.kdb_print.specs.Replies.{is_memory}
use Rattle.kdb_print.specs.Reading.{AreOfPhases, AreOfSessions, AreOfSteps, EditAll, IsReplyTo, StandAt, edits, is_quiet, last_of, said_of, told, told_of, tries_of}

-- ---- each line is known to be whose

-- how many of some steps have a last line whatever they come to
abbrev asks : List Step → ℕ
asks [] = 0
asks (step ∷ steps) = if edits step then asks steps else (asks steps + 1)

told-more : (reply : Reply) (replies : List Reply) → length (told replies) ≤ length (told (reply ∷ replies))
told-more reply replies =
    elim (cases_Bool (is_quiet reply)) [
      | inl quiet ↦ let same = ap length (told-quiet reply replies quiet) in omega arith
      | inr loud ↦ let line = ap length (told-line reply replies loud) in omega arith
    ]

loud_where : (step : Step) (reply : Reply) → IsReplyTo step reply → edits step ≡ false → is_quiet reply ≡ false
loud_where step reply of other = elim of.quiet [ inl same ↦ same ∙ other | inr is ↦ ap is_quiet is ]

asks-least : (steps : List Step) (replies : List Reply) → AreOfSteps steps replies → asks steps ≤ length (told replies)
asks-least [] [] of = omega arith
asks-least [] (reply ∷ replies) of = absurd of
asks-least (step ∷ steps) [] of = absurd of
asks-least (step ∷ steps) (reply ∷ replies) of =
    let rest = asks-least steps replies of.1 in
    elim (cases_Bool (edits step)) [
      | inl edit ↦ let count = cond-true (edits step) (asks steps) (asks steps + 1) edit in let more = told-more reply replies in omega arith
      | inr other ↦
          let count = cond-false (edits step) (asks steps) (asks steps + 1) other in
          let line = ap length (told-line reply replies (loud_where step reply of.0 other)) in
          omega arith
    ]

asks-told : (steps : List Step) (replies : List Reply) → AreOfSteps steps replies → EditAll steps replies
    → length (told replies) ≡ asks steps
asks-told [] [] of all = refl
asks-told [] (reply ∷ replies) of all = absurd of
asks-told (step ∷ steps) [] of all = absurd of
asks-told (step ∷ steps) (reply ∷ replies) of all =
    let rest = asks-told steps replies of.1 all.1 in
    elim (cases_Bool (edits step)) [
      | inl edit ↦
          let count = cond-true (edits step) (asks steps) (asks steps + 1) edit in
          let same = ap length (told-quiet reply replies (ap is_quiet (all.0 edit))) in
          omega arith
      | inr other ↦
          let count = cond-false (edits step) (asks steps) (asks steps + 1) other in
          let line = ap length (told-line reply replies (loud_where step reply of.0 other)) in
          omega arith
    ]

-- so where no line is left over, no edit wanted memory
all_edited : (steps : List Step) (replies : List Reply) → AreOfSteps steps replies → length (told replies) ≤ asks steps
    → EditAll steps replies
all_edited [] replies of few = tt
all_edited (step ∷ steps) [] of few = tt
all_edited (step ∷ steps) (reply ∷ replies) of few =
    elim (cases_Bool (edits step)) [
      | inl edit ↦
          let count = cond-true (edits step) (asks steps) (asks steps + 1) edit in
          elim of.0.quiet [
            | inl same ↦
                let line = ap length (told-quiet reply replies (same ∙ edit)) in
                (λ it. quiet_is reply (same ∙ it), all_edited steps replies of.1 (omega arith))
            | inr is ↦
                let line = ap length (told-line reply replies (ap is_quiet is)) in
                let least = asks-least steps replies of.1 in
                absurd (omega arith)
          ]
      | inr other ↦
          let count = cond-false (edits step) (asks steps) (asks steps + 1) other in
          let line = ap length (told-line reply replies (loud_where step reply of.0 other)) in
          (λ it. absurd cc, all_edited steps replies of.1 (omega arith))
    ]

-- ---- and so is the kind of its step

said-same : (step : Step) (x y : Reply) → IsReplyTo step x → IsReplyTo step y → told_of x ≡ told_of y
    → said_of x ≡ said_of y
said-same step x y of also same =
    let wants : is_memory x ≡ is_memory y = sym (memory-told_of x) ∙ (ap wants_memory same ∙ memory-told_of y) in
    let tries : tries_of x ≡ tries_of y = ap (λ said. said.0) same in
    elim (cases_Bool (is_memory x)) [
      | inl yes_memory ↦
          let one = cond-true (is_memory x) Memory x yes_memory in
          let other = cond-true (is_memory y) Memory y (sym wants ∙ yes_memory) in
          ap₂ (λ (items : List Tried) (r : Reply). (items, r)) tries (one ∙ sym other)
      | inr no_memory ↦
          let none = sym wants ∙ no_memory in
          let one = cond-false (is_memory x) Memory (last_of x) no_memory in
          let other = cond-false (is_memory y) Memory (last_of y) none in
          let last : last_of x ≡ last_of y = sym one ∙ (ap (λ said. said.1) same ∙ other) in
          ap said_of (reply-same step x y of also no_memory none tries last)
    ]

steps-exact : (steps : List Step) (xs ys : List Reply) → AreOfSteps steps xs → AreOfSteps steps ys → EditAll steps xs
    → EditAll steps ys → told xs ≡ told ys → over said_of xs ≡ over said_of ys
steps-exact [] [] [] of also done all e = refl
steps-exact [] [] (y ∷ ys) of also done all e = absurd also
steps-exact [] (x ∷ xs) ys of also done all e = absurd of
steps-exact (step ∷ steps) [] ys of also done all e = absurd of
steps-exact (step ∷ steps) (x ∷ xs) [] of also done all e = absurd also
steps-exact (step ∷ steps) (x ∷ xs) (y ∷ ys) of also done all e =
    elim (cases_Bool (edits step)) [
      | inl edit ↦
          let there = sym (told-quiet x xs (ap is_quiet (done.0 edit))) ∙ (e ∙ told-quiet y ys (ap is_quiet (all.0 edit))) in
          ap₂ (λ r rs. r ∷ rs) (ap said_of (done.0 edit ∙ sym (all.0 edit))) (steps-exact steps xs ys of.1 also.1 done.1 all.1 there)
      | inr other ↦
          let there = sym (told-line x xs (loud_where step x of.0 other)) ∙ (e ∙ told-line y ys (loud_where step y also.0 other)) in
          let first = said-same step x y of.0 also.0 (head_is (told_of x) (told_of y) (told xs) (told ys) there) in
          ap₂ (λ r rs. r ∷ rs) first (steps-exact steps xs ys of.1 also.1 done.1 all.1 (tail_is (told_of x) (told_of y) (told xs) (told ys) there))
    ]

-- ---- at a place of a batch

phases-at : (phases : List Phase) (rows : List (List (List Reply))) (p : ℕ) (phase : Phase) (row : List (List Reply))
    → AreOfPhases phases rows → slice_get phases p ≡ Some phase → slice_get rows p ≡ Some row
    → AreOfSessions phase.sessions row
phases-at [] rows p phase row of at there = absurd cc
phases-at (first ∷ phases) [] p phase row of at there = absurd of
phases-at (first ∷ phases) (one ∷ rows) zero phase row of at there =
    subst (λ (ph : Phase). AreOfSessions ph.sessions row) (some_is first phase at) (subst (AreOfSessions first.sessions) (some_is one row there) of.0)
phases-at (first ∷ phases) (one ∷ rows) (suc p) phase row of at there = phases-at phases rows p phase row of.1 at there

sessions-at : (sessions : List Steps) (row : List (List Reply)) (i : ℕ) (session : Steps) (mine : List Reply)
    → AreOfSessions sessions row → slice_get sessions i ≡ Some session → slice_get row i ≡ Some mine
    → AreOfSteps session.steps mine
sessions-at [] row i session mine of at there = absurd cc
sessions-at (first ∷ sessions) [] i session mine of at there = absurd of
sessions-at (first ∷ sessions) (one ∷ row) zero session mine of at there =
    subst (λ (s : Steps). AreOfSteps s.steps mine) (some_is first session at) (subst (AreOfSteps first.steps) (some_is one mine there) of.0)
sessions-at (first ∷ sessions) (one ∷ row) (suc i) session mine of at there =
    sessions-at sessions row i session mine of.1 at there

-- what two lists come to alike, their elements at a place do
alike-at : {A B : Type 0} (f : A → B) (xs ys : List A) (i : ℕ) (x y : A) → over f xs ≡ over f ys
    → slice_get xs i ≡ Some x → slice_get ys i ≡ Some y → f x ≡ f y
alike-at {A} {B} f xs ys i x y same at there =
    some_is (f x) (f y) (sym (slice_get-map f xs i ∙ ap (option_map f) at) ∙ (ap (λ (l : List B). slice_get l i) same ∙ (slice_get-map f ys i ∙ ap (option_map f) there)))

steps-at : (script : Script) (replies : List (List (List Reply))) (p i : ℕ) (steps : List Step) (mine : List Reply)
    → AreOfPhases script.phases replies → StandAt script replies p i steps mine → AreOfSteps steps mine
steps-at script replies p i steps mine of it =
    subst (λ (s : List Step). AreOfSteps s mine) (sym it.steps_are)
    (sessions-at it.phase.sessions it.row i it.session mine (phases-at script.phases replies p it.phase it.row of it.phase_is it.row_is) it.session_is it.mine_is)

pub exact-once : (script : Script) (a b : List (List (List Reply))) → AreOfPhases script.phases a
    → AreOfPhases script.phases b → over (over told) a ≡ over (over told) b
    → (p i : ℕ) (steps : List Step) (mine others : List Reply) → StandAt script a p i steps mine
    → StandAt script b p i steps others → EditAll steps mine → over said_of mine ≡ over said_of others
exact-once script a b of also e p i steps mine others one other done =
    let fits = steps-at script a p i steps mine of one in
    let fit = steps-at script b p i steps others also other in
    let same : told mine ≡ told others = alike-at told one.row other.row i mine others (alike-at (over told) a b p one.row other.row e one.row_is other.row_is) one.mine_is other.mine_is in
    let count = ap length same in
    let known = asks-told steps mine fits done in
    steps-exact steps mine others fits fit done (all_edited steps others fit (omega arith)) same
