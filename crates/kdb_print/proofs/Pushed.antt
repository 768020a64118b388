-- What texts come to that lines are added to one after another.
use Rattle.std.specs.Prelude.{◌≡◌, ℕ, ◌+◌, ◌-◌, ◌<◌, ◌==◌, false, if◌then◌else◌, List, [], ◌∷◌, ◌++◌, length, map as over, take, drop, slice_get, Option, Some, None}
use Rattle.std.proofs.Common.{refl, sym, ap, ◌∙◌, get_or, arith, append_assoc}
use Rattle.std.specs.Option.{option_map}
use Rattle.std.proofs.lemmas.Bool.{cond-false, ne_eqb}
use Rattle.std.proofs.lemmas.List.{append-nil, drop_more, map_push, take_more}
use Rattle.std.proofs.lemmas.Option.{get_or_from_slice_get, slice_get_within}
use Rattle.std.specs.List.{flat_map}
use Rattle.std.proofs.lemmas.List.Concat.{flat_map-append}
use Rattle.std.proofs.lemmas.List.Elements.{filter_map-append}
use Rattle.general_words.proofs.Lists.{flat_map-more, take-next}
use Rattle.batch_script.specs.declared.steps.Phase.{Phase}
use Rattle.batch_script.specs.declared.steps.Steps.{Steps}
use Rattle.kdb_print.specs.Printed.{lines_of_phases, lines_of_sessions, points_of}
use Rattle.model_history.specs.History.{Commit}
use Rattle.model_lines.specs.Lines.{ended}
use Rattle.model_quoting.specs.Quoted.{shown}
use Rattle.mount_table.specs.declared.mounts.Mount.{Mount}

pub ended-append : (lines others : List (List ℕ)) → ended (lines ++ others) ≡ ended lines ++ ended others
ended-append lines others = flat_map-append (λ line. line ++ 10 ∷ []) lines others

-- lines behind those so far
pub pushed-on : (so_far one all : List (List ℕ)) (start before after : List ℕ) → all ≡ so_far ++ one
    → before ≡ start ++ ended so_far → after ≡ before ++ ended one → after ≡ start ++ ended all
pushed-on so_far one all start before after all_is was pushed =
    pushed
    ∙ (ap (λ text. text ++ ended one) was
    ∙ (append_assoc start (ended so_far) (ended one) ∙ ap (λ text. start ++ text) (sym (ap ended all_is ∙ ended-append so_far one))))

-- the lines of one item more
pub pushed-more : {A : Type 0} (lines_of : A → List (List ℕ)) (items : List A) (i : ℕ) (item : A)
    (start before after : List ℕ) → Some item ≡ slice_get items i
    → before ≡ start ++ ended (flat_map lines_of (take i items)) → after ≡ before ++ ended (lines_of item)
    → after ≡ start ++ ended (flat_map lines_of (take (i + 1) items))
pushed-more lines_of items i item start before after there was pushed =
    pushed-on (flat_map lines_of (take i items)) (lines_of item) (flat_map lines_of (take (i + 1) items)) start before after (flat_map-more lines_of items i item there) was pushed

-- the line of one item more
pub pushed-line : {A : Type 0} (line_of : A → List ℕ) (items : List A) (i : ℕ) (item : A) (start before after : List ℕ)
    → Some item ≡ slice_get items i
    → before ≡ start ++ ended (over line_of (take i items)) → after ≡ before ++ ended (line_of item ∷ [])
    → after ≡ start ++ ended (over line_of (take (i + 1) items))
pushed-line line_of items i item start before after there was pushed =
    pushed-on (over line_of (take i items)) (line_of item ∷ []) (over line_of (take (i + 1) items)) start before after (ap (over line_of) (take-next items i item there) ∙ map_push line_of (take i items) item) was pushed

-- some lines, where they and others are still to come
pub pushed-next : (lines others : List (List ℕ)) (before after all : List ℕ) → before ++ ended (lines ++ others) ≡ all
    → after ≡ before ++ ended lines → after ++ ended others ≡ all
pushed-next lines others before after all still pushed =
    ap (λ text. text ++ ended others) pushed
    ∙ (append_assoc before (ended lines) (ended others)
    ∙ (ap (λ text. before ++ text) (sym (ended-append lines others)) ∙ still))

-- nothing is still to come
pub pushed-all : (before all : List ℕ) (lines : List (List ℕ)) → before ++ ended lines ≡ all → lines ≡ [] → before ≡ all
pushed-all before all lines still none =
    sym (append-nil before) ∙ (ap (λ rest. before ++ ended rest) (sym none) ∙ still)

-- what is to come of a list, an element first
pub drop-next : {A : Type 0} (xs : List A) (i : ℕ) (x : A) → slice_get xs i ≡ Some x → drop i xs ≡ x ∷ drop (i + 1) xs
drop-next xs i x there =
    drop_more xs i x (slice_get_within xs i x there)
    ∙ ap (λ y. y ∷ drop (i + 1) xs) (get_or_from_slice_get xs i x x there)

pub flat_map-over : {A B C : Type 0} (f : B → List C) (g : A → B) (xs : List A)
    → flat_map f (over g xs) ≡ flat_map (λ x. f (g x)) xs
flat_map-over f g [] = refl
flat_map-over f g (x ∷ xs) = ap (λ rest. f (g x) ++ rest) (flat_map-over f g xs)

-- the mountpoint of one mount more
pub points-more : (mounts : List Mount) (touched : List ℕ) (i : ℕ) → i < length touched
    → flat_map (λ point. 32 ∷ shown point) (points_of mounts (take (i + 1) touched))
    ≡ flat_map (λ point. 32 ∷ shown point) (points_of mounts (take i touched)) ++ flat_map (λ point. 32 ∷ shown point) (points_of mounts (get_or touched i 0 ∷ []))
points-more mounts touched i within =
    let point_of = λ (number : ℕ). option_map (λ (mount : Mount). mount.at) (slice_get mounts number) in
    ap (flat_map (λ point. 32 ∷ shown point)) (ap (points_of mounts) (take_more touched i 0 within) ∙ filter_map-append point_of (take i touched) (get_or touched i 0 ∷ []))
    ∙ flat_map-append (λ point. 32 ∷ shown point) (points_of mounts (take i touched)) (points_of mounts (get_or touched i 0 ∷ []))

-- what is to come of the commits, where one is found by its number
pub commits-next : (commits : List Commit) (i : ℕ) (found : Option Commit)
    → found ≡ (if (i + 1) == 0 then None else slice_get commits (i + 1 - 1)) → slice_get commits i ≡ found
commits-next commits i found is =
    let place : i + 1 - 1 ≡ i = omega arith in
    let later : ((i + 1) == 0) ≡ false = ne_eqb (i + 1) 0 (λ e. omega arith) in
    sym (is ∙ (cond-false ((i + 1) == 0) None (slice_get commits (i + 1 - 1)) later ∙ ap (slice_get commits) place))

-- where no replies are left, there are no lines
pub sessions-none : (sessions : List Steps) → lines_of_sessions sessions [] ≡ []
sessions-none [] = refl
sessions-none (steps ∷ others) = refl

pub phases-none : (number : ℕ) (phases : List Phase) → lines_of_phases number phases [] ≡ []
phases-none number [] = refl
phases-none number (phase ∷ phases) = refl
