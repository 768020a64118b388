-- The index by names: what becomes of it with one more mark, and what its marks tell of the history.
use Rattle.std.proofs.Common.{◌≡◌, ℕ, zero, suc, ◌+◌, ◌-◌, ◌<◌, ◌≤◌, nat_eq, nat_lt, Bool, true, false, not, ◌&&◌, ◌||◌, cond, List, [], ◌∷◌, ◌++◌, length, drop, take, get_or, map, slice_get, Option, Some, None, refl, sym, ap, subst, ◌∙◌, arith}
use Rattle.std.specs.BTreeMap.{get}
use Rattle.std.specs.List.{AllByRecursion, list_any, position_from}
use Rattle.std.specs.Option.{option_map_or, option_or}
use Rattle.std.specs.Ordering.{eq_by_cmp}
use Rattle.std.specs.declared.alloc.Global.{Global}
use Rattle.std.specs.declared.vec.Vec.{Vec}
use Rattle.std.proofs.lemmas.Bool.{ltb-true, ltb-false}
use Rattle.std.proofs.lemmas.List.{append_assoc, append-nil, drop-drop, length-append, length-map, length-take-le, map_push, take-append-drop, take-append-le, take_all}
use Rattle.general_words.proofs.Lists.{some_is, all_append, at_place, take-next}
use Rattle.key_name.specs.Comparing.{name_ties}
use Rattle.model_names.specs.Name.{Name}
use Rattle.model_names.specs.Order.{name_cmp, name_eq}
use Rattle.model_names.proofs.OrderLemmas.{name_decides}
use Rattle.model_history.specs.Changes.{Change}
use Rattle.model_history.specs.History.{Commit, changes_beside, first_change_after}
use Rattle.commit_log.specs.CommitView.{change_of, commit_of}
use Rattle.commit_log.specs.declared.commits.Change as code
use Rattle.commit_log.specs.declared.commits.Commit as logged
use Rattle.commit_log.specs.Naming.{Names, marks_at, marks_of, marks_in, is_later_of_others, first_mark, AreRising, IsNaming}

-- ---- one more mark

-- an index that has at one name one more mark, and at the others what it had
pub noted : (names new : Names) (name : Name) (mark : ℕ × ℕ) (marks : Vec (ℕ × ℕ) Global)
    → marks.items ≡ marks_at names name ++ mark ∷ []
    → ((other : Name) → get name_cmp new other ≡ cond (eq_by_cmp name_cmp name other) (Some marks) (get name_cmp names other))
    → (other : Name)
    → marks_at new other ≡ cond (name_eq other name) (marks_at names other ++ mark ∷ []) (marks_at names other)
noted names new name mark marks items updated other = elim (name_eq other name) as (λ b. name_eq other name ≡ b → marks_at new other ≡ cond b (marks_at names other ++ mark ∷ []) (marks_at names other)) [
  | true ↦ λ on.
      let same = (name_decides other name).0 on in
      let ties : eq_by_cmp name_cmp name other ≡ true = sym (name_ties name other) ∙ (name_decides name other).1 (sym same) in
      ap found (updated other ∙ ap (λ b. cond b (Some marks) (get name_cmp names other)) ties)
      ∙ items
      ∙ ap (λ n. marks_at names n ++ mark ∷ []) (sym same)
  | false ↦ λ off. ap found (updated other ∙ ap (λ b. cond b (Some marks) (get name_cmp names other)) (apart off))
] refl
  where
    found : Option (Vec (ℕ × ℕ) Global) → List (ℕ × ℕ)
    found o = option_map_or (λ ms. ms.items) o []

    by : (b : Bool) → name_eq name other ≡ b → name_eq other name ≡ false → name_eq name other ≡ false
    by false is off = is
    by true is off = let on = (name_decides other name).1 (sym ((name_decides name other).0 is)) in absurd cc

    apart : name_eq other name ≡ false → eq_by_cmp name_cmp name other ≡ false
    apart off = sym (name_ties name other) ∙ by (name_eq name other) refl off

-- ---- marks of more changes, and of more commits

pub marks_of-append : (name : Name) (mark : ℕ × ℕ) (changes more : List Change)
    → marks_of name mark (changes ++ more) ≡ marks_of name mark changes ++ marks_of name mark more
marks_of-append name mark [] more = refl
marks_of-append name mark (change ∷ changes) more =
    elim (name_eq name change.0) as (λ b. cond b (mark ∷ marks_of name mark (changes ++ more)) (marks_of name mark (changes ++ more)) ≡ cond b (mark ∷ marks_of name mark changes) (marks_of name mark changes) ++ marks_of name mark more) [
      | true ↦ ap (λ marks. mark ∷ marks) (marks_of-append name mark changes more)
      | false ↦ marks_of-append name mark changes more
    ]

-- a mark where the name is that of a change
pub marks_of-one : (name : Name) (mark : ℕ × ℕ) (change : Change) (marks : List (ℕ × ℕ))
    → cond (name_eq name change.0) (marks ++ mark ∷ []) marks ≡ marks ++ marks_of name mark (change ∷ [])
marks_of-one name mark change marks =
    elim (name_eq name change.0) as (λ b. cond b (marks ++ mark ∷ []) marks ≡ marks ++ cond b (mark ∷ []) []) [ true ↦ refl | false ↦ sym (append-nil marks) ]

pub marks_in-append : (name : Name) (number : ℕ) (commits more : List Commit)
    → marks_in name number (commits ++ more)
    ≡ marks_in name number commits ++ marks_in name (number + length commits) more
marks_in-append name number [] more =
    let same : number ≡ number + 0 = omega arith in ap (λ n. marks_in name n more) same
marks_in-append name number (commit ∷ commits) more =
    let same : number + 1 + length commits ≡ number + length (commit ∷ commits) = omega arith in
    let here = marks_of name (number, commit.handle) commit.changes in
    ap (λ marks. here ++ marks) (marks_in-append name (number + 1) commits more ∙ ap (λ n. marks_in name (number + 1) commits ++ marks_in name n more) same)
    ∙ sym (append_assoc here (marks_in name (number + 1) commits) (marks_in name (number + length (commit ∷ commits)) more))

-- one change more, as the code has them
pub changes-next : (name : Name) (mark : ℕ × ℕ) (cs : List code.Change) (i : ℕ) (c : code.Change) → i < length cs
    → c ≡ get_or cs i c
    → marks_of name mark (map change_of (take (i + 1) cs))
    ≡ marks_of name mark (map change_of (take i cs)) ++ marks_of name mark (change_of c ∷ [])
changes-next name mark cs i c lt is =
    ap (λ xs. marks_of name mark (map change_of xs)) (take-next cs i c (at_place cs i c lt is))
    ∙ ap (marks_of name mark) (map_push change_of (take i cs) c)
    ∙ marks_of-append name mark (map change_of (take i cs)) (change_of c ∷ [])

-- one commit more
pub commits-next : (name : Name) (first : ℕ) (cs : List logged.Commit) (i : ℕ) (c : logged.Commit) → i < length cs
    → c ≡ get_or cs i c
    → marks_in name first (map commit_of (take (i + 1) cs))
    ≡ marks_in name first (map commit_of (take i cs)) ++ marks_of name (first + i, c.handle) (map change_of c.changes)
commits-next name first cs i c lt is =
    let before = map commit_of (take i cs) in
    let count : length before ≡ i = length-map (take i cs) commit_of ∙ length-take-le i cs (omega arith) in
    ap (λ xs. marks_in name first (map commit_of xs)) (take-next cs i c (at_place cs i c lt is))
    ∙ ap (marks_in name first) (map_push commit_of (take i cs) c)
    ∙ marks_in-append name first before (commit_of c ∷ [])
    ∙ ap (λ n. marks_in name first before ++ (marks_of name (first + n, c.handle) (map change_of c.changes) ++ [])) count
    ∙ ap (λ marks. marks_in name first before ++ marks) (append-nil (marks_of name (first + i, c.handle) (map change_of c.changes)))

-- ---- the first mark of another handle

pub first_mark-append : (marks more : List (ℕ × ℕ)) (front handle : ℕ)
    → first_mark (marks ++ more) front handle ≡ option_or (first_mark marks front handle) (first_mark more front handle)
first_mark-append [] more front handle = refl
first_mark-append (mark ∷ marks) more front handle =
    elim (is_later_of_others front handle mark) as (λ b. cond b (Some mark.0) (first_mark (marks ++ more) front handle) ≡ option_or (cond b (Some mark.0) (first_mark marks front handle)) (first_mark more front handle)) [
      | true ↦ refl
      | false ↦ first_mark-append marks more front handle
    ]

-- one up to the front is none
early : (front handle : ℕ) (mark : ℕ × ℕ) → mark.0 ≤ front → is_later_of_others front handle mark ≡ false
early front handle mark le = by (nat_lt front mark.0) refl
  where
    by : (b : Bool) → nat_lt front mark.0 ≡ b → (b && not (nat_eq handle mark.1)) ≡ false
    by false is = refl
    by true is = let lt = ltb-true front mark.0 is in absurd (omega arith)

skipped : (marks : List (ℕ × ℕ)) (front handle : ℕ) (mark : ℕ × ℕ) → mark.0 ≤ front
    → first_mark (mark ∷ marks) front handle ≡ first_mark marks front handle
skipped marks front handle mark le =
    ap (λ b. cond b (Some mark.0) (first_mark marks front handle)) (early front handle mark le)

at_all : {A : Type 0} (P : A → Type 0) (xs : List A) (i : ℕ) (x : A) → AllByRecursion P xs → slice_get xs i ≡ Some x
    → P x
at_all P [] i x all there = absurd cc
at_all P (y ∷ ys) zero x all there = subst P (some_is y x there) all.0
at_all P (y ∷ ys) (suc i) x all there = at_all P ys i x all.1 there

-- where the marks rise, none before one that is up to the front counts
pub passed : (marks : List (ℕ × ℕ)) (at front handle : ℕ) (mark : ℕ × ℕ) → AreRising marks
    → slice_get marks at ≡ Some mark → mark.0 ≤ front
    → first_mark marks front handle ≡ first_mark (drop (at + 1) marks) front handle
passed [] at front handle mark rising there le = absurd cc
passed (first ∷ marks) zero front handle mark rising there le =
    skipped marks front handle first (subst (λ m. m.0 ≤ front) (sym (some_is first mark there)) le)
passed (first ∷ marks) (suc at) front handle mark rising there le =
    let below = at_all (λ later. first.0 ≤ later.0) marks at mark rising.0 there in
    let more : suc (at + 1) ≡ suc at + 1 = omega arith in
    skipped marks front handle first (omega arith)
    ∙ passed marks at front handle mark rising.1 there le
    ∙ ap (λ n. first_mark (drop n (first ∷ marks)) front handle) more

-- ---- the marks of commits rise

of-from : (n : ℕ) (name : Name) (mark : ℕ × ℕ) (changes : List Change) → n ≤ mark.0
    → AllByRecursion (λ later. n ≤ later.0) (marks_of name mark changes)
of-from n name mark [] le = record {}
of-from n name mark (change ∷ changes) le =
    elim (name_eq name change.0) as (λ b. AllByRecursion (λ later. n ≤ later.0) (cond b (mark ∷ marks_of name mark changes) (marks_of name mark changes))) [
      | true ↦ (le, of-from n name mark changes le)
      | false ↦ of-from n name mark changes le
    ]

in-from : (n : ℕ) (name : Name) (number : ℕ) (commits : List Commit) → n ≤ number
    → AllByRecursion (λ later. n ≤ later.0) (marks_in name number commits)
in-from n name number [] le = record {}
in-from n name number (commit ∷ commits) le =
    all_append (λ later. n ≤ later.0) (marks_of name (number, commit.handle) commit.changes) (marks_in name (number + 1) commits)
    (of-from n name (number, commit.handle) commit.changes le) (in-from n name (number + 1) commits (omega arith))

-- marks of one commit before others that aren't smaller
rising-before : (name : Name) (mark : ℕ × ℕ) (changes : List Change) (more : List (ℕ × ℕ))
    → AllByRecursion (λ later. mark.0 ≤ later.0) more → AreRising more → AreRising (marks_of name mark changes ++ more)
rising-before name mark [] more from rising = rising
rising-before name mark (change ∷ changes) more from rising =
    elim (name_eq name change.0) as (λ b. AreRising (cond b (mark ∷ marks_of name mark changes) (marks_of name mark changes) ++ more)) [
      | true ↦ (all_append (λ later. mark.0 ≤ later.0) (marks_of name mark changes) more (of-from mark.0 name mark changes (omega arith)) from, rising-before name mark changes more from rising)
      | false ↦ rising-before name mark changes more from rising
    ]

pub marks_in-rising : (name : Name) (number : ℕ) (commits : List Commit) → AreRising (marks_in name number commits)
marks_in-rising name number [] = record {}
marks_in-rising name number (commit ∷ commits) =
    rising-before name (number, commit.handle) commit.changes (marks_in name (number + 1) commits) (in-from number name (number + 1) commits (omega arith)) (marks_in-rising name (number + 1) commits)

-- ---- what the marks tell of the history

-- the marks of one commit before others
first-of : (name : Name) (number by : ℕ) (changes : List Change) (more : List (ℕ × ℕ)) (front handle : ℕ)
    → first_mark (marks_of name (number, by) changes ++ more) front handle
    ≡ cond (is_later_of_others front handle (number, by) && list_any (λ change. name_eq name change.0) changes) (Some number) (first_mark more front handle)
first-of name number by [] more front handle =
    elim (is_later_of_others front handle (number, by)) as (λ b. first_mark more front handle ≡ cond (b && false) (Some number) (first_mark more front handle)) [ true ↦ refl | false ↦ refl ]
first-of name number by (change ∷ changes) more front handle =
    elim (name_eq name change.0) as (λ b. first_mark (cond b ((number, by) ∷ marks_of name (number, by) changes) (marks_of name (number, by) changes) ++ more) front handle
    ≡ cond (is_later_of_others front handle (number, by) && (b || list_any (λ other. name_eq name other.0) changes)) (Some number) (first_mark more front handle)) [
      | true ↦ by_first (is_later_of_others front handle (number, by)) refl (first-of name number by changes more front handle)
      | false ↦ first-of name number by changes more front handle
    ]
  where
    rest : Option ℕ
    rest = first_mark (marks_of name (number, by) changes ++ more) front handle

    by_first : (b : Bool) → is_later_of_others front handle (number, by) ≡ b
        → rest
        ≡ cond (is_later_of_others front handle (number, by) && list_any (λ other. name_eq name other.0) changes) (Some number) (first_mark more front handle)
        → cond (is_later_of_others front handle (number, by)) (Some number) rest
        ≡ cond (is_later_of_others front handle (number, by) && true) (Some number) (first_mark more front handle)
    by_first true is later =
        ap (λ b. cond b (Some number) rest) is
        ∙ ap (λ b. cond (b && true) (Some number) (first_mark more front handle)) (sym is)
    by_first false is later =
        ap (λ b. cond b (Some number) rest) is
        ∙ later
        ∙ ap (λ b. cond (b && list_any (λ change. name_eq name change.0) changes) (Some number) (first_mark more front handle)) is
        ∙ ap (λ b. cond (b && true) (Some number) (first_mark more front handle)) (sym is)

-- where all commits are behind the front
pub marks-behind : (name : Name) (number : ℕ) (commits : List Commit) (front handle : ℕ) → front < number
    → first_mark (marks_in name number commits) front handle ≡ position_from (changes_beside name handle) number commits
marks-behind name number [] front handle lt = refl
marks-behind name number (commit ∷ commits) front handle lt =
    first-of name number commit.handle commit.changes (marks_in name (number + 1) commits) front handle
    ∙ ap (λ b. cond (b && not (nat_eq handle commit.handle) && list_any (λ change. name_eq name change.0) commit.changes) (Some number) (first_mark (marks_in name (number + 1) commits) front handle)) (behind (nat_lt front number) refl)
    ∙ ap (λ o. cond (not (nat_eq handle commit.handle) && list_any (λ change. name_eq name change.0) commit.changes) (Some number) o) (marks-behind name (number + 1) commits front handle (omega arith))
  where
    behind : (b : Bool) → nat_lt front number ≡ b → nat_lt front number ≡ true
    behind true is = is
    behind false is = let le = ltb-false front number is in absurd (omega arith)

-- where the first of them are up to it
pub marks-from : (name : Name) (number : ℕ) (commits : List Commit) (front handle skip : ℕ) → front + 1 ≡ number + skip
    → first_mark (marks_in name number commits) front handle
    ≡ position_from (changes_beside name handle) (number + skip) (drop skip commits)
marks-from name number commits front handle zero is =
    let same : number ≡ number + 0 = omega arith in marks-behind name number commits front handle (omega arith) ∙ ap (λ n. position_from (changes_beside name handle) n commits) same
marks-from name number [] front handle (suc skip) is = refl
marks-from name number (commit ∷ commits) front handle (suc skip) is =
    let same : number + 1 + skip ≡ number + suc skip = omega arith in
    first-of name number commit.handle commit.changes (marks_in name (number + 1) commits) front handle
    ∙ ap (λ b. cond (b && list_any (λ change. name_eq name change.0) commit.changes) (Some number) (first_mark (marks_in name (number + 1) commits) front handle)) (early front handle (number, commit.handle) (omega arith))
    ∙ marks-from name (number + 1) commits front handle skip (omega arith)
    ∙ ap (λ n. position_from (changes_beside name handle) n (drop skip commits)) same

-- ---- an index of the first commits

-- the first commit of another handle, by the marks of the first commits and those of the rest
by_parts : (history : List Commit) (name : Name) (named front handle : ℕ) → named ≤ length history
    → first_change_after history name front handle
    ≡ option_or (first_mark (marks_in name 1 (take named history)) front handle) (first_mark (marks_in name (named + 1) (drop named history)) front handle)
by_parts history name named front handle within =
    let same : 1 + front ≡ front + 1 = omega arith in
    let parts : take named history ++ drop named history ≡ history = take-append-drop named history in
    let long : length (take named history) ≡ named = length-take-le named history within in
    let next : 1 + length (take named history) ≡ named + 1 = omega (arith, long) in
    ap (λ n. position_from (changes_beside name handle) n (drop front history)) (sym same)
    ∙ sym (marks-from name 1 history front handle front (omega arith))
    ∙ ap (λ commits. first_mark (marks_in name 1 commits) front handle) (sym parts)
    ∙ ap (λ marks. first_mark marks front handle) (marks_in-append name 1 (take named history) (drop named history) ∙ ap (λ n. marks_in name 1 (take named history) ++ marks_in name n (drop named history)) next)
    ∙ first_mark-append (marks_in name 1 (take named history)) (marks_in name (named + 1) (drop named history)) front handle

module _ (history : List Commit) (names : Names) (named : ℕ) (naming : IsNaming history named names) (name : Name) (front handle : ℕ) where
  pub rising-at : AreRising (marks_at names name)
  rising-at = subst AreRising (sym (naming.each name)) (marks_in-rising name 1 (take named history))

  -- a mark that is found tells the commit
  pub found-mark : (number : ℕ) → first_mark (marks_at names name) front handle ≡ Some number
      → first_change_after history name front handle ≡ Some number
  found-mark number is =
      by_parts history name named front handle naming.within
      ∙ ap (λ marks. option_or (first_mark marks front handle) (first_mark (marks_in name (named + 1) (drop named history)) front handle)) (sym (naming.each name))
      ∙ ap (λ o. option_or o (first_mark (marks_in name (named + 1) (drop named history)) front handle)) is

  -- where none is, the commit is the first one behind the front that isn't in the index
  pub no-mark : first_mark (marks_at names name) front handle ≡ None
      → first_change_after history name front handle
      ≡ first_change_after history name (cond (nat_lt front named) named front) handle
  no-mark is =
      by_parts history name named front handle naming.within
      ∙ ap (λ marks. option_or (first_mark marks front handle) (first_mark (marks_in name (named + 1) (drop named history)) front handle)) (sym (naming.each name))
      ∙ ap (λ o. option_or o (first_mark (marks_in name (named + 1) (drop named history)) front handle)) is
      ∙ rest (nat_lt front named) refl
    where
      rest : (b : Bool) → nat_lt front named ≡ b
          → first_mark (marks_in name (named + 1) (drop named history)) front handle
          ≡ first_change_after history name (cond (nat_lt front named) named front) handle
      rest true lt =
          let less = ltb-true front named lt in
          marks-behind name (named + 1) (drop named history) front handle (omega arith)
          ∙ ap (λ b. first_change_after history name (cond b named front) handle) (sym lt)
      rest false le =
          let more = ltb-false front named le in
          let back : named + 1 + (front - named) ≡ front + 1 = omega arith in
          let all : named + (front - named) ≡ front = omega arith in
          marks-from name (named + 1) (drop named history) front handle (front - named) (omega arith)
          ∙ ap (λ n. position_from (changes_beside name handle) n (drop (front - named) (drop named history))) back
          ∙ ap (position_from (changes_beside name handle) (front + 1)) (drop-drop (front - named) named history ∙ ap (λ n. drop n history) all)
          ∙ ap (λ b. first_change_after history name (cond b named front) handle) (sym le)

-- a commit that is pushed isn't in the index yet
pub naming-pushed : (history : List Commit) (commit : Commit) (names : Names) (named : ℕ) → IsNaming history named names
    → IsNaming (history ++ commit ∷ []) named names
naming-pushed history commit names named naming = record {
  within = let more = length-append history (commit ∷ []) in omega (arith, naming.within);
  each = λ name. naming.each name ∙ ap (marks_in name 1) (sym (take-append-le named history (commit ∷ []) naming.within));
}

-- an index with the marks of the other commits too
pub all_named : (history : List Commit) (names new : Names) (named n : ℕ) → IsNaming history named names
    → n ≡ length history
    → ((name : Name) → marks_at new name ≡ marks_at names name ++ marks_in name (named + 1) (drop named history))
    → IsNaming history n new
all_named history names new named n naming whole more = record {
  within = omega (arith, whole);
  each = λ name.
      let long : length (take named history) ≡ named = length-take-le named history naming.within in
      let next : named + 1 ≡ 1 + length (take named history) = omega (arith, long) in
      more name
      ∙ ap (λ marks. marks ++ marks_in name (named + 1) (drop named history)) (naming.each name)
      ∙ ap (λ k. marks_in name 1 (take named history) ++ marks_in name k (drop named history)) next
      ∙ sym (marks_in-append name 1 (take named history) (drop named history))
      ∙ ap (marks_in name 1) (take-append-drop named history ∙ sym (take_all n history (omega (arith, whole))));
}
