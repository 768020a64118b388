-- The fronts of a handle cover its own commits, however the story goes on.
use Rattle.std.proofs.Common.{◌≡◌, ◌⊎◌, inl, inr, ℕ, zero, suc, ◌+◌, ◌<◌, ◌≤◌, Bool, true, false, cond, nat_eq, List, [], ◌∷◌, ◌++◌, length, slice_get, Option, Some, Result, Ok, Err, refl, sym, ap, subst, ◌∙◌, append-nil, eqb-true, eq-eqb, arith, length-append}
use Rattle.std.proofs.lemmas.List.{nil_from_length}
use Rattle.std.proofs.lemmas.Option.{slice_get_within}
use Rattle.std.specs.Option.{option_map, unwrap_or}
use mathlib.Core.List.{IsPrefix}
use Rattle.general_words.proofs.Lists.{some_is}
use Rattle.general_words.proofs.Places.{last_or_before}
use Rattle.kdb_handle.specs.Fronts.{Cover, front_at}
use Rattle.kdb_handle.specs.Gets.{IsGotAt}
use Rattle.kdb_handle.specs.Story.{Told, Opened, Committed, Failed, Refused, maker_of, commits_of}
use Rattle.kdb_handle.specs.Turns.{told_by, is_refusal, record_by}
use Rattle.kdb_handle.proofs.StoryLemmas.{commits-append}
use Rattle.model_history.specs.History.{Commit, commits_by, is_among, is_by, replay, touches}
use Rattle.model_maps.specs.KeyMap.{KeyMap}
use Rattle.model_names.specs.Name.{Name}
use Rattle.model_store.specs.Cores.{keeping, kept_from, storing}
use Rattle.model_store.specs.Records.{Fetched, Fronts, Record}
use Rattle.model_store.specs.Sets as sets
use Rattle.model_store.specs.Sets.{front_in, wants}
use Rattle.model_store.specs.Store.{Store, counts_keys, points_of}
use Rattle.model_store.specs.Verdicts.{commit_of}
use Rattle.mounted_files.specs.declared.files.MountedFile.{MountedFile}
use Rattle.mounted_files.specs.declared.refusals.GetFault.{GetFault}
use Rattle.seat_lock.specs.Story.{made_by}
use Rattle.seat_lock.proofs.Entries.{made-append}
use Rattle.set_split.specs.Involved.{involved_in}
use Rattle.store_core.specs.declared.committing.CommitFault.{CommitFault}
use Rattle.store_core.specs.declared.committing.CommitFault.TheVariants as fault
use Rattle.store_core.specs.declared.committing.Done.{Done}
use Rattle.store_core.specs.declared.committing.Done.TheVariants as done
use Rattle.store_core.specs.declared.getting.Got.{Got}

-- ---- entries of other makers

-- what stands at a place of two lists together is of the first, or of the second
place-append : {A : Type 0} (xs ys : List A) (k : ℕ) (x : A) → slice_get (xs ++ ys) k ≡ Some x
    → (slice_get xs k ≡ Some x) ⊎ ((j : ℕ) × (slice_get ys j ≡ Some x))
place-append [] ys k x is = inr (k, is)
place-append (y ∷ xs) ys zero x is = inl is
place-append (y ∷ xs) ys (suc k) x is = place-append xs ys k x is

pub left-out : {A : Type 0} (b : Bool) (x : A) (xs : List A) → cond b (x ∷ xs) xs ≡ [] → (b ≡ false) × (xs ≡ [])
left-out true x xs none = absurd cc
left-out false x xs none = (refl, none)

-- who made no entry made no commit
none-made : (number : ℕ) (log : List Told) (place : ℕ) (commit : Commit) → made_by maker_of number log ≡ []
    → slice_get (commits_of log) place ≡ Some commit → commit.handle ≡ number → ⊥
none-made number [] place commit none there own = absurd cc
none-made number (Opened opening ∷ log) place commit none there own =
    none-made number log place commit (left-out _ _ _ none).1 there own
none-made number (Committed made ∷ log) zero commit none there own =
    let off = (left-out (nat_eq made.handle number) _ _ none).0 in
    let on = eq-eqb made.handle number (ap (λ (c : Commit). c.handle) (some_is made commit there) ∙ own) in
    absurd cc
none-made number (Committed made ∷ log) (suc place) commit none there own =
    none-made number log place commit (left-out _ _ _ none).1 there own
none-made number (Failed made ∷ log) place commit none there own =
    none-made number log place commit (left-out _ _ _ none).1 there own
none-made number (Refused handle ∷ log) place commit none there own =
    none-made number log place commit (left-out _ _ _ none).1 there own

-- who sees more, and made nothing more, made nothing of what is new
pub nothing-behind : (number : ℕ) (seen found : List Told) (p : IsPrefix seen found)
    → made_by maker_of number found ≡ made_by maker_of number seen → made_by maker_of number p.0 ≡ []
nothing-behind number seen found p same =
    let twice = sym (made-append maker_of number seen p.0) ∙ ap (made_by maker_of number) p.1 ∙ same in
    nil_from_length _ (omega (arith, ap length twice, length-append (made_by maker_of number seen) (made_by maker_of number p.0)))

-- so the history gains no commit of its own
pub none-by : (number : ℕ) (log : List Told) → made_by maker_of number log ≡ []
    → commits_by number (commits_of log) ≡ []
none-by number [] none = refl
none-by number (Opened opening ∷ log) none = none-by number log (left-out _ _ _ none).1
none-by number (Failed made ∷ log) none = none-by number log (left-out _ _ _ none).1
none-by number (Refused handle ∷ log) none = none-by number log (left-out _ _ _ none).1
none-by number (Committed made ∷ log) none = by (is_by number made) refl (none-by number log (left-out _ _ _ none).1)
  where
    by : (b : Bool) → is_by number made ≡ b → commits_by number (commits_of log) ≡ []
        → cond b (made ∷ commits_by number (commits_of log)) (commits_by number (commits_of log)) ≡ []
    by false is rest = rest
    by true is rest =
        let off : nat_eq made.handle number ≡ false = (left-out _ _ _ none).0 in
        let on : nat_eq made.handle number ≡ true = eq-eqb made.handle number (sym (eqb-true number made.handle is)) in
        absurd cc

pub others-behind : (number : ℕ) (seen found : List Told) (p : IsPrefix seen found)
    → made_by maker_of number found ≡ made_by maker_of number seen → commits_by number (commits_of p.0) ≡ []
others-behind number seen found p same = none-by number p.0 (nothing-behind number seen found p same)

-- its fronts cover as before
pub cover-seen : (store : Store) (number : ℕ) (seen found : List Told) (fronts : Fronts) → IsPrefix seen found
    → made_by maker_of number found ≡ made_by maker_of number seen → Cover store number (commits_of seen) fronts
    → Cover store number (commits_of found) fronts
cover-seen store number seen found fronts p same covers place m commit there own touched whole =
    by (place-append (commits_of seen) (commits_of p.0) place commit (subst (λ (l : List Commit). slice_get l place ≡ Some commit) (ap commits_of (sym p.1) ∙ commits-append seen p.0) there))
  where
    by : (slice_get (commits_of seen) place ≡ Some commit) ⊎ ((j : ℕ) × (slice_get (commits_of p.0) j ≡ Some commit))
        → place < front_at fronts m
    by (inl here) = covers place m commit here own touched whole
    by (inr far) = absurd (none-made number p.0 far.0 commit (nothing-behind number seen found p same) far.1 own)

-- ---- what a record keeps

-- a record that sees some mounts up to the whole history covers it there
pub cover-keeping : (store : Store) (number : ℕ) (history : List Commit) (mounts : List ℕ) (front : ℕ)
    (kept : ℕ → KeyMap) (rec : Record) → length history ≤ front → Cover store number history (front_in rec)
    → Cover store number history (front_in (keeping mounts front kept rec))
cover-keeping store number history mounts front kept rec le covers place m commit there own touched whole =
    by (is_among mounts m)
  where
    by : (b : Bool)
        → place < unwrap_or (option_map (λ (fetched : Fetched). fetched.front) (cond b (Some (record { front = front; kept = kept m })) (rec.fetched m))) 0
    by true = omega (arith, slice_get_within history place commit there, le)
    by false = covers place m commit there own touched whole

-- the front of what is kept of a mount, or 0
abbrev front_of : Option Fetched → ℕ
front_of o = unwrap_or (option_map (λ (fetched : Fetched). fetched.front) o) 0

-- and one that keeps an own commit covers that too, where the mount counts by its backend
pub cover-own : (store : Store) (number : ℕ) (history : List Commit) (last : Commit) (kept : ℕ → KeyMap) (rec : Record)
    → Cover store number history (front_in rec)
    → Cover store number (history ++ last ∷ []) (front_in (storing store last.touched (length history + 1) kept rec))
cover-own store number history last kept rec covers place m commit there own touched whole =
    by (is_among last.touched m) refl (last_or_before history last commit place there)
  where
    -- the front is the commit's number
    numbered : place ≤ length history
        → place < front_of (kept_from (counts_keys store m) (length history + 1) (kept m) (rec.fetched m))
    numbered le =
        subst (λ (b : Bool). place < front_of (kept_from b (length history + 1) (kept m) (rec.fetched m))) (sym whole) (omega (arith, le))

    by : (b : Bool) → is_among last.touched m ≡ b
        → (slice_get history place ≡ Some commit) ⊎ ((place ≡ length history) × (last ≡ commit))
        → place < front_of (cond b (kept_from (counts_keys store m) (length history + 1) (kept m) (rec.fetched m)) (rec.fetched m))
    by true among (inl here) = numbered (omega (arith, slice_get_within history place commit here))
    by true among (inr at) = numbered (omega (arith, at.0))
    by false among (inl here) = covers place m commit here own touched whole
    by false among (inr at) = let on : is_among last.touched m ≡ true = ap (touches m) at.1 ∙ touched in absurd cc

-- ---- the turns

pub cover-got : (store : Store) (files : List MountedFile) (history : List Commit) (number handle : ℕ) (parent : Name)
    (old new : Record) (result : Result Got GetFault) → IsGotAt store files history handle parent old new result
    → Cover store number history (front_in old) → Cover store number history (front_in new)
cover-got store files history number handle parent old new (Ok got) gives covers =
    subst (λ (r : Record). Cover store number history (front_in r)) (sym gives.kept)
    (cover-keeping store number history (involved_in (points_of store) parent) (length history) (wants (points_of store) (replay store.start history)) old (omega arith) covers)
cover-got store files history number handle parent old new (Err why) refused covers =
    subst (λ (r : Record). Cover store number history (front_in r)) (sym refused.1) covers

-- a turn without a commit
pub same-history : (store : Store) (number : ℕ) (history more : List Commit) (fronts : Fronts) → more ≡ []
    → Cover store number history fronts → Cover store number (history ++ more) fronts
same-history store number history more fronts none covers =
    subst (λ (l : List Commit). Cover store number l fronts) (sym (append-nil history) ∙ ap (λ (l : List Commit). history ++ l) (sym none)) covers

pub cover-judged : (store : Store) (history : List Commit) (number : ℕ) (set : sets.Prepared) (rec : Record)
    (result : Result Done CommitFault) → Cover store number history (front_in rec)
    → Cover store number (history ++ commits_of (told_by set result)) (front_in (record_by store history set result rec))
cover-judged store history number set rec (Ok (done.Committed n aside)) covers =
    cover-own store number history (commit_of set) (wants (points_of store) set.keys) rec covers
cover-judged store history number set rec (Ok (done.Same front aside)) covers =
    same-history store number history _ (front_in rec) refl covers
cover-judged store history number set rec (Err (fault.Conflict mount by front)) covers =
    same-history store number history _ (front_in rec) refl covers
cover-judged store history number set rec (Err (fault.FileTooLarge mount bytes front)) covers =
    same-history store number history _ (front_in rec) refl covers
cover-judged store history number set rec (Err (fault.Invalid violation front)) covers = by (is_refusal violation)
  where
    by : (b : Bool) → Cover store number (history ++ commits_of (cond b (Refused set.handle ∷ []) [])) (front_in rec)
    by true = same-history store number history _ (front_in rec) refl covers
    by false = same-history store number history _ (front_in rec) refl covers
cover-judged store history number set rec (Err (fault.DatabaseFull weight front)) covers =
    same-history store number history _ (front_in rec) refl covers
cover-judged store history number set rec (Err (fault.HistoryFull weight front)) covers =
    same-history store number history _ (front_in rec) refl covers
cover-judged store history number set rec (Err (fault.DiskFault front)) covers =
    same-history store number history _ (front_in rec) refl covers
cover-judged store history number set rec (Err fault.Memory) covers =
    same-history store number history _ (front_in rec) refl covers
