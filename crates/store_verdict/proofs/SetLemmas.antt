-- The set that is made is that of the definitions.
use Rattle.std.proofs.Common.{◌≡◌, ℕ, zero, suc, ◌+◌, ◌<◌, ◌≤◌, Bool, true, false, cond, ◌||◌, nat_eq, List, [], ◌∷◌, ◌++◌, length, filter, map as over, Option, Some, None, refl, sym, ap, ap₂, subst, ◌∙◌, eqb-true, arith}
use Rattle.std.specs.FinMap as map
use Rattle.std.specs.List.{AllByRecursion, range_with_len}
use Rattle.std.specs.Option.{option_map, option_or, unwrap_or}
use Rattle.general_words.specs.Searches.{first_some}
use Rattle.general_words.proofs.Lists.{head_is, tail_is}
use Rattle.model_names.specs.Name.{Name}
use Rattle.model_maps.specs.KeyMap.{KeyMap, no_keys}
use Rattle.model_history.specs.Changes.{Changes, difference}
use Rattle.model_history.specs.History.{is_among}
use Rattle.model_store.specs.Fitting.{Early, NotFetched, too_heavy}
use Rattle.model_store.specs.Records.{Record}
use Rattle.model_store.specs.Sets as model
use Rattle.model_store.specs.Sets.{only, kept, front_in, differs, wants, changes_of, changes_at, prepared}
use Rattle.model_store.specs.Store.{Store, Formats}
use Rattle.model_store.specs.Verdicts.{Follows, IsEarly, before_formats, if_unseen, long_value, not_fetched, wanted_in}
use Rattle.model_store.proofs.Members.{among-first, among-rest, among-filter, only-there}
use Rattle.model_store.proofs.Owners.{owned-among}
use Rattle.mounted_files.specs.Setting.{first_long_in}
use Rattle.mounted_files.specs.Short.{AreShort}
use Rattle.mounted_files.proofs.ChangeLemmas.{owned-short}
use Rattle.set_split.specs.Involved.{involved_in, is_involved}
use Rattle.set_split.specs.Parts.{left_aside}
use Rattle.set_split.specs.Seen.{numbered}
use Rattle.set_split.specs.declared.parts.Part.{Part}
use Rattle.store_verdict.specs.PreparedView.{front_of}
use Rattle.store_verdict.specs.Seeing.{AreSeen, unseen}
use Rattle.store_verdict.specs.Wanting.{touched_at}
use Rattle.store_verdict.specs.declared.prepared.Seen.{Seen}

-- ---- what agrees on some numbers

filter-alike : (p q : ℕ → Bool) (ms : List ℕ) → ((m : ℕ) → is_among ms m ≡ true → p m ≡ q m) → filter p ms ≡ filter q ms
filter-alike p q [] same = refl
filter-alike p q (m ∷ ms) same =
    ap₂ (λ b l. cond b (m ∷ l) l) (same m (among-first m ms)) (filter-alike p q ms (λ k among. same k (among-rest m k ms among)))

changes-alike : (before other wanted : ℕ → KeyMap) (ms : List ℕ) → ((m : ℕ) → is_among ms m ≡ true → before m ≡ other m)
    → changes_of before wanted ms ≡ changes_of other wanted ms
changes-alike before other wanted [] same = refl
changes-alike before other wanted (m ∷ ms) same =
    ap₂ (λ l keys. l ++ map.entries (difference keys (wanted m))) (changes-alike before other wanted ms (λ k among. same k (among-rest m k ms among))) (same m (among-first m ms))

first-alike : {B : Type 0} (f g : ℕ → Option B) (ms : List ℕ) → ((m : ℕ) → is_among ms m ≡ true → f m ≡ g m)
    → first_some f ms ≡ first_some g ms
first-alike f g [] same = refl
first-alike f g (m ∷ ms) same =
    ap₂ option_or (same m (among-first m ms)) (first-alike f g ms (λ k among. same k (among-rest m k ms among)))

-- ---- what was seen

pair-mount : (m n : ℕ) (o p : Option ℕ) → ◌≡◌ {A = ℕ × Option ℕ} (m, o) (n, p) → m ≡ n
pair-mount m n o p e = ap (λ x. x.0) e

pair-front : (m n : ℕ) (o p : Option ℕ) → ◌≡◌ {A = ℕ × Option ℕ} (m, o) (n, p) → o ≡ p
pair-front m n o p e = ap (λ x. x.1) e

module _ (rec : Record) where
  pub seen-mounts : (seen : List Seen) (ms : List ℕ) → AreSeen rec ms seen → over (λ one. one.mount) seen ≡ ms
  seen-mounts [] [] e = refl
  seen-mounts [] (m ∷ ms) e = absurd cc
  seen-mounts (s ∷ seen) [] e = absurd cc
  seen-mounts (s ∷ seen) (m ∷ ms) e =
      ap₂ (λ x xs. x ∷ xs) (pair-mount _ _ _ _ (head_is _ _ _ _ e)) (seen-mounts seen ms (tail_is _ _ _ _ e))

  pub seen-fronts : (seen : List Seen) (ms : List ℕ) → AreSeen rec ms seen → (q : ℕ)
      → front_of seen q ≡ front_in (only ms rec) q
  seen-fronts seen ms e q = at seen ms e ∙ by (is_among ms q)
    where
      by : (b : Bool)
          → cond b (front_in rec q) None ≡ option_map (λ fetched. fetched.front) (cond b (rec.fetched q) None)
      by true = refl
      by false = refl

      at : (seen : List Seen) (ms : List ℕ) → AreSeen rec ms seen
          → front_of seen q ≡ cond (is_among ms q) (front_in rec q) None
      at [] [] e = refl
      at [] (m ∷ ms) e = absurd cc
      at (s ∷ seen) [] e = absurd cc
      at (s ∷ seen) (m ∷ ms) e =
          ap (λ n. option_or (cond (nat_eq q n) (Some s.front) None) (front_of seen q)) (pair-mount _ _ _ _ (head_is _ _ _ _ e))
          ∙ ap (option_or (cond (nat_eq q m) (Some s.front) None)) (at seen ms (tail_is _ _ _ _ e))
          ∙ elim (nat_eq q m) as (λ b. nat_eq q m ≡ b → option_or (cond b (Some s.front) None) (cond (is_among ms q) (front_in rec q) None) ≡ cond (b || is_among ms q) (front_in rec q) None) [
            | true ↦ λ is. pair-front _ _ _ _ (head_is _ _ _ _ e) ∙ ap (front_in rec) (sym (eqb-true q m is))
            | false ↦ λ is. refl
          ] refl

  pub all-seen : (seen : List Seen) (ms : List ℕ) → AreSeen rec ms seen → unseen rec ms ≡ None
  all-seen [] [] e = refl
  all-seen [] (m ∷ ms) e = absurd cc
  all-seen (s ∷ seen) [] e = absurd cc
  all-seen (s ∷ seen) (m ∷ ms) e =
      ap (λ o. option_or (if_unseen m o) (unseen rec ms)) (sym (pair-front _ _ _ _ (head_is _ _ _ _ e)))
      ∙ all-seen seen ms (tail_is _ _ _ _ e)

  -- the mount that was not fetched is one of those
  pub unseen-among : (ms : List ℕ) (m : ℕ) → unseen rec ms ≡ Some (NotFetched m) → is_among ms m ≡ true
  unseen-among [] m e = absurd cc
  unseen-among (n ∷ ms) m e = by (front_in rec n) e (unseen-among ms m)
    where
      by : (o : Option ℕ) → option_or (if_unseen n o) (unseen rec ms) ≡ Some (NotFetched m)
          → (unseen rec ms ≡ Some (NotFetched m) → is_among ms m ≡ true) → (nat_eq m n || is_among ms m) ≡ true
      by None h rest =
          let same : n ≡ m = cc in subst (λ k. (nat_eq m k || is_among ms m) ≡ true) (sym same) (among-first m ms)
      by (Some front) h rest = among-rest n m ms (rest h)

-- ---- numbers of mounts

range-within : (p : ℕ → Bool) (a n k : ℕ) → a + n ≤ k → AllByRecursion (λ m. m < k) (filter p (range_with_len a n))
range-within p a zero k le = tt
range-within p a (suc n) k le = elim (p a) as (λ b. AllByRecursion (λ m. m < k) (cond b (a ∷ filter p (range_with_len (a + 1) n)) (filter p (range_with_len (a + 1) n)))) [
  | true ↦ (omega arith, range-within p (a + 1) n k (omega arith))
  | false ↦ range-within p (a + 1) n k (omega arith)
]

-- each involved mount is one of the table
pub involved-within : (points : List Name) (parent : Name) (k : ℕ) → length points ≤ k
    → AllByRecursion (λ m. m < k) (involved_in points parent)
involved-within points parent k le = range-within (is_involved points parent) 0 (length points) k (omega (arith, le))

pub among-within : (k : ℕ) (ms : List ℕ) (m : ℕ) → AllByRecursion (λ n. n < k) ms → is_among ms m ≡ true → m < k
among-within k [] m all e = absurd cc
among-within k (n ∷ ms) m all e = elim (nat_eq m n) as (λ b. nat_eq m n ≡ b → (b || is_among ms m) ≡ true → m < k) [
  | true ↦ λ is h. subst (λ j. j < k) (sym (eqb-true m n is)) all.0
  | false ↦ λ is h. among-within k ms m all.1 h
] refl e

pub filter-within : (k : ℕ) (p : ℕ → Bool) (ms : List ℕ) → AllByRecursion (λ n. n < k) ms
    → AllByRecursion (λ n. n < k) (filter p ms)
filter-within k p [] all = tt
filter-within k p (m ∷ ms) all = elim (p m) as (λ b. AllByRecursion (λ n. n < k) (cond b (m ∷ filter p ms) (filter p ms))) [
  | true ↦ (all.0, filter-within k p ms all.1)
  | false ↦ filter-within k p ms all.1
]

-- so are the mounts of parts of them
pub parts-within : (k : ℕ) (wanted : ℕ → KeyMap) (parts : List Part) (ms : List ℕ)
    → numbered parts ≡ over (λ m. (m, wanted m)) ms → AllByRecursion (λ n. n < k) ms
    → AllByRecursion (λ (part : Part). part.mount < k) parts
parts-within k wanted [] ms e all = tt
parts-within k wanted (part ∷ parts) [] e all = absurd cc
parts-within k wanted (part ∷ parts) (m ∷ ms) e all =
    (subst (λ n. n < k) (sym (ap (λ x. x.0) (head_is _ _ _ _ e))) all.0, parts-within k wanted parts ms (tail_is _ _ _ _ e) all.1)

pub part-mounts : (wanted : ℕ → KeyMap) (parts : List Part) (ms : List ℕ)
    → numbered parts ≡ over (λ m. (m, wanted m)) ms → over (λ (part : Part). part.mount) parts ≡ ms
part-mounts wanted [] [] e = refl
part-mounts wanted [] (m ∷ ms) e = absurd cc
part-mounts wanted (part ∷ parts) [] e = absurd cc
part-mounts wanted (part ∷ parts) (m ∷ ms) e =
    ap₂ (λ x xs. x ∷ xs) (ap (λ x. x.0) (head_is _ _ _ _ e)) (part-mounts wanted parts ms (tail_is _ _ _ _ e))

-- what is wanted for involved mounts is short, where no key that they own has a long text
pub parts-short : (points : List Name) (keys : KeyMap) (mounts : List ℕ) → first_long_in points mounts keys ≡ None
    → (parts : List Part) (ms : List ℕ) → numbered parts ≡ over {B = ℕ × KeyMap} (λ m. (m, wants points keys m)) ms
    → ((m : ℕ) → is_among ms m ≡ true → is_among mounts m ≡ true)
    → AllByRecursion (λ (part : Part). AreShort part.keys) parts
parts-short points keys mounts none [] ms e within = tt
parts-short points keys mounts none (part ∷ parts) [] e within = absurd cc
parts-short points keys mounts none (part ∷ parts) (m ∷ ms) e within = (
  subst (λ (k : KeyMap). AreShort k) (sym (ap (λ (x : ℕ × KeyMap). x.1) (head_is _ _ _ _ e))) (owned-short points keys mounts none m (λ name owned. owned-among points mounts m name (within m (among-first m ms)) owned)),
  parts-short points keys mounts none parts ms (tail_is _ _ _ _ e) (λ k among. within k (among-rest m k ms among)),
)

-- ---- the set

module _ (points : List Name) (rec : Record) (parent : Name) (keys : KeyMap) where
  kept-only : (m : ℕ) → is_among (involved_in points parent) m ≡ true
      → kept (only (involved_in points parent) rec) m ≡ kept rec m
  kept-only m among =
      ap (λ o. unwrap_or (option_map (λ fetched. fetched.kept) o) no_keys) (only-there (involved_in points parent) rec m among)

  pub touched-only : filter (differs (kept (only (involved_in points parent) rec)) (wants points keys)) (involved_in points parent)
      ≡ touched_at points rec parent keys
  touched-only =
      filter-alike _ _ (involved_in points parent) (λ m among. ap (λ before. differs (λ _. before) (wants points keys) m) (kept-only m among))

  changes-only : changes_at (kept (only (involved_in points parent) rec)) (wants points keys) (touched_at points rec parent keys)
      ≡ changes_at (kept rec) (wants points keys) (touched_at points rec parent keys)
  changes-only =
      ap map.from_entries (changes-alike _ _ (wants points keys) (touched_at points rec parent keys) (λ m among. kept-only m (among-filter (differs (kept rec) (wants points keys)) (involved_in points parent) m among).0))

  pub touched-within : (k : ℕ) → length points ≤ k → AllByRecursion (λ m. m < k) (touched_at points rec parent keys)
  touched-within k le =
      filter-within k (differs (kept rec) (wants points keys)) (involved_in points parent) (involved-within points parent k le)

  pub set-is : (handle : ℕ) (involved : List ℕ) (fronts : ℕ → Option ℕ) (touched : List ℕ) (changes : Changes)
      (aside : ℕ)
      → involved ≡ involved_in points parent → ((q : ℕ) → fronts q ≡ front_in (only (involved_in points parent) rec) q)
      → touched ≡ touched_at points rec parent keys
      → changes ≡ changes_at (kept rec) (wants points keys) (touched_at points rec parent keys)
      → aside ≡ length (map.entries (left_aside points parent keys))
      → ◌≡◌ {A = model.Prepared} (record { handle = handle; committed = rec.committed; involved = involved; fronts = fronts; keys = keys; touched = touched; changes = changes; aside = aside }) (prepared points handle rec parent keys)
  set-is handle involved fronts touched changes aside i f t c a =
      let same_touched = t ∙ sym touched-only in
      let same_changes = c ∙ sym changes-only ∙ ap (changes_at (kept (only (involved_in points parent) rec)) (wants points keys)) (sym touched-only) in
      λ k. record { handle = handle; committed = rec.committed; involved = i k; fronts = λ q. f q k; keys = keys; touched = same_touched k; changes = same_changes k; aside = a k }

  -- the first mount that was not fetched
  pub not_fetched-is : (handle : ℕ)
      → not_fetched (prepared points handle rec parent keys) ≡ unseen rec (involved_in points parent)
  not_fetched-is handle =
      first-alike _ _ (involved_in points parent) (λ m among. ap (λ o. if_unseen m (option_map (λ fetched. fetched.front) o)) (only-there (involved_in points parent) rec m among))

-- it is refused before all else
pub unseen-early : (formats : Formats) (store : Store) (set : model.Prepared) (why : Early) → not_fetched set ≡ Some why
    → IsEarly formats store set (Some why)
unseen-early formats store set why e =
    at (before_formats store set) (ap (λ o. option_or o (option_or (long_value store set) (first_some (too_heavy store (wanted_in store set)) set.touched))) e) _
  where
    at : (o : Option Early) → o ≡ Some why → (P : Type 0) → Follows o (Some why) P
    at None is P = absurd cc
    at (Some told) is P = sym is
