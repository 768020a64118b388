-- What changes add to changes, part by part.
use Rattle.std.proofs.Common.{◌≡◌, ℕ, true, false, cond, not, List, [], ◌∷◌, ◌++◌, map as over, Option, None, refl, sym, ap, ◌∙◌}
use Rattle.std.specs.FinMap as map
use Rattle.std.specs.FinMap.{find}
use Rattle.std.specs.List.{filter}
use Rattle.std.specs.Option.{option_or}
use Rattle.general_words.proofs.Searches.{or_none, or_assoc}
use Rattle.general_words.proofs.Entries.{find-both}
use Rattle.key_set.specs.Same.{same_keys}
use Rattle.model_names.specs.Name.{Name}
use Rattle.model_names.specs.Order.{name_cmp}
use Rattle.model_names.proofs.OrderLemmas.{name_cmp_total, name_cmp-IsAntisymmetric}
use Rattle.model_maps.specs.Entry.{Entry}
use Rattle.model_maps.specs.KeyMap.{KeyMap}
use Rattle.model_history.specs.Changes.{Changes, change_at, difference}
use Rattle.model_history.proofs.ChangeLemmas.{get-difference}
use Rattle.model_store.specs.Records.{Record}
use Rattle.model_store.specs.Sets.{kept, changes_of, changes_at, differs}
use Rattle.store_verdict.specs.Touching.{differs_at}

-- ---- parts

-- what the last of some parts that changes a name makes of it
abbrev pub changed_in : (ℕ → KeyMap) → List (ℕ × KeyMap) → Name → Option (Option Entry)
changed_in before [] q = None
changed_in before (part ∷ parts) q = option_or (changed_in before parts q) (change_at (before part.0) part.1 q)

pub changed_in-snoc : (before : ℕ → KeyMap) (parts : List (ℕ × KeyMap)) (part : ℕ × KeyMap) (q : Name)
    → changed_in before (parts ++ part ∷ []) q
    ≡ option_or (change_at (before part.0) part.1 q) (changed_in before parts q)
changed_in-snoc before [] part q = sym (or_none (change_at (before part.0) part.1 q))
changed_in-snoc before (first ∷ parts) part q =
    ap (λ o. option_or o (change_at (before first.0) first.1 q)) (changed_in-snoc before parts part q)
    ∙ or_assoc (change_at (before part.0) part.1 q) (changed_in before parts q) (change_at (before first.0) first.1 q)

find-changes : (before wanted : ℕ → KeyMap) (ms : List ℕ) (q : Name)
    → find name_cmp q (changes_of before wanted ms) ≡ changed_in before (over (λ m. (m, wanted m)) ms) q
find-changes before wanted [] q = refl
find-changes before wanted (m ∷ ms) q =
    find-both name_cmp (changes_of before wanted ms) (map.entries (difference (before m) (wanted m))) q
    ∙ ap (λ o. option_or o (find name_cmp q (map.entries (difference (before m) (wanted m))))) (find-changes before wanted ms q)
    ∙ ap (option_or (changed_in before (over (λ n. (n, wanted n)) ms) q)) (sym (map.get-entries (difference (before m) (wanted m)) q) ∙ get-difference (before m) (wanted m) q)

-- the changes of the parts of some mounts
pub are-changes : (before wanted : ℕ → KeyMap) (ms : List ℕ) (changes : Changes)
    → ((q : Name) → map.get changes q ≡ changed_in before (over (λ m. (m, wanted m)) ms) q)
    → changes ≡ changes_at before wanted ms
are-changes before wanted ms changes each = map.same_map name_cmp_total name_cmp-IsAntisymmetric _ _ (λ q.
    each q ∙ sym (map.get-from_entries name_cmp_total (changes_of before wanted ms) q ∙ find-changes before wanted ms q))

-- the parts of the mounts that differ
pub filter-parts : (rec : Record) (wanted : ℕ → KeyMap) (ms : List ℕ)
    → filter (differs_at rec) (over (λ m. (m, wanted m)) ms)
    ≡ over (λ m. (m, wanted m)) (filter (differs (kept rec) wanted) ms)
filter-parts rec wanted [] = refl
filter-parts rec wanted (m ∷ ms) = elim (not (same_keys (wanted m) (kept rec m))) as (λ b. cond b ((m, wanted m) ∷ filter (differs_at rec) (over (λ n. (n, wanted n)) ms)) (filter (differs_at rec) (over (λ n. (n, wanted n)) ms)) ≡ over (λ n. (n, wanted n)) (cond b (m ∷ filter (differs (kept rec) wanted) ms) (filter (differs (kept rec) wanted) ms))) [
  | true ↦ ap (λ l. (m, wanted m) ∷ l) (filter-parts rec wanted ms)
  | false ↦ filter-parts rec wanted ms
]
