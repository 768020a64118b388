-- What the changes of the touched mounts are, name by name, and what a map is after them.
use Rattle.std.proofs.Common.{◌≡◌, ◌⊎◌, ℕ, Bool, true, false, cond, not, ◌||◌, nat_eq, List, [], ◌∷◌, Option, Some, None, refl, sym, ap, ◌∙◌, eqb-true, eq-eqb, inl, inr}
use Rattle.std.specs.FinMap as map
use Rattle.std.specs.FinMap.{find}
use Rattle.std.specs.Option.{option_or, unwrap_or}
use Rattle.general_words.proofs.Orders.{itself}
use Rattle.general_words.proofs.Searches.{or_none}
use Rattle.general_words.proofs.Entries.{find-both}
use Rattle.key_set.specs.Same.{same_keys}
use Rattle.key_set.proofs.SameLemmas.{keys_decides}
use Rattle.model_names.specs.Name.{Name}
use Rattle.model_names.specs.Order.{name_cmp}
use Rattle.model_names.proofs.OrderLemmas.{name_cmp_total, name_cmp-IsAntisymmetric}
use Rattle.model_maps.specs.Entry.{Entry}
use Rattle.model_maps.specs.KeyMap.{KeyMap}
use Rattle.model_history.specs.Changes.{Change, change_at, difference, changed_by, after}
use Rattle.model_history.specs.History.{is_among}
use Rattle.model_history.proofs.ChangeLemmas.{get-difference, get-after, change_made, change_at-same, change_at-to, change_at-differs, after-difference}
use Rattle.model_store.specs.Legal.{HasChange}
use Rattle.model_store.specs.Sets.{differs, changes_of, changes_at}
use Rattle.model_store.proofs.Members.{among-first, among-rest}
use Rattle.model_store.proofs.Owners.{one_owner, get-owned, get-mine, get-other}
use Rattle.set_split.specs.Involved.{owns}
use Rattle.set_split.specs.Parts.{owned_by}

pub or_same : {A : Type 0} (o : Option A) → option_or o o ≡ o
or_same None = refl
or_same (Some x) = refl

module _ (points : List Name) (before wanted : ℕ → KeyMap) where
  -- neither has a name that its mount doesn't own
  pub record AreOwned : Type 0 where
    pub nothing_before : (m : ℕ) (q : Name) → owns points m q ≡ false → map.get (before m) q ≡ None
    pub nothing_wanted : (m : ℕ) (q : Name) → owns points m q ≡ false → map.get (wanted m) q ≡ None

  module _ (owned : AreOwned) where
    change-elsewhere : (m : ℕ) (q : Name) → owns points m q ≡ false → change_at (before m) (wanted m) q ≡ None
    change-elsewhere m q is =
        change_at-same (before m) (wanted m) q (owned.nothing_before m q is ∙ sym (owned.nothing_wanted m q is))

    -- what is found at a name that a mount owns is that mount's change, where the mount is among them
    find-changes : (ms : List ℕ) (m : ℕ) (q : Name) → owns points m q ≡ true
        → find name_cmp q (changes_of before wanted ms) ≡ cond (is_among ms m) (change_at (before m) (wanted m) q) None
    find-changes [] m q mine = refl
    find-changes (n ∷ ms) m q mine =
        find-both name_cmp (changes_of before wanted ms) (map.entries (difference (before n) (wanted n))) q
        ∙ ap (option_or (find name_cmp q (changes_of before wanted ms))) (sym (map.get-entries (difference (before n) (wanted n)) q) ∙ get-difference (before n) (wanted n) q)
        ∙ ap (λ o. option_or o (change_at (before n) (wanted n) q)) (find-changes ms m q mine)
        ∙ elim (nat_eq m n) as (λ b. nat_eq m n ≡ b → option_or (cond (is_among ms m) (change_at (before m) (wanted m) q) None) (change_at (before n) (wanted n) q) ≡ cond (b || is_among ms m) (change_at (before m) (wanted m) q) None) [
          | true ↦ λ is.
              ap (λ k. option_or (cond (is_among ms m) (change_at (before m) (wanted m) q) None) (change_at (before k) (wanted k) q)) (sym (eqb-true m n is))
              ∙ chosen (is_among ms m) (change_at (before m) (wanted m) q)
          | false ↦ λ is. ap (option_or (cond (is_among ms m) (change_at (before m) (wanted m) q) None)) (change-elsewhere n q (other n is (owns points n q) refl)) ∙ or_none _
        ] refl
      where
        chosen : {A : Type 0} (b : Bool) (o : Option A) → option_or (cond b o None) o ≡ o
        chosen true o = or_same o
        chosen false o = refl

        other : (n : ℕ) → nat_eq m n ≡ false → (b : Bool) → owns points n q ≡ b → owns points n q ≡ false
        other n is true own = let same : nat_eq m n ≡ true = eq-eqb m n (one_owner points m n q mine own) in absurd cc
        other n is false own = own

    -- whose name changes, and to what
    pub record Changed (ms : List ℕ) (q : Name) (new : Option Entry) : Type 0 where
      pub mount : ℕ
      pub among : is_among ms mount ≡ true
      pub mine : owns points mount q ≡ true
      pub is : change_at (before mount) (wanted mount) q ≡ Some new

    pub changed-by : (ms : List ℕ) (q : Name) (new : Option Entry)
        → find name_cmp q (changes_of before wanted ms) ≡ Some new → Changed ms q new
    changed-by [] q new e = absurd cc
    changed-by (n ∷ ms) q new e = by (find name_cmp q (changes_of before wanted ms)) refl (owns points n q) refl
        (sym (find-both name_cmp (changes_of before wanted ms) (map.entries (difference (before n) (wanted n))) q
        ∙ ap (option_or (find name_cmp q (changes_of before wanted ms))) (sym (map.get-entries (difference (before n) (wanted n)) q) ∙ get-difference (before n) (wanted n) q)) ∙ e)
        (changed-by ms q new)
      where
        by : (o : Option (Option Entry)) → find name_cmp q (changes_of before wanted ms) ≡ o → (b : Bool)
            → owns points n q ≡ b
            → option_or (find name_cmp q (changes_of before wanted ms)) (change_at (before n) (wanted n) q) ≡ Some new
            → (find name_cmp q (changes_of before wanted ms) ≡ Some new → Changed ms q new) → Changed (n ∷ ms) q new
        by None is true own h rest =
            record {
              mount = n;
              among = among-first n ms;
              mine = own;
              is = sym (ap (λ o. option_or o (change_at (before n) (wanted n) q)) is) ∙ h;
            }
        by None is false own h rest =
            let here : change_at (before n) (wanted n) q ≡ Some new = sym (ap (λ o. option_or o (change_at (before n) (wanted n) q)) is) ∙ h in
            let none : change_at (before n) (wanted n) q ≡ None = change-elsewhere n q own in
            absurd cc
        by (Some found) is b own h rest =
            let same : find name_cmp q (changes_of before wanted ms) ≡ Some new = is ∙ sym (ap (λ o. option_or o (change_at (before n) (wanted n) q)) is) ∙ h in
            let there = rest same in
            record {
              mount = there.mount;
              among = among-rest n there.mount ms there.among;
              mine = there.mine;
              is = there.is;
            }

    pub get-changes : (ms : List ℕ) (m : ℕ) (q : Name) → owns points m q ≡ true → is_among ms m ≡ true
        → map.get (changes_at before wanted ms) q ≡ change_at (before m) (wanted m) q
    get-changes ms m q mine among =
        map.get-from_entries name_cmp_total (changes_of before wanted ms) q
        ∙ find-changes ms m q mine
        ∙ ap (λ b. cond b (change_at (before m) (wanted m) q) None) among

    pub changed-at : (ms : List ℕ) (q : Name) (new : Option Entry)
        → find name_cmp q (map.entries (changes_at before wanted ms)) ≡ Some new → Changed ms q new
    changed-at ms q new e =
        changed-by ms q new (sym (map.get-from_entries name_cmp_total (changes_of before wanted ms) q) ∙ map.get-entries (changes_at before wanted ms) q ∙ e)

    -- where a map has of a mount what it had before, it has after the changes what is wanted
    pub touched-after : (present : KeyMap) (ms : List ℕ) (m : ℕ) → is_among ms m ≡ true
        → owned_by points m present ≡ before m
        → owned_by points m (after present (changes_at before wanted ms)) ≡ wanted m
    touched-after present ms m among same =
        map.same_map name_cmp_total name_cmp-IsAntisymmetric _ _ (λ q. get-owned points m (after present (changes_at before wanted ms)) q ∙ by q (owns points m q) refl)
      where
        by : (q : Name) (b : Bool) → owns points m q ≡ b
            → cond b (map.get (after present (changes_at before wanted ms)) q) None ≡ map.get (wanted m) q
        by q true mine =
            get-after present (changes_at before wanted ms) q
            ∙ ap (λ o. unwrap_or o (map.get present q)) (get-changes ms m q mine among)
            ∙ ap (unwrap_or (change_at (before m) (wanted m) q)) (sym (get-mine points m present q mine) ∙ ap (λ keys. map.get keys q) same)
            ∙ change_made (before m) (wanted m) q
        by q false off = sym (owned.nothing_wanted m q off)

    -- in any case it has at each name what it had, or what is wanted
    pub mixed-after : (present : KeyMap) (ms : List ℕ) (m : ℕ) (q : Name) → is_among ms m ≡ true
        → (map.get (owned_by points m (after present (changes_at before wanted ms))) q ≡ map.get (owned_by points m present) q)
        ⊎ (map.get (owned_by points m (after present (changes_at before wanted ms))) q ≡ map.get (wanted m) q)
    mixed-after present ms m q among = by (owns points m q) refl
      where
        made : KeyMap
        made = after present (changes_at before wanted ms)

        at : (o : Option (Option Entry)) → change_at (before m) (wanted m) q ≡ o → owns points m q ≡ true
            → map.get (owned_by points m made) q ≡ unwrap_or o (map.get present q)
            → (map.get (owned_by points m made) q ≡ map.get (owned_by points m present) q)
            ⊎ (map.get (owned_by points m made) q ≡ map.get (wanted m) q)
        at None is mine got = inl (got ∙ sym (get-mine points m present q mine))
        at (Some new) is mine got = inr (got ∙ change_at-to (before m) (wanted m) q new is)

        by : (b : Bool) → owns points m q ≡ b
            → (map.get (owned_by points m made) q ≡ map.get (owned_by points m present) q)
            ⊎ (map.get (owned_by points m made) q ≡ map.get (wanted m) q)
        by true mine =
            at (change_at (before m) (wanted m) q) refl mine
            (get-mine points m made q mine ∙ get-after present (changes_at before wanted ms) q ∙ ap (λ o. unwrap_or o (map.get present q)) (get-changes ms m q mine among))
        by false off = inl (get-other points m made q off ∙ sym (get-other points m present q off))

    -- a change gives what the map has not, where this has at the changed names what their mounts had before
    pub change-differs : (present : KeyMap) (ms : List ℕ)
        → ((m : ℕ) (q : Name) (new : Option Entry) → is_among ms m ≡ true → owns points m q ≡ true → find name_cmp q (map.entries (changes_at before wanted ms)) ≡ Some new → map.get present q ≡ map.get (before m) q)
        → (q : Name) (new : Option Entry) → find name_cmp q (map.entries (changes_at before wanted ms)) ≡ Some new
        → new ≡ map.get present q → ⊥
    change-differs present ms same q new e is =
        let at = changed-at ms q new e in
        change_at-differs (before at.mount) (wanted at.mount) q new at.is (is ∙ same at.mount q new at.among at.mine e)

    -- what changes to an entry is wanted there
    pub change-wanted : (ms : List ℕ) (q : Name) (new : Option Entry)
        → find name_cmp q (map.entries (changes_at before wanted ms)) ≡ Some new
        → (m : ℕ) × (is_among ms m ≡ true) × (new ≡ map.get (wanted m) q)
    change-wanted ms q new e =
        let at = changed-at ms q new e in (at.mount, at.among, change_at-to (before at.mount) (wanted at.mount) q new at.is)

    -- a mount whose keys differ has a change
    pub has-change : (ms : List ℕ) (m : ℕ) → is_among ms m ≡ true → differs before wanted m ≡ true
        → HasChange points (map.entries (changes_at before wanted ms)) m
    has-change ms m among differ = by (map.entries (difference (before m) (wanted m))) refl
      where
        own : (q : Name) (new : Option Entry) → change_at (before m) (wanted m) q ≡ Some new → (b : Bool)
            → owns points m q ≡ b → owns points m q ≡ true
        own q new there true is = is
        own q new there false is =
            let none : change_at (before m) (wanted m) q ≡ None = change-elsewhere m q is in absurd cc

        by : (es : List Change) → map.entries (difference (before m) (wanted m)) ≡ es
            → HasChange points (map.entries (changes_at before wanted ms)) m
        by [] is =
            let same : before m ≡ wanted m = sym (ap (λ es. changed_by es (before m)) is) ∙ after-difference (before m) (wanted m) in
            let test : same_keys (wanted m) (before m) ≡ true = (keys_decides (wanted m) (before m)).1 (sym same) in
            let off : not (same_keys (wanted m) (before m)) ≡ false = ap not test in
            absurd cc
        by (e ∷ es) is =
            let there : change_at (before m) (wanted m) e.0 ≡ Some e.1 =
            sym (get-difference (before m) (wanted m) e.0) ∙ map.get-entries (difference (before m) (wanted m)) e.0 ∙ ap (find name_cmp e.0) is ∙ ap (λ b. cond b (Some e.1) (find name_cmp e.0 es)) (itself name_cmp_total e.0) in
            let mine : owns points m e.0 ≡ true = own e.0 e.1 there (owns points m e.0) refl in
            record {
              name = e.0;
              new = e.1;
              found = sym (map.get-entries (changes_at before wanted ms) e.0) ∙ get-changes ms m e.0 mine among ∙ there;
              owned = mine;
            }
