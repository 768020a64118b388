-- A name has one owner at most: what a mount owns of a map.
use Rattle.std.proofs.Common.{◌≡◌, ℕ, Bool, true, false, cond, ◌||◌, nat_eq, List, [], ◌∷◌, None, refl, sym, ap, ◌∙◌, eqb-true}
use Rattle.std.specs.FinMap as map
use Rattle.std.proofs.lemmas.Bool.{or_right}
use Rattle.general_words.proofs.Lists.{some_is}
use Rattle.general_words.proofs.Maps.{get-retain}
use Rattle.general_words.proofs.Tests.{is_number}
use Rattle.key_name.specs.Owner.{owner_of}
use Rattle.model_names.specs.Name.{Name}
use Rattle.model_names.proofs.OrderLemmas.{name_cmp_total, name_cmp-IsAntisymmetric}
use Rattle.model_maps.specs.KeyMap.{KeyMap}
use Rattle.model_history.specs.History.{is_among}
use Rattle.model_store.specs.Store.{is_owned}
use Rattle.model_store.proofs.Members.{among-first, among-rest}
use Rattle.set_split.specs.Involved.{owns}
use Rattle.set_split.specs.Parts.{owned_by}

module _ (points : List Name) where
  pub one_owner : (i j : ℕ) (q : Name) → owns points i q ≡ true → owns points j q ≡ true → i ≡ j
  one_owner i j q e f = some_is i j (sym (is_number (owner_of points q) i e) ∙ is_number (owner_of points q) j f)

  pub get-owned : (m : ℕ) (keys : KeyMap) (q : Name)
      → map.get (owned_by points m keys) q ≡ cond (owns points m q) (map.get keys q) None
  get-owned m keys q = get-retain name_cmp_total name_cmp-IsAntisymmetric keys (owns points m) q

  pub get-mine : (m : ℕ) (keys : KeyMap) (q : Name) → owns points m q ≡ true
      → map.get (owned_by points m keys) q ≡ map.get keys q
  get-mine m keys q is = get-owned m keys q ∙ ap (λ b. cond b (map.get keys q) None) is

  pub get-other : (m : ℕ) (keys : KeyMap) (q : Name) → owns points m q ≡ false
      → map.get (owned_by points m keys) q ≡ None
  get-other m keys q is = get-owned m keys q ∙ ap (λ b. cond b (map.get keys q) None) is

  -- two maps that agree where a mount owns are the same to it
  pub same_owned : (m : ℕ) (keys other : KeyMap)
      → ((q : Name) → owns points m q ≡ true → map.get keys q ≡ map.get other q)
      → owned_by points m keys ≡ owned_by points m other
  same_owned m keys other same =
      map.same_map name_cmp_total name_cmp-IsAntisymmetric _ _ (λ q. get-owned m keys q ∙ by q (owns points m q) refl ∙ sym (get-owned m other q))
    where
      by : (q : Name) (b : Bool) → owns points m q ≡ b → cond b (map.get keys q) None ≡ cond b (map.get other q) None
      by q true is = same q is
      by q false is = refl

  -- one of some mounts that owns a name
  pub record IsOwner (mounts : List ℕ) (q : Name) : Type 0 where
    pub mount : ℕ
    pub among : is_among mounts mount ≡ true
    pub owned : owns points mount q ≡ true

  pub owner_among : (mounts : List ℕ) (q : Name) → is_owned points mounts q ≡ true → IsOwner mounts q
  owner_among [] q e = absurd cc
  owner_among (m ∷ mounts) q e = elim (owns points m q) as (λ b. owns points m q ≡ b → (b || is_owned points mounts q) ≡ true → IsOwner (m ∷ mounts) q) [
    | true ↦ λ is h. record { mount = m; among = among-first m mounts; owned = is }
    | false ↦ λ is h. let rest = owner_among mounts q h in record { mount = rest.mount; among = among-rest m rest.mount mounts rest.among; owned = rest.owned }
  ] refl e

  pub owned-among : (mounts : List ℕ) (m : ℕ) (q : Name) → is_among mounts m ≡ true → owns points m q ≡ true
      → is_owned points mounts q ≡ true
  owned-among [] m q among is = absurd cc
  owned-among (n ∷ mounts) m q among is = elim (nat_eq m n) as (λ b. nat_eq m n ≡ b → (b || is_among mounts m) ≡ true → (owns points n q || is_owned points mounts q) ≡ true) [
    | true ↦ λ same e. ap (λ b. b || is_owned points mounts q) (ap (λ i. owns points i q) (sym (eqb-true m n same)) ∙ is)
    | false ↦ λ same e. or_right (owns points n q) (is_owned points mounts q) (owned-among mounts m q e is)
  ] refl among
