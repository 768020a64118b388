-- Keys that were put among others, with what they weigh, and the aliases of a host.
use Rattle.std.proofs.Common.{◌≡◌, ◌⊎◌, cond, true, false, List, [], ◌∷◌, Some, refl, sym, ap, ◌∙◌, inl, inr}
use Rattle.std.specs.FinMap as finite
use Rattle.std.specs.Ordering.{eq_by_cmp}
use Rattle.general_words.proofs.Lookups.{tied_or_not}
use Rattle.model_names.specs.Name.{Name, Part}
use Rattle.model_names.specs.Order.{name_cmp}
use Rattle.model_names.proofs.OrderLemmas.{name_cmp_total, name_cmp-IsAntisymmetric}
use Rattle.model_maps.specs.Entry.{Entry}
use Rattle.model_maps.specs.KeyMap.{KeyMap}
use Rattle.model_hosts.specs.Keys.{host_name}
use Rattle.model_hosts.specs.Hosts.{with_aliases}
use Rattle.hosts_storage.specs.WeighedView.{with_aliases_of}

-- a key that is there already changes nothing
pub insert-there : (keys : KeyMap) (name : Name) (entry : Entry) → finite.get keys name ≡ Some entry
    → finite.insert keys name entry ≡ keys
insert-there keys name entry there =
    finite.same_map name_cmp_total name_cmp-IsAntisymmetric (finite.insert keys name entry) keys (λ q. finite.get-insert name_cmp_total keys name entry q ∙ by q (tied_or_not {R = name_cmp} name_cmp-IsAntisymmetric q name))
  where
    by : (q : Name) → (eq_by_cmp name_cmp q name ≡ false) ⊎ ((eq_by_cmp name_cmp q name ≡ true) × (q ≡ name))
        → cond (eq_by_cmp name_cmp q name) (Some entry) (finite.get keys q) ≡ finite.get keys q
    by q (inl differ) = ap (λ b. cond b (Some entry) (finite.get keys q)) differ
    by q (inr tied) =
        ap (λ b. cond b (Some entry) (finite.get keys q)) tied.0 ∙ sym (ap (finite.get keys) tied.1 ∙ there)

-- the aliases of a host are those of its family and its part
pub with_aliases-of : (of_family host : Part) (aliases : List Part) (keys : KeyMap)
    → with_aliases_of (host_name of_family host) aliases keys ≡ with_aliases of_family host aliases keys
with_aliases-of of_family host [] keys = refl
with_aliases-of of_family host (alias ∷ aliases) keys = with_aliases-of of_family host aliases _
