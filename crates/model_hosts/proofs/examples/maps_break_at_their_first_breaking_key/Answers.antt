use Rattle.std.specs.Prelude.{◌≡◌, ℕ, [], codes, length}
use Rattle.std.proofs.Common.{get_or, ap, ◌∙◌, inl, inr}
use Rattle.std.specs.FinMap as finite
use Rattle.model_names.specs.Name.{Name}
use Rattle.model_names.specs.Order.{name_cmp}
use Rattle.model_names.proofs.OrderLemmas.{name_cmp_total}
use Rattle.model_maps.specs.Entry.{Entry, plain_entry}
use Rattle.model_maps.specs.KeyMap.{no_keys}
use Rattle.general_words.proofs.Maps.{entries-empty}
use Rattle.model_hosts.specs.Keys.{host_name, IsHostKey, IsAliasKey}
use Rattle.model_hosts.proofs.SmallFiles.{alias_b, alias_b_alone}
use Rattle.model_hosts.proofs.examples.maps_break_at_their_first_breaking_key.Goals as goal

abbrev six_a : Name
six_a = host_name (codes "ipv6") (codes "a")

pub returns-clause-no_host : goal.returns-clause-no_host
returns-clause-no_host c = record {
  front = [];
  entry = plain_entry [];
  behind = [];
  all = finite.entries-insert name_cmp_total no_keys alias_b (plain_entry []) ∙ rw (entries-empty name_cmp Entry);
  before = tt;
  lacks = alias_b_alone;
}

other_digits : ◌≡◌ {A = ℕ} 54 52 → ⊥
other_digits e = absurd cc

-- the address asks for the other family
no_host : IsHostKey six_a (plain_entry (codes "1")) → ⊥
no_host key = other_digits (ap (λ (n : Name). get_or (get_or n.parts 0 []) 3 0) key.is_host)

no_alias : IsAliasKey (finite.insert no_keys six_a (plain_entry (codes "1"))) six_a (plain_entry (codes "1")) → ⊥
no_alias key = let parts : ◌≡◌ {A = ℕ} 2 3 = ap (λ (n : Name). length n.parts) key.is_alias in absurd cc

pub returns-clause-other_family : goal.returns-clause-other_family
returns-clause-other_family c = record {
  front = [];
  entry = plain_entry (codes "1");
  behind = [];
  all = finite.entries-insert name_cmp_total no_keys six_a (plain_entry (codes "1")) ∙ rw (entries-empty name_cmp Entry);
  before = tt;
  lacks = λ key. elim key [ inl host ↦ no_host host | inr alias ↦ no_alias alias ];
}
