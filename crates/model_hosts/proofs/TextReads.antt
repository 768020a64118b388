-- The text of a map that can be stored reads as it: the keys that are left, in name order, make the groups that are
-- left.
use Rattle.std.specs.Prelude.{◌≡◌, ◌≢◌, ◌≤◌, List, [], ◌∷◌, ◌++◌, length, None}
use Rattle.std.proofs.Common.{refl, sym, ap, subst, ◌∙◌, append_assoc, arith, inl, inr}
use Rattle.std.specs.FinMap as finite
use Rattle.std.specs.List.{AllByRecursion, flat_map}
use Rattle.model_names.specs.Name.{Part, Name}
use Rattle.model_names.specs.WellFormed.{IsName}
use Rattle.model_names.proofs.OrderLemmas.{name_cmp_total}
use Rattle.model_maps.specs.Entry.{Entry, plain_entry, IsValue}
use Rattle.model_maps.specs.KeyMap.{KeyMap, no_keys, weight, weight_of_key, heaviest_map}
use Rattle.model_maps.specs.Limits.{IsLimitedKey, IsLimited}
use Rattle.model_lines.specs.Reading.{Leads}
use Rattle.model_lines.proofs.Leading.{Leads-append}
use Rattle.model_lines.proofs.LineLemmas.{IsInLine, lines-ended}
use Rattle.general_words.proofs.Fronts.{next_is_new, next_is_there, next_joins, none_left, all_left, sum_by-front}
use Rattle.model_hosts.specs.Comments.{texts_of}
use Rattle.model_hosts.specs.Keys.{family, host_name, alias_name, IsWord, IsHostKey, IsAliasKey, IsStorable}
use Rattle.model_hosts.specs.Hosts.{Progress, start, host_entry, with_aliases, Step, Reads}
use Rattle.model_hosts.specs.Text.{Group, grouped, lines_of, text}
use Rattle.model_hosts.proofs.AliasOrder.{alias_follows, alias_not_first}
use Rattle.model_hosts.proofs.CommentLemmas.{texts_of-all}
use Rattle.model_hosts.proofs.GroupLines.{IsEntry, with_group, group_leads, group-in_line}
use Rattle.general_words.proofs.Lists.{all_append}

-- a map without waiting comments
abbrev at : KeyMap → Progress
at keys = record { keys = keys; waiting = [] }

-- what the groups of the keys that are left say: behind the front of a map, whose last host is h in the family f, the
-- aliases that are left of it lead to a front, from which the lines of the other groups lead to the whole
record Written (whole part : KeyMap) (f h : Part) (groups : List Part × List Group) : Type 0 where
  left : List (Name × Entry)
  cut : finite.entries whole ≡ finite.entries (with_aliases f h groups.0 part) ++ left
  words : AllByRecursion IsWord groups.0
  names : AllByRecursion (λ alias. IsName (alias_name f h alias)) groups.0
  leads : Leads Step (at (with_aliases f h groups.0 part)) (flat_map lines_of groups.1) (at whole)
  in_line : AllByRecursion (AllByRecursion IsInLine) (flat_map lines_of groups.1)

-- the same where the next key is a host
record WrittenGroups (whole part : KeyMap) (groups : List Group) : Type 0 where
  leads : Leads Step (at part) (flat_map lines_of groups) (at whole)
  in_line : AllByRecursion (AllByRecursion IsInLine) (flat_map lines_of groups)

grouped-host : (f h : Part) (name : Name) (entry : Entry) (keys : List (Name × Entry)) → name ≡ host_name f h
    → grouped ((name, entry) ∷ keys)
    ≡ ([], record { host = h; entry = entry; aliases = (grouped keys).0 } ∷ (grouped keys).1)
grouped-host f h name entry keys e = ap (λ n. grouped ((n, entry) ∷ keys)) e

grouped-alias : (f h a : Part) (name : Name) (entry : Entry) (keys : List (Name × Entry)) → name ≡ alias_name f h a
    → grouped ((name, entry) ∷ keys) ≡ (a ∷ (grouped keys).0, (grouped keys).1)
grouped-alias f h a name entry keys e = ap (λ n. grouped ((n, entry) ∷ keys)) e

-- ---- a host

module _ (whole : KeyMap) (limited : IsLimited whole) (part : KeyMap) (name : Name) (entry : Entry) (rest : List (Name × Entry)) (cut : finite.entries whole ≡ finite.entries part ++ (name, entry) ∷ rest) (key : IsHostKey name entry) where
  key_limited : IsLimitedKey name entry
  key_limited = limited.each name entry (next_is_there name_cmp_total whole part (name, entry) rest cut)

  -- the key and its entry are those that its line gives
  made : finite.insert part name entry
      ≡ finite.insert part (host_name (family entry.value) key.host) (host_entry entry.value (texts_of entry.meta))
  made =
      let same : entry ≡ host_entry entry.value (texts_of entry.meta) = λ i. record { value = entry.value; meta = key.are_comments i } in
      λ i. finite.insert part (key.is_host i) (same i)

  host_is_entry : (groups : List Part × List Group)
      → Written whole (finite.insert part name entry) (family entry.value) key.host groups
      → IsEntry part entry.value key.host (texts_of entry.meta) groups.0
  host_is_entry groups w = record {
    address_word = key.address;
    host_word = key.word;
    alias_words = w.words;
    is_new = subst (λ n. finite.get part n ≡ None) key.is_host (next_is_new name_cmp_total whole part (name, entry) rest cut);
    is_name = subst IsName key.is_host key_limited.is_name;
    are_names = w.names;
    is_value = key_limited.is_value;
    are_values = texts_of-all IsValue entry.meta (λ meta_name t found. (key_limited.each_meta meta_name t found).is_value);
    one_line = key.one_line;
    few = key.few;
    light = subst (λ keys. weight (with_aliases (family entry.value) key.host groups.0 keys) ≤ heaviest_map) made
        (omega (arith, limited.light, sum_by-front (λ (k : Name × Entry). weight_of_key k.0 k.1) whole (with_aliases (family entry.value) key.host groups.0 (finite.insert part name entry)) w.left w.cut));
  }

  host_groups : (groups : List Part × List Group)
      → Written whole (finite.insert part name entry) (family entry.value) key.host groups
      → WrittenGroups whole part (record { host = key.host; entry = entry; aliases = groups.0 } ∷ groups.1)
  host_groups groups w =
      let is = host_is_entry groups w in
      let group : Group = record { host = key.host; entry = entry; aliases = groups.0 } in
      record {
        leads =
            Leads-append Step (lines_of group) (flat_map lines_of groups.1) (at part) (at (with_group part entry.value key.host (texts_of entry.meta) groups.0)) (at whole)
            (group_leads part entry.value key.host (texts_of entry.meta) groups.0 is)
            (subst (λ keys. Leads Step (at (with_aliases (family entry.value) key.host groups.0 keys)) (flat_map lines_of groups.1) (at whole)) made w.leads);
        in_line = all_append (AllByRecursion IsInLine) (lines_of group) (flat_map lines_of groups.1) (group-in_line part entry.value key.host (texts_of entry.meta) groups.0 is) w.in_line;
      }

-- ---- the keys that are left

written-host : (whole : KeyMap) → IsLimited whole
    → (part : KeyMap) (f h : Part) (name : Name) (entry : Entry) (rest : List (Name × Entry))
    → finite.entries whole ≡ finite.entries part ++ (name, entry) ∷ rest → (key : IsHostKey name entry)
    → Written whole (finite.insert part name entry) (family entry.value) key.host (grouped rest)
    → Written whole part f h (grouped ((name, entry) ∷ rest))
written-host whole limited part f h name entry rest cut key w =
    let groups = host_groups whole limited part name entry rest cut key (grouped rest) w in
    subst (Written whole part f h) (sym (grouped-host (family entry.value) key.host name entry rest key.is_host)) (record {
      left = (name, entry) ∷ rest;
      cut = cut;
      words = tt;
      names = tt;
      leads = groups.leads;
      in_line = groups.in_line;
    })

written-alias : (whole : KeyMap) → IsLimited whole
    → (part : KeyMap) (f h : Part) (name : Name) (entry : Entry) (rest : List (Name × Entry))
    → finite.entries whole ≡ finite.entries part ++ (name, entry) ∷ rest → (key : IsAliasKey whole name entry)
    → (key.of_family ≡ f) × (key.host ≡ h) → Written whole (finite.insert part name entry) f h (grouped rest)
    → Written whole part f h (grouped ((name, entry) ∷ rest))
written-alias whole limited part f h name entry rest cut key same w =
    let is_alias : name ≡ alias_name f h key.alias = key.is_alias ∙ (λ i. alias_name (same.0 i) (same.1 i) key.alias) in
    let there = next_is_there name_cmp_total whole part (name, entry) rest cut in
    let joined : Written whole (finite.insert part (alias_name f h key.alias) (plain_entry [])) f h (grouped rest) = subst (λ keys. Written whole keys f h (grouped rest)) (λ i. finite.insert part (is_alias i) (key.plain i)) w in
    subst (Written whole part f h) (sym (grouped-alias f h key.alias name entry rest is_alias)) (record {
      left = joined.left;
      cut = joined.cut;
      words = (key.word, joined.words);
      names = (subst IsName is_alias (limited.each name entry there).is_name, joined.names);
      leads = joined.leads;
      in_line = joined.in_line;
    })

-- one more alias behind the last host
one_alias_more : (front : List (Name × Entry)) (host : Name × Entry) (aliases : List (Name × Entry))
    (key : Name × Entry) (rest all : List (Name × Entry)) → all ≡ front ++ host ∷ (aliases ++ key ∷ rest)
    → all ≡ front ++ host ∷ ((aliases ++ key ∷ []) ++ rest)
one_alias_more front host aliases key rest all e =
    e ∙ ap (λ es. front ++ host ∷ es) (sym (append_assoc aliases (key ∷ []) rest))

written : (whole : KeyMap) → IsLimited whole → IsStorable whole
    → (rest : List (Name × Entry)) (part : KeyMap) (f h : Part) (front : List (Name × Entry)) (last : Entry)
    (aliases : List (Name × Entry)) → finite.entries whole ≡ finite.entries part ++ rest
    → finite.entries whole ≡ front ++ (host_name f h, last) ∷ (aliases ++ rest)
    → AllByRecursion (λ (key : Name × Entry). length key.0.parts ≢ 2) aliases → Written whole part f h (grouped rest)
written whole limited storable [] part f h front last aliases cut order no_hosts =
    record { left = []; cut = cut; words = tt; names = tt; leads = λ i. at (none_left whole part cut i); in_line = tt }
written whole limited storable (key ∷ rest) part f h front last aliases cut order no_hosts =
    let there = next_is_there name_cmp_total whole part key rest cut in
    let joined = next_joins name_cmp_total whole part key rest cut in
    elim (storable key.0 key.1 there) [
      | inl host ↦
          let next : finite.entries whole ≡ (front ++ (host_name f h, last) ∷ aliases) ++ (host_name (family key.1.value) host.host, key.1) ∷ ([] ++ rest) =
          order ∙ sym (append_assoc front ((host_name f h, last) ∷ aliases) (key ∷ rest)) ∙ ap (λ n. (front ++ (host_name f h, last) ∷ aliases) ++ (n, key.1) ∷ rest) host.is_host in
          written-host whole limited part f h key.0 key.1 rest cut host
          (written whole limited storable rest (finite.insert part key.0 key.1) (family key.1.value) host.host (front ++ (host_name f h, last) ∷ aliases) key.1 [] joined next tt)
      | inr alias ↦
          let placed : finite.entries whole ≡ front ++ (host_name f h, last) ∷ (aliases ++ (alias_name alias.of_family alias.host alias.alias, key.1) ∷ rest) = order ∙ ap (λ n. front ++ (host_name f h, last) ∷ (aliases ++ (n, key.1) ∷ rest)) alias.is_alias in
          let same = alias_follows whole front f h last aliases alias.of_family alias.host alias.alias key.1 rest placed no_hosts alias.host_entry alias.found in
          let no_host : length key.0.parts ≢ 2 = λ e. three alias.of_family alias.host alias.alias (sym (ap (λ (n : Name). length n.parts) alias.is_alias) ∙ e) in
          written-alias whole limited part f h key.0 key.1 rest cut alias same
          (written whole limited storable rest (finite.insert part key.0 key.1) f h front last (aliases ++ key ∷ []) joined (one_alias_more front (host_name f h, last) aliases key rest (finite.entries whole) order)
          (all_append (λ (k : Name × Entry). length k.0.parts ≢ 2) aliases (key ∷ []) no_hosts (no_host, tt)))
    ]
  where
    three : (x y z : Part) → length (x ∷ y ∷ z ∷ []) ≡ 2 → ⊥
    three x y z e = absurd cc

-- ---- all keys

all_written : (whole : KeyMap) → IsLimited whole → IsStorable whole → (all : List (Name × Entry))
    → finite.entries whole ≡ all → WrittenGroups whole no_keys (grouped all).1
all_written whole limited storable [] e =
    record {
      leads = λ i. at (none_left whole no_keys (all_left whole ∙ ap (λ es. finite.entries no_keys ++ es) e) i);
      in_line = tt;
    }
all_written whole limited storable (key ∷ rest) e =
    let cut : finite.entries whole ≡ finite.entries no_keys ++ key ∷ rest = all_left whole ∙ ap (λ es. finite.entries no_keys ++ es) e in
    let there = next_is_there name_cmp_total whole no_keys key rest cut in
    let joined = next_joins name_cmp_total whole no_keys key rest cut in
    elim (storable key.0 key.1 there) [
      | inl host ↦
          let next : finite.entries whole ≡ [] ++ (host_name (family key.1.value) host.host, key.1) ∷ ([] ++ rest) = e ∙ ap (λ n. (n, key.1) ∷ rest) host.is_host in
          let w = written whole limited storable rest (finite.insert no_keys key.0 key.1) (family key.1.value) host.host [] key.1 [] joined next tt in
          subst (λ (g : List Part × List Group). WrittenGroups whole no_keys g.1) (sym (grouped-host (family key.1.value) host.host key.0 key.1 rest host.is_host))
          (host_groups whole limited no_keys key.0 key.1 rest cut host (grouped rest) w)
      | inr alias ↦ absurd (alias_not_first whole alias.of_family alias.host alias.alias key.1 rest (e ∙ ap (λ n. (n, key.1) ∷ rest) alias.is_alias) alias.host_entry alias.found)
    ]

pub text-reads : (keys : KeyMap) → IsLimited keys → IsStorable keys → Reads (text keys) keys
text-reads keys limited storable =
    let all = all_written keys limited storable (finite.entries keys) refl in
    record {
      waiting = [];
      leads = subst (λ ls. Leads Step start ls (at keys)) (sym (lines-ended (flat_map lines_of (grouped (finite.entries keys)).1) all.in_line)) all.leads;
    }
