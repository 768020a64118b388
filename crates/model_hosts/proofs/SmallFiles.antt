-- For worked files: an entry with comments and an alias that stands twice.
use Rattle.std.specs.Prelude.{◌≡◌, ℕ, ◌+◌, ◌≤◌, List, [], ◌∷◌, codes, length, Option, None, Some, true}
use Rattle.std.proofs.Common.{refl, sym, ap, subst, ◌∙◌, arith, lit≤, lit<, inl, inr}
use Rattle.std.specs.FinMap as finite
use Rattle.std.specs.List.{list_all}
use Rattle.std.proofs.lemmas.Cmp.{nat_list_cmp_total}
use Rattle.model_names.specs.Name.{Name}
use Rattle.model_names.specs.Order.{name_cmp}
use Rattle.model_names.specs.Spelling.{spelling}
use Rattle.model_names.specs.WellFormed.{IsName}
use Rattle.model_names.proofs.NameLemmas.{spelled_is_name}
use Rattle.model_names.proofs.OrderLemmas.{name_cmp_total, name_cmp-IsAntisymmetric}
use Rattle.model_names.proofs.PartLemmas.{text_from_test}
use Rattle.model_names.proofs.SpellsLemmas.{is_ascii_text_byte, Spells-from_tests}
use Rattle.general_words.specs.Texts.{text_cmp}
use Rattle.general_words.proofs.Maps.{sum_by-insert, sum_by-empty, insert-insert, get-insert_same}
use Rattle.model_maps.specs.Entry.{Entry, plain_entry, meta_bytes}
use Rattle.model_maps.specs.KeyMap.{KeyMap, no_keys, weight, heaviest_map}
use Rattle.model_lines.proofs.EachKey.{found_nowhere, found_in_grown}
use Rattle.model_maps.proofs.MapLemmas.{weight-insert, weight-no_keys, weight_of_key-plain, IsValue-from_ascii}
use Rattle.model_hosts.specs.Line.{Meaning, Comment, Gives, meaning}
use Rattle.model_hosts.specs.Comments.{comment_name, comments, comments_from}
use Rattle.model_hosts.specs.Keys.{host_name, alias_name, IsHostKey, IsAliasKey, IsHostsKey}
use Rattle.model_hosts.specs.Hosts.{Progress, start, host_entry, AddsHost, Does, Step, Reads}
use Rattle.model_hosts.proofs.CommentLemmas.{comments_from-none, comment_name-IsMetaName}

abbrev pub host_a : Name
host_a = host_name (codes "ipv4") (codes "a")

abbrev pub alias_b : Name
alias_b = alias_name (codes "ipv4") (codes "a") (codes "b")

abbrev pub texts : List (List ℕ)
texts = codes " c" ∷ codes " d" ∷ []

abbrev pub only_a : KeyMap
only_a = finite.insert no_keys host_a (host_entry (codes "1") texts)

abbrev pub a_and_b : KeyMap
a_and_b = finite.insert only_a alias_b (plain_entry [])

host_a-is_name : IsName host_a
host_a-is_name =
    spelled_is_name (codes "/ipv4/a") host_a (Spells-from_tests (codes "/ipv4/a") host_a (codes "ipv4/a") refl refl refl (lit≤ tt))

alias_b-is_name : IsName alias_b
alias_b-is_name =
    spelled_is_name (codes "/ipv4/a/b") alias_b (Spells-from_tests (codes "/ipv4/a/b") alias_b (codes "ipv4/a/b") refl refl refl (lit≤ tt))

-- ---- what they weigh

comments-weigh : meta_bytes (comments texts) ≤ 8196
comments-weigh =
    let some : length (codes " c") ≡ 2 = refl in
    let more : length (codes " d") ≡ 2 = refl in
    let first = (comment_name-IsMetaName 0 (lit≤ tt)).limit in
    let second = (comment_name-IsMetaName 1 (lit≤ tt)).limit in
    let last = sum_by-insert nat_list_cmp_total (λ (m : List ℕ × List ℕ). length m.0 + length m.1) finite.empty (comment_name 1) (codes " d") (finite.get-empty text_cmp (comment_name 1)) in
    let all = sum_by-insert nat_list_cmp_total (λ (m : List ℕ × List ℕ). length m.0 + length m.1) (comments_from 1 (codes " d" ∷ [])) (comment_name 0) (codes " c") (comments_from-none 1 (codes " d" ∷ []) 0 (lit< tt) (lit≤ tt)) in
    omega (arith, last, all, sum_by-empty text_cmp (λ (m : List ℕ × List ℕ). length m.0 + length m.1))

b_is_new : finite.get only_a alias_b ≡ None
b_is_new =
    finite.get-insert name_cmp_total no_keys host_a (host_entry (codes "1") texts) alias_b
    ∙ finite.get-empty name_cmp alias_b

a_and_b-light : weight a_and_b ≤ heaviest_map
a_and_b-light =
    let first = weight-insert no_keys host_a (host_entry (codes "1") texts) (finite.get-empty name_cmp host_a) in
    let second = weight-insert only_a alias_b (plain_entry []) b_is_new in
    let plain = weight_of_key-plain alias_b [] in
    let spelled : length (spelling host_a) ≡ 7 = refl in
    let spelled_alias : length (spelling alias_b) ≡ 9 = refl in
    omega (arith, first, second, plain, spelled, spelled_alias, comments-weigh, weight-no_keys)

-- ---- their lines

-- the entry, of which the alias stands twice
pub adds_a_and_b : AddsHost (record { keys = no_keys; waiting = codes " c" ∷ [] }) (codes "1") (codes "a") (codes "b" ∷ codes "b" ∷ []) (Some (codes " d")) (record { keys = a_and_b; waiting = [] })
adds_a_and_b =
    let again = insert-insert name_cmp_total name_cmp-IsAntisymmetric only_a alias_b (plain_entry []) (plain_entry []) in
    record {
      is_new = finite.get-empty name_cmp host_a;
      is_name = host_a-is_name;
      are_names = (alias_b-is_name, (alias_b-is_name, tt));
      is_value = IsValue-from_ascii (codes "1") (omega arith) (lit≤ tt);
      no_nul = (lit< tt, tt);
      are_values = (IsValue-from_ascii (codes " c") (lit< tt, (lit< tt, tt)) (lit≤ tt), (IsValue-from_ascii (codes " d") (lit< tt, (lit< tt, tt)) (lit≤ tt), tt));
      few = lit≤ tt;
      added = λ i. record { keys = sym again i; waiting = [] };
      light = a_and_b-light;
    }

-- a host alone
abbrev pub plain_a : KeyMap
plain_a = finite.insert no_keys host_a (plain_entry (codes "1"))

plain_a-light : weight plain_a ≤ heaviest_map
plain_a-light =
    let first = weight-insert no_keys host_a (plain_entry (codes "1")) (finite.get-empty name_cmp host_a) in
    let plain = weight_of_key-plain host_a (codes "1") in
    let spelled : length (spelling host_a) ≡ 7 = refl in
    let value : length (codes "1") ≡ 1 = refl in
    omega (arith, first, plain, spelled, value, weight-no_keys)

pub adds_plain_a : AddsHost (record { keys = no_keys; waiting = [] }) (codes "1") (codes "a") [] None (record { keys = plain_a; waiting = [] })
adds_plain_a = record {
  is_new = finite.get-empty name_cmp host_a;
  is_name = host_a-is_name;
  are_names = tt;
  is_value = IsValue-from_ascii (codes "1") (omega arith) (lit≤ tt);
  no_nul = (lit< tt, tt);
  are_values = tt;
  few = lit≤ tt;
  added = refl;
  light = plain_a-light;
}

pub plain_a_has : finite.get plain_a host_a ≡ None → ⊥
plain_a_has none =
    let clash : ◌≡◌ {A = Option Entry} None (Some (plain_entry (codes "1"))) = sym none ∙ get-insert_same name_cmp_total no_keys host_a (plain_entry (codes "1")) in absurd cc

-- a line of ASCII with its meaning
pub says : (line : List ℕ) (m : Meaning) (before after : Progress) → list_all is_ascii_text_byte line ≡ true
    → meaning line ≡ m → Does m before after → Step before line after
says line m before after ascii is does =
    record { utf8 = (text_from_test line ascii).utf8; does = subst (λ n. Does n before after) (sym is) does }

abbrev one_waits : Progress
one_waits = record { keys = no_keys; waiting = codes " c" ∷ [] }

abbrev entered : Progress
entered = record { keys = a_and_b; waiting = [] }

abbrev another_waits : Progress
another_waits = record { keys = a_and_b; waiting = codes "e" ∷ [] }

-- a comment, the entry with its own, and a comment behind it
pub entry_reads : Reads (codes "# c\n1\ta b b # d\r\n#e") a_and_b
entry_reads = record {
  waiting = another_waits.waiting;
  leads = (
    one_waits,
    says (codes "# c") (Comment (codes " c")) start one_waits refl refl refl,
    (
      entered,
      says (codes "1\ta b b # d\r") (Gives (codes "1") (codes "a") (codes "b" ∷ codes "b" ∷ []) (Some (codes " d"))) one_waits entered refl refl adds_a_and_b,
      (another_waits, says (codes "#e") (Comment (codes "e")) entered another_waits refl refl refl, refl),
    ),
  );
}

-- ---- an alias alone

two_parts : (name : Name) (entry : Entry) → IsHostKey name entry → length name.parts ≡ 2
two_parts name entry key = ap (λ (n : Name). length n.parts) key.is_host

no_host : IsAliasKey (finite.insert no_keys alias_b (plain_entry [])) alias_b (plain_entry []) → ⊥
no_host key =
    let parts : ◌≡◌ {A = ℕ} 2 3 = found_in_grown no_keys alias_b (plain_entry []) (λ n e. length n.parts ≡ 3) refl (λ q e found. absurd (found_nowhere q e found)) (host_name key.of_family key.host) key.host_entry key.found in
    absurd cc

-- is neither a host's key nor an alias's
pub alias_b_alone : IsHostsKey (finite.insert no_keys alias_b (plain_entry [])) alias_b (plain_entry []) → ⊥
alias_b_alone (inl host) = let parts : ◌≡◌ {A = ℕ} 3 2 = two_parts alias_b (plain_entry []) host in absurd cc
alias_b_alone (inr alias) = no_host alias
