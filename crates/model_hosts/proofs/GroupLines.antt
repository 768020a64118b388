-- The lines of a group add its host with its comments and its aliases.
use Rattle.std.specs.Prelude.{◌≡◌, ℕ, ◌<◌, ◌≤◌, List, [], ◌∷◌, ◌++◌, length, map, None}
use Rattle.std.proofs.Common.{refl, sym, subst, append_assoc, append-nil, lit<}
use Rattle.std.specs.FinMap as finite
use Rattle.std.specs.List.{AllByRecursion, flat_map}
use Rattle.std.specs.Str.{IsUtf8}
use Rattle.std.proofs.lemmas.Str.{IsUtf8-append, IsUtf8-nil}
use Rattle.model_names.specs.ArrayPart.{last_index}
use Rattle.model_names.specs.Name.{Part}
use Rattle.model_names.specs.WellFormed.{IsName}
use Rattle.model_names.proofs.PartLemmas.{IsUtf8-cons}
use Rattle.model_maps.specs.Entry.{IsValue}
use Rattle.model_maps.specs.KeyMap.{KeyMap, weight, heaviest_map}
use Rattle.model_lines.specs.Reading.{Leads}
use Rattle.model_lines.proofs.AllLemmas.{all-weaker}
use Rattle.model_lines.proofs.Leading.{Leads-append}
use Rattle.model_lines.proofs.LineLemmas.{IsInLine}
use Rattle.model_hosts.specs.Keys.{family, host_name, alias_name, IsWordByte, IsWord, IsOneLine}
use Rattle.model_hosts.specs.Hosts.{host_entry, with_aliases, Does, Step}
use Rattle.model_hosts.specs.Text.{host_line}
use Rattle.model_hosts.proofs.WrittenLines.{meaning-comment, comment-in_line, meaning-host_line, host_line-in_line}
use Rattle.general_words.proofs.Lists.{all_append, all_map}

-- comments wait one behind the other
comment_steps : (keys : KeyMap) (waiting : List (List ℕ)) (text : List ℕ) → IsValue text → IsOneLine text
    → Step (record { keys = keys; waiting = waiting }) (35 ∷ text) (record { keys = keys; waiting = waiting ++ text ∷ [] })
comment_steps keys waiting text is_value one_line = record {
  utf8 = IsUtf8-cons 35 text (lit< tt) is_value.utf8;
  does = subst (λ m. Does m (record { keys = keys; waiting = waiting }) (record { keys = keys; waiting = waiting ++ text ∷ [] })) (sym (meaning-comment text one_line)) refl;
}

comments_lead : (keys : KeyMap) (texts waiting : List (List ℕ)) → AllByRecursion IsValue texts
    → AllByRecursion IsOneLine texts
    → Leads Step (record { keys = keys; waiting = waiting }) (map (λ text. 35 ∷ text) texts) (record { keys = keys; waiting = waiting ++ texts })
comments_lead keys [] waiting values one_line = λ i. record { keys = keys; waiting = sym (append-nil waiting) i }
comments_lead keys (text ∷ texts) waiting values one_line = (
  record { keys = keys; waiting = waiting ++ text ∷ [] },
  comment_steps keys waiting text values.0 one_line.0,
  subst (λ (w : List (List ℕ)). Leads Step (record { keys = keys; waiting = waiting ++ text ∷ [] }) (map (λ t. 35 ∷ t) texts) (record { keys = keys; waiting = w })) (append_assoc waiting (text ∷ []) texts)
      (comments_lead keys texts (waiting ++ text ∷ []) values.1 one_line.1),
)

-- ---- the line of an entry

row-utf8 : (of_family host : Part) (aliases : List Part)
    → AllByRecursion (λ alias. IsName (alias_name of_family host alias)) aliases
    → IsUtf8 (flat_map (λ alias. 32 ∷ alias) aliases)
row-utf8 of_family host [] names = IsUtf8-nil
row-utf8 of_family host (alias ∷ aliases) names =
    IsUtf8-append (32 ∷ alias) (flat_map (λ a. 32 ∷ a) aliases) (IsUtf8-cons 32 alias (lit< tt) names.0.parts.1.1.0.utf8) (row-utf8 of_family host aliases names.1)

-- what the entry of a group must meet
pub record IsEntry (part : KeyMap) (address : List ℕ) (host : Part) (texts : List (List ℕ)) (aliases : List Part) : Type 0 where
  pub address_word : IsWord address
  pub host_word : IsWord host
  pub alias_words : AllByRecursion IsWord aliases
  pub is_new : finite.get part (host_name (family address) host) ≡ None
  pub is_name : IsName (host_name (family address) host)
  pub are_names : AllByRecursion (λ alias. IsName (alias_name (family address) host alias)) aliases
  pub is_value : IsValue address
  pub are_values : AllByRecursion IsValue texts
  pub one_line : AllByRecursion IsOneLine texts
  pub few : length texts ≤ last_index
  pub light : weight (with_aliases (family address) host aliases (finite.insert part (host_name (family address) host) (host_entry address texts))) ≤ heaviest_map

-- the map with the group
abbrev pub with_group : KeyMap → List ℕ → Part → List (List ℕ) → List Part → KeyMap
with_group part address host texts aliases =
    with_aliases (family address) host aliases (finite.insert part (host_name (family address) host) (host_entry address texts))

entry_steps : (part : KeyMap) (address : List ℕ) (host : Part) (texts : List (List ℕ)) (aliases : List Part)
    → IsEntry part address host texts aliases
    → Step (record { keys = part; waiting = texts }) (host_line address host aliases) (record { keys = with_group part address host texts aliases; waiting = [] })
entry_steps part address host texts aliases is = record {
  utf8 = IsUtf8-append address (9 ∷ (host ++ flat_map (λ a. 32 ∷ a) aliases)) is.is_value.utf8
      (IsUtf8-cons 9 (host ++ flat_map (λ a. 32 ∷ a) aliases) (lit< tt) (IsUtf8-append host (flat_map (λ a. 32 ∷ a) aliases) is.is_name.parts.1.0.utf8 (row-utf8 (family address) host aliases is.are_names)));
  does = subst (λ m. Does m (record { keys = part; waiting = texts }) (record { keys = with_group part address host texts aliases; waiting = [] })) (sym (meaning-host_line address host aliases is.address_word is.host_word is.alias_words)) (record {
    is_new = is.is_new;
    is_name = is.is_name;
    are_names = is.are_names;
    is_value = is.is_value;
    no_nul = all-weaker IsWordByte (λ b. 0 < b) (λ b h. h.some) address is.address_word.bytes;
    are_values = is.are_values;
    few = is.few;
    added = refl;
    light = is.light;
  });
}

-- the lines of a group
abbrev pub group_lines : List ℕ → Part → List (List ℕ) → List Part → List (List ℕ)
group_lines address host texts aliases = map (λ text. 35 ∷ text) texts ++ host_line address host aliases ∷ []

pub group_leads : (part : KeyMap) (address : List ℕ) (host : Part) (texts : List (List ℕ)) (aliases : List Part)
    → IsEntry part address host texts aliases
    → Leads Step (record { keys = part; waiting = [] }) (group_lines address host texts aliases) (record { keys = with_group part address host texts aliases; waiting = [] })
group_leads part address host texts aliases is =
    Leads-append Step (map (λ text. 35 ∷ text) texts) (host_line address host aliases ∷ []) (record { keys = part; waiting = [] }) (record { keys = part; waiting = texts }) (record { keys = with_group part address host texts aliases; waiting = [] })
    (comments_lead part texts [] is.are_values is.one_line)
    (_, entry_steps part address host texts aliases is, refl)

pub group-in_line : (part : KeyMap) (address : List ℕ) (host : Part) (texts : List (List ℕ)) (aliases : List Part)
    → IsEntry part address host texts aliases
    → AllByRecursion (AllByRecursion IsInLine) (group_lines address host texts aliases)
group-in_line part address host texts aliases is =
    all_append (AllByRecursion IsInLine) (map (λ text. 35 ∷ text) texts) (host_line address host aliases ∷ [])
    (all_map (AllByRecursion IsInLine) (λ text. 35 ∷ text) texts (all-weaker IsOneLine (λ text. AllByRecursion IsInLine (35 ∷ text)) comment-in_line texts is.one_line))
    (host_line-in_line address host aliases is.address_word is.host_word is.alias_words, tt)
