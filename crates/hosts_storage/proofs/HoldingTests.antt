-- Whether a key can be held, by its parts.
use Rattle.std.proofs.Common.{◌≡◌, ℕ, ◌==◌, ◌≤◌, Bool, List, [], ◌∷◌, length, Option, None, Some, sym, ap, subst, ◌∙◌, inl, inr}
use Rattle.std.specs.Bool.{Decides}
use Rattle.std.specs.FinMap as map
use Rattle.std.specs.List.{AllByRecursion}
use Rattle.std.specs.Option.{option_map}
use Rattle.std.specs.Prelude.{is_some}
use Rattle.std.proofs.lemmas.Bool.{eqb-true}
use Rattle.std.proofs.lemmas.List.{nil_from_length}
use Rattle.general_words.specs.Texts.{text_cmp}
use Rattle.model_names.specs.declared.namespaces.Namespace.TheVariants.{Cascading}
use Rattle.model_names.specs.ArrayPart.{last_index}
use Rattle.model_names.specs.Name.{Name, Part}
use Rattle.model_maps.specs.Entry.{Meta, Entry, plain_entry}
use Rattle.model_maps.specs.KeyMap.{KeyMap}
use Rattle.general_words.proofs.Maps.{entries-empty}
use Rattle.key_meta.specs.Same.{same_meta}
use Rattle.model_hosts.specs.Comments.{comments, texts_of}
use Rattle.model_hosts.specs.Keys.{family, host_name, IsWord, IsOneLine, IsHostsKey}
use Rattle.hosts_storage.specs.Holding.{HasComments, IsHost, IsAlias}
use Rattle.general_words.proofs.Deciding.{said}
use Rattle.key_meta.proofs.SameLemmas.{meta_decides}

pub nothing-decides : (entry : Entry) (is : Bool) → length entry.value ≡ 0 → is ≡ (length (map.entries entry.meta) == 0)
    → Decides is (entry ≡ plain_entry [])
nothing-decides entry is none test = (
  λ passes. λ i. record { value = nil_from_length entry.value none i; meta = map.empty_of_len entry.meta (map.len-entries entry.meta ∙ eqb-true (length (map.entries entry.meta)) 0 (sym test ∙ passes)) i },
  λ plain. test ∙ ap (λ (e : Entry). length (map.entries e.meta) == 0) plain ∙ ap (λ (items : List (List ℕ × List ℕ)). length items == 0) (entries-empty text_cmp (List ℕ)),
)

-- a key is there where something is found
pub there-decides : {A : Type 0} (f : A → Entry) (o : Option A) (found : Option Entry) (is : Bool)
    → option_map f o ≡ found → is ≡ is_some o → Decides is ((entry : Entry) × (found ≡ Some entry))
there-decides f None found is e test =
    (λ passes. absurd cc, λ there. let clash : ◌≡◌ {A = Option Entry} None (Some there.0) = e ∙ there.1 in absurd cc)
there-decides f (Some x) found is e test = (λ _. (f x, sym e), λ _. test)

-- metadata are comments where they are those of their texts
pub comments-decided : (meta made : Meta) (texts : List (List ℕ)) (is : Bool) → texts ≡ texts_of meta
    → made ≡ comments texts → is ≡ same_meta made meta → length texts ≤ last_index → AllByRecursion IsOneLine texts
    → Decides is (HasComments meta)
comments-decided meta made texts is e m test few lines =
    said is
    (λ (same : made ≡ meta). record {
      are_comments = sym same ∙ m ∙ ap comments e;
      few = subst (λ (ts : List (List ℕ)). length ts ≤ last_index) e few;
      one_line = subst (AllByRecursion IsOneLine) e lines;
    })
    (λ has. m ∙ ap comments e ∙ sym has.are_comments)
    (subst (λ b. Decides b (made ≡ meta)) (sym test) (meta_decides made meta))

-- an alias's key by what it needs
pub alias-decides : (keys : KeyMap) (of_family host alias : Part) (entry : Entry) (is : Bool)
    → IsWord alias × (entry ≡ plain_entry [])
    → Decides is ((found : Entry) × (map.get keys (host_name of_family host) ≡ Some found))
    → Decides is (IsAlias keys of_family host alias entry)
alias-decides keys of_family host alias entry is plain =
    said is (λ there. record { word = plain.0; plain = plain.1; host_entry = there.0; found = there.1 }) (λ key. (key.host_entry, key.found))

-- a key of two parts is a host's, or none
pub host-decides : (keys : KeyMap) (name : Name) (of_family host : Part) (entry : Entry) (is : Bool)
    → name.namespace ≡ Cascading → name.parts ≡ of_family ∷ host ∷ [] → Decides is (IsHost of_family host entry)
    → Decides is (IsHostsKey keys name entry)
host-decides keys name of_family host entry is cascading parts =
    said is
    (λ key. inl (record {
      host = host;
      is_host = λ i. record { namespace = cascading i; parts = (parts ∙ ap (λ f. f ∷ host ∷ []) key.same_family) i };
      address = key.address;
      word = key.word;
      are_comments = key.has_comments.are_comments;
      few = key.has_comments.few;
      one_line = key.has_comments.one_line;
    }))
    (λ key. elim key as (λ _. IsHost of_family host entry) [
      | inl h ↦
          let same : of_family ∷ host ∷ [] ≡ family entry.value ∷ h.host ∷ [] = sym parts ∙ ap (λ (n : Name). n.parts) h.is_host in
          record {
            same_family = cc;
            address = h.address;
            word = subst IsWord (the_second _ _ _ _ (sym same)) h.word;
            has_comments = record { are_comments = h.are_comments; few = h.few; one_line = h.one_line };
          }
      | inr a ↦ let same : of_family ∷ host ∷ [] ≡ a.of_family ∷ a.host ∷ a.alias ∷ [] = sym parts ∙ ap (λ (n : Name). n.parts) a.is_alias in absurd cc
    ])
  where
    the_second : (p q r s : Part) → p ∷ q ∷ [] ≡ r ∷ s ∷ [] → q ≡ s
    the_second p q r s e = cc

pub alias_key-decides : (keys : KeyMap) (name : Name) (of_family host alias : Part) (entry : Entry) (is : Bool)
    → name.namespace ≡ Cascading → name.parts ≡ of_family ∷ host ∷ alias ∷ []
    → Decides is (IsAlias keys of_family host alias entry) → Decides is (IsHostsKey keys name entry)
alias_key-decides keys name of_family host alias entry is cascading parts =
    said is
    (λ key. inr (record {
      of_family = of_family;
      host = host;
      alias = alias;
      is_alias = λ i. record { namespace = cascading i; parts = parts i };
      word = key.word;
      plain = key.plain;
      host_entry = key.host_entry;
      found = key.found;
    }))
    (λ key. elim key as (λ _. IsAlias keys of_family host alias entry) [
      | inl h ↦ let same : of_family ∷ host ∷ alias ∷ [] ≡ family entry.value ∷ h.host ∷ [] = sym parts ∙ ap (λ (n : Name). n.parts) h.is_host in absurd cc
      | inr a ↦
          let same : a.of_family ∷ a.host ∷ a.alias ∷ [] ≡ of_family ∷ host ∷ alias ∷ [] = sym (ap (λ (n : Name). n.parts) a.is_alias) ∙ parts in
          let family_is : a.of_family ≡ of_family = cc in
          let host_is : a.host ≡ host = cc in
          let alias_is : a.alias ≡ alias = cc in
          record {
            word = subst IsWord alias_is a.word;
            plain = a.plain;
            host_entry = a.host_entry;
            found = ap (map.get keys) (λ i. host_name (sym family_is i) (sym host_is i)) ∙ a.found;
          }
    ])
