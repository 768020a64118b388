-- A line leads to one end at most, it can be told whether to any, and it keeps a map that can be stored.
use Rattle.std.specs.Prelude.{◌≡◌, ◌≢◌, ℕ, ◌+◌, ◌<◌, ◌≤◌, Bool, true, false, List, [], ◌∷◌, ◌++◌, length, Option, Some, None}
use Rattle.std.proofs.Common.{cond, refl, sym, ap, subst, ◌∙◌, arith, inl, inr, get_or}
use Rattle.std.specs.FinMap as finite
use Rattle.std.specs.List.{AllByRecursion}
use Rattle.std.specs.Ordering.{eq_by_cmp}
use Rattle.std.proofs.lemmas.Bool.{cases_eq}
use Rattle.std.proofs.lemmas.Str.{IsUtf8-nil}
use Rattle.model_names.specs.ArrayPart.{last_index}
use Rattle.model_names.specs.Name.{Part, Name}
use Rattle.model_names.specs.Order.{name_cmp}
use Rattle.model_names.specs.WellFormed.{IsName}
use Rattle.model_names.proofs.OrderLemmas.{name_cmp_total}
use Rattle.general_words.specs.Texts.{text_cmp}
use Rattle.general_words.proofs.Lists.{all_append}
use Rattle.model_formats.proofs.Telling.{names-told}
use Rattle.model_maps.specs.Entry.{Entry, plain_entry, IsValue}
use Rattle.model_maps.specs.KeyMap.{KeyMap, no_keys, weight, heaviest_map}
use Rattle.model_maps.specs.Limits.{IsLimitedKey, IsLimited}
use Rattle.model_lines.specs.Lines.{lines}
use Rattle.model_lines.proofs.EachKey.{EachHas-no_keys, EachHas-insert, found_in_grown}
use Rattle.model_lines.proofs.Leading.{IsFunctional, IsDecided, Leads-kept}
use Rattle.model_lines.proofs.LineLemmas.{IsInLine, lines-in_line}
use Rattle.general_words.proofs.Maps.{get-insert_same}
use Rattle.model_maps.proofs.MapLemmas.{weight-no_keys}
use Rattle.model_lines.proofs.Telling.{IsTold, IsFound, both-told, either-told, le-told, none-told, texts-told, all-told, utf8-told, value-told, name-told, meta-told}
use Rattle.model_hosts.specs.Line.{Meaning, Skipped, Comment, Gives, Unreadable, meaning}
use Rattle.model_hosts.specs.Comments.{comments, texts_of}
use Rattle.model_hosts.specs.Keys.{family, host_name, alias_name, IsWordByte, IsWord, IsOneLine, IsHostKey, IsAliasKey, IsHostsKey, IsStorable}
use Rattle.model_hosts.specs.Hosts.{Progress, start, with_own, host_entry, with_aliases, AddsHost, Does, Step, Reads}
use Rattle.model_hosts.proofs.CommentLemmas.{texts_of-comments, comments-limited}
use Rattle.model_hosts.proofs.WordLemmas.{IsToken, IsOwn, IsFine, word-from_token, fine-meaning}

-- ---- one end

Does-once : (m : Meaning) (before a b : Progress) → Does m before a → Does m before b → a ≡ b
Does-once Skipped before a b p q = p ∙ sym q
Does-once (Comment text) before a b p q = p ∙ sym q
Does-once (Gives address host aliases own) before a b p q = p.added ∙ sym q.added
Does-once Unreadable before a b p q = absurd p

pub Step-once : IsFunctional Step
Step-once before line a b p q = Does-once (meaning line) before a b p.does q.does

-- ---- whether there is one

-- an entry's conditions, and what it makes
abbrev Made : Progress → List ℕ → List ℕ → List (List ℕ) → Option (List ℕ) → Progress
Made before address host aliases own =
    record {
      keys = with_aliases (family address) host aliases (finite.insert before.keys (host_name (family address) host) (host_entry address (with_own before.waiting own)));
      waiting = [];
    }

abbrev Fits : Progress → List ℕ → List ℕ → List (List ℕ) → Option (List ℕ) → Type 0
Fits before address host aliases own =
    (finite.get before.keys (host_name (family address) host) ≡ None) × (IsName (host_name (family address) host) × (AllByRecursion (λ alias. IsName (alias_name (family address) host alias)) aliases × (IsValue address × (AllByRecursion (λ b. 0 < b) address
    × (AllByRecursion IsValue (with_own before.waiting own) × ((length (with_own before.waiting own) ≤ last_index) × (weight (Made before address host aliases own).keys ≤ heaviest_map)))))))

fits-told : (before : Progress) (address host : List ℕ) (aliases : List (List ℕ)) (own : Option (List ℕ))
    → IsTold (Fits before address host aliases own)
fits-told before address host aliases own =
    both-told (none-told (finite.get before.keys (host_name (family address) host))) (both-told (name-told (host_name (family address) host)) (both-told (all-told (λ alias. IsName (alias_name (family address) host alias)) (λ alias. name-told (alias_name (family address) host alias)) aliases) (both-told (value-told address) (both-told (all-told (λ b. 0 < b) (λ b. le-told 1 b) address)
    (both-told (all-told IsValue value-told (with_own before.waiting own)) (both-told (le-told (length (with_own before.waiting own)) last_index) (le-told (weight (Made before address host aliases own).keys) heaviest_map)))))))

AddsHost-told : (before : Progress) (address host : List ℕ) (aliases : List (List ℕ)) (own : Option (List ℕ))
    → IsFound (AddsHost before address host aliases own)
AddsHost-told before address host aliases own =
    elim (fits-told before address host aliases own) [
      | inl fits ↦ inl (
        Made before address host aliases own,
        record {
          is_new = fits.0;
          is_name = fits.1.0;
          are_names = fits.1.1.0;
          is_value = fits.1.1.1.0;
          no_nul = fits.1.1.1.1.0;
          are_values = fits.1.1.1.1.1.0;
          few = fits.1.1.1.1.1.1.0;
          added = refl;
          light = fits.1.1.1.1.1.1.1;
        },
      )
      | inr bad ↦ inr (λ after adds.
          let light = subst (λ (p : Progress). weight p.keys ≤ heaviest_map) adds.added adds.light in
          bad (adds.is_new, (adds.is_name, (adds.are_names, (adds.is_value, (adds.no_nul, (adds.are_values, (adds.few, light))))))))
    ]

Does-told : (m : Meaning) (before : Progress) → IsFound (Does m before)
Does-told Skipped before = inl (before, refl)
Does-told (Comment text) before = inl (record { keys = before.keys; waiting = before.waiting ++ text ∷ [] }, refl)
Does-told (Gives address host aliases own) before = AddsHost-told before address host aliases own
Does-told Unreadable before = inr (λ after h. h)

pub Step-told : IsDecided Step
Step-told before line =
    elim (utf8-told line) [
      | inl utf8 ↦ elim (Does-told (meaning line) before) [
        | inl does ↦ inl (does.0, record { utf8 = utf8; does = does.1 })
        | inr none ↦ inr (λ after step. none after step.does)
      ]
      | inr bad ↦ inr (λ after step. bad step.utf8)
    ]

-- ---- whether a key can be stored

different-told : (a b : ℕ) → IsTold (a ≢ b)
different-told a b = elim (cases_eq a b) [ inl same ↦ inr (λ h. h same) | inr other ↦ inl other ]

filled-told : (word : List ℕ) → IsTold (word ≢ [])
filled-told [] = inr (λ h. h refl)
filled-told (b ∷ word) = inl (λ e. absurd cc)

byte-told : (b : ℕ) → IsTold (IsWordByte b)
byte-told b =
    elim (both-told (le-told 1 b) (both-told (different-told b 9) (both-told (different-told b 10) (both-told (different-told b 13) (both-told (different-told b 32) (different-told b 35)))))) [
      | inl h ↦ inl (record { some = h.0; no_tab = h.1.0; no_feed = h.1.1.0; no_return = h.1.1.1.0; no_blank = h.1.1.1.1.0; no_hash = h.1.1.1.1.1 })
      | inr bad ↦ inr (λ w. bad (w.some, (w.no_tab, (w.no_feed, (w.no_return, (w.no_blank, w.no_hash))))))
    ]

word-told : (word : List ℕ) → IsTold (IsWord word)
word-told word =
    elim (both-told (filled-told word) (all-told IsWordByte byte-told word)) [
      | inl h ↦ inl (record { filled = h.0; bytes = h.1 })
      | inr bad ↦ inr (λ w. bad (w.filled, w.bytes))
    ]

one_line-told : (text : List ℕ) → IsTold (IsOneLine text)
one_line-told text =
    all-told (λ b. (b ≢ 10) × (b ≢ 13)) (λ b. both-told (different-told b 10) (different-told b 13)) text

-- the part of a name at a place
abbrev part_at : Name → ℕ → Part
part_at name i = get_or name.parts i []

abbrev HostFits : Name → Entry → Part → Type 0
HostFits name entry host =
    (name ≡ host_name (family entry.value) host) × (IsWord entry.value × (IsWord host × ((entry.meta ≡ comments (texts_of entry.meta)) × ((length (texts_of entry.meta) ≤ last_index) × AllByRecursion IsOneLine (texts_of entry.meta)))))

host_key-told : (name : Name) (entry : Entry) → IsTold (IsHostKey name entry)
host_key-told name entry =
    let host = part_at name 1 in
    elim (both-told (names-told name (host_name (family entry.value) host)) (both-told (word-told entry.value) (both-told (word-told host) (both-told (meta-told entry.meta (comments (texts_of entry.meta))) (both-told (le-told (length (texts_of entry.meta)) last_index) (all-told IsOneLine one_line-told (texts_of entry.meta))))))) [
      | inl h ↦ inl (record { host = host; is_host = h.0; address = h.1.0; word = h.1.1.0; are_comments = h.1.1.1.0; few = h.1.1.1.1.0; one_line = h.1.1.1.1.1 })
      | inr bad ↦ inr (λ key.
          let same : key.host ≡ part_at name 1 = sym (ap (λ n. part_at n 1) key.is_host) in
          bad (subst (HostFits name entry) same (key.is_host, (key.address, (key.word, (key.are_comments, (key.few, key.one_line)))))))
    ]

plain-told : (entry : Entry) → IsTold (entry ≡ plain_entry [])
plain-told entry =
    elim (both-told (texts-told entry.value []) (meta-told entry.meta finite.empty)) [
      | inl h ↦ inl (λ i. record { value = h.0 i; meta = h.1 i })
      | inr bad ↦ inr (λ e. bad (ap (λ (x : Entry). x.value) e, ap (λ (x : Entry). x.meta) e))
    ]

found-told : (keys : KeyMap) (name : Name) → IsTold ((entry : Entry) × (finite.get keys name ≡ Some entry))
found-told keys name = by (finite.get keys name) refl
  where
    by : (o : Option Entry) → finite.get keys name ≡ o → IsTold ((entry : Entry) × (finite.get keys name ≡ Some entry))
    by None e = inr (λ found. let none : ◌≡◌ {A = Option Entry} None (Some found.0) = sym e ∙ found.1 in absurd cc)
    by (Some entry) e = inl (entry, e)

abbrev AliasFits : KeyMap → Name → Entry → Part → Part → Part → Type 0
AliasFits keys name entry of_family host alias =
    (name ≡ alias_name of_family host alias) × (IsWord alias × ((entry ≡ plain_entry []) × ((e : Entry) × (finite.get keys (host_name of_family host) ≡ Some e))))

alias_key-told : (keys : KeyMap) (name : Name) (entry : Entry) → IsTold (IsAliasKey keys name entry)
alias_key-told keys name entry =
    let of_family = part_at name 0 in
    let host = part_at name 1 in
    let alias = part_at name 2 in
    elim (both-told (names-told name (alias_name of_family host alias)) (both-told (word-told alias) (both-told (plain-told entry) (found-told keys (host_name of_family host))))) [
      | inl h ↦ inl (record { of_family = of_family; host = host; alias = alias; is_alias = h.0; word = h.1.0; plain = h.1.1.0; host_entry = h.1.1.1.0; found = h.1.1.1.1 })
      | inr bad ↦ inr (λ key.
          let p : key.of_family ≡ part_at name 0 = sym (ap (λ n. part_at n 0) key.is_alias) in
          let q : key.host ≡ part_at name 1 = sym (ap (λ n. part_at n 1) key.is_alias) in
          let r : key.alias ≡ part_at name 2 = sym (ap (λ n. part_at n 2) key.is_alias) in
          bad (subst (λ (t : Part × Part × Part). AliasFits keys name entry t.0 t.1 t.2) (λ i. (p i, q i, r i)) (key.is_alias, (key.word, (key.plain, (key.host_entry, key.found))))))
    ]

pub hosts_key-told : (keys : KeyMap) (name : Name) (entry : Entry) → IsTold (IsHostsKey keys name entry)
hosts_key-told keys name entry = either-told (host_key-told name entry) (alias_key-told keys name entry)

-- ---- what lines keep

-- what a map holds at a name it still does, perhaps with another entry, when a key is inserted
stays : (keys : KeyMap) (name : Name) (entry : Entry) (q : Name) (e : Entry) → finite.get keys q ≡ Some e
    → (x : Entry) × (finite.get (finite.insert keys name entry) q ≡ Some x)
stays keys name entry q e found = by (eq_by_cmp name_cmp q name) (finite.get-insert name_cmp_total keys name entry q)
  where
    by : (t : Bool) → finite.get (finite.insert keys name entry) q ≡ cond t (Some entry) (finite.get keys q)
        → (x : Entry) × (finite.get (finite.insert keys name entry) q ≡ Some x)
    by true there = (entry, there)
    by false there = (e, there ∙ found)

hosts_key-stays : (keys : KeyMap) (name : Name) (entry : Entry) (q : Name) (e : Entry) → IsHostsKey keys q e
    → IsHostsKey (finite.insert keys name entry) q e
hosts_key-stays keys name entry q e (inl host) = inl host
hosts_key-stays keys name entry q e (inr alias) =
    let host = stays keys name entry (host_name alias.of_family alias.host) alias.host_entry alias.found in
    inr (record { of_family = alias.of_family; host = alias.host; alias = alias.alias; is_alias = alias.is_alias; word = alias.word; plain = alias.plain; host_entry = host.0; found = host.1 })

-- each key of a map is one that a line gives
record AreKeys (keys : KeyMap) : Type 0 where
  limited : (name : Name) (entry : Entry) → finite.get keys name ≡ Some entry → IsLimitedKey name entry
  storable : IsStorable keys

AreKeys-insert : (keys : KeyMap) (name : Name) (entry : Entry) → AreKeys keys → IsLimitedKey name entry
    → IsHostsKey (finite.insert keys name entry) name entry → AreKeys (finite.insert keys name entry)
AreKeys-insert keys name entry are limited key = record {
  limited = EachHas-insert IsLimitedKey keys name entry are.limited limited;
  storable = found_in_grown keys name entry (IsHostsKey (finite.insert keys name entry)) key (λ q e found. hosts_key-stays keys name entry q e (are.storable q e found));
}

alias-limited : (of_family host alias : Part) → IsName (alias_name of_family host alias)
    → IsLimitedKey (alias_name of_family host alias) (plain_entry [])
alias-limited of_family host alias is_name = record {
  is_name = is_name;
  cascading = refl;
  is_value = record { utf8 = IsUtf8-nil; limit = omega arith };
  each_meta = λ meta_name t found. let none : ◌≡◌ {A = Option (List ℕ)} None (Some t) = sym (finite.get-empty text_cmp meta_name) ∙ found in absurd cc;
}

aliases-are_keys : (of_family host : Part) (aliases : List Part) (keys : KeyMap) (entry : Entry) → AreKeys keys
    → finite.get keys (host_name of_family host) ≡ Some entry → AllByRecursion IsToken aliases
    → AllByRecursion (λ alias. IsName (alias_name of_family host alias)) aliases
    → AreKeys (with_aliases of_family host aliases keys)
aliases-are_keys of_family host [] keys entry are found tokens names = are
aliases-are_keys of_family host (alias ∷ aliases) keys entry are found tokens names =
    let name = alias_name of_family host alias in
    let there = stays keys name (plain_entry []) (host_name of_family host) entry found in
    let key : IsAliasKey (finite.insert keys name (plain_entry [])) name (plain_entry []) = record {
      of_family = of_family;
      host = host;
      alias = alias;
      is_alias = refl;
      word = word-from_token alias tokens.0 names.0.parts.1.1.0.no_nul;
      plain = refl;
      host_entry = there.0;
      found = there.1;
    } in
    aliases-are_keys of_family host aliases (finite.insert keys name (plain_entry [])) there.0 (AreKeys-insert keys name (plain_entry []) are (alias-limited of_family host alias names.0) (inr key)) there.1 tokens.1 names.1

-- a map that can be stored, within the limits of a file, and comments that stand on one line each
record IsGood (progress : Progress) : Type 0 where
  limited : IsLimited progress.keys
  storable : IsStorable progress.keys
  waiting : AllByRecursion IsOneLine progress.waiting

start-good : IsGood start
start-good = record {
  limited = record { each = EachHas-no_keys IsLimitedKey; light = omega (arith, weight-no_keys) };
  storable = EachHas-no_keys (IsHostsKey no_keys);
  waiting = tt;
}

with_own-one_line : (waiting : List (List ℕ)) (own : Option (List ℕ)) → AllByRecursion IsOneLine waiting → IsOwn own
    → AllByRecursion IsOneLine (with_own waiting own)
with_own-one_line waiting None h is = h
with_own-one_line waiting (Some own) h is = all_append IsOneLine waiting (own ∷ []) h (is, tt)

AddsHost-good : (before : Progress) (address host : List ℕ) (aliases : List (List ℕ)) (own : Option (List ℕ))
    (after : Progress) → IsFine (Gives address host aliases own) → IsGood before
    → AddsHost before address host aliases own after → IsGood after
AddsHost-good before address host aliases own after fine good adds =
    let texts = with_own before.waiting own in
    let name = host_name (family address) host in
    let entry = host_entry address texts in
    let back = texts_of-comments texts adds.few in
    let key : IsHostKey name entry = record {
      host = host;
      is_host = refl;
      address = word-from_token address fine.0 adds.no_nul;
      word = word-from_token host fine.1 adds.is_name.parts.1.0.no_nul;
      are_comments = ap comments (sym back);
      few = subst (λ (ts : List (List ℕ)). length ts ≤ last_index) (sym back) adds.few;
      one_line = subst (λ (ts : List (List ℕ)). AllByRecursion IsOneLine ts) (sym back) (with_own-one_line before.waiting own good.waiting fine.3);
    } in
    let limited : IsLimitedKey name entry = record {
      is_name = adds.is_name;
      cascading = refl;
      is_value = adds.is_value;
      each_meta = comments-limited 0 texts (room (length texts) adds.few) adds.are_values;
    } in
    let first = AreKeys-insert before.keys name entry (record { limited = good.limited.each; storable = good.storable }) limited (inl key) in
    let all = aliases-are_keys (family address) host aliases (finite.insert before.keys name entry) entry first (get-insert_same name_cmp_total before.keys name entry) fine.2 adds.are_names in
    subst IsGood (sym adds.added) (record {
      limited = record { each = all.limited; light = subst (λ (p : Progress). weight p.keys ≤ heaviest_map) adds.added adds.light };
      storable = all.storable;
      waiting = tt;
    })
  where
    room : (n : ℕ) → n ≤ last_index → 0 + n ≤ last_index + 1
    room n h = omega arith

Does-good : (m : Meaning) (before after : Progress) → IsFine m → IsGood before → Does m before after → IsGood after
Does-good Skipped before after fine good does = subst IsGood (sym does) good
Does-good (Comment text) before after fine good does =
    subst IsGood (sym does) (record { limited = good.limited; storable = good.storable; waiting = all_append IsOneLine before.waiting (text ∷ []) good.waiting (fine, tt) })
Does-good (Gives address host aliases own) before after fine good does =
    AddsHost-good before address host aliases own after fine good does
Does-good Unreadable before after fine good does = absurd does

Reads-good : (bytes : List ℕ) (keys : KeyMap) → (reads : Reads bytes keys)
    → IsGood (record { keys = keys; waiting = reads.waiting })
Reads-good bytes keys reads =
    Leads-kept Step IsGood (AllByRecursion IsInLine) (λ before line after in_line good step. Does-good (meaning line) before after (fine-meaning line in_line) good step.does) (lines bytes) start (record { keys = keys; waiting = reads.waiting }) (lines-in_line bytes) start-good reads.leads

pub Reads-storable : (bytes : List ℕ) (keys : KeyMap) → Reads bytes keys → IsStorable keys
Reads-storable bytes keys reads = (Reads-good bytes keys reads).storable

pub Reads-limited : (bytes : List ℕ) (keys : KeyMap) → Reads bytes keys → IsLimited keys
Reads-limited bytes keys reads = (Reads-good bytes keys reads).limited
