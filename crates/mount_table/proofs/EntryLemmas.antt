-- What the entries have at a text: those noted name by name, and those with one more child.
use Rattle.std.proofs.Common.{◌≡◌, ◌≢◌, ◌⊎◌, inl, inr, Bool, true, false, cond, ◌||◌, T, List, [], ◌∷◌, filter_map, is_some, slice_get, Option, Some, None, refl, sym, ap, ap₂, subst, ◌∙◌}
use Rattle.std.specs.FinMap as map
use Rattle.std.specs.FinMap.{find, is_sorted}
use Rattle.std.specs.FinMap.Entries.{put, by_order}
use Rattle.std.specs.List.{AllByRecursion, list_any, cons_option}
use Rattle.std.specs.Option.{option_map, option_or}
use Rattle.std.specs.Ordering.{eq_by_cmp}
use Rattle.std.specs.declared.cmp.Ordering.{Ordering}
use Rattle.std.specs.declared.cmp.Ordering.TheVariants.{Less, Equal, Greater}
use Rattle.std.proofs.lemmas.Bool.{cond-false, or_parts, true≢false}
use Rattle.std.proofs.lemmas.Cmp.{nat_list_cmp_total}
use Rattle.general_words.specs.Texts.{text_cmp}
use Rattle.general_words.proofs.Lists.{some_is}
use Rattle.general_words.proofs.Lookups.{get-elsewhere, tied_or_not}
use Rattle.general_words.proofs.Maps.{from_sorted-put}
use Rattle.general_words.proofs.Orders.{itself, tied}
use Rattle.general_words.proofs.Searches.{or_none}
use Rattle.general_words.proofs.Texts.{text_cmp-IsAntisymmetric}
use Rattle.model_names.specs.Below.{is_at_or_below}
use Rattle.model_names.specs.Name.{Name, Part}
use Rattle.model_names.specs.Order.{name_cmp}
use Rattle.model_names.specs.WellFormed.{IsName}
use Rattle.model_names.proofs.OrderLemmas.{name_cmp_total, name_cmp-IsAntisymmetric}
use Rattle.model_maps.specs.Entry.{Entry}
use Rattle.model_maps.specs.KeyMap.{KeyMap}
use Rattle.mount_table.specs.Entries.{Entries, AreNames, Notes, entries_of, has_entry, said_by, value_at}
use Rattle.mount_table.specs.Places.{entry_name, child_name, path_word, plugin_word, conflicts_word, text_of_entry}
use Rattle.mount_table.specs.declared.entries.MountEntry.{MountEntry}
use Rattle.mount_table.proofs.PlaceLemmas.{is_found, at_or_below-entry, own-entry}

-- ---- what the entries have at a text

-- an entry, where it is there
abbrev pub if_there : Bool → MountEntry → Option MountEntry
if_there b said = cond b (Some said) None

-- what some keys tell of a text: whether its entry is there, with what it says
abbrev pub told_of : KeyMap → List (Name × Entry) → Part → Option MountEntry
told_of keys some text = if_there (list_any (λ key. is_at_or_below (entry_name text) key.0) some) (said_by keys text)

found_more : (said : Part → MountEntry) (text other : Part) (b rest : Bool) (found : Option MountEntry)
    → (b ≡ true → text ≡ other) → found ≡ if_there rest (said text)
    → cond b (Some (said other)) found ≡ if_there (b || rest) (said text)
found_more said text other true rest found same is = ap (λ t. Some (said t)) (sym (same refl))
found_more said text other false rest found same is = is

found_behind : (said : Part → MountEntry) (text : Part) (o : Option Part) (rest : List (Part × MountEntry))
    (more : Bool) → find text_cmp text rest ≡ if_there more (said text)
    → find text_cmp text (cons_option (option_map (λ t. (t, said t)) o) rest)
    ≡ if_there (is_found text o || more) (said text)
found_behind said text None rest more is = is
found_behind said text (Some other) rest more is =
    found_more said text other (eq_by_cmp text_cmp text other) more _ (λ e. text_cmp-IsAntisymmetric text other (tied _ e)) is

found_among : (keys : KeyMap) (text : Part) (some : List (Name × Entry))
    → find text_cmp text (filter_map (λ key. option_map (λ t. (t, said_by keys t)) (text_of_entry key.0)) some)
    ≡ told_of keys some text
found_among keys text [] = refl
found_among keys text (key ∷ some) =
    found_behind (said_by keys) text (text_of_entry key.0) _ _ (found_among keys text some)
    ∙ ap (λ b. if_there (b || list_any (λ key. is_at_or_below (entry_name text) key.0) some) (said_by keys text)) (sym (at_or_below-entry text key.0))

pub get-entries_of : (keys : KeyMap) (text : Part)
    → map.get (entries_of keys) text ≡ told_of keys (map.entries keys) text
get-entries_of keys text = map.get-from_entries nat_list_cmp_total _ text ∙ found_among keys text (map.entries keys)

-- ---- entries noted name by name

-- what was noted stays, and the rest is to come
pub noted_next : (old new : Option MountEntry) (here more : Bool) (said : MountEntry)
    → new ≡ option_or old (if_there here said)
    → option_or new (if_there more said) ≡ option_or old (if_there (here || more) said)
noted_next old new here more said e = ap (λ o. option_or o (if_there more said)) e ∙ by old here
  where
    by : (o : Option MountEntry) (b : Bool)
        → option_or (option_or o (if_there b said)) (if_there more said) ≡ option_or o (if_there (b || more) said)
    by (Some x) b = refl
    by None true = refl
    by None false = refl

-- where nothing is to come, all is noted
pub all_noted : (keys : KeyMap) (noted : Entries)
    → ((text : Part) → option_or (map.get noted text) None ≡ map.get (entries_of keys) text) → noted ≡ entries_of keys
all_noted keys noted each =
    map.same_map nat_list_cmp_total text_cmp-IsAntisymmetric _ _ (λ text. sym (or_none (map.get noted text)) ∙ each text)

-- a name that belongs to no entry tells nothing
pub tells_nothing : (keys : KeyMap) (name : Name) (noted : Entries) → None ≡ text_of_entry name
    → Notes keys name noted noted
tells_nothing keys name noted none text =
    rw (at_or_below-entry text name ∙ ap (is_found text) (sym none)) (sym (or_none (map.get noted text)))

module _ (keys : KeyMap) (name : Name) (own : Part) (is : Some own ≡ text_of_entry name) (noted : List (Part × MountEntry)) (sorted : T (is_sorted text_cmp noted)) where
  -- what is told of the entry's text, and of others
  tells : (before after : Option MountEntry) (text : Part)
      → (text ≡ own → after ≡ option_or before (Some (said_by keys own)))
      → (eq_by_cmp text_cmp text own ≡ false → after ≡ before)
      → after ≡ option_or before (if_there (is_at_or_below (entry_name text) name) (said_by keys text))
  tells before after text here elsewhere =
      rw (at_or_below-entry text name ∙ ap (is_found text) (sym is)) (by (tied_or_not {R = text_cmp} text_cmp-IsAntisymmetric text own))
    where
      by : (eq_by_cmp text_cmp text own ≡ false) ⊎ ((eq_by_cmp text_cmp text own ≡ true) × (text ≡ own))
          → after ≡ option_or before (if_there (eq_by_cmp text_cmp text own) (said_by keys text))
      by (inl differ) = rw differ (elsewhere differ ∙ sym (or_none before))
      by (inr same) = rw same.0 (here same.1 ∙ ap (λ t. option_or before (Some (said_by keys t))) (sym same.1))

  module _ (there : Part) (same : there ≡ own) where
    own_found : (b : Bool) → is_some (find text_cmp there noted) ≡ b → (text : Part) → text ≡ own
        → is_some (map.get (map.from_sorted {R = text_cmp} noted) text) ≡ b
    own_found b found text e =
        ap is_some (map.get-from_sorted text_cmp noted text sorted ∙ ap (λ t. find text_cmp t noted) (e ∙ sym same))
        ∙ found

    -- an entry that is noted stays
    pub noted_before : is_some (find text_cmp there noted) ≡ true
        → Notes keys name (map.from_sorted noted) (map.from_sorted noted)
    noted_before found text =
        tells _ _ text (λ e. stays (map.get (map.from_sorted {R = text_cmp} noted) text) (own_found true found text e)) (λ _. refl)
      where
        stays : (o : Option MountEntry) → is_some o ≡ true → o ≡ option_or o (Some (said_by keys own))
        stays (Some x) h = refl
        stays None h = absurd cc

    -- and one that isn't is put among them
    pub noted_now : (after : List (Part × MountEntry)) (said : MountEntry) → is_some (find text_cmp there noted) ≡ false
        → said ≡ said_by keys there → after ≡ put text_cmp there said noted
        → Notes keys name (map.from_sorted noted) (map.from_sorted after)
    noted_now after said free says more text =
        let m = map.from_sorted {R = text_cmp} noted in
        let now : map.get (map.from_sorted {R = text_cmp} after) text ≡ cond (eq_by_cmp text_cmp text own) (Some (said_by keys own)) (map.get m text) =
        ap (λ es. map.get (map.from_sorted {R = text_cmp} es) text) more
        ∙ ap (λ n. map.get n text) (from_sorted-put text_cmp nat_list_cmp_total noted there said sorted)
        ∙ map.get-insert nat_list_cmp_total m there said text
        ∙ ap₂ (λ t s. cond (eq_by_cmp text_cmp text t) (Some s) (map.get m text)) same (says ∙ ap (said_by keys) same) in
        tells _ _ text
        (λ e. now ∙ joins (eq_by_cmp text_cmp text own) (map.get m text) (ap (λ t. eq_by_cmp text_cmp t own) e ∙ itself nat_list_cmp_total own) (own_found false free text e))
        (λ differ. now ∙ cond-false _ _ _ differ)
      where
        joins : (b : Bool) (o : Option MountEntry) → b ≡ true → is_some o ≡ false
            → cond b (Some (said_by keys own)) o ≡ option_or o (Some (said_by keys own))
        joins true None e h = refl
        joins true (Some x) e h = absurd cc
        joins false o e h = absurd cc

-- a name that can't be is none of the keys'
pub absent : (keys : KeyMap) (name : Name) → (IsName name → ⊥) → AreNames keys → None ≡ value_at keys name
absent keys name never are =
    sym (ap (option_map (λ entry. entry.value)) (map.get-entries keys name ∙ by (map.entries keys) are))
  where
    by : (some : List (Name × Entry)) → AllByRecursion (λ key. IsName key.0) some → find name_cmp name some ≡ None
    by [] are = refl
    by (key ∷ some) are =
        cond-false _ _ _ (other (tied_or_not {R = name_cmp} name_cmp-IsAntisymmetric name key.0)) ∙ by some are.1
      where
        other : (eq_by_cmp name_cmp name key.0 ≡ false) ⊎ ((eq_by_cmp name_cmp name key.0 ≡ true) × (name ≡ key.0))
            → eq_by_cmp name_cmp name key.0 ≡ false
        other (inl differ) = differ
        other (inr same) = absurd (never (subst IsName (sym same.1) are.0))

-- an entry that isn't there has no child
pub free-child : (keys : KeyMap) (text word : Part) → has_entry keys text ≡ false
    → value_at keys (child_name text word) ≡ None
free-child keys text word free =
    ap (option_map (λ entry. entry.value)) (map.get-entries keys (child_name text word) ∙ by (map.entries keys) free)
  where
    by : (some : List (Name × Entry)) → list_any (λ key. is_at_or_below (entry_name text) key.0) some ≡ false
        → find name_cmp (child_name text word) some ≡ None
    by [] free = refl
    by (key ∷ some) free =
        let parts = or_parts (is_at_or_below (entry_name text) key.0) (list_any (λ key. is_at_or_below (entry_name text) key.0) some) free in
        cond-false _ _ _ (other parts.0 (tied_or_not {R = name_cmp} name_cmp-IsAntisymmetric (child_name text word) key.0))
        ∙ by some parts.1
      where
        other : is_at_or_below (entry_name text) key.0 ≡ false
            → (eq_by_cmp name_cmp (child_name text word) key.0 ≡ false)
            ⊎ ((eq_by_cmp name_cmp (child_name text word) key.0 ≡ true) × (child_name text word ≡ key.0))
            → eq_by_cmp name_cmp (child_name text word) key.0 ≡ false
        other none (inl differ) = differ
        other none (inr same) =
            absurd (true≢false (sym (own-entry text (child_name text word) refl) ∙ ap (is_at_or_below (entry_name text)) same.1 ∙ none))

-- ---- one more child

or_swap : (a b c : Bool) → (a || (b || c)) ≡ (b || (a || c))
or_swap true true c = refl
or_swap true false c = refl
or_swap false b c = refl

or_again : (a b c : Bool) → a ≡ b → (b || c) ≡ (a || (b || c))
or_again true b c e = ap (λ x. x || c) (sym e)
or_again false b c e = refl

-- some key passes a test of names once one more is there
any-put : (p : Name → Bool) (name : Name) (entry : Entry) (keys : List (Name × Entry))
    → list_any (λ key. p key.0) (put name_cmp name entry keys) ≡ (p name || list_any (λ key. p key.0) keys)
any-put p name entry [] = refl
any-put p name entry (key ∷ keys) = by (any-put p name entry keys) (name_cmp name key.0) refl
  where
    by : list_any (λ key. p key.0) (put name_cmp name entry keys) ≡ (p name || list_any (λ key. p key.0) keys)
        → (o : Ordering) → name_cmp name key.0 ≡ o
        → list_any (λ key. p key.0) (by_order o ((name, entry) ∷ key ∷ keys) ((key.0, entry) ∷ keys) (key ∷ put name_cmp name entry keys))
        ≡ (p name || (p key.0 || list_any (λ key. p key.0) keys))
    by more Less e = refl
    by more Equal e = or_again (p name) (p key.0) _ (ap p (name_cmp-IsAntisymmetric name key.0 e))
    by more Greater e = ap (λ b. p key.0 || b) more ∙ or_swap (p key.0) (p name) _

module _ (keys : KeyMap) (own word : Part) (entry : Entry) where
  abbrev more : KeyMap
  more = map.insert keys (child_name own word) entry

  has_entry-child : (text : Part) → has_entry more text ≡ (eq_by_cmp text_cmp text own || has_entry keys text)
  has_entry-child text =
      ap (list_any (λ key. is_at_or_below (entry_name text) key.0)) (map.entries-insert name_cmp_total keys (child_name own word) entry)
      ∙ any-put (is_at_or_below (entry_name text)) (child_name own word) entry (map.entries keys)
      ∙ ap (λ b. b || has_entry keys text) (at_or_below-entry text (child_name own word))

  -- what other entries say stays
  value_at-other : (text other : Part) → text ≢ own
      → value_at more (child_name text other) ≡ value_at keys (child_name text other)
  value_at-other text other apart =
      ap (option_map (λ e. e.value)) (get-elsewhere name_cmp_total name_cmp-IsAntisymmetric keys (child_name own word) entry (child_name text other) (λ e. apart (some_is text own (ap (λ name. slice_get name.parts 2) e))))

  at : (text : Part) → (eq_by_cmp text_cmp text own ≡ false) ⊎ ((eq_by_cmp text_cmp text own ≡ true) × (text ≡ own))
      → if_there (eq_by_cmp text_cmp text own || has_entry keys text) (said_by more text)
      ≡ cond (eq_by_cmp text_cmp text own) (Some (said_by more own)) (map.get (entries_of keys) text)
  at text (inl differ) =
      let apart : text ≢ own = λ e. true≢false (sym (ap (λ t. eq_by_cmp text_cmp t own) e ∙ itself nat_list_cmp_total own) ∙ differ) in
      rw differ ((λ i. if_there (has_entry keys text) (record { path = value_at-other text path_word apart i; plugin = value_at-other text plugin_word apart i; conflicts = value_at-other text conflicts_word apart i })) ∙ sym (get-entries_of keys text))
  at text (inr same) = rw same.0 (ap (λ t. Some (said_by more t)) same.1)

  -- the entry is there, with what it says now
  pub entries_of-child : entries_of more ≡ map.insert (entries_of keys) own (said_by more own)
  entries_of-child = map.same_map nat_list_cmp_total text_cmp-IsAntisymmetric _ _ (λ text.
      get-entries_of more text
      ∙ ap (λ b. if_there b (said_by more text)) (has_entry-child text)
      ∙ at text (tied_or_not {R = text_cmp} text_cmp-IsAntisymmetric text own)
      ∙ sym (map.get-insert nat_list_cmp_total (entries_of keys) own (said_by more own) text))
