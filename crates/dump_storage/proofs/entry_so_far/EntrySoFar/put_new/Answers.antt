-- The tree is asked as the metadata are, and takes a new name as they do.
use Rattle.std.proofs.Common.{◌<◌, ◌≤◌, length, refl, sym, ap, ap₂, subst, ◌∙◌}
use Rattle.std.specs.BTreeMap.{is_at}
use Rattle.std.specs.FinMap as map
use Rattle.std.specs.Map.{lookup}
use Rattle.general_words.specs.Texts.{text_cmp}
use Rattle.general_words.proofs.Lists.{none_by_test}
use Rattle.model_maps.specs.Entry.{Entry, longest_meta_name, with_meta}
use Rattle.dump_storage.specs.SoFarView.{HasMetaLength, HaveMetaLengths}
use Rattle.dump_storage.proofs.SoFarLemmas.{entry_with, meta_of, get-lookup, some-there, meta_of-insert, lengths-put}
use Rattle.dump_storage.proofs.entry_so_far.EntrySoFar.put_new.Goals as goal

pub returns-then-contains_key : goal.returns-then-contains_key
returns-then-contains_key c =
    let items = c.self.inside.items.entries in
    let same = sym (ap (λ (e : Entry). map.get e.meta c.args.name.now) c.self.view_is) ∙ sym (ap (map.get (meta_of items)) c.in_ok-name.ensures) ∙ get-lookup items c.in_ok-name.name in
    (λ none. some-there (lookup (is_at (text_cmp c.in_ok-name.name)) items) (sym c.contains_key.ensures ∙ c.if-contains_key.true) (sym same ∙ none), refl)

pub invariant_of-self-2 : goal.invariant_of-self-2
invariant_of-self-2 c =
    let fine : HasMetaLength (c.in_ok-name.name, c.in_ok-text.text) = record {
      some = subst (λ n. 0 < length n) (sym c.in_ok-name.ensures) c.requires.some;
      limit = subst (λ n. length n ≤ longest_meta_name) (sym c.in_ok-name.ensures) c.requires.limit;
    } in
    subst HaveMetaLengths (sym c.in_ok-insert.ensures.entries) (lengths-put c.in_ok-name.name c.in_ok-text.text c.self.inside.items.entries fine c.self.invariant)

pub returns : goal.returns
returns c =
    let items = c.self.inside.items.entries in
    let same = sym (ap (λ (e : Entry). map.get e.meta c.args.name.now) c.self.view_is) ∙ sym (ap (map.get (meta_of items)) c.in_ok-name.ensures) ∙ get-lookup items c.in_ok-name.name in (
      same ∙ none_by_test (lookup (is_at (text_cmp c.in_ok-name.name)) items) (sym c.contains_key.ensures ∙ c.if-contains_key.false),
      ap (entry_with c.self.inside.value)
          (meta_of-insert items c.insert.new.self.entries c.in_ok-name.name c.in_ok-text.text c.in_ok-insert.ensures.updates.0
          ∙ ap₂ (λ name text. map.insert (meta_of items) name text) c.in_ok-name.ensures c.in_ok-text.ensures)
          ∙ ap (λ (e : Entry). with_meta e c.args.name.now c.args.text.now) c.self.view_is,
    )
