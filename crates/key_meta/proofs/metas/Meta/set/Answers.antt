-- The name's text is written over, or the name is inserted.
use Rattle.std.proofs.Common.{Some, IfOk, OnOk, OnErr, Result, Ok, Err, List, ℕ, ◌<◌, ◌≤◌, length, sym, ap, ◌≡◌, ◌∙◌, subst}
use Rattle.std.specs.FinMap as map
use Rattle.std.specs.FinMap.{find}
use Rattle.std.specs.FinMap.Entries.{put}
use Rattle.std.proofs.lemmas.Cmp.{nat_list_cmp_total}
use Rattle.general_words.specs.Texts.{text_cmp}
use Rattle.sorted_map.specs.Place.{IsPlace}
use Rattle.general_words.proofs.Maps.{from_sorted-put}
use Rattle.sorted_map.proofs.MapLemmas.{get-place, insert-place}
use Rattle.std.specs.Str.{IsUtf8}
use Rattle.std.proofs.lemmas.Result.{on_ok_weaker}
use Rattle.model_maps.specs.Entry.{longest_meta_name}
use Rattle.key_meta.specs.MetaView.{AreItems, IsItem}
use Rattle.key_meta.proofs.ItemLemmas.{AreItems-put, AreItems-set, IsItem-at}
use Rattle.key_meta.proofs.metas.Meta.set.Goals as goal

pub returns-in_ok-text-in-Ok-clause-former : goal.returns-in_ok-text-in-Ok-clause-former
returns-in_ok-text-in-Ok-clause-former c =
    let there = subst (λ items. IsPlace text_cmp items c.args.name.now c.in-Ok.at) c.entries.ensures.all c.in-Ok.ensures.there in
    let d : List ℕ × List ℕ = (c.args.name.now, c.args.name.now) in
    ap Some (c.replace_at.ensures.former d)
    ∙ get-place text_cmp nat_list_cmp_total c.self.inside.items c.entries.ensures.sorted c.args.name.now c.in-Ok.at d there
    ∙ ap (λ m. map.get m c.args.name.now) c.self.view_is

pub returns-in_ok-text-in-Ok-clause-ok : goal.returns-in_ok-text-in-Ok-clause-ok
returns-in_ok-text-in-Ok-clause-ok c =
    let there = subst (λ items. IsPlace text_cmp items c.args.name.now c.in-Ok.at) c.entries.ensures.all c.in-Ok.ensures.there in
    let d : List ℕ × List ℕ = (c.args.name.now, c.args.name.now) in
    ap (map.from_sorted {R = text_cmp}) (c.replace_at.ensures.replaced d)
    ∙ insert-place text_cmp nat_list_cmp_total c.self.inside.items c.entries.ensures.sorted c.args.name.now c.in-Ok.at d c.in_ok-text-in-Ok.text there
    ∙ ap (λ text. map.insert (map.from_sorted c.self.inside.items) c.args.name.now text) c.in_ok-text-in-Ok.ensures
    ∙ ap (λ m. map.insert m c.args.name.now c.args.text.now) c.self.view_is

pub returns-in_ok-text-in-Err-clause-former : goal.returns-in_ok-text-in-Err-clause-former
returns-in_ok-text-in-Err-clause-former c =
    let found : find text_cmp c.in_ok-name-in-Err.name c.self.inside.items ≡ map.get c.args.self.now c.args.name.now =
    ap (λ name. find text_cmp name c.self.inside.items) c.in_ok-name-in-Err.ensures
    ∙ sym (map.get-from_sorted text_cmp c.self.inside.items c.args.name.now c.insert.ensures.sorted)
    ∙ ap (λ m. map.get m c.args.name.now) c.self.view_is in
    subst (λ v. IfOk c.insert.result (λ former. former ≡ v)) found c.insert.ensures.former

pub returns-in_ok-text-in-Err-clause-ok : goal.returns-in_ok-text-in-Err-clause-ok
returns-in_ok-text-in-Err-clause-ok c = on_ok_weaker c.insert.result (λ done.
    ap (map.from_sorted {R = text_cmp}) done
    ∙ from_sorted-put text_cmp nat_list_cmp_total c.self.inside.items c.in_ok-name-in-Err.name c.in_ok-text-in-Err.text c.insert.ensures.sorted
    ∙ ap (λ name. map.insert (map.from_sorted c.self.inside.items) name c.in_ok-text-in-Err.text) c.in_ok-name-in-Err.ensures
    ∙ ap (λ text. map.insert (map.from_sorted c.self.inside.items) c.args.name.now text) c.in_ok-text-in-Err.ensures
    ∙ ap (λ m. map.insert m c.args.name.now c.args.text.now) c.self.view_is) c.insert.ensures.ok

-- a name and a text that are passed make an item
made : (name text : List ℕ) → IsUtf8 name → 0 < length name → length name ≤ longest_meta_name → IsUtf8 text
    → IsItem (name, text)
made name text utf8 some limit is_text =
    record { is_name = record { utf8 = utf8; some = some; limit = limit }; is_text = is_text }

-- whether or not the item was put in
by_result : {A E : Type 0} (before after : List (List ℕ × List ℕ)) (name text : List ℕ) (done : Result A E)
    → AreItems before → IsItem (name, text) → OnOk done (after ≡ put text_cmp name text before)
    → OnErr done (after ≡ before) → AreItems after
by_result before after name text (Ok a) all item ok err =
    subst AreItems (sym ok) (AreItems-put name text item before all)
by_result before after name text (Err e) all item ok err = subst AreItems (sym err) all

pub invariant_of-self : goal.invariant_of-self
invariant_of-self c =
    let item = made c.args.name.now c.in_ok-text-in-Ok.text c.utf8.name c.requires.some c.requires.limit (subst IsUtf8 (sym c.in_ok-text-in-Ok.ensures) c.utf8.text) in
    let former = IsItem-at c.in-Ok.at c.self.inside.items (c.args.name.now, c.in_ok-text-in-Ok.text) item c.self.invariant in
    subst AreItems (sym (c.replace_at.ensures.replaced (c.args.name.now, c.in_ok-text-in-Ok.text)))
    (AreItems-set c.in-Ok.at c.self.inside.items _ (record { is_name = former.is_name; is_text = item.is_text }) c.self.invariant)

pub invariant_of-self-in-Err : goal.invariant_of-self-in-Err
invariant_of-self-in-Err c =
    let item = made c.in_ok-name-in-Err.name c.in_ok-text-in-Err.text (subst IsUtf8 (sym c.in_ok-name-in-Err.ensures) c.utf8.name) (subst (λ n. 0 < length n) (sym c.in_ok-name-in-Err.ensures) c.requires.some) (subst (λ n. length n ≤ longest_meta_name) (sym c.in_ok-name-in-Err.ensures) c.requires.limit) (subst IsUtf8 (sym c.in_ok-text-in-Err.ensures) c.utf8.text) in
    by_result c.self.inside.items c.insert.new.self c.in_ok-name-in-Err.name c.in_ok-text-in-Err.text c.insert.result c.self.invariant item c.insert.ensures.ok c.insert.ensures.err
