-- A new key adds its own weight, and one that is there changes nothing.
use Rattle.std.proofs.Common.{◌≡◌, None, not, sym, ap, subst, ◌∙◌, arith}
use Rattle.std.specs.FinMap as map
use Rattle.general_words.specs.Saturated.{saturated}
use Rattle.key_set.specs.EntryView.{entry_of}
use Rattle.model_maps.specs.KeyMap.{weight}
use Rattle.model_formats.specs.Holding.{EachHas}
use Rattle.model_lines.proofs.EachKey.{EachHas-insert}
use Rattle.model_maps.proofs.MapLemmas.{weight-insert}
use Rattle.file_lines.proofs.Lookups.{new-by_test, found-by_test}
use Rattle.hosts_storage.specs.WeighedView.{IsPlainAlias}
use Rattle.hosts_storage.proofs.WeighedLemmas.{insert-there}
use Rattle.hosts_storage.proofs.weighed.put.Goals as goal

pub returns-then-is_none-clause-sound : goal.returns-then-is_none-clause-sound
returns-then-is_none-clause-sound c =
    let keys = c.args.found.now.keys in
    let name = c.args.name in
    let entry = entry_of c.args.entry in
    let new : map.get keys name ≡ None = new-by_test entry_of c.in_ok-append.field-0 _ c.in_ok-append.ensures.former c.if-is_none.ensures in
    record {
      weighed = omega (arith, ap weight c.in_ok-append.ensures.ok, weight-insert keys name entry new, c.saturating_add-found.ensures, c.weight_of_key-own.ensures, c.requires.sound.weighed);
      plain = subst (EachHas IsPlainAlias) (sym c.in_ok-append.ensures.ok) (EachHas-insert IsPlainAlias keys name entry c.requires.sound.plain c.requires.plain);
    }

pub returns-else-is_none-clause-sound : goal.returns-else-is_none-clause-sound
returns-else-is_none-clause-sound c =
    let keys = c.args.found.now.keys in
    let there = c.requires.same (found-by_test entry_of c.in_ok-append.field-0 _ c.in_ok-append.ensures.former (c.is_none.ensures ∙ ap not c.if-is_none.false)) in
    let kept : c.append.new.self ≡ keys = c.in_ok-append.ensures.ok ∙ insert-there keys c.args.name (entry_of c.args.entry) there in
    record {
      weighed = c.requires.sound.weighed ∙ ap (λ k. saturated (weight k)) (sym kept);
      plain = subst (EachHas IsPlainAlias) (sym kept) c.requires.sound.plain;
    }
