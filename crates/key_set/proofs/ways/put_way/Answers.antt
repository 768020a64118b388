-- The key that is put is sound, and the others stay.
use Rattle.std.proofs.Common.{◌≡◌, Result, Ok, Err, OnOk, IfSome, ap, sym, subst, ◌∙◌}
use Rattle.std.proofs.lemmas.Option.{cond_some}
use Rattle.key_name.specs.Joining.{joined}
use Rattle.key_set.specs.EntryView.{entry_of}
use Rattle.model_names.specs.Name.{Name}
use Rattle.model_names.specs.Below.{is_at_or_below}
use Rattle.model_names.specs.WellFormed.{IsName}
use Rattle.model_names.proofs.OrderLemmas.{name_cmp_total, name_cmp-IsAntisymmetric}
use Rattle.model_maps.specs.KeyMap.{KeyMap}
use Rattle.key_set.specs.Sound.{AreSound, IsSound}
use Rattle.general_words.proofs.Maps.{each-insert}
use Rattle.key_set.proofs.ways.put_way.Goals as goal

-- three facts of what succeeds make a fourth
on_all : {A E P Q R S : Type 0} (r : Result A E) → (P → Q → R → S) → OnOk r P → OnOk r Q → OnOk r R → OnOk r S
on_all (Ok a) f p q r = f p q r
on_all (Err e) f p q r = tt

pub returns-in-Some-clause-sound : goal.returns-in-Some-clause-sound
returns-in-Some-clause-sound c = λ sound.
    let point = c.args.point.now in
    let is = cond_some (is_at_or_below point c.args.name.now) _ c.in-Some.way (sym (sym c.in-Some.is ∙ c.in_ok-way.ensures.way)) in
    let back = subst (λ found. IfSome found (λ way. joined point way ≡ c.args.name.now)) c.in-Some.is c.in_ok-way.ensures.back in
    let names = subst (λ found. IfSome found (λ way. IsName way × IsName c.args.name.now)) c.in-Some.is c.in_ok-way.ensures.names in
    on_all c.put.result (λ done value texts.
    let this : IsSound point c.in-Some.way (entry_of c.args.entry.now) = record {
      is_name = names.0;
      cascading = ap (λ (n : Name). n.namespace) (sym is.1);
      whole_is_name = subst IsName (sym back) names.1;
      value = value;
      meta_names = λ name text found. (texts name text found).is_name;
      meta_texts = λ name text found. (texts name text found).is_text;
    } in
    subst (λ (keys : KeyMap). AreSound point keys) (sym done) (λ name entry found. each-insert name_cmp_total name_cmp-IsAntisymmetric (IsSound point) c.args.all.now c.in-Some.way (entry_of c.args.entry.now) sound this name entry found))
    c.put.ensures.made c.put.ensures.value c.put.ensures.texts
