use Rattle.std.proofs.Common.{ℕ, List, ◌≡◌, ◌+◌, ◌-◌, length, map, string_bytes, refl, sym, ap, ◌∙◌, arith}
use Rattle.general_words.specs.Searches.{first_some}
use Rattle.model_names.specs.declared.namespaces.Namespace.{Namespace}
use Rattle.model_names.specs.RawParts.{raw_parts}
use Rattle.model_names.specs.Refuses.{bad_array, bad_escape, placed}
use Rattle.model_names.specs.Spelling.{word_of}
use Rattle.key_name.specs.Raws.{text_behind, with_places}
use Rattle.key_name.proofs.RefusedLemmas.{AreOf, IsSound-from_passes, refusal_of-array, refusal_of-escape, refusal_of-nul, walked-found}
use Rattle.key_name.proofs.PlainLemmas.{no_nul_before, nul_behind}
use Rattle.key_name.proofs.parsing.parts_of.Goals as goal

-- the path begins behind the word and the slash
lead_is : (namespace : Namespace) (word path : List ℕ) → word ≡ word_of namespace
    → length word + 1 + length path - length path ≡ length (word_of namespace) + 1
lead_is namespace word path e = let same = ap length e in omega (arith, same)

pub returns-in-Some-clause-refused : goal.returns-in-Some-clause-refused
returns-in-Some-clause-refused c =
    let namespace = c.args.namespace in
    let path = c.args.path.now in
    let text = text_behind namespace path in
    let raws = c.in_ok-raws.raws.items in
    let of : AreOf text path namespace raws = record { cut = refl; places = c.in_ok-raws.ensures ∙ ap (λ n. placed n (raw_parts path)) (lead_is namespace c.word.result.now path c.word.ensures) } in
    λ _. refusal_of-escape text path namespace raws c.in-Some.at of (ap (λ r. first_some bad_escape (with_places r)) (sym c.deref.ensures.value) ∙ sym c.in-Some.ensures)

pub returns-in-Some-first_bad_array-clause-refused : goal.returns-in-Some-first_bad_array-clause-refused
returns-in-Some-first_bad_array-clause-refused c =
    let namespace = c.args.namespace in
    let path = c.args.path.now in
    let text = text_behind namespace path in
    let raws = c.in_ok-raws.raws.items in
    let of : AreOf text path namespace raws = record { cut = refl; places = c.in_ok-raws.ensures ∙ ap (λ n. placed n (raw_parts path)) (lead_is namespace c.word.result.now path c.word.ensures) } in
    let escapes = ap (λ r. first_some bad_escape (with_places r)) (sym c.deref.ensures.value) ∙ sym c.in_default.ensures in
    λ _. refusal_of-array text path namespace raws c.in-Some-first_bad_array.at of escapes (ap (λ r. first_some bad_array (with_places r)) (sym c.deref-2.ensures.value) ∙ sym c.in-Some-first_bad_array.ensures)

pub returns-in-Some-first_nul-clause-refused : goal.returns-in-Some-first_nul-clause-refused
returns-in-Some-first_nul-clause-refused c =
    let namespace = c.args.namespace in
    let path = c.args.path.now in
    let text = text_behind namespace path in
    let raws = c.in_ok-raws.raws.items in
    let of : AreOf text path namespace raws = record { cut = refl; places = c.in_ok-raws.ensures ∙ ap (λ n. placed n (raw_parts path)) (lead_is namespace c.word.result.now path c.word.ensures) } in
    let sound = IsSound-from_passes raws c.deref.result.now c.deref-2.result.now c.deref.ensures.value (sym c.in_default.ensures) c.deref-2.ensures.value (sym c.in_default-first_bad_array.ensures) in
    λ _. refusal_of-nul text path namespace raws _ of sound (nul_behind namespace path _ c.in-Some-first_nul.at (ap (λ n. n + 1) (ap length c.word.ensures)) (sym c.in-Some-first_nul.ensures))

pub returns-clause-leads : goal.returns-clause-leads
returns-clause-leads c =
    let namespace = c.args.namespace in
    let path = c.args.path.now in
    let text = text_behind namespace path in
    let raws = c.in_ok-raws.raws.items in
    let parts = map (λ part. string_bytes part) c.in_ok-walk.field-0.items in
    let of : AreOf text path namespace raws = record { cut = refl; places = c.in_ok-raws.ensures ∙ ap (λ n. placed n (raw_parts path)) (lead_is namespace c.word.result.now path c.word.ensures) } in
    let sound = IsSound-from_passes raws c.deref.result.now c.deref-2.result.now c.deref.ensures.value (sym c.in_default.ensures) c.deref-2.ensures.value (sym c.in_default-first_bad_array.ensures) in
    walked-found text path namespace raws c.deref-3.result.now parts of sound c.deref-3.ensures.value c.in_ok-walk.ensures

pub returns-clause-no_nul : goal.returns-clause-no_nul
returns-clause-no_nul c = no_nul_before c.args.namespace c.args.path.now (sym c.in_default-first_nul.ensures)
