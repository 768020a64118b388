use Rattle.std.proofs.Common.{ℕ, [], None, ◌==◌, ◌≡◌, ◌<◌, ◌≤◌, List, Some, length, map, string_bytes, refl, sym, ap, ◌∙◌, subst, arith}
use Rattle.std.specs.List.{AllByRecursion, position}
use Rattle.std.specs.Str.{IsUtf8}
use Rattle.model_names.specs.declared.namespaces.Namespace.{Namespace}
use Rattle.model_names.specs.RawParts.{raw_parts}
use Rattle.model_names.specs.Name.{Part}
use Rattle.model_names.specs.Refuses.{TooLong}
use Rattle.model_names.specs.Spelling.{path_of_parts}
use Rattle.model_names.specs.Spells.{Spells, longest_path, walked}
use Rattle.model_names.proofs.NameLemmas.{spelled_is_name}
use Rattle.model_names.proofs.RefusesLemmas.{refusal_of-spelled}
use Rattle.key_name.specs.PartList.{HasNoNul}
use Rattle.key_name.specs.Raws.{text_behind}
use Rattle.key_name.proofs.MeasureLemmas.{path_can_be_counted}
use Rattle.key_name.proofs.PartListLemmas.{NoNuls-parts}
use Rattle.key_name.proofs.PlainLemmas.{utf8_behind}
use Rattle.key_name.proofs.RefusedLemmas.{Spells-found, refusal_of-long}
use Rattle.key_name.proofs.names.read_name.Goals as goal

pub path_len-bytes-requires : goal.path_len-bytes-requires
path_len-bytes-requires c =
    let same = ap (λ p. length (path_of_parts (map (λ part. string_bytes part) p))) c.deref.ensures.value in
    omega (arith, same, c.requires, path_can_be_counted c.args.path.now _ c.in_ok-parts.ensures.leads)

-- the text spells the name of the parts that were read, and of the same in one text
spells : (namespace : Namespace) (path : List ℕ) (read parts : List Part) → IsUtf8 path
    → position (λ b. b == 0) (text_behind namespace path) ≡ None → walked [] (raw_parts path) ≡ Some read
    → length (path_of_parts read) ≤ longest_path → parts ≡ read
    → Spells (text_behind namespace path) (record { namespace = namespace; parts = parts })
spells namespace path read parts utf8 no_nul leads short same =
    subst (λ (parts : List Part). Spells (text_behind namespace path) (record { namespace = namespace; parts = parts })) (sym same) (Spells-found (text_behind namespace path) path (record { namespace = namespace; parts = read }) refl (utf8_behind namespace path utf8) no_nul leads short)

pub from_texts-requires : goal.from_texts-requires
from_texts-requires c =
    let bytes = c.path_len-bytes.ensures ∙ ap (λ p. length (path_of_parts (map (λ part. string_bytes part) p))) c.deref.ensures.value in
    let name = spelled_is_name _ _ (spells c.args.namespace c.args.path.now (map (λ part. string_bytes part) c.in_ok-parts.parts.items) _ c.utf8.path c.in_ok-parts.ensures.no_nul c.in_ok-parts.ensures.leads (omega (arith, bytes, c.if-bytes-gt-LONGEST_PATH.false)) refl) in
    subst (λ (texts : List _). AllByRecursion HasNoNul (map (λ text. string_bytes text) texts)) (sym c.deref-2.ensures.value) (NoNuls-parts _ name.parts)

pub returns-then-bytes-gt-LONGEST_PATH-clause-refused : goal.returns-then-bytes-gt-LONGEST_PATH-clause-refused
returns-then-bytes-gt-LONGEST_PATH-clause-refused c =
    let path = c.args.path.now in
    let parts = map (λ part. string_bytes part) c.in_ok-parts.parts.items in
    let bytes = c.path_len-bytes.ensures ∙ ap (λ p. length (path_of_parts (map (λ part. string_bytes part) p))) c.deref.ensures.value in
    let long : longest_path < length (path_of_parts parts) = omega arith in
    λ _. refusal_of-long (text_behind c.args.namespace path) path c.args.namespace parts refl c.in_ok-parts.ensures.no_nul c.in_ok-parts.ensures.leads long ∙ ap (λ b. Some (TooLong b)) (sym bytes)

pub invariant_of-result : goal.invariant_of-result
invariant_of-result c =
    let bytes = c.path_len-bytes.ensures ∙ ap (λ p. length (path_of_parts (map (λ part. string_bytes part) p))) c.deref.ensures.value in
    let same = c.in_ok-from_texts.ensures ∙ ap (map (λ text. string_bytes text)) c.deref-2.ensures.value in
    record {
      name = spelled_is_name _ _ (spells c.args.namespace c.args.path.now (map (λ part. string_bytes part) c.in_ok-parts.parts.items) c.in_ok-from_texts.field-0 c.utf8.path c.in_ok-parts.ensures.no_nul c.in_ok-parts.ensures.leads (omega (arith, bytes, c.if-bytes-gt-LONGEST_PATH.false)) same);
      bytes = bytes ∙ ap (λ (parts : List Part). length (path_of_parts parts)) (sym same);
    }

pub returns-clause-spelled : goal.returns-clause-spelled
returns-clause-spelled c =
    let bytes = c.path_len-bytes.ensures ∙ ap (λ p. length (path_of_parts (map (λ part. string_bytes part) p))) c.deref.ensures.value in
    let same = c.in_ok-from_texts.ensures ∙ ap (map (λ text. string_bytes text)) c.deref-2.ensures.value in
    spells c.args.namespace c.args.path.now (map (λ part. string_bytes part) c.in_ok-parts.parts.items) c.in_ok-from_texts.field-0 c.utf8.path c.in_ok-parts.ensures.no_nul c.in_ok-parts.ensures.leads (omega (arith, bytes, c.if-bytes-gt-LONGEST_PATH.false)) same

pub returns-clause-accepted : goal.returns-clause-accepted
returns-clause-accepted c = refusal_of-spelled _ _ (returns-clause-spelled c)
