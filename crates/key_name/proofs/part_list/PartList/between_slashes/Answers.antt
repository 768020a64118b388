use Rattle.std.proofs.Common.{◌≡◌, ◌∷◌, string_bytes, map, subst, sym, ap, ◌∙◌}
use Rattle.std.specs.Str.{IsUtf8}
use Rattle.key_name.specs.PartList.{nul_for_slash}
use Rattle.key_name.proofs.PartListLemmas.{parts_alone, seen_as}
use Rattle.key_name.proofs.SlashLemmas.{HasParts-slashes, utf8-nuls}
use Rattle.key_name.proofs.part_list.PartList.between_slashes.Goals as goal

pub from_utf8_unchecked-requires : goal.from_utf8_unchecked-requires
from_utf8_unchecked-requires c =
    subst IsUtf8 (sym (c.in_ok-bytes.ensures ∙ ap (λ path. 0 ∷ map nul_for_slash path) c.as_bytes.ensures.value)) (utf8-nuls c.args.path.now c.utf8.path)

text : (c : goal.After-from_utf8_unchecked)
    → string_bytes c.from_utf8_unchecked.result ≡ 0 ∷ map nul_for_slash c.args.path.now
text c =
    ap (λ bytes. bytes.items) c.from_utf8_unchecked.ensures.value ∙ c.in_ok-bytes.ensures
    ∙ ap (λ path. 0 ∷ map nul_for_slash path) c.as_bytes.ensures.value

pub invariant_of-result : goal.invariant_of-result
invariant_of-result c = parts_alone _ _ (HasParts-slashes _ c.args.path.now c.requires (text c))

pub returns : goal.returns
returns c = seen_as _ _ (HasParts-slashes _ c.args.path.now c.requires (text c))
