use Rattle.std.proofs.Common.{map, string_bytes, sym, ap, ◌∙◌, ◌++◌, ◌∷◌, [], Some}
use Rattle.std.proofs.lemmas.List.{map_push}
use Rattle.model_names.specs.Spells.{moved}
use Rattle.key_name.proofs.WalkLemmas.{meaning-adds}
use Rattle.key_name.proofs.walking.step.Goals as goal

pub returns-in_ok-push-in_default : goal.returns-in_ok-push-in_default
returns-in_ok-push-in_default c = λ move h.
    let before = map (λ part. string_bytes part) c.args.parts.now.items in
    let adds = meaning-adds c.args.raw.now move c.in_default.not-empty c.in_default.not-text c.in_default.not-text-2 h in
    let pushed = ap (map (λ part. string_bytes part)) c.in_ok-push-in_default.ensures.items ∙ map_push (λ part. string_bytes part) c.args.parts.now.items _ in
    pushed ∙ ap (λ part. before ++ part ∷ []) (c.in_ok-part_of-in_default.ensures adds.0 (h ∙ ap (λ m. Some m) adds.1))
    ∙ ap (moved before) (sym adds.1)
