use Rattle.std.proofs.Common.{◌+◌, length, string_bytes, ap, ◌∙◌, arith}
use Rattle.model_names.specs.Spelling.{spelled}
use Rattle.key_name.proofs.MeasureLemmas.{slashed_next, slashed_within}
use Rattle.key_name.proofs.measuring.path_len.Goals as goal

pub overflow_add-bytes : goal.overflow_add-bytes
overflow_add-bytes c =
    let next = slashed_next (λ part. string_bytes part) c.args.parts.now c.loop-part.part-index c.part-item.result c.part-item.is c.loop-part-test.true in
    let within = slashed_within (λ part. string_bytes part) c.args.parts.now (c.loop-part.part-index + 1) in
    let bytes = c.spelled_len.ensures ∙ ap (λ text. length (spelled text)) c.deref.ensures in
    omega (arith, next, within, bytes, c.requires)

pub overflow_add-bytes-in-loop-part : goal.overflow_add-bytes-in-loop-part
overflow_add-bytes-in-loop-part c =
    let next = slashed_next (λ part. string_bytes part) c.args.parts.now c.loop-part.part-index c.part-item.result c.part-item.is c.loop-part-test.true in
    let within = slashed_within (λ part. string_bytes part) c.args.parts.now (c.loop-part.part-index + 1) in
    let bytes = c.spelled_len.ensures ∙ ap (λ text. length (spelled text)) c.deref.ensures in
    omega (arith, next, within, c.loop-part.invariant, bytes, c.requires)
