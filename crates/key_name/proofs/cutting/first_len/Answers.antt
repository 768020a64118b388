use Rattle.std.proofs.Common.{◌+◌, drop, sym, ap, ◌∙◌, arith}
use Rattle.key_name.specs.Raws.{first_len}
use Rattle.key_name.proofs.CutLemmas.{first_len-next, first_len-end}
use Rattle.key_name.proofs.cutting.first_len.Goals as goal

pub loop-i-preserved : goal.loop-i-preserved
loop-i-preserved c =
    let path = c.as_bytes-b-items.ensures.value in
    let bytes = c.as_bytes-b-items.result.now in
    let i = c.loop-i.i in
    let next = first_len-next c.loop-i.is_escaped bytes i c.loop-i-test.true (sym c.is_bare.ensures ∙ c.if-is_bare.false) in
    omega (arith, next, c.loop-i.invariant, ap (λ p. first_len c.loop-i.is_escaped (drop i p)) path, ap (λ p. first_len c.is_bare-is_escaped.result (drop (i + 1) p)) path, ap (λ e. first_len e (drop (i + 1) bytes)) c.is_bare-is_escaped.ensures)

pub returns-then-is_bare : goal.returns-then-is_bare
returns-then-is_bare c =
    let path = c.as_bytes-b-items.ensures.value in
    let bytes = c.as_bytes-b-items.result.now in
    let i = c.loop-i.i in
    let end = first_len-end c.loop-i.is_escaped bytes i c.loop-i-test.true (sym c.is_bare.ensures ∙ c.if-is_bare.true) in
    omega (arith, end, c.loop-i.invariant, ap (λ p. first_len c.loop-i.is_escaped (drop i p)) path)
