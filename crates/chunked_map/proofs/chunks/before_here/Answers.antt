-- The key in the middle tells of those before it, or of those behind it.
use Rattle.std.proofs.Common.{◌≡◌, ◌<◌, ◌+◌, ◌-◌, ◌/◌, T, suc, take, length, get_or, true, false, sym, ap, ◌∙◌, subst, arith, is_lt}
use Rattle.chunked_map.specs.Chunks.{all_before}
use Rattle.chunked_map.proofs.CountLemmas.{before_up_to, none_from}
use Rattle.chunked_map.proofs.chunks.before_here.Goals as goal

pub loop-low-preserved-then-is_lt : goal.loop-low-preserved-then-is_lt
loop-low-preserved-then-is_lt g c =
    let R = g.K.Ord.cmp in
    let q = c.args.key.now in
    let es = c.args.entries.now in
    let at = c.loop-low.low + (c.loop-low.high - c.loop-low.low) / 2 in
    let lt : at < length es = omega arith in
    let next : suc at ≡ at + 1 = omega arith in
    let past : is_lt (R (get_or es at c.index-entries-middle.result).0 q) ≡ true = ap is_lt (sym c.cmp.ensures) ∙ sym c.is_lt.ensures ∙ c.if-is_lt.true in
    (omega arith, omega arith, subst (λ n. T (all_before R q (take n es))) next (before_up_to R g.met.K.Ord.total q es at c.index-entries-middle.result lt c.requires (subst T (sym past) tt)), c.loop-low.invariant.3)

pub loop-low-preserved : goal.loop-low-preserved
loop-low-preserved g c =
    let R = g.K.Ord.cmp in
    let q = c.args.key.now in
    let es = c.args.entries.now in
    let at = c.loop-low.low + (c.loop-low.high - c.loop-low.low) / 2 in
    let lt : at < length es = omega arith in
    let late : is_lt (R (get_or es at c.index-entries-middle.result).0 q) ≡ false = ap is_lt (sym c.cmp.ensures) ∙ sym c.is_lt.ensures ∙ c.if-is_lt.false in
    (omega arith, omega arith, c.loop-low.invariant.2, none_from R g.met.K.Ord.total q es at c.index-entries-middle.result lt c.requires late)
