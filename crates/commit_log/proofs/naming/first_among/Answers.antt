use Rattle.std.proofs.Common.{◌≡◌, ◌+◌, ◌-◌, drop, get_or, sym, ap, ◌∙◌, arith}
use Rattle.general_words.proofs.Lists.{at_place, same_default}
use Rattle.commit_log.specs.Naming.{first_mark}
use Rattle.commit_log.proofs.NamingLemmas.{passed}
use Rattle.commit_log.proofs.naming.first_among.Goals as goal

pub returns-else-front-marks : goal.returns-else-front-marks
returns-else-front-marks c =
    let marks = c.args.marks.now in
    let at = c.loop-left.left - 1 in
    let mark = get_or marks at (0, 0) in
    let there = at_place marks at mark (omega (arith, c.loop-left.invariant.within, c.loop-left-test.true)) (same_default marks at (0, 0) mark (omega (arith, c.loop-left.invariant.within, c.loop-left-test.true))) in
    let back : at + 1 ≡ c.loop-left.left = omega (arith, c.loop-left-test.true) in
    c.loop-left.invariant.first
    ∙ ap (λ n. first_mark (drop n marks) c.args.front c.args.not_by) (sym back)
    ∙ sym (passed marks at c.args.front c.args.not_by mark c.requires (sym there) c.if-front-marks.false)
