-- Each turn takes a piece more, up to the end of the input or to as much as is taken.
use Rattle.std.proofs.Common.{◌≡◌, arith, length, drop}
use Rattle.tool_single.proofs.TakeLemmas.{HasTaken-more, front-more, taken-end, all-end, taken-full, all-full}
use Rattle.tool_single.proofs.reading.take_all.Goals as goal

pub returns-in_err-take_piece-clause-front : goal.returns-in_err-take_piece-clause-front
returns-in_err-take_piece-clause-front g c = λ bytes is.
    let so_far = c.loop-alloc.bytes.items in
    let has = c.loop-alloc.invariant.taken bytes is in
    front-more c.args.most bytes so_far _ (c.take_piece.ensures.front (drop (length so_far) bytes) has.rest)

pub returns-then-branch-eq0-clause-taken : goal.returns-then-branch-eq0-clause-taken
returns-then-branch-eq0-clause-taken g c = λ bytes is.
    let so_far = c.loop-alloc.bytes.items in
    let has = c.loop-alloc.invariant.taken bytes is in
    let none : c.in_ok-take_piece.field-0 ≡ 0 = omega (arith, c.if-branch-eq0.true) in
    taken-end c.args.most bytes so_far c.take_piece.new.bytes.items c.in_ok-take_piece.field-0 _ _ has c.in_ok-take_piece.ensures.count (c.in_ok-take_piece.ensures.moved (drop (length so_far) bytes) has.rest) none c.in_ok-take_piece.ensures.few

pub returns-then-branch-eq0-clause-all : goal.returns-then-branch-eq0-clause-all
returns-then-branch-eq0-clause-all g c = λ bytes is.
    let so_far = c.loop-alloc.bytes.items in
    let has = c.loop-alloc.invariant.taken bytes is in
    let none : c.in_ok-take_piece.field-0 ≡ 0 = omega (arith, c.if-branch-eq0.true) in
    all-end c.args.most bytes so_far c.take_piece.new.bytes.items c.in_ok-take_piece.field-0 _ _ has c.in_ok-take_piece.ensures.count (c.in_ok-take_piece.ensures.moved (drop (length so_far) bytes) has.rest) none c.in_ok-take_piece.ensures.few

pub loop-alloc-preserved : goal.loop-alloc-preserved
loop-alloc-preserved g c = record {
  few = c.in_ok-take_piece.ensures.few;
  later = omega (arith, c.loop-alloc.invariant.later, c.in_ok-take_piece.ensures.later);
  taken = λ whole is.
      let so_far = c.loop-alloc.bytes.items in
      let has = c.loop-alloc.invariant.taken whole is in
      HasTaken-more whole so_far c.take_piece.new.bytes.items c.in_ok-take_piece.field-0 _ _ has c.in_ok-take_piece.ensures.count (c.in_ok-take_piece.ensures.moved (drop (length so_far) whole) has.rest);
}

pub returns-clause-taken : goal.returns-clause-taken
returns-clause-taken g c = λ bytes is.
    let full : length c.loop-alloc.bytes.items ≡ c.args.most = omega (arith, c.loop-alloc.invariant.few, c.loop-alloc-test.false, c.len.ensures) in
    taken-full c.args.most bytes c.loop-alloc.bytes.items _ (c.loop-alloc.invariant.taken bytes is) full

pub returns-clause-all : goal.returns-clause-all
returns-clause-all g c = λ bytes is.
    let full : length c.loop-alloc.bytes.items ≡ c.args.most = omega (arith, c.loop-alloc.invariant.few, c.loop-alloc-test.false, c.len.ensures) in
    all-full c.args.most bytes c.loop-alloc.bytes.items _ (c.loop-alloc.invariant.taken bytes is) full
