-- The chunks between the two places have the entries between them.
use Rattle.std.proofs.Common.{◌≡◌, length, slice_range, sym, ap, ◌∙◌, subst, arith}
use Rattle.std.specs.List.{remove_range}
use Rattle.std.proofs.lemmas.Result.{on_ok_weaker, IfOk-weaker}
use Rattle.chunked_map.specs.Chunks.{joined, AreChunks}
use Rattle.chunked_map.proofs.JoinLemmas.{either_way}
use Rattle.chunked_map.proofs.RangeLemmas.{still_within, in_order, joined_slice, joined_rest, slice_are, rest_are}
use Rattle.chunked_map.proofs.ranges.take_chunks.Goals as goal

pub move_out-requires-clause-order : goal.move_out-requires-clause-order
move_out-requires-clause-order g c =
    let le = c.requires.order in
    let starts = c.in_ok-begin.ensures.begins in
    let same = c.boundary-2.ensures.front c.in_ok-begin.begin c.in_ok-begin.ensures.within (omega arith) in
    in_order g.K.Ord.cmp c.boundary-2.new.chunks.items c.boundary-2.ensures.chunks c.in_ok-begin.begin c.in_ok-end.end c.args.from c.args.to
    (ap (λ cs. length (joined cs)) same ∙ starts) c.in_ok-end.ensures.begins le (still_within c.in_ok-begin.begin c.boundary.new.chunks.items c.boundary-2.new.chunks.items same c.in_ok-begin.ensures.within)

pub returns-clause-taken : goal.returns-clause-taken
returns-clause-taken g c =
    let R = g.K.Ord.cmp in
    let b = c.in_ok-begin.begin in
    let e = c.in_ok-end.end in
    let cs = c.boundary-2.new.chunks.items in
    let le = c.requires.order in
    let fits = c.in_ok-begin.ensures.begins in
    let same = c.boundary-2.ensures.front b c.in_ok-begin.ensures.within (omega arith) in
    let starts = ap (λ cs. length (joined cs)) same ∙ fits in
    let within = still_within b c.boundary.new.chunks.items cs same c.in_ok-begin.ensures.within in
    let order = in_order R cs c.boundary-2.ensures.chunks b e c.args.from c.args.to starts c.in_ok-end.ensures.begins le within in
    let whole = c.in_ok-end.ensures.same ∙ c.in_ok-begin.ensures.same in
    IfOk-weaker c.move_out.result _ (λ taken. joined taken.items ≡ slice_range (joined c.args.chunks.now.items) c.args.from c.args.to) (λ taken was.
    ap joined was ∙ joined_slice cs b e c.args.from c.args.to order starts c.in_ok-end.ensures.begins ∙ ap (λ es. slice_range es c.args.from c.args.to) whole) c.move_out.ensures.taken

pub returns-clause-taken_chunks : goal.returns-clause-taken_chunks
returns-clause-taken_chunks g c =
    let R = g.K.Ord.cmp in
    let b = c.in_ok-begin.begin in
    let e = c.in_ok-end.end in
    let cs = c.boundary-2.new.chunks.items in
    let le = c.requires.order in
    let fits = c.in_ok-begin.ensures.begins in
    let same = c.boundary-2.ensures.front b c.in_ok-begin.ensures.within (omega arith) in
    let starts = ap (λ cs. length (joined cs)) same ∙ fits in
    let within = still_within b c.boundary.new.chunks.items cs same c.in_ok-begin.ensures.within in
    let order = in_order R cs c.boundary-2.ensures.chunks b e c.args.from c.args.to starts c.in_ok-end.ensures.begins le within in
    IfOk-weaker c.move_out.result _ (λ taken. AreChunks R taken.items) (λ taken was.
    subst (AreChunks R) (sym was) (slice_are R cs c.boundary-2.ensures.chunks b e c.args.from c.args.to starts c.in_ok-end.ensures.begins order c.in_ok-end.ensures.within)) c.move_out.ensures.taken

pub returns-clause-ok : goal.returns-clause-ok
returns-clause-ok g c =
    let R = g.K.Ord.cmp in
    let b = c.in_ok-begin.begin in
    let e = c.in_ok-end.end in
    let cs = c.boundary-2.new.chunks.items in
    let le = c.requires.order in
    let fits = c.in_ok-begin.ensures.begins in
    let same = c.boundary-2.ensures.front b c.in_ok-begin.ensures.within (omega arith) in
    let starts = ap (λ cs. length (joined cs)) same ∙ fits in
    let within = still_within b c.boundary.new.chunks.items cs same c.in_ok-begin.ensures.within in
    let order = in_order R cs c.boundary-2.ensures.chunks b e c.args.from c.args.to starts c.in_ok-end.ensures.begins le within in
    let whole = c.in_ok-end.ensures.same ∙ c.in_ok-begin.ensures.same in
    on_ok_weaker c.move_out.result (λ done.
    ap joined done ∙ joined_rest cs b e c.args.from c.args.to order starts c.in_ok-end.ensures.begins ∙ ap (λ es. remove_range es c.args.from c.args.to) whole) c.move_out.ensures.ok

pub returns-clause-chunks : goal.returns-clause-chunks
returns-clause-chunks g c =
    let R = g.K.Ord.cmp in
    let b = c.in_ok-begin.begin in
    let e = c.in_ok-end.end in
    let cs = c.boundary-2.new.chunks.items in
    let le = c.requires.order in
    let fits = c.in_ok-begin.ensures.begins in
    let same = c.boundary-2.ensures.front b c.in_ok-begin.ensures.within (omega arith) in
    let starts = ap (λ cs. length (joined cs)) same ∙ fits in
    let within = still_within b c.boundary.new.chunks.items cs same c.in_ok-begin.ensures.within in
    let order = in_order R cs c.boundary-2.ensures.chunks b e c.args.from c.args.to starts c.in_ok-end.ensures.begins le within in
    either_way c.move_out.result c.move_out.ensures.ok c.move_out.ensures.err
    (λ done. subst (AreChunks R) (sym done) (rest_are R cs c.boundary-2.ensures.chunks b e c.args.from c.args.to starts c.in_ok-end.ensures.begins order le c.in_ok-end.ensures.within))
    (λ failed. subst (AreChunks R) (sym failed) c.boundary-2.ensures.chunks)
