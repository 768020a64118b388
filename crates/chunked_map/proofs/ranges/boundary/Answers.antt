-- The chunk of the place is cut in two there.
use Rattle.std.proofs.Common.{◌≡◌, ◌+◌, ◌<◌, ◌≤◌, [], length, take, get_or, suc, sym, ap, subst, arith, ◌∙◌}
use Rattle.chunked_map.specs.Chunks.{joined, AreChunks}
use Rattle.chunked_map.proofs.SplitLemmas.{joined_parted, parted_are}
use Rattle.chunked_map.proofs.RangeLemmas.{in_a_chunk, begins_at, same_front}
use Rattle.chunked_map.proofs.ranges.boundary.Goals as goal
use Rattle.chunked_map.proofs.JoinLemmas.{positive}

pub returns-clause-same : goal.returns-clause-same
returns-clause-same g c =
    let cs = c.args.chunks.now.items in
    let at = c.place_in-at.result.0 in
    let left = c.place_in-at.result.1 in
    let lt = in_a_chunk at (length cs) left (subst (λ cs. length cs ≤ at → left ≡ 0) c.deref.ensures.value c.place_in-at.ensures.behind) c.if-left-eq0.false in
    ap joined c.in_ok-split_in.ensures.ok ∙ joined_parted g.K.Ord.cmp cs at lt left

pub returns-clause-chunks : goal.returns-clause-chunks
returns-clause-chunks g c =
    let R = g.K.Ord.cmp in
    let cs = c.args.chunks.now.items in
    let at = c.place_in-at.result.0 in
    let left = c.place_in-at.result.1 in
    let lt = in_a_chunk at (length cs) left (subst (λ cs. length cs ≤ at → left ≡ 0) c.deref.ensures.value c.place_in-at.ensures.behind) c.if-left-eq0.false in
    let inside = subst (λ cs. at < length cs → left < length (get_or cs at [])) c.deref.ensures.value c.place_in-at.ensures.inside lt in
    subst (AreChunks R) (sym c.in_ok-split_in.ensures.ok) (parted_are R cs at lt c.requires.chunks left (positive left c.if-left-eq0.false) inside c.in_ok-split_in.ensures.count)

pub returns-clause-begins : goal.returns-clause-begins
returns-clause-begins g c =
    let cs = c.args.chunks.now.items in
    let at = c.place_in-at.result.0 in
    let left = c.place_in-at.result.1 in
    let lt = in_a_chunk at (length cs) left (subst (λ cs. length cs ≤ at → left ≡ 0) c.deref.ensures.value c.place_in-at.ensures.behind) c.if-left-eq0.false in
    let inside = subst (λ cs. at < length cs → left < length (get_or cs at [])) c.deref.ensures.value c.place_in-at.ensures.inside lt in
    let place = subst (λ cs. length (joined (take at cs)) + left ≡ c.args.place) c.deref.ensures.value c.place_in-at.ensures.place in
    let next : at + 1 ≡ suc at = omega arith in
    begins_at cs c.split_in.new.chunks.items at left (at + 1) c.args.place lt c.in_ok-split_in.ensures.ok (omega arith) next place

pub returns-clause-front : goal.returns-clause-front
returns-clause-front g c =
    let cs = c.args.chunks.now.items in
    let at = c.place_in-at.result.0 in
    let left = c.place_in-at.result.1 in
    let lt = in_a_chunk at (length cs) left (subst (λ cs. length cs ≤ at → left ≡ 0) c.deref.ensures.value c.place_in-at.ensures.behind) c.if-left-eq0.false in
    let inside = subst (λ cs. at < length cs → left < length (get_or cs at [])) c.deref.ensures.value c.place_in-at.ensures.inside lt in
    let place = subst (λ cs. length (joined (take at cs)) + left ≡ c.args.place) c.deref.ensures.value c.place_in-at.ensures.place in
    same_front cs c.split_in.new.chunks.items at left c.args.place lt c.in_ok-split_in.ensures.ok inside place
