-- A chunk that is cut has its entries in two, of which the key belongs into one.
use Rattle.std.proofs.Common.{◌≡◌, ◌+◌, ◌-◌, suc, [], sym, ap, ◌∙◌, subst, length, arith}
use Rattle.general_words.proofs.Lists.{same_default}
use Rattle.chunked_map.specs.Chunks.{joined, AreChunks}
use Rattle.chunked_map.proofs.SplitLemmas.{joined_parted, halved_are}
use Rattle.chunked_map.proofs.GapLemmas.{home_in_front, home_in_back, gap_in_front, gap_in_back, room_in_front, room_in_back}
use Rattle.chunked_map.proofs.chunks.room_in.Goals as goal

pub returns-then-place-clause-same : goal.returns-then-place-clause-same
returns-then-place-clause-same g c =
    ap joined c.in_ok-split_in.ensures.ok
    ∙ joined_parted g.K.Ord.cmp c.args.chunks.now.items c.args.at c.requires.within 32

pub returns-then-place-clause-chunks : goal.returns-then-place-clause-chunks
returns-then-place-clause-chunks g c =
    let R = g.K.Ord.cmp in
    let cs = c.args.chunks.now.items in
    let full = c.if-len-lt-CHUNK_SIZE.false in
    let len = c.len.ensures.len ∙ ap length (c.index.ensures ∙ same_default cs c.args.at c.index.result.now [] c.requires.within) in
    subst (AreChunks R) (sym c.in_ok-split_in.ensures.ok) (halved_are R cs c.args.at c.requires.within c.requires.chunks (omega arith) c.in_ok-split_in.ensures.count)

pub returns-then-place-clause-home : goal.returns-then-place-clause-home
returns-then-place-clause-home g c key home gap =
    let R = g.K.Ord.cmp in
    let cs = c.args.chunks.now.items in
    let next : c.args.at + 1 ≡ suc c.args.at = omega arith in
    let late = c.if-place.true in
    home_in_back R g.met.K.Ord.total key cs c.split_in.new.chunks.items c.args.at c.args.place c.requires.within c.in_ok-split_in.ensures.ok gap home (c.args.at + 1) next (omega arith)

pub returns-then-place-clause-gap : goal.returns-then-place-clause-gap
returns-then-place-clause-gap g c key gap =
    let R = g.K.Ord.cmp in
    let cs = c.args.chunks.now.items in
    let next : c.args.at + 1 ≡ suc c.args.at = omega arith in
    let late = c.if-place.true in
    gap_in_back R g.met.K.Ord.total key cs c.split_in.new.chunks.items c.args.at c.args.place c.requires.within c.in_ok-split_in.ensures.ok gap (c.args.at + 1) (c.args.place - 32) next (omega arith) (omega arith)

pub returns-then-place-clause-room : goal.returns-then-place-clause-room
returns-then-place-clause-room g c =
    let R = g.K.Ord.cmp in
    let cs = c.args.chunks.now.items in
    let full = c.if-len-lt-CHUNK_SIZE.false in
    let len = c.len.ensures.len ∙ ap length (c.index.ensures ∙ same_default cs c.args.at c.index.result.now [] c.requires.within) in
    let next : c.args.at + 1 ≡ suc c.args.at = omega arith in
    let late = c.if-place.true in
    room_in_back R cs c.split_in.new.chunks.items c.args.at c.requires.within c.requires.chunks c.in_ok-split_in.ensures.ok (omega arith) (c.args.at + 1) next

pub returns-clause-same : goal.returns-clause-same
returns-clause-same g c =
    ap joined c.in_ok-split_in.ensures.ok
    ∙ joined_parted g.K.Ord.cmp c.args.chunks.now.items c.args.at c.requires.within 32

pub returns-clause-chunks : goal.returns-clause-chunks
returns-clause-chunks g c =
    let R = g.K.Ord.cmp in
    let cs = c.args.chunks.now.items in
    let full = c.if-len-lt-CHUNK_SIZE.false in
    let len = c.len.ensures.len ∙ ap length (c.index.ensures ∙ same_default cs c.args.at c.index.result.now [] c.requires.within) in
    subst (AreChunks R) (sym c.in_ok-split_in.ensures.ok) (halved_are R cs c.args.at c.requires.within c.requires.chunks (omega arith) c.in_ok-split_in.ensures.count)

pub returns-clause-home : goal.returns-clause-home
returns-clause-home g c key home gap =
    let R = g.K.Ord.cmp in
    let cs = c.args.chunks.now.items in
    let early = c.if-place.false in
    home_in_front R g.met.K.Ord.total key cs c.split_in.new.chunks.items c.args.at c.args.place c.requires.within c.in_ok-split_in.ensures.ok gap home (omega arith)

pub returns-clause-gap : goal.returns-clause-gap
returns-clause-gap g c key gap =
    let R = g.K.Ord.cmp in
    let cs = c.args.chunks.now.items in
    let full = c.if-len-lt-CHUNK_SIZE.false in
    let len = c.len.ensures.len ∙ ap length (c.index.ensures ∙ same_default cs c.args.at c.index.result.now [] c.requires.within) in
    let early = c.if-place.false in
    gap_in_front R g.met.K.Ord.total key cs c.split_in.new.chunks.items c.args.at c.args.place c.requires.within c.in_ok-split_in.ensures.ok gap (omega arith) (omega arith)

pub returns-clause-room : goal.returns-clause-room
returns-clause-room g c =
    let R = g.K.Ord.cmp in
    let cs = c.args.chunks.now.items in
    let full = c.if-len-lt-CHUNK_SIZE.false in
    let len = c.len.ensures.len ∙ ap length (c.index.ensures ∙ same_default cs c.args.at c.index.result.now [] c.requires.within) in
    room_in_front R cs c.split_in.new.chunks.items c.args.at c.requires.within c.requires.chunks c.in_ok-split_in.ensures.ok (omega arith)
