-- The chunks before the key's have only keys before it, and those behind it none.
use Rattle.std.proofs.Common.{◌+◌, ◌≤◌, T, List, take, drop, length, sym, ap, subst, arith}
use Rattle.chunked_map.specs.Chunks.{all_before, none_before}
use Rattle.chunked_map.proofs.JoinLemmas.{length_sized}
use Rattle.chunked_map.proofs.CountLemmas.{front_are, bounded_in, before_in_all, none_in_all}
use Rattle.chunked_map.proofs.chunks.before_in.Goals as goal

pub count_in-front-requires : goal.count_in-front-requires
count_in-front-requires g c =
    front_are g.K.Ord.cmp g.met.K.Ord.total c.args.key.now c.args.chunks.now c.args.at c.requires.place.within c.requires.chunks

pub returns-then-at-chunks-clause-bounds : goal.returns-then-at-chunks-clause-bounds
returns-then-at-chunks-clause-bounds g c =
    let cs = c.args.chunks.now in
    let m = c.before_here.result in
    let few = subst (λ (es : List (g.row.K.Denot × g.row.V.Denot)). m ≤ length es) c.entries.ensures.all c.before_here.ensures.bounds in
    let sum = ap (λ n. n + m) (sym c.count_in-front.ensures) in
    bounded_in g.K.Ord.cmp g.met.K.Ord.total c.args.key.now cs c.args.at c.requires.place c.index-chunks-at.result m (c.count_in-front.result + m) c.if-at-chunks.true c.index-chunks-at.is few sum

pub overflow_add-result : goal.overflow_add-result
overflow_add-result g c =
    let cs = c.args.chunks.now in
    let m = c.before_here.result in
    let few = subst (λ (es : List (g.row.K.Denot × g.row.V.Denot)). m ≤ length es) c.entries.ensures.all c.before_here.ensures.bounds in
    let sum = ap (λ n. n + m) (sym c.count_in-front.ensures) in
    let within = bounded_in g.K.Ord.cmp g.met.K.Ord.total c.args.key.now cs c.args.at c.requires.place c.index-chunks-at.result m (c.count_in-front.result + m) c.if-at-chunks.true c.index-chunks-at.is few sum in
    let most = length_sized cs c.requires.chunks.sizes in
    let count = c.requires.chunks.count in
    omega arith

pub returns-then-at-chunks-clause-before : goal.returns-then-at-chunks-clause-before
returns-then-at-chunks-clause-before g c =
    let cs = c.args.chunks.now in
    let m = c.before_here.result in
    let few = subst (λ (es : List (g.row.K.Denot × g.row.V.Denot)). m ≤ length es) c.entries.ensures.all c.before_here.ensures.bounds in
    let sum = ap (λ n. n + m) (sym c.count_in-front.ensures) in
    let here = subst (λ (es : List (g.row.K.Denot × g.row.V.Denot)). T (all_before g.K.Ord.cmp c.args.key.now (take m es))) c.entries.ensures.all c.before_here.ensures.before in
    before_in_all g.K.Ord.cmp g.met.K.Ord.total c.args.key.now cs c.args.at c.requires.place c.index-chunks-at.result m (c.count_in-front.result + m) c.if-at-chunks.true c.index-chunks-at.is few sum here

pub returns-then-at-chunks-clause-behind : goal.returns-then-at-chunks-clause-behind
returns-then-at-chunks-clause-behind g c =
    let cs = c.args.chunks.now in
    let m = c.before_here.result in
    let few = subst (λ (es : List (g.row.K.Denot × g.row.V.Denot)). m ≤ length es) c.entries.ensures.all c.before_here.ensures.bounds in
    let sum = ap (λ n. n + m) (sym c.count_in-front.ensures) in
    let here = subst (λ (es : List (g.row.K.Denot × g.row.V.Denot)). T (none_before g.K.Ord.cmp c.args.key.now (drop m es))) c.entries.ensures.all c.before_here.ensures.behind in
    none_in_all g.K.Ord.cmp g.met.K.Ord.total c.args.key.now cs c.args.at c.requires.place c.index-chunks-at.result m (c.count_in-front.result + m) c.if-at-chunks.true c.index-chunks-at.is few sum here
