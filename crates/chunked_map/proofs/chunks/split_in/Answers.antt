-- The back of the chunk is put behind its front.
use Rattle.std.proofs.Common.{◌<◌, [], sym, ap, ◌∙◌, subst, length}
use Rattle.general_words.proofs.Lists.{same_default}
use Rattle.chunked_map.specs.Chunks.{parted}
use Rattle.chunked_map.proofs.SplitLemmas.{parted_is}
use Rattle.chunked_map.proofs.chunks.split_in.Goals as goal

pub returns-clause-ok : goal.returns-clause-ok
returns-clause-ok g c =
    let cs = c.reserve.new.self.items in
    let items = c.in_ok-reserve.ensures.items in
    let within = subst (λ ds. c.args.at < length ds) (sym items) c.requires.within in
    let len = c.len-len.ensures.len ∙ ap length (c.index.ensures ∙ same_default cs c.args.at c.index.result.now [] within) in
    c.in-Ok.ensures.items
    ∙ parted_is cs c.args.at c.args.n c.index_mut.result.now c.take_range.new.self c.in_ok-back.back c.len-len.result within c.index_mut.ensures.value len c.in_ok-back.ensures.ok c.in_ok-back.ensures.taken
    ∙ ap (λ ds. parted ds c.args.at c.args.n) items
