-- The key stands behind all others, in a chunk of its own.
use Rattle.std.proofs.Common.{[], ◌∷◌, ◌++◌, sym, ap, ◌∙◌, subst, length, arith}
use Rattle.chunked_map.specs.Chunks.{joined, AreChunks}
use Rattle.chunked_map.proofs.PlaceLemmas.{put_end, end_are}
use Rattle.chunked_map.proofs.chunks.open_chunk.Goals as goal

pub returns-clause-ok : goal.returns-clause-ok
returns-clause-ok g c =
    let R = g.K.Ord.cmp in
    let cs = c.args.chunks.now.items in
    ap joined (c.in_ok-push-2.ensures.items ∙ ap (λ chunk. cs ++ chunk ∷ []) (c.in_ok-chunk.ensures ∙ c.in_ok-push.ensures.items ∙ ap (λ es. es ++ (c.args.key, c.args.value) ∷ []) c.in_ok-entries.ensures.items))
    ∙ put_end R g.met.K.Ord.total c.args.key cs (length cs) c.requires.behind (omega arith) c.args.value

pub returns-clause-chunks : goal.returns-clause-chunks
returns-clause-chunks g c =
    let R = g.K.Ord.cmp in
    let cs = c.args.chunks.now.items in
    subst (AreChunks R) (sym (c.in_ok-push-2.ensures.items ∙ ap (λ chunk. cs ++ chunk ∷ []) (c.in_ok-chunk.ensures ∙ c.in_ok-push.ensures.items ∙ ap (λ es. es ++ (c.args.key, c.args.value) ∷ []) c.in_ok-entries.ensures.items)))
    (end_are R g.met.K.Ord.total c.args.key cs (length cs) c.requires.behind (omega arith) c.args.value (omega arith) c.requires.chunks)
