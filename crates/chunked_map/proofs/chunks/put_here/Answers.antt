-- The key goes into its chunk as it would go among all entries.
use Rattle.std.proofs.Common.{[], List, ◌<◌, sym, ap, ◌∙◌, subst, length, set, arith}
use Rattle.std.proofs.lemmas.List.{set-get_or}
use Rattle.std.proofs.lemmas.Result.{on_ok_weaker}
use Rattle.general_words.proofs.Lists.{same_default}
use Rattle.chunked_map.specs.Chunks.{joined, AreChunks}
use Rattle.chunked_map.proofs.OrderLemmas.{length-put}
use Rattle.chunked_map.proofs.PlaceLemmas.{put_in_is, put_are}
use Rattle.chunked_map.proofs.JoinLemmas.{either_way}
use Rattle.chunked_map.proofs.chunks.put_here.Goals as goal

pub returns-clause-ok : goal.returns-clause-ok
returns-clause-ok g c =
    let R = g.K.Ord.cmp in
    let cs = c.args.chunks.now.items in
    on_ok_weaker c.insert_at.result (λ done.
    ap (λ chunk. joined (set cs c.args.at chunk)) done
    ∙ put_in_is R g.met.K.Ord.total c.args.key cs c.args.at c.index_mut.result.now c.requires.home c.requires.within c.index_mut.ensures.value c.args.value) c.insert_at.ensures.ok

pub returns-clause-chunks : goal.returns-clause-chunks
returns-clause-chunks g c =
    let R = g.K.Ord.cmp in
    let cs = c.args.chunks.now.items in
    let chunk = c.index_mut.result.now in
    let more = length-put R c.args.key c.args.value chunk in
    let room = subst (λ (es : List (g.row.K.Denot × g.row.V.Denot)). length es < 64) (same_default cs c.args.at [] chunk c.requires.within ∙ sym c.index_mut.ensures.value) c.requires.room in
    either_way c.insert_at.result c.insert_at.ensures.ok c.insert_at.ensures.err
    (λ done. subst (λ es. AreChunks R (set cs c.args.at es)) (sym done) (put_are R g.met.K.Ord.total c.args.key cs c.args.at chunk c.requires.home c.requires.within c.index_mut.ensures.value c.requires.chunks c.args.value (omega (arith, more, room))))
    (λ failed. subst (AreChunks R) (sym (ap (set cs c.args.at) (failed ∙ c.index_mut.ensures.value) ∙ set-get_or cs c.args.at chunk)) c.requires.chunks)
