-- The key has another value in its chunk as it has among all entries.
use Rattle.std.proofs.Common.{◌≡◌, [], Some, sym, ap, ◌∙◌, subst, set}
use Rattle.std.specs.FinMap.{find}
use Rattle.sorted_map.specs.Place.{IsPlace}
use Rattle.std.proofs.lemmas.List.{set-get_or}
use Rattle.std.proofs.lemmas.Result.{on_ok_weaker, IfOk-weaker}
use Rattle.general_words.proofs.Lists.{same_default}
use Rattle.chunked_map.specs.Chunks.{joined, AreChunks}
use Rattle.chunked_map.proofs.PlaceLemmas.{find_in, put_in_is, put_are}
use Rattle.chunked_map.proofs.JoinLemmas.{either_way}
use Rattle.chunked_map.proofs.GapLemmas.{replaced_few}
use Rattle.chunked_map.proofs.chunks.replace_in.Goals as goal

pub returns-clause-former : goal.returns-clause-former
returns-clause-former g c =
    let R = g.K.Ord.cmp in
    let cs = c.args.chunks.now.items in
    let chunk = c.index_mut.result.now in
    let there = subst (λ es. IsPlace R es c.args.key c.args.place) (same_default cs c.args.at [] chunk c.requires.within ∙ sym c.index_mut.ensures.value) c.requires.there in
    IfOk-weaker c.replace_at.result _ (λ former. Some former ≡ find R c.args.key (joined cs)) (λ former was.
    was c.args.key there ∙ find_in R g.met.K.Ord.total c.args.key cs c.args.at chunk c.requires.home c.requires.within c.index_mut.ensures.value) c.replace_at.ensures.former

pub returns-clause-ok : goal.returns-clause-ok
returns-clause-ok g c =
    let R = g.K.Ord.cmp in
    let cs = c.args.chunks.now.items in
    let chunk = c.index_mut.result.now in
    let there = subst (λ es. IsPlace R es c.args.key c.args.place) (same_default cs c.args.at [] chunk c.requires.within ∙ sym c.index_mut.ensures.value) c.requires.there in
    on_ok_weaker c.replace_at.result (λ done.
    ap (λ chunk. joined (set cs c.args.at chunk)) (done c.args.key there)
    ∙ put_in_is R g.met.K.Ord.total c.args.key cs c.args.at chunk c.requires.home c.requires.within c.index_mut.ensures.value c.args.value) c.replace_at.ensures.ok

pub returns-clause-chunks : goal.returns-clause-chunks
returns-clause-chunks g c =
    let R = g.K.Ord.cmp in
    let cs = c.args.chunks.now.items in
    let chunk = c.index_mut.result.now in
    let there = subst (λ es. IsPlace R es c.args.key c.args.place) (same_default cs c.args.at [] chunk c.requires.within ∙ sym c.index_mut.ensures.value) c.requires.there in
    let few = replaced_few R g.met.K.Ord.total c.args.key cs c.args.at c.requires.within c.requires.chunks chunk c.index_mut.ensures.value c.args.place there c.args.value in
    either_way c.replace_at.result c.replace_at.ensures.ok c.replace_at.ensures.err
    (λ done. subst (λ es. AreChunks R (set cs c.args.at es)) (sym (done c.args.key there)) (put_are R g.met.K.Ord.total c.args.key cs c.args.at chunk c.requires.home c.requires.within c.index_mut.ensures.value c.requires.chunks c.args.value few))
    (λ failed. subst (AreChunks R) (sym (ap (set cs c.args.at) (failed ∙ c.index_mut.ensures.value) ∙ set-get_or cs c.args.at chunk)) c.requires.chunks)
