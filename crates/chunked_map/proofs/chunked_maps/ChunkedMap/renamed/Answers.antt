-- The chunks under other keys are chunks, and hold the entries under other keys.
use Rattle.std.proofs.Common.{Some, None, map, sym, ap, ◌∙◌, subst}
use Rattle.std.specs.List.{AllByRecursion, list_all}
use Rattle.std.proofs.lemmas.Bool.{cond-true}
use Rattle.std.proofs.lemmas.Option.{cond_some}
use Rattle.chunked_map.specs.Chunks.{AreChunks, joined}
use Rattle.chunked_map.proofs.RenameLemmas.{with_other, of_key, chunks-turned, joined-turned}
use Rattle.chunked_map.proofs.chunked_maps.ChunkedMap.renamed.Goals as goal

pub invariant_of-result : goal.invariant_of-result
invariant_of-result g c =
    let R = g.K.Ord.cmp in
    let names = g.M.Renames in
    let way = c.args.names.now in
    let chunks = c.self.inside.chunks.items in
    let is = cond_some _ _ c.in-Some.chunks.items (sym (rw c.in-Some.is at c.in_ok-chunks.ensures)) in
    subst (AreChunks R) is.1 (chunks-turned R (names.other way) (names.takes way) (g.met.M.Renames.keeps_order way) chunks (subst (λ entries. AllByRecursion (λ entry. names.takes way entry.0) entries) (sym c.self.view_is) c.requires) c.self.invariant)

pub returns-in-Some-clause-renamed : goal.returns-in-Some-clause-renamed
returns-in-Some-clause-renamed g c =
    let names = g.M.Renames in
    let way = c.args.names.now in
    let chunks = c.self.inside.chunks.items in
    let is = cond_some _ _ c.in-Some.chunks.items (sym (rw c.in-Some.is at c.in_ok-chunks.ensures)) in
    ap Some (ap joined (sym is.1) ∙ joined-turned (with_other (names.other way)) chunks ∙ ap (map (with_other (names.other way))) c.self.view_is)
    ∙ sym (cond-true (list_all (of_key (names.has_other way)) c.args.self) (Some (map (with_other (names.other way)) c.args.self)) None (ap (list_all (of_key (names.has_other way))) (sym c.self.view_is) ∙ is.0))
