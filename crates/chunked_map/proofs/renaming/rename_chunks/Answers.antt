-- The next chunk comes under other keys.
use Rattle.std.proofs.Common.{[], ◌∷◌, ◌++◌, ◌&&◌, map, sym, ap, ◌∙◌, subst, append_assoc}
use Rattle.std.specs.List.{AllByRecursion, list_all}
use Rattle.std.specs.Vec.Iter.{into_iter_items}
use Rattle.std.proofs.lemmas.List.Folds.{list_all-append}
use Rattle.std.proofs.lemmas.Option.{cond_some}
use Rattle.chunked_map.specs.Chunks.{joined}
use Rattle.chunked_map.proofs.RenameLemmas.{with_other, of_key, taken-first, taken-rest}
use Rattle.chunked_map.proofs.renaming.rename_chunks.Goals as goal

pub renamed-requires : goal.renamed-requires
renamed-requires g c =
    let names = g.M.Renames in
    let way = c.args.names.now in
    taken-first g.K.Ord.cmp (names.other way) (names.takes way) (g.met.M.Renames.keeps_order way) c.in-Some.chunk (into_iter_items c.next.new.self)
    (subst (λ chunks. AllByRecursion (λ entry. names.takes way entry.0) (joined chunks)) c.in-Some.ensures.steps.0 c.loop-chunk.invariant.taken)

pub loop-chunk-preserved : goal.loop-chunk-preserved
loop-chunk-preserved g c =
    let names = g.M.Renames in
    let way = c.args.names.now in
    let chunk = c.in-Some.chunk in
    let rest = into_iter_items c.next.new.self in
    let steps = c.in-Some.ensures.steps.0 in
    let is = cond_some _ _ c.in-Some-2.chunk (sym c.in_ok-chunk.ensures ∙ c.in-Some-2.is) in
    record {
      other =
          ap (λ items. items ++ map (map (with_other (names.other way))) rest) (c.in_ok-push.ensures.items ∙ ap (λ new. c.loop-chunk.renamed.items ++ new ∷ []) (sym is.1))
          ∙ append_assoc c.loop-chunk.renamed.items (map (with_other (names.other way)) chunk ∷ []) (map (map (with_other (names.other way))) rest)
          ∙ ap (λ chunks. c.loop-chunk.renamed.items ++ map (map (with_other (names.other way))) chunks) (sym steps)
          ∙ c.loop-chunk.invariant.other;
      has =
          ap (λ b. b && list_all (of_key (names.has_other way)) (joined rest)) (sym is.0)
          ∙ sym (list_all-append (of_key (names.has_other way)) chunk (joined rest))
          ∙ ap (λ chunks. list_all (of_key (names.has_other way)) (joined chunks)) (sym steps)
          ∙ c.loop-chunk.invariant.has;
      taken = taken-rest g.K.Ord.cmp (names.other way) (names.takes way) (g.met.M.Renames.keeps_order way) chunk rest
          (subst (λ chunks. AllByRecursion (λ entry. names.takes way entry.0) (joined chunks)) steps c.loop-chunk.invariant.taken);
    }
