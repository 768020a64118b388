-- The entries are those of the chunk under other keys, in order.
use Rattle.std.proofs.Common.{T, Some, None, map, length, drop, sym, ap, ◌∙◌, subst, arith}
use Rattle.std.specs.FinMap.{is_sorted}
use Rattle.std.specs.List.{list_all}
use Rattle.std.proofs.lemmas.Bool.{cond-true}
use Rattle.general_words.proofs.Tests.{true_is}
use Rattle.chunked_map.proofs.RenameLemmas.{with_other, of_key, sorted-turned, written-back}
use Rattle.chunked_map.proofs.shared.Chunk.renamed.Goals as goal

pub of-requires : goal.of-requires
of-requires g c =
    let R = g.K.Ord.cmp in
    let names = g.M.Renames in
    let way = c.args.names.now in
    let es = c.args.self in
    let was = c.deref_mut.ensures.value ∙ c.into_list-entries.ensures.all ∙ c.in_ok-into_entries.ensures in
    let written = written-back (with_other (names.other way)) c.into_list-entries.result.len c.rename_all.new.entries (drop (length c.rename_all.new.entries) c.into_list-entries.result.items) (omega (arith, c.rename_all.auto.entries, c.deref_mut.ensures.len)) in
    let new = c.in_ok-rename_all.ensures.other (true_is _ (sym c.in_ok-rename_all.ensures.all ∙ c.if-branch.true)) in
    subst (λ entries. T (is_sorted R entries)) (sym (written ∙ new ∙ ap (map (with_other (names.other way))) was))
    (sorted-turned R (names.other way) (names.takes way) (g.met.M.Renames.keeps_order way) es c.requires (subst (λ entries. T (is_sorted R entries)) c.in_ok-into_entries.ensures c.into_list-entries.ensures.sorted))

pub returns-in_ok-of : goal.returns-in_ok-of
returns-in_ok-of g c =
    let names = g.M.Renames in
    let way = c.args.names.now in
    let es = c.args.self in
    let was = c.deref_mut.ensures.value ∙ c.into_list-entries.ensures.all ∙ c.in_ok-into_entries.ensures in
    let written = written-back (with_other (names.other way)) c.into_list-entries.result.len c.rename_all.new.entries (drop (length c.rename_all.new.entries) c.into_list-entries.result.items) (omega (arith, c.rename_all.auto.entries, c.deref_mut.ensures.len)) in
    let all = sym c.in_ok-rename_all.ensures.all ∙ c.if-branch.true in
    let new = c.in_ok-rename_all.ensures.other (true_is _ all) in
    ap Some (c.in_ok-of.ensures ∙ written ∙ new ∙ ap (map (with_other (names.other way))) was)
    ∙ sym (cond-true (list_all (of_key (names.has_other way)) es) (Some (map (with_other (names.other way)) es)) None (ap (list_all (of_key (names.has_other way))) (sym was) ∙ all))
