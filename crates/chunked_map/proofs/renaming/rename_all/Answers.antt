-- The next entry gets the other key, where it has one.
use Rattle.std.proofs.Common.{◌≡◌, true, false, ◌&&◌, sym, ap, ◌∙◌, arith, true≢false, get_or, ◌+◌}
use Rattle.std.proofs.lemmas.List.Folds.{list_all_more, list_all_at}
use Rattle.general_words.proofs.Tests.{true_of, true_is}
use Rattle.chunked_map.proofs.RenameLemmas.{with_other, of_key, front-at, front-next}
use Rattle.chunked_map.proofs.renaming.rename_all.Goals as goal

pub loop-i-preserved : goal.loop-i-preserved
loop-i-preserved g c =
    let names = g.M.Renames in
    let map = c.args.names.now in
    let es = c.args.entries.now in
    let i = c.loop-i.i in
    let r = c.index-entries-i.result in
    let within = c.loop-i-test.true in
    let is = c.loop-i.invariant.other in
    let has : names.has_other map (get_or c.loop-i.entries i r).0 ≡ true = sym c.in_ok-rename.ensures.has ∙ c.if-not-branch.false in
    let same = ap (λ now. get_or now i r) is ∙ front-at (with_other (names.other map)) es i r within in
    record {
      other = front-next (with_other (names.other map)) es c.loop-i.entries i (i + 1) r (c.rename.new.key, (get_or c.loop-i.entries i r).1) within (omega arith) is (ap (λ k. (k, (get_or c.loop-i.entries i r).1)) (c.in_ok-rename.ensures.other (true_is _ has)));
      has = list_all_more (of_key (names.has_other map)) es i r within ∙ ap (λ b. b && names.has_other map (get_or es i r).0) c.loop-i.invariant.has ∙ ap (of_key (names.has_other map)) (sym same) ∙ has;
    }

pub returns-then-not-branch-clause-other : goal.returns-then-not-branch-clause-other
returns-then-not-branch-clause-other g c = λ all.
    let names = g.M.Renames in
    let map = c.args.names.now in
    let es = c.args.entries.now in
    let i = c.loop-i.i in
    let r = c.index-entries-i.result in
    let within = c.loop-i-test.true in
    let same = ap (λ now. get_or now i r) c.loop-i.invariant.other ∙ front-at (with_other (names.other map)) es i r within in
    let none : names.has_other map (get_or es i r).0 ≡ false = ap (of_key (names.has_other map)) (sym same) ∙ sym c.in_ok-rename.ensures.has ∙ c.if-not-branch.true in
    absurd (true≢false (sym (true_of _ all) ∙ list_all_at (of_key (names.has_other map)) es i r within none))
