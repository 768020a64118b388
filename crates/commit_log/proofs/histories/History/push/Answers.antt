use Rattle.std.proofs.Common.{◌≡◌, ◌≤◌, ◌+◌, ◌++◌, ◌∷◌, [], ℕ, List, cond, length, map, sym, ap, subst, ◌∙◌, arith}
use Rattle.std.proofs.lemmas.List.{length-map}
use Rattle.model_history.specs.History.{is_among, history_weight, weight_of_commit, heaviest_history}
use Rattle.model_history.specs.History as past
use Rattle.commit_log.specs.CommitView.{commit_of}
use Rattle.commit_log.specs.Index.{IsIndex, last_of}
use Rattle.commit_log.specs.Naming.{IsNaming}
use Rattle.commit_log.proofs.NamingLemmas.{naming-pushed}
use Rattle.commit_log.proofs.LogLemmas.{added, history_weight-snoc, index-pushed, map-pushed, written-back}
use Rattle.commit_log.proofs.histories.History.push.Goals as goal

pub invariant_of-self : goal.invariant_of-self
invariant_of-self c =
    let commits : List past.Commit = map commit_of c.self.inside.commits.items in
    let commit : past.Commit = commit_of c.args.commit in
    let longer : List past.Commit = commits ++ commit ∷ [] in
    let pushed : map commit_of c.push_reserved.new.self.items ≡ longer = ap (map commit_of) c.push_reserved.ensures.items ∙ map-pushed c.self.inside.commits.items c.args.commit in
    let light : history_weight longer ≤ heaviest_history = subst (λ log. history_weight (log.commits ++ commit ∷ []) ≤ heaviest_history) (sym c.self.view_is) c.requires.light in
    let sum = history_weight-snoc commits commit in
    let weighed = added (history_weight commits) (weight_of_commit commit) c.self.inside.weight c.weight.result (history_weight longer)
    heaviest_history sum c.weight.ensures c.self.invariant.0 light (omega arith) in
    let long : length c.mark.new.last ≡ length c.self.inside.last.items = omega (arith, ap length c.deref_mut.ensures.value) in
    let back = written-back c.self.inside.last.items c.mark.new.last c.self.inside.last.len long (omega arith) in
    let number : c.len.result + 1 ≡ length commits + 1 = omega (arith, length-map c.self.inside.commits.items commit_of) in
    let marked : (m : ℕ) → last_of c.mark.new.last m ≡ cond (is_among c.args.commit.touched m) (length commits + 1) (last_of c.self.inside.last.items m) = λ m.
    c.mark.ensures m
    ∙ ap (λ touched. cond (is_among touched m) (c.len.result + 1) (last_of c.deref_mut.result.now m)) c.as_slice.ensures
    ∙ ap (λ n. cond (is_among c.args.commit.touched m) n (last_of c.deref_mut.result.now m)) number
    ∙ ap (λ last. cond (is_among c.args.commit.touched m) (length commits + 1) (last_of last m)) c.deref_mut.ensures.value in
    let index = index-pushed commits commit c.self.inside.last.items c.mark.new.last c.self.invariant.2 marked in
    let naming = naming-pushed commits commit c.self.inside.names c.self.inside.named c.self.invariant.3 in (
      weighed.0 ∙ ap history_weight (sym pushed),
      weighed.1,
      subst (λ last. IsIndex (map commit_of c.push_reserved.new.self.items) last) (sym back) (subst (λ all. IsIndex all c.mark.new.last) (sym pushed) index),
      subst (λ all. IsNaming all c.self.inside.named c.self.inside.names) (sym pushed) naming,
    )
