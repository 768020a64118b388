-- What is put among the keys is in the map with all of both.
use Rattle.std.proofs.Common.{sym, ap, ◌∙◌}
use Rattle.std.proofs.lemmas.Result.{on_ok_weaker}
use Rattle.key_set.specs.EntryView.{keys_of}
use Rattle.key_set.specs.WithAll.{with_all}
use Rattle.key_set.proofs.WithAllLemmas.{with_all-keys, with_all-none}
use Rattle.key_set.proofs.key_sets.KeySet.append_all.Goals as goal

pub returns-clause-ok : goal.returns-clause-ok
returns-clause-ok c = on_ok_weaker c.insert_all.result (λ done.
    ap keys_of done
    ∙ with_all-keys c.other.inside.keys c.self.inside.keys c.insert_all.ensures.other_sorted c.insert_all.ensures.sorted
    ∙ (λ i. with_all (c.other.view_is i) (c.self.view_is i))) c.insert_all.ensures.ok

pub returns-then-len-eq0-clause-ok : goal.returns-then-len-eq0-clause-ok
returns-then-len-eq0-clause-ok c =
    c.other.view_is ∙ with_all-none c.args.other c.args.self.now (sym c.len.ensures ∙ c.if-len-eq0.true)
