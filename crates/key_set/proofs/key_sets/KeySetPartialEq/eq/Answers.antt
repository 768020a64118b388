-- The maps have the keys for entries.
use Rattle.std.proofs.Common.{ap, ◌∙◌, sym}
use Rattle.std.specs.FinMap as map
use Rattle.std.specs.Cmp.Lexicographic.{pointwise}
use Rattle.key_set.specs.Same.{same_key}
use Rattle.key_set.proofs.SetLemmas.{entries-keys}
use Rattle.key_set.proofs.SameLemmas.{pointwise-seen}
use Rattle.key_set.proofs.key_sets.KeySetPartialEq.eq.Goals as goal

pub returns : goal.returns
returns c =
    let mine = sym (entries-keys c.self.inside.keys c.have_same.ensures.sorted) ∙ ap map.entries c.self.view_is in
    let others = sym (entries-keys c.other.inside.keys c.have_same.ensures.others_sorted) ∙ ap map.entries c.other.view_is in
    c.have_same.ensures.same
    ∙ pointwise-seen c.self.inside.keys c.other.inside.keys
    ∙ (λ i. pointwise same_key (mine i) (others i))
