use Rattle.std.proofs.Common.{◌≡◌, ◌≢◌, ℕ, List, ◌∷◌, string_bytes, lit<, subst, ◌∙◌}
use Rattle.std.specs.Option.{MatchOption}
use Rattle.std.proofs.lemmas.Str.Pattern.{strip_prefix_char}
use Rattle.key_name.proofs.PartListLemmas.{parts_to_come}
use Rattle.key_name.proofs.part_list.PartList.iter.Goals as goal

pub returns : goal.returns
returns c =
    let found = strip_prefix_char 0 c.deref.result.now c.strip_prefix.result c.strip_prefix.ensures.cases (lit< tt) in
    let behind = subst (λ (text : List ℕ). MatchOption c.strip_prefix.result ((tail : List ℕ) → text ≢ 0 ∷ tail) (λ rest. text ≡ 0 ∷ rest.now)) c.deref.ensures found in
    parts_to_come (string_bytes c.self.inside.text) c.self.invariant c.strip_prefix.result behind ∙ c.self.view_is
