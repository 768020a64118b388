use Rattle.std.proofs.Common.{ℕ, Some, None, ◌==◌, ◌∷◌, sym, ap₂, ◌∙◌}
use Rattle.std.specs.List.{slice_split}
use Rattle.std.proofs.lemmas.List.Splits.{slice_split_first}
use Rattle.std.proofs.lemmas.Str.Pattern.{split_once_first, split_parts}
use Rattle.key_name.proofs.PartListLemmas.{split-none}
use Rattle.key_name.proofs.cutting.cut_at.Goals as goal

pub returns-in-Some-clause-parts : goal.returns-in-Some-clause-parts
returns-in-Some-clause-parts c =
    let text = c.args.text.now in
    let letter = c.args.letter in
    let found = split_once_first letter text (Some (c.in-Some.part, c.in-Some.rest)) c.in-Some.ensures.cases c.requires in
    slice_split_first (λ (b : ℕ). b == letter) text 0 found.0
    ∙ ap₂ (λ part rest. part ∷ slice_split (λ (b : ℕ). b == letter) rest) (sym found.1) (sym found.2)

pub returns-in-None-clause-parts : goal.returns-in-None-clause-parts
returns-in-None-clause-parts c =
    split-none c.args.letter c.args.text.now (split_parts c.args.letter c.args.text.now None c.in-None.ensures.cases c.requires)
