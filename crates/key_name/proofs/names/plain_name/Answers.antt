use Rattle.std.proofs.Common.{List, length, sym, ap, subst, ◌∙◌, arith}
use Rattle.model_names.specs.Name.{Part}
use Rattle.model_names.specs.Spelling.{path_of_parts}
use Rattle.model_names.specs.Spells.{Spells}
use Rattle.model_names.proofs.NameLemmas.{spelled_is_name}
use Rattle.key_name.specs.Raws.{text_behind}
use Rattle.key_name.proofs.PlainLemmas.{Spells-plain, path-plain, plain_found}
use Rattle.key_name.proofs.names.plain_name.Goals as goal

spells : (c : goal.In-Some)
    → Spells (text_behind c.args.namespace c.args.path.now) (record { namespace = c.args.namespace; parts = c.in-Some.parts })
spells c =
    let found = plain_found c.args.path.now c.in-Some.parts (sym c.in-Some.is ∙ c.in_ok-parts.ensures) in
    subst (λ (parts : List Part). Spells (text_behind c.args.namespace c.args.path.now) (record { namespace = c.args.namespace; parts = parts })) (sym found.1) (Spells-plain c.args.namespace c.args.path.now c.utf8.path found.0 (omega arith))

pub invariant_of-result : goal.invariant_of-result
invariant_of-result c =
    let found = plain_found c.args.path.now c.in-Some.parts (sym c.in-Some.is ∙ c.in_ok-parts.ensures) in
    let bytes = ap length (ap path_of_parts found.1 ∙ path-plain c.args.path.now found.0) in
    record { name = spelled_is_name _ _ (spells c); bytes = omega (arith, bytes) }

pub returns-in-Some : goal.returns-in-Some
returns-in-Some c = spells c
