use Rattle.std.proofs.Common.{List, length, sym, ap, subst, ◌∙◌, arith}
use Rattle.model_names.specs.Name.{Name, Part}
use Rattle.model_names.specs.Spelling.{path, path_of_parts}
use Rattle.model_names.specs.WellFormed.{IsName}
use Rattle.model_names.proofs.RefusesLemmas.{no_nul-from_position}
use Rattle.key_name.specs.Children.{child_of}
use Rattle.key_name.specs.KeyName.{name_of}
use Rattle.key_name.proofs.ChildLemmas.{IsName-child, child_refusal-none, saturated_short}
use Rattle.key_name.proofs.names.KeyName.child.Goals as goal

pub with_part-requires : goal.with_part-requires
with_part-requires c = no_nul-from_position c.args.part.now (sym c.in_default.ensures)

pub returns-clause-name : goal.returns-clause-name
returns-clause-name c =
    let bytes = saturated_short _ _ c.child_bytes-bytes.ensures c.if-bytes-gt-LONGEST_PATH.false ∙ ap (λ (name : Name). length (path (child_of name c.args.part.now))) (sym c.self.view_is) in
    let name = IsName-child c.self.inside.namespace c.self.inside.namespace (name_of c.self.inside).parts c.args.part.now c.self.invariant.name c.utf8.part (sym c.is_misspelled.ensures ∙ c.if-is_misspelled.false) (sym c.in_default.ensures) (omega (arith, bytes, c.if-bytes-gt-LONGEST_PATH.false)) in
    subst (λ (parts : List Part). IsName (record { namespace = c.self.inside.namespace; parts = parts })) (sym c.in_ok-with_part.ensures) name

pub invariant_of-result : goal.invariant_of-result
invariant_of-result c =
    let own = (name_of c.self.inside).parts in
    let seen = ap (λ (name : Name). length (path (child_of name c.args.part.now))) (sym c.self.view_is) in
    let bytes = saturated_short _ _ c.child_bytes-bytes.ensures c.if-bytes-gt-LONGEST_PATH.false ∙ seen in
    let name = IsName-child c.self.inside.namespace c.self.inside.namespace own c.args.part.now c.self.invariant.name c.utf8.part (sym c.is_misspelled.ensures ∙ c.if-is_misspelled.false) (sym c.in_default.ensures) (omega (arith, bytes, c.if-bytes-gt-LONGEST_PATH.false)) in
    record {
      name = subst (λ (parts : List Part). IsName (record { namespace = c.self.inside.namespace; parts = parts })) (sym c.in_ok-with_part.ensures) name;
      bytes = bytes ∙ ap (λ (parts : List Part). length (path_of_parts parts)) (sym c.in_ok-with_part.ensures);
    }

pub returns-clause-accepted : goal.returns-clause-accepted
returns-clause-accepted c =
    let bytes = saturated_short _ _ c.child_bytes-bytes.ensures c.if-bytes-gt-LONGEST_PATH.false in
    child_refusal-none c.args.self.now c.args.part.now (sym c.is_misspelled.ensures ∙ c.if-is_misspelled.false) (sym c.in_default.ensures) (omega (arith, bytes, c.if-bytes-gt-LONGEST_PATH.false))
