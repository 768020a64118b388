use Rattle.std.proofs.Common.{◌≡◌, List, nat_eq, length, drop, true, sym, ap, ap₂, subst, ◌∙◌}
use Rattle.std.proofs.lemmas.Bool.{and_from}
use Rattle.model_names.specs.declared.namespaces.Namespace.TheVariants.{Cascading}
use Rattle.model_names.specs.Below.{is_at_or_below}
use Rattle.model_names.specs.Name.{Name, Part, rank}
use Rattle.model_names.specs.Spelling.{path_of_parts}
use Rattle.model_names.specs.WellFormed.{IsName}
use Rattle.key_name.specs.Joining.{joined}
use Rattle.key_name.proofs.PlainLemmas.{if_found}
use Rattle.key_name.proofs.WellFormedLemmas.{IsName-drop, joined-way}
use Rattle.key_name.proofs.names.KeyName.relative_to.Goals as goal

-- the parts that are left
rest_is : (c : goal.After-bytes_behind) → c.in-Some.parts ≡ drop (length c.args.above.now.parts) c.args.self.now.parts
rest_is c =
    let found = if_found _ _ _ (sym c.in-Some.is ∙ c.in_ok-parts.ensures) in
    found.1 ∙ ap₂ (λ (above : Name) (name : Name). drop (length above.parts) name.parts) c.above.view_is c.self.view_is

-- the name is at or below the other
test_is : (c : goal.After-bytes_behind) → is_at_or_below c.args.above.now c.args.self.now ≡ true
test_is c =
    let found = if_found _ _ _ (sym c.in-Some.is ∙ c.in_ok-parts.ensures) in
    rw (← c.self.view_is, ← c.above.view_is) (and_from (nat_eq (rank c.self.inside.namespace) (rank c.above.inside.namespace)) _ (sym c.same_namespace.ensures ∙ c.if-not-same_namespace.false) found.0)

-- the way there is a name, as this one is
way_is_name : (c : goal.After-bytes_behind) → IsName (record { namespace = Cascading; parts = c.in-Some.parts })
way_is_name c =
    let name = subst (λ (name : Name). IsName name) c.self.view_is c.self.invariant.name in
    subst (λ (parts : List Part). IsName (record { namespace = Cascading; parts = parts })) (sym (rest_is c)) (IsName-drop c.args.self.now.namespace Cascading c.args.self.now.parts (length c.args.above.now.parts) name)

pub invariant_of-result : goal.invariant_of-result
invariant_of-result c = record {
  name = way_is_name c;
  bytes = c.bytes_behind.ensures ∙ ap (λ (parts : List Part). length (path_of_parts parts)) (sym (rest_is c));
}

pub returns-in-Some-clause-names : goal.returns-in-Some-clause-names
returns-in-Some-clause-names c =
    (way_is_name c, subst (λ (name : Name). IsName name) c.self.view_is c.self.invariant.name)

pub returns-in-Some-clause-back : goal.returns-in-Some-clause-back
returns-in-Some-clause-back c =
    ap (λ (parts : List Part). joined c.args.above.now (record { namespace = Cascading; parts = parts })) (rest_is c)
    ∙ joined-way c.args.above.now c.args.self.now (test_is c)
