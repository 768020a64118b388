use Rattle.std.proofs.Common.{◌≡◌, ◌+◌, drop, length, sym, ap, ◌∙◌, arith}
use Rattle.std.proofs.lemmas.Bool.{eqb-false}
use Rattle.model_names.specs.Name.{Name}
use Rattle.model_names.specs.Spelling.{path, path_of_parts}
use Rattle.key_name.proofs.WellFormedLemmas.{bytes_of_rest}
use Rattle.key_name.proofs.names.KeyName.bytes_behind.Goals as goal

pub returns-then-self-above : goal.returns-then-self-above
returns-then-self-above c =
    let filled = eqb-false (length c.above.inside.parts) 0 (sym c.is_empty.ensures ∙ c.if-is_empty.false) in
    let parts = ap (λ (name : Name). length name.parts) c.above.view_is in
    let own = c.self.invariant.bytes ∙ ap (λ (name : Name). length (path name)) c.self.view_is in
    let other = c.above.invariant.bytes ∙ ap (λ (name : Name). length (path name)) c.above.view_is in
    sym ((bytes_of_rest c.args.above.now c.args.self.now c.requires (omega (arith, filled, parts))).none (omega (arith, own, other, c.if-self-above.true)))

whole : (c : goal.Else-self-above)
    → length (path c.args.self.now)
    ≡ length (path c.args.above.now) + length (path_of_parts (drop (length c.args.above.now.parts) c.args.self.now.parts))
whole c =
    let filled = eqb-false (length c.above.inside.parts) 0 (sym c.is_empty.ensures ∙ c.if-is_empty.false) in
    let parts = ap (λ (name : Name). length name.parts) c.above.view_is in
    let own = c.self.invariant.bytes ∙ ap (λ (name : Name). length (path name)) c.self.view_is in
    let other = c.above.invariant.bytes ∙ ap (λ (name : Name). length (path name)) c.above.view_is in
    (bytes_of_rest c.args.above.now c.args.self.now c.requires (omega (arith, filled, parts))).some (λ same. c.if-self-above.false (own ∙ same ∙ sym other))

pub overflow_sub-result : goal.overflow_sub-result
overflow_sub-result c =
    let own = c.self.invariant.bytes ∙ ap (λ (name : Name). length (path name)) c.self.view_is in
    let other = c.above.invariant.bytes ∙ ap (λ (name : Name). length (path name)) c.above.view_is in
    omega (arith, own, other, whole c)

pub returns : goal.returns
returns c =
    let own = c.self.invariant.bytes ∙ ap (λ (name : Name). length (path name)) c.self.view_is in
    let other = c.above.invariant.bytes ∙ ap (λ (name : Name). length (path name)) c.above.view_is in
    omega (arith, own, other, whole c)
