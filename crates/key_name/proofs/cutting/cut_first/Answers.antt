use Rattle.std.proofs.Common.{◌≡◌, ◌-◌, ◌∷◌, drop, take, suc, add-one, sym, ap, ap₂, ◌∙◌, arith}
use Rattle.std.proofs.lemmas.Str.{IsCharBoundary-before_ascii, lead_after_ascii}
use Rattle.model_names.specs.RawParts.{raw_parts}
use Rattle.key_name.proofs.CutLemmas.{CutsAt-end}
use Rattle.key_name.proofs.cutting.cut_first.Goals as goal

pub range-requires-clause-end_boundary : goal.range-requires-clause-end_boundary
range-requires-clause-end_boundary c =
    let slash = (CutsAt-end c.args.path.now c.first_len-end.result c.first_len-end.ensures).slash c.if-end-path.true in
    IsCharBoundary-before_ascii c.args.path.now c.first_len-end.result c.if-end-path.true (omega arith)

pub range_from-requires : goal.range_from-requires
range_from-requires c =
    let slash = (CutsAt-end c.args.path.now c.first_len-end.result c.first_len-end.ensures).slash c.if-end-path.true in
    λ _. (omega arith, lead_after_ascii c.args.path.now c.first_len-end.result c.utf8.path (omega arith))

pub returns-then-end-path-clause-parts : goal.returns-then-end-path-clause-parts
returns-then-end-path-clause-parts c =
    let path = c.args.path.now in
    let n = c.first_len-end.result in
    let cut = (CutsAt-end path n c.first_len-end.ensures).more c.if-end-path.true in
    let same : n ≡ n - 0 = omega arith in
    let front : take n path ≡ c.range.result.now = ap (λ k. take k path) same ∙ sym c.range.ensures.value in
    let behind : drop (suc n) path ≡ c.range_from.result.now = ap (λ k. drop k path) (sym (add-one n)) ∙ sym c.range_from.ensures.value in
    cut ∙ ap₂ (λ raw rest. raw ∷ raw_parts rest) front behind

pub returns-else-end-path-clause-parts : goal.returns-else-end-path-clause-parts
returns-else-end-path-clause-parts c =
    let cut = CutsAt-end c.args.path.now c.first_len-end.result c.first_len-end.ensures in
    cut.last (omega (arith, cut.within))
