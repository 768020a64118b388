use Rattle.std.proofs.Common.{option_map, Bor, ◌≡◌, sym, ap, ◌∙◌, drop, arith}
use Rattle.std.proofs.lemmas.Option.{slice_get_past}
use Rattle.model_names.specs.Name.{Part}
use Rattle.key_name.proofs.PartListLemmas.{next_is, none_left, rest_is}
use Rattle.key_name.proofs.part_list.PartList.get.Goals as goal

pub returns-in_err-next : goal.returns-in_err-next
returns-in_err-next c =
    let past = none_left c.args.self.now c.loop-past.parts c.loop-past._past c.loop-past.invariant c.in_err-next.ensures.steps.0 in
    ap (option_map (λ (part : Bor Part). part.now)) c.from_residual.ensures
    ∙ sym (slice_get_past c.args.self.now c.args.i (omega (arith, past, c.loop-past-test.true)))

pub loop-past-preserved : goal.loop-past-preserved
loop-past-preserved c =
    rest_is c.args.self.now c.loop-past.parts c.next.new.self c.loop-past._past c.in_ok-next.field-0.now c.loop-past.invariant c.in_ok-next.ensures.steps

pub returns : goal.returns
returns c =
    let all : c.loop-past._past ≡ c.args.i = omega arith in
    next_is c.args.self.now c.loop-past.parts c.next-2.new.self c.args.i c.next-2.result (c.loop-past.invariant ∙ ap (λ n. drop n c.args.self.now) all) c.next-2.ensures.steps
