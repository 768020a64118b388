-- Each turn reads one line more, or stops at the first that adds nothing.
use Rattle.std.proofs.Common.{◌≡◌, ◌++◌, ℕ, List, [], sym, ap, subst, ◌∙◌, arith}
use Rattle.std.proofs.lemmas.List.{append-nil}
use Rattle.model_lines.specs.Lines.{lines}
use Rattle.model_lines.specs.Reading.{Leads}
use Rattle.file_lines.proofs.Reading.{HasRead-start, HasRead-more, HasRead-stops}
use Rattle.batch_script.specs.Progresses.{GoesOn}
use Rattle.batch_script.specs.Scripts.{Adds}
use Rattle.batch_script.proofs.WordLemmas.{empty-by}
use Rattle.batch_script.proofs.reading.parse_script.Goals as goal

pub loop-rest-init : goal.loop-rest-init
loop-rest-init c = ([], HasRead-start Adds [] c.args.bytes.now, c.in_ok-progress.ensures, omega arith)

pub add_line-requires : goal.add_line-requires
add_line-requires c = (c.loop-rest.invariant.0, c.loop-rest.invariant.2)

pub returns-then-not-branch : goal.returns-then-not-branch
returns-then-not-branch c =
    let h = c.loop-rest.invariant in
    let line = c.first_line.result.0.now in
    let none = subst (GoesOn c.add_line.new.progress h.0 line) c.if-not-branch.true (c.in_ok-add_line.ensures h.0 h.2) in
    HasRead-stops Adds [] c.args.bytes.now c.loop-rest.rest.now c.first_line.result.1.now line h.0 c.loop-rest.number h.1 c.first_line.ensures.cut none

pub loop-rest-preserved : goal.loop-rest-preserved
loop-rest-preserved c =
    let h = c.loop-rest.invariant in
    let line = c.first_line.result.0.now in
    let step = subst (GoesOn c.add_line.new.progress h.0 line) c.if-not-branch.false (c.in_ok-add_line.ensures h.0 h.2) in (
      step.0,
      HasRead-more Adds [] c.args.bytes.now c.loop-rest.rest.now c.first_line.result.1.now line h.0 step.0 c.loop-rest.number h.1 c.first_line.ensures.cut step.1,
      step.2,
      omega (arith, c.first_line.ensures.shorter, h.3),
    )

pub script_of-requires : goal.script_of-requires
script_of-requires c = (c.loop-rest.invariant.0, c.loop-rest.invariant.2)

pub returns : goal.returns
returns c =
    let h = c.loop-rest.invariant in
    let none = empty-by c.loop-rest.rest.now (sym c.loop-rest-test.ensures) in
    let all : lines c.args.bytes.now ≡ h.1.front = h.1.whole ∙ ap (λ t. h.1.front ++ lines t) none ∙ append-nil h.1.front in
    record {
      items = h.0;
      leads = subst (λ (ls : List (List ℕ)). Leads Adds [] ls h.0) (sym all) h.1.leads;
      script_is = c.in_ok-script_of.ensures h.0 h.2;
    }
