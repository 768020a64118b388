-- Each turn reads one line more, or stops at the first that has no reading.
use Rattle.std.proofs.Common.{sym, ap, subst, arith}
use Rattle.model_maps.specs.KeyMap.{weight}
use Rattle.model_formats.specs.Holding.{EachHas}
use Rattle.model_lines.proofs.EachKey.{EachHas-no_keys}
use Rattle.model_maps.proofs.MapLemmas.{weight-no_keys}
use Rattle.model_hosts.specs.Hosts.{Progress, start, Step}
use Rattle.hosts_storage.specs.WeighedView.{IsPlainAlias}
use Rattle.hosts_storage.specs.ProgressView.{progress_of, LeadsBy}
use Rattle.file_lines.proofs.Reading.{HasRead, HasRead-start, HasRead-more, HasRead-stops}
use Rattle.hosts_storage.proofs.reading.read.Goals as goal

pub loop-rest-init : goal.loop-rest-init
loop-rest-init c = record {
  read = subst (λ (p : Progress). HasRead Step start c.args.bytes.now c.args.bytes.now p 1) (λ i. record { keys = sym c.new.ensures i; waiting = sym c.new-2.ensures.items i }) (HasRead-start Step start c.args.bytes.now);
  sound = record {
    weighed = omega (arith, weight-no_keys, ap weight c.new.ensures);
    plain = subst (EachHas IsPlainAlias) (sym c.new.ensures) (EachHas-no_keys IsPlainAlias);
  };
  small = omega arith;
}

pub returns-then-not-branch : goal.returns-then-not-branch
returns-then-not-branch c _ =
    let line = c.first_line.result.0.now in
    let none = subst (LeadsBy (Step (progress_of c.loop-rest.progress) line) c.add_line.new.progress) c.if-not-branch.true c.in_ok-add_line.ensures in
    HasRead-stops Step start c.args.bytes.now c.loop-rest.rest.now c.first_line.result.1.now line (progress_of c.loop-rest.progress) c.loop-rest.number c.loop-rest.invariant.read c.first_line.ensures.cut none

pub loop-rest-preserved : goal.loop-rest-preserved
loop-rest-preserved c =
    let line = c.first_line.result.0.now in
    let step = subst (LeadsBy (Step (progress_of c.loop-rest.progress) line) c.add_line.new.progress) c.if-not-branch.false c.in_ok-add_line.ensures in
    record {
      read = HasRead-more Step start c.args.bytes.now c.loop-rest.rest.now c.first_line.result.1.now line (progress_of c.loop-rest.progress) (progress_of c.add_line.new.progress) c.loop-rest.number c.loop-rest.invariant.read c.first_line.ensures.cut step.0;
      sound = step.1;
      small = omega (arith, c.first_line.ensures.shorter, c.loop-rest.invariant.small);
    }
