-- Each turn reads one line more, or stops at the first that has no reading.
use Rattle.std.proofs.Common.{sym, ap, subst, ◌∙◌, arith}
use Rattle.model_maps.specs.KeyMap.{KeyMap, no_keys, weight}
use Rattle.model_maps.proofs.MapLemmas.{weight-no_keys}
use Rattle.ini_storage.specs.Steps.{Steps}
use Rattle.file_lines.proofs.Reading.{HasRead, HasRead-start, HasRead-more, HasRead-stops}
use Rattle.model_ini.specs.Ini.{Step}
use Rattle.ini_storage.proofs.reading.read.Goals as goal

pub loop-rest-init : goal.loop-rest-init
loop-rest-init c = record {
  read = subst (λ (keys : KeyMap). HasRead Step no_keys c.args.bytes.now c.args.bytes.now keys 1) (sym c.new.ensures) (HasRead-start Step no_keys c.args.bytes.now);
  sound = sym weight-no_keys ∙ ap weight (sym c.new.ensures);
  small = omega arith;
}

pub returns-then-not-branch : goal.returns-then-not-branch
returns-then-not-branch c _ =
    let line = c.first_line.result.0.now in
    let none = subst (Steps c.loop-rest.progress.keys line c.add_line.new.progress.keys) c.if-not-branch.true c.in_ok-add_line.ensures.read in
    HasRead-stops Step no_keys c.args.bytes.now c.loop-rest.rest.now c.first_line.result.1.now line c.loop-rest.progress.keys c.loop-rest.number c.loop-rest.invariant.read c.first_line.ensures.cut none

pub loop-rest-preserved : goal.loop-rest-preserved
loop-rest-preserved c =
    let line = c.first_line.result.0.now in
    let step = subst (Steps c.loop-rest.progress.keys line c.add_line.new.progress.keys) c.if-not-branch.false c.in_ok-add_line.ensures.read in
    record {
      read = HasRead-more Step no_keys c.args.bytes.now c.loop-rest.rest.now c.first_line.result.1.now line c.loop-rest.progress.keys c.add_line.new.progress.keys c.loop-rest.number c.loop-rest.invariant.read c.first_line.ensures.cut step;
      sound = c.in_ok-add_line.ensures.sound;
      small = omega (arith, c.first_line.ensures.shorter, c.loop-rest.invariant.small);
    }
