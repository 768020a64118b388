-- A cut changes the first file of the name, and of a missing file nothing is left to cut.
use Rattle.std.proofs.Common.{take, sym, ap, ◌∙◌, refl}
use Rattle.std.proofs.Math.Seq.{take-nil}
use Rattle.disk_memory.proofs.Named.{IsFirst-position, IsMissing-position, bytes_of-missing, ChangesTo-set}
use Rattle.disk_memory.proofs.mem_files.cut_in.Goals as goal

pub returns-in-Some : goal.returns-in-Some
returns-in-Some c =
    let first = IsFirst-position c.args.files.now c.args.name.now c.in-Some.place (sym c.in-Some.ensures) in
    ChangesTo-set _ _ _ c.index-files-place.result _ c.cut.new.self (take c.args.to) first refl c.cut.ensures

pub returns-in_default : goal.returns-in_default
returns-in_default c =
    let none = bytes_of-missing _ _ (IsMissing-position c.args.files.now c.args.name.now (sym c.in_default.ensures)) in
    record {
      this = none ∙ sym (ap (take c.args.to) none ∙ take-nil c.args.to);
      others = λ other differ. refl;
    }
