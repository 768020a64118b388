-- Each turn adds the file of one mount more.
use Rattle.std.proofs.Common.{◌+◌, refl, sym, ap, subst, ◌∙◌, length}
use Rattle.kdb_outside.specs.Images.{Image}
use Rattle.mounted_files.specs.Begins.{Begins}
use Rattle.store_core.proofs.ReadingLemmas.{files-none, files-then}
use Rattle.store_core.proofs.mounting.mount_others.Goals as goal

pub loop-added-init : goal.loop-added-init
loop-added-init g c = record {
  reads = files-none g.D.Disk c.args.journal.now;
  others = refl;
  count = ap length c.requires.none;
  storable = λ can. can;
  begins = λ tells begins. begins;
}

pub loop-added-preserved : goal.loop-added-preserved
loop-added-preserved g c =
    let inv = c.loop-added.invariant in
    let now = c.loop-added.opening in
    let next = c.add_next.new.opening in
    record {
      reads = files-then g.D.Disk c.args.journal.now c.loop-added.journal c.add_next.new.journal inv.reads c.add_next.ensures.reads;
      others = c.add_next.ensures.others ∙ inv.others;
      count = c.in_ok-add_next.ensures.count ∙ ap (λ n. n + 1) inv.count;
      storable = λ can. c.in_ok-add_next.ensures.storable (inv.storable can);
      begins = λ tells before.
          let same = inv.reads.reads.same tells in
          let begun = subst (λ (files : Image). Begins g.F.Formats.reads g.F.Formats.is_bad_at files now) (sym same) (inv.begins tells before) in
          subst (λ (files : Image). Begins g.F.Formats.reads g.F.Formats.is_bad_at files next) same (c.in_ok-add_next.ensures.step (inv.reads.reads.tells ∙ tells) begun);
    }

pub returns-in_err-add_next-clause-reads : goal.returns-in_err-add_next-clause-reads
returns-in_err-add_next-clause-reads g c =
    files-then g.D.Disk c.args.journal.now c.loop-added.journal c.add_next.new.journal c.loop-added.invariant.reads c.add_next.ensures.reads

pub returns-in-Ok-clause-storable : goal.returns-in-Ok-clause-storable
returns-in-Ok-clause-storable g c =
    λ can i file there. c.in-Ok.ensures.storable (c.loop-added.invariant.storable can) i file there
