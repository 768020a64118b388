use Rattle.std.proofs.Common.{◌≡◌, take, ap, sym, subst, inr, rules, arith, ◌∙◌}
use Rattle.std.proofs.lemmas.List.{take_at}
use Rattle.kdb_outside.specs.Frames.{OnlyReads}
use Rattle.kdb_outside.proofs.Frames.{OnlyReads-then}
use Rattle.backend_files.proofs.reading.read_file.Goals as goal

pub returns-in_err-count-clause-reads : goal.returns-in_err-count-clause-reads
returns-in_err-count-clause-reads g c =
    let first : OnlyReads g.D.Disk c.args.disk.now c.length.new.self = search rules in
    let second : OnlyReads g.D.Disk c.length.new.self c.read_at.new.self = search rules in
    OnlyReads-then g.D.Disk c.args.disk.now c.length.new.self c.read_at.new.self first second

pub returns-clause-given : goal.returns-clause-given
returns-clause-given g c =
    let first : OnlyReads g.D.Disk c.args.disk.now c.length.new.self = search rules in
    let count = c.in_ok-count.count in
    let given : g.D.Disk.gives c.length.new.self c.args.file.now 0 (take count c.read_at.new.buf) = search rules in
    let handed_on : c.from_vec-2.result ≡ take count c.read_at.new.buf = c.from_vec-2.ensures ∙ c.truncate.ensures.items ∙ ap (take count) (take_at c.read_at.new.buf _ c.in_ok-bytes.bytes.len (omega (arith, c.deref_mut.ensures.len, c.read_at.auto.buf))) in
    inr (c.length.new.self, first, subst (g.D.Disk.gives c.length.new.self c.args.file.now 0) (sym handed_on) given)

pub returns-clause-reads : goal.returns-clause-reads
returns-clause-reads g c =
    let first : OnlyReads g.D.Disk c.args.disk.now c.length.new.self = search rules in
    let second : OnlyReads g.D.Disk c.length.new.self c.read_at.new.self = search rules in
    OnlyReads-then g.D.Disk c.args.disk.now c.length.new.self c.read_at.new.self first second
