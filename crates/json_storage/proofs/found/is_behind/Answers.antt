use Rattle.std.proofs.Common.{◌≡◌, ◌+◌, ◌-◌, length, arith}
use Rattle.std.specs.FinMap as finite
use Rattle.key_set.specs.EntryView.{entry_of}
use Rattle.model_names.specs.Name.{Name}
use Rattle.model_maps.specs.Entry.{Entry}
use Rattle.json_storage.proofs.Behind.{behind-last, last-behind, some-there}
use Rattle.json_storage.proofs.found.is_behind.Goals as goal

pub returns-in-Some : goal.returns-in-Some
returns-in-Some c =
    let es = finite.entries c.args.keys.now in
    let i = c.len-count.result - 1 in
    let key : Name × Entry = (c.in-Some.last.now, entry_of c.in-Some.field-0-1.now) in
    let len : length es ≡ i + 1 = omega (arith, c.len-count.ensures, c.if-count-eq0.false) in (
      λ before. behind-last es i key c.args.name.now (finite.entries_sorted c.args.keys.now) len c.in-Some.ensures (c.is_before.ensures.0 before),
      λ all. c.is_before.ensures.1 (last-behind es i key c.args.name.now len c.in-Some.ensures all),
    )

pub returns-in-None : goal.returns-in-None
returns-in-None c =
    let es = finite.entries c.args.keys.now in
    let i = c.len-count.result - 1 in
    let len : length es ≡ i + 1 = omega (arith, c.len-count.ensures, c.if-count-eq0.false) in
    absurd (some-there es i (omega (arith, len)) c.in-None.ensures)
