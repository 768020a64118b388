use Rattle.std.proofs.Common.{◌≡◌, ℕ, ◌+◌, take, drop, Some, Ok, Err, sym, ap, subst, ◌∙◌}
use Rattle.kdb_outside.specs.Images.{Image}
use Rattle.kdb_outside.proofs.Frames.{OnlyReads-then}
use Rattle.journal_steps.specs.declared.faults.JournalFault.TheVariants.{BadJournal, UnknownVersion}
use Rattle.journal_lists.specs.Heads.{head_start, header_or_place}
use Rattle.journal_lists.specs.Starts.{start_of_head}
use Rattle.journal_lists.proofs.HeadReads.{none_by_not_start, head_absent, start_is, head_unknown, head_long, head_by, told_header}
use Rattle.journal_lists.proofs.starts.read_head.Goals as goal

pub returns-in_default-clause-found : goal.returns-in_default-clause-found
returns-in_default-clause-found g c tells =
    let seen = g.D.Disk.seen c.args.disk.now c.args.journal.now in
    let none = sym (c.in_ok-start.ensures.told tells) ∙ none_by_not_start c.in_ok-start.field-0 c.in_default.not-Some in
    head_absent seen none ∙ ap Ok (sym c.no_head.ensures.names)

pub returns-then-start-ne-VERSION-clause-unknown : goal.returns-then-start-ne-VERSION-clause-unknown
returns-then-start-ne-VERSION-clause-unknown g c tells number is =
    let seen = g.D.Disk.seen c.args.disk.now c.args.journal.now in
    let told : start_of_head seen ≡ Some c.in-Some.start = sym (c.in_ok-start.ensures.told tells) ∙ c.in-Some.is in
    let same : c.in-Some.start.version ≡ number = cc in
    head_unknown seen c.in-Some.start told c.if-start-ne-VERSION.true ∙ ap (λ (n : ℕ). Err (UnknownVersion n)) same

pub returns-then-start-gt-LONGEST_HEADER-clause-bad : goal.returns-then-start-gt-LONGEST_HEADER-clause-bad
returns-then-start-gt-LONGEST_HEADER-clause-bad g c tells at is =
    let seen = g.D.Disk.seen c.args.disk.now c.args.journal.now in
    let told : start_of_head seen ≡ Some c.in-Some.start = sym (c.in_ok-start.ensures.told tells) ∙ c.in-Some.is in
    let same : 2 ≡ at = cc in
    head_long seen c.in-Some.start told c.if-start-ne-VERSION.false c.if-start-gt-LONGEST_HEADER.true
    ∙ ap (λ (n : ℕ). Err (BadJournal n)) same

pub returns-in_err-there-clause-reads : goal.returns-in_err-there-clause-reads
returns-in_err-there-clause-reads g c =
    OnlyReads-then g.D.Disk c.args.disk.now c.read_start.new.disk c.read_header.new.disk c.read_start.ensures.reads c.read_header.ensures.reads

pub returns-in-Ok-clause-found : goal.returns-in-Ok-clause-found
returns-in-Ok-clause-found g c tells =
    let seen = g.D.Disk.seen c.args.disk.now c.args.journal.now in
    let start = c.in-Some.start in
    let told : start_of_head seen ≡ Some start = sym (c.in_ok-start.ensures.told tells) ∙ c.in-Some.is in
    let there = subst (λ (s : Image). c.in_ok-there.there.items ≡ take start.size (drop head_start (s c.args.journal.now))) (c.read_start.ensures.reads.same tells)
    (c.in_ok-there.ensures.told (c.read_start.ensures.reads.tells ∙ tells)) in
    head_by seen c.deref.result.now start (Ok c.in-Ok.names) told c.if-start-ne-VERSION.false (c.deref.ensures.value ∙ there) c.in-Ok.ensures.found

pub returns-in-Ok-clause-sized : goal.returns-in-Ok-clause-sized
returns-in-Ok-clause-sized g c tells some =
    let seen = g.D.Disk.seen c.args.disk.now c.args.journal.now in
    let told : start_of_head seen ≡ Some c.in-Some.start = sym (c.in_ok-start.ensures.told tells) ∙ c.in-Some.is in
    ap (λ n. head_start + n) (start_is seen c.in-Some.start told).size_is

pub returns-in-Ok-clause-reads : goal.returns-in-Ok-clause-reads
returns-in-Ok-clause-reads g c =
    OnlyReads-then g.D.Disk c.args.disk.now c.read_start.new.disk c.read_header.new.disk c.read_start.ensures.reads c.read_header.ensures.reads

pub returns-clause-bad : goal.returns-clause-bad
returns-clause-bad g c tells at is =
    let seen = g.D.Disk.seen c.args.disk.now c.args.journal.now in
    let start = c.in-Some.start in
    let told : start_of_head seen ≡ Some start = sym (c.in_ok-start.ensures.told tells) ∙ c.in-Some.is in
    let there = subst (λ (s : Image). c.in_ok-there.there.items ≡ take start.size (drop head_start (s c.args.journal.now))) (c.read_start.ensures.reads.same tells)
    (c.in_ok-there.ensures.told (c.read_start.ensures.reads.tells ∙ tells)) in
    let refused = told_header c.in-Err.fault (header_or_place start.size c.deref.result.now) at (λ inner same. c.in-Err.ensures.bad inner (ap Err same)) (sym c.told.ensures ∙ (let said = is in cc)) in
    head_by seen c.deref.result.now start (Err at) told c.if-start-ne-VERSION.false (c.deref.ensures.value ∙ there) refused

pub returns-clause-reads : goal.returns-clause-reads
returns-clause-reads g c =
    OnlyReads-then g.D.Disk c.args.disk.now c.read_start.new.disk c.read_header.new.disk c.read_start.ensures.reads c.read_header.ensures.reads
