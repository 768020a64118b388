use Rattle.std.proofs.Common.{◌≡◌, ◌≢◌, ◌+◌, List, [], drop, None, Ok, Err, refl, sym, ap, subst, ◌∙◌, rules, arith}
use Rattle.kdb_outside.specs.Frames.{OnlyReads}
use Rattle.kdb_outside.specs.Images.{Image}
use Rattle.kdb_outside.proofs.Frames.{OnlyReads-then}
use Rattle.journal_codec.specs.declared.files.FileText.{FileText}
use Rattle.journal_lists.specs.Grammar.{most_entries}
use Rattle.journal_lists.specs.Heads.{head_start, header_size}
use Rattle.journal_lists.specs.Journals.{head_in}
use Rattle.journal_lists.specs.Readings.{Adds, rest_in}
use Rattle.journal_lists.specs.Rules.{rule_of}
use Rattle.journal_lists.proofs.FirstGates.{journal_short, begins_short, begins_none, none_is, some_is, journal_adds, journal_bad}
use Rattle.journal_lists.proofs.OpenReads.{fault_is}
use Rattle.journal_lists.proofs.reading.read_journal.Goals as goal

pub returns-then-branch-clause-found : goal.returns-then-branch-clause-found
returns-then-branch-clause-found g c tells =
    let seen = g.D.Disk.seen c.args.disk.now c.args.journal.now in
    let sized = c.in_ok-length.ensures.told tells in
    journal_short seen (omega arith) ∙ ap (λ (items : List (List FileText)). Ok items) (sym c.in_ok-list.ensures.items)

pub returns-then-branch-clause-begins : goal.returns-then-branch-clause-begins
returns-then-branch-clause-begins g c tells =
    let sized = c.in_ok-length.ensures.told tells in
    begins_short (g.D.Disk.seen c.args.disk.now c.args.journal.now) (omega arith)

pub returns-then-is_none-clause-begins : goal.returns-then-is_none-clause-begins
returns-then-is_none-clause-begins g c tells =
    let head = c.in_ok-head.head in
    let there = subst (λ (s : Image). head_in (s c.args.journal.now) ≡ Ok head.names) (c.length.ensures.same tells) (c.in_ok-head.ensures.found (c.length.ensures.tells ∙ tells)) in
    begins_none head.names (g.D.Disk.seen c.args.disk.now c.args.journal.now) there (none_is head.names c.is_none.result c.is_none.ensures c.if-is_none.true)

pub returns-in_err-head-clause-reads : goal.returns-in_err-head-clause-reads
returns-in_err-head-clause-reads g c =
    let first : OnlyReads g.D.Disk c.args.disk.now c.length.new.self = search rules in
    OnlyReads-then g.D.Disk c.args.disk.now c.length.new.self c.read_head.new.disk first c.read_head.ensures.reads

pub returns-then-is_none-clause-reads : goal.returns-then-is_none-clause-reads
returns-then-is_none-clause-reads g c =
    let first : OnlyReads g.D.Disk c.args.disk.now c.length.new.self = search rules in
    OnlyReads-then g.D.Disk c.args.disk.now c.length.new.self c.read_head.new.disk first c.read_head.ensures.reads

pub returns-in_err-read_rest-clause-reads : goal.returns-in_err-read_rest-clause-reads
returns-in_err-read_rest-clause-reads g c =
    let first : OnlyReads g.D.Disk c.args.disk.now c.length.new.self = search rules in
    OnlyReads-then g.D.Disk c.args.disk.now c.read_head.new.disk c.read_rest.new.disk
    (OnlyReads-then g.D.Disk c.args.disk.now c.length.new.self c.read_head.new.disk first c.read_head.ensures.reads) c.read_rest.ensures.reads

pub returns-clause-reads : goal.returns-clause-reads
returns-clause-reads g c =
    let first : OnlyReads g.D.Disk c.args.disk.now c.length.new.self = search rules in
    OnlyReads-then g.D.Disk c.args.disk.now c.read_head.new.disk c.read_rest.new.disk
    (OnlyReads-then g.D.Disk c.args.disk.now c.length.new.self c.read_head.new.disk first c.read_head.ensures.reads) c.read_rest.ensures.reads

pub returns-clause-begins : goal.returns-clause-begins
returns-clause-begins g c tells =
    let head = c.in_ok-head.head in
    let same = c.length.ensures.same tells in
    let tells_then = c.length.ensures.tells ∙ tells in
    record {
      names = head.names;
      head = subst (λ (s : Image). head_in (s c.args.journal.now) ≡ Ok head.names) same (c.in_ok-head.ensures.found tells_then);
      start_is = c.in_ok-head.ensures.before.start_is;
      sized = subst (λ (s : Image). head.names ≢ None → head.start ≡ head_start + header_size (s c.args.journal.now)) same (c.in_ok-head.ensures.sized tells_then);
    }

pub returns-clause-found : goal.returns-clause-found
returns-clause-found g c tells =
    let head = c.in_ok-head.head in
    let same = c.length.ensures.same tells in
    let tells_then = c.length.ensures.tells ∙ tells in
    let tells_last = c.read_head.ensures.reads.tells ∙ tells_then in
    let same_last = c.read_head.ensures.reads.same tells_then ∙ same in
    let there = subst (λ (s : Image). head_in (s c.args.journal.now) ≡ Ok head.names) same (c.in_ok-head.ensures.found tells_then) in
    let some = some_is head.names c.is_none.result c.is_none.ensures c.if-is_none.false in
    journal_adds most_entries head.start head.names (g.D.Disk.seen c.args.disk.now c.args.journal.now) c.read_rest.new.list.items refl some c.in_ok-head.ensures.before.start_is there
    (subst (λ (s : Image). Adds (rest_in (rule_of head.names) most_entries 0 (drop (head.start + 0) (s c.args.journal.now))) [] c.read_rest.new.list.items) same_last
    (subst (λ (items : List (List FileText)). Adds (rest_in (rule_of head.names) most_entries 0 (drop (head.start + 0) (g.D.Disk.seen c.read_head.new.disk c.args.journal.now))) items c.read_rest.new.list.items)
    c.in_ok-list.ensures.items (c.in_ok-read_rest.ensures.found tells_last)))

pub returns-in_err-read_rest-clause-bad : goal.returns-in_err-read_rest-clause-bad
returns-in_err-read_rest-clause-bad g c tells at is =
    let head = c.in_ok-head.head in
    let same = c.length.ensures.same tells in
    let tells_then = c.length.ensures.tells ∙ tells in
    let tells_last = c.read_head.ensures.reads.tells ∙ tells_then in
    let same_last = c.read_head.ensures.reads.same tells_then ∙ same in
    let there = subst (λ (s : Image). head_in (s c.args.journal.now) ≡ Ok head.names) same (c.in_ok-head.ensures.found tells_then) in
    let some = some_is head.names c.is_none.result c.is_none.ensures c.if-is_none.false in
    let fault = fault_is c.from_residual-in_err-read_rest.result c.in_err-read_rest.field-0.0 at c.from_residual-in_err-read_rest.ensures.1 is in
    journal_bad most_entries head.start head.names (g.D.Disk.seen c.args.disk.now c.args.journal.now) at refl some c.in_ok-head.ensures.before.start_is there
    (subst (λ (s : Image). rest_in (rule_of head.names) most_entries 0 (drop (head.start + 0) (s c.args.journal.now)) ≡ Err at) same_last
    (c.in_err-read_rest.ensures.bad tells_last at (ap Err fault)))
