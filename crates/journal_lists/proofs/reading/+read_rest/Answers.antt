use Rattle.std.proofs.Common.{◌≡◌, ℕ, ◌+◌, ◌-◌, List, [], ◌∷◌, ◌++◌, take, drop, Some, Ok, Err, OnOk, refl, sym, ap, subst, ◌∙◌, arith}
use Rattle.std.proofs.lemmas.Result.{on_ok_weaker}
use Rattle.kdb_outside.specs.Images.{Image}
use Rattle.kdb_outside.proofs.Frames.{OnlyReads-then}
use Rattle.journal_codec.specs.declared.files.FileText.{FileText}
use Rattle.journal_steps.specs.JournalBytes.{open_length}
use Rattle.journal_codec.specs.Forms.{followed}
use Rattle.journal_lists.specs.Grammar.{head_size, entry_or_place}
use Rattle.journal_lists.specs.Readings.{with_first, rest_in, Adds}
use Rattle.journal_lists.specs.Rules.{rule_of}
use Rattle.journal_lists.proofs.OpenReads.{adds_nothing, adds_one, adds_more, bad_more, fault_is, none_by_not, reading-shut, reading-many, reading-late, reading-bad, reading-last, reading-more, rest_is}
use Rattle.journal_lists.proofs.reading.+read_rest.Goals as goal
use Rattle.journal_lists.proofs.reading.+read_rest.Goals.{then-left-eq0-via-then-left-eq0, then-left-eq0-via-else-left-eq0+then-next-gt-LAST_PLACE}

pub returns-in_default-clause-found : goal.returns-in_default-clause-found
returns-in_default-clause-found g t c tells =
    let rule = rule_of c.args.head.now.names in
    let here = drop (c.args.head.now.start + c.args.place) (g.D.Disk.seen c.args.disk.now c.args.journal.now) in
    let none = sym (c.in_ok-size.ensures.told tells) ∙ none_by_not c.in_ok-size.field-0 c.in_default.not-Some in
    adds_nothing (rest_in rule c.args.left c.args.place here) c.args.list.now.items (rest_is rule c.args.left c.args.place here ∙ reading-shut rule c.args.left c.args.place here none)

pub returns-then-left-eq0-clause-bad : goal.returns-then-left-eq0-clause-bad
returns-then-left-eq0-clause-bad g t c tells at is =
    let rule = rule_of c.args.head.now.names in
    let here = drop (c.args.head.now.start + c.args.place) (g.D.Disk.seen c.args.disk.now c.args.journal.now) in
    let sized : open_length here ≡ Some c.in-Some.size = sym (c.in_ok-size.ensures.told tells) ∙ c.in-Some.is in
    let said : c.late_place.result ≡ at = cc in
    let same = sym c.late_place.ensures ∙ said in
    elim c.then-left-eq0.branch [
      | then-left-eq0-via-then-left-eq0 w ↦
          rest_is rule c.args.left c.args.place here
          ∙ reading-many rule c.args.left c.args.place here c.in-Some.size w.if-left-eq0.true sized
          ∙ ap (λ (n : ℕ). Err n) same
      | then-left-eq0-via-else-left-eq0+then-next-gt-LAST_PLACE w ↦
          rest_is rule c.args.left c.args.place here
          ∙ reading-late rule c.args.left c.args.place here c.in-Some.size (omega (arith, w.if-next-gt-LAST_PLACE.true)) sized
          ∙ ap (λ (n : ℕ). Err n) same
    ]

pub returns-in_err-found-clause-bad : goal.returns-in_err-found-clause-bad
returns-in_err-found-clause-bad g t c tells at is =
    let rule = rule_of c.args.head.now.names in
    let here = drop (c.args.head.now.start + c.args.place) (g.D.Disk.seen c.args.disk.now c.args.journal.now) in
    let sized : open_length here ≡ Some c.in-Some.size = sym (c.in_ok-size.ensures.told tells) ∙ c.in-Some.is in
    let fault = fault_is c.from_residual-in_err-found.result c.in_err-found.field-0.0 at c.from_residual-in_err-found.ensures.1 is in
    rest_is rule c.args.left c.args.place here
    ∙ reading-bad rule c.args.left c.args.place here c.in-Some.size at c.if-left-eq0.false sized
    (subst (λ (seen : Image). entry_or_place rule c.args.place c.in-Some.size (take c.in-Some.size (drop head_size (drop (c.args.head.now.start + c.args.place) (seen c.args.journal.now)))) ≡ Err at) (c.read_length.ensures.reads.same tells)
    (c.in_err-found.ensures.bad (c.read_length.ensures.reads.tells ∙ tells) at (ap Err fault)))

pub returns-in_err-found-clause-reads : goal.returns-in_err-found-clause-reads
returns-in_err-found-clause-reads g t c =
    OnlyReads-then g.D.Disk c.args.disk.now c.read_length.new.disk c.read_entry.new.disk c.read_length.ensures.reads c.read_entry.ensures.reads

pub returns-then-not-goes_on-clause-found : goal.returns-then-not-goes_on-clause-found
returns-then-not-goes_on-clause-found g t c tells =
    let rule = rule_of c.args.head.now.names in
    let here = drop (c.args.head.now.start + c.args.place) (g.D.Disk.seen c.args.disk.now c.args.journal.now) in
    let tells_then = c.read_length.ensures.reads.tells ∙ tells in
    let same = c.read_length.ensures.reads.same tells in
    let sized : open_length here ≡ Some c.in-Some.size = sym (c.in_ok-size.ensures.told tells) ∙ c.in-Some.is in
    let whole = subst (λ (seen : Image). entry_or_place rule c.args.place c.in-Some.size (take c.in-Some.size (drop head_size (drop (c.args.head.now.start + c.args.place) (seen c.args.journal.now)))) ≡ Ok c.in_ok-found.found.entry) same
    (c.in_ok-found.ensures.found tells_then) in
    let ends = subst (λ (seen : Image). c.in_ok-found.found.goes_on ≡ followed (take c.in-Some.size (drop head_size (drop (c.args.head.now.start + c.args.place) (seen c.args.journal.now))))) same (c.in_ok-found.ensures.goes_on tells_then) in
    subst (λ (items : List (List FileText)). Adds (rest_in rule c.args.left c.args.place here) c.args.list.now.items items) (sym c.push_reserved.ensures.items)
    (adds_one (rest_in rule c.args.left c.args.place here) c.args.list.now.items c.in_ok-found.found.entry
    (rest_is rule c.args.left c.args.place here ∙ reading-last rule c.args.left c.args.place here c.in-Some.size c.in_ok-found.found.entry c.if-left-eq0.false sized whole (sym ends ∙ c.if-not-goes_on.true)))

pub returns-then-not-goes_on-clause-reads : goal.returns-then-not-goes_on-clause-reads
returns-then-not-goes_on-clause-reads g t c =
    OnlyReads-then g.D.Disk c.args.disk.now c.read_length.new.disk c.read_entry.new.disk c.read_length.ensures.reads c.read_entry.ensures.reads

pub returns-clause-found : goal.returns-clause-found
returns-clause-found g t c tells =
    let rule = rule_of c.args.head.now.names in
    let gate = c.args.head.now.start + c.args.place in
    let seen = g.D.Disk.seen c.args.disk.now c.args.journal.now in
    let fewer = c.args.left - 1 in
    let next = c.args.place + head_size + c.in-Some.size in
    let tells_then = c.read_length.ensures.reads.tells ∙ tells in
    let tells_last = c.read_entry.ensures.reads.tells ∙ tells_then in
    let same = c.read_length.ensures.reads.same tells in
    let same_last = c.read_entry.ensures.reads.same tells_then ∙ same in
    let sized : open_length (drop gate seen) ≡ Some c.in-Some.size = sym (c.in_ok-size.ensures.told tells) ∙ c.in-Some.is in
    let whole = subst (λ (s : Image). entry_or_place rule c.args.place c.in-Some.size (take c.in-Some.size (drop head_size (drop gate (s c.args.journal.now)))) ≡ Ok c.in_ok-found.found.entry) same
    (c.in_ok-found.ensures.found tells_then) in
    let goes = subst (λ (s : Image). c.in_ok-found.found.goes_on ≡ followed (take c.in-Some.size (drop head_size (drop gate (s c.args.journal.now))))) same (c.in_ok-found.ensures.goes_on tells_then) in
    let less : c.args.left ≡ fewer + 1 = omega (arith, c.if-left-eq0.false) in
    let more = rest_is rule c.args.left c.args.place (drop gate seen)
    ∙ reading-more rule c.args.left fewer c.args.place next gate (c.args.head.now.start + next) seen c.in-Some.size c.in_ok-found.found.entry less refl (omega arith) sized whole (sym goes ∙ c.if-not-goes_on.false)
    ∙ ap (with_first c.in_ok-found.found.entry) (sym (rest_is rule fewer next (drop (c.args.head.now.start + next) seen))) in
    on_ok_weaker c.read_rest.result
    (adds_more (rest_in rule c.args.left c.args.place (drop gate seen)) (rest_in rule fewer next (drop (c.args.head.now.start + next) seen)) c.args.list.now.items c.read_rest.new.list.items c.in_ok-found.found.entry more)
    (subst (λ (s : Image). OnOk c.read_rest.result (Adds (rest_in rule fewer next (drop (c.args.head.now.start + next) (s c.args.journal.now))) (c.args.list.now.items ++ c.in_ok-found.found.entry ∷ []) c.read_rest.new.list.items)) same_last
    (subst (λ (items : List (List FileText)). OnOk c.read_rest.result (Adds (rest_in rule fewer next (drop (c.args.head.now.start + next) (g.D.Disk.seen c.read_entry.new.disk c.args.journal.now))) items c.read_rest.new.list.items)) c.push_reserved.ensures.items
    (c.read_rest.ensures.found tells_last)))

pub returns-clause-bad : goal.returns-clause-bad
returns-clause-bad g t c tells at is =
    let rule = rule_of c.args.head.now.names in
    let gate = c.args.head.now.start + c.args.place in
    let seen = g.D.Disk.seen c.args.disk.now c.args.journal.now in
    let fewer = c.args.left - 1 in
    let next = c.args.place + head_size + c.in-Some.size in
    let tells_then = c.read_length.ensures.reads.tells ∙ tells in
    let tells_last = c.read_entry.ensures.reads.tells ∙ tells_then in
    let same = c.read_length.ensures.reads.same tells in
    let same_last = c.read_entry.ensures.reads.same tells_then ∙ same in
    let sized : open_length (drop gate seen) ≡ Some c.in-Some.size = sym (c.in_ok-size.ensures.told tells) ∙ c.in-Some.is in
    let whole = subst (λ (s : Image). entry_or_place rule c.args.place c.in-Some.size (take c.in-Some.size (drop head_size (drop gate (s c.args.journal.now)))) ≡ Ok c.in_ok-found.found.entry) same
    (c.in_ok-found.ensures.found tells_then) in
    let goes = subst (λ (s : Image). c.in_ok-found.found.goes_on ≡ followed (take c.in-Some.size (drop head_size (drop gate (s c.args.journal.now))))) same (c.in_ok-found.ensures.goes_on tells_then) in
    let less : c.args.left ≡ fewer + 1 = omega (arith, c.if-left-eq0.false) in
    let more = rest_is rule c.args.left c.args.place (drop gate seen)
    ∙ reading-more rule c.args.left fewer c.args.place next gate (c.args.head.now.start + next) seen c.in-Some.size c.in_ok-found.found.entry less refl (omega arith) sized whole (sym goes ∙ c.if-not-goes_on.false)
    ∙ ap (with_first c.in_ok-found.found.entry) (sym (rest_is rule fewer next (drop (c.args.head.now.start + next) seen))) in
    bad_more (rest_in rule c.args.left c.args.place (drop gate seen)) (rest_in rule fewer next (drop (c.args.head.now.start + next) seen)) c.in_ok-found.found.entry at more
    (subst (λ (s : Image). rest_in rule fewer next (drop (c.args.head.now.start + next) (s c.args.journal.now)) ≡ Err at) same_last (c.read_rest.ensures.bad tells_last at is))

pub returns-clause-reads : goal.returns-clause-reads
returns-clause-reads g t c =
    OnlyReads-then g.D.Disk c.args.disk.now c.read_entry.new.disk c.read_rest.new.disk
    (OnlyReads-then g.D.Disk c.args.disk.now c.read_length.new.disk c.read_entry.new.disk c.read_length.ensures.reads c.read_entry.ensures.reads) c.read_rest.ensures.reads
