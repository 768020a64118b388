-- Behind the conflict the files are measured, then the rules are asked, and then the weights.
use Rattle.std.proofs.Common.{◌≡◌, ℕ, ◌<◌, nat_lt, Bool, true, false, cond, List, ◌++◌, ◌∷◌, [], length, map as over, Option, Some, None, rules, sym, ap, ap₂, subst, ◌∙◌}
use Rattle.commit_log.specs.CommitView as log
use Rattle.commit_log.specs.declared.commits.Commit as code
use Rattle.general_words.specs.Saturated.{saturated}
use Rattle.journal_codec.specs.declared.files.FileText.{FileText}
use Rattle.kdb_outside.specs.Faults.{HasRisen}
use Rattle.model_history.specs.History.{heaviest_history, history_weight}
use Rattle.model_maps.specs.KeyMap.{KeyMap}
use Rattle.model_names.specs.Name.{Name}
use Rattle.model_specified.specs.Violations.{IsFirstViolation, is_owned}
use Rattle.model_specified.specs.declared.violations.Violation.{Violation}
use Rattle.model_store.specs.Rules.{has_risen}
use Rattle.model_store.specs.Sets.{Prepared}
use Rattle.model_store.specs.Store.{Store, Formats, formats_of, points_of, store_of}
use Rattle.model_store.specs.Verdicts as model
use Rattle.model_store.specs.Verdicts.{Conflict, IsLate, conflict}
use Rattle.mount_table.specs.declared.mounts.Mount.{Mount}
use Rattle.store_verdict.specs.LateView.{conflict_of, late_of, unless_full}
use Rattle.store_verdict.specs.PreparedView.{prepared_of}
use Rattle.store_verdict.specs.Renewing.{AreRenewed, BringsTexts, IsRenewal, MayRenew}
use Rattle.store_verdict.specs.declared.judging.Block.{Block}
use Rattle.store_verdict.specs.declared.judging.Late.{Late}
use Rattle.store_verdict.specs.declared.judging.Late.TheVariants.{HistoryFull, Commits}
use Rattle.store_verdict.specs.declared.renewing.Renewal.{Renewal}
use Rattle.store_verdict.specs.declared.renewing.Renewal.TheVariants.{Texts, TooLarge}
use Rattle.store_verdict.proofs.LateLemmas.{late-blocked, late-heavy, late-invalid, late-large, late-light}
use Rattle.store_verdict.proofs.judging.judge.Goals as goal

-- what is told of a blocked mount, and that nothing is where none is blocked
blocked : (found : Option Block) (told : Option model.Late) (block : Block) → conflict_of found ≡ told
    → found ≡ Some block → told ≡ Some (Conflict block.mount block.by)
blocked found told block of is = sym of ∙ ap conflict_of is

unblocked : (found : Option Block) (told : Option model.Late) → conflict_of found ≡ told → found ≡ None → told ≡ None
unblocked found told of is = sym of ∙ ap conflict_of is

-- the violation that was found is the first one by the points and the touched mounts of a set
first : (Risen : Type 0) (told points : List Name) (slice touched : List ℕ) (keys : KeyMap)
    (found violation : Option Violation)
    → told ≡ points → slice ≡ touched → found ≡ violation → IsFirstViolation Risen (is_owned told slice) keys found
    → IsFirstViolation Risen (is_owned points touched) keys violation
first Risen told points slice touched keys found violation are same is of =
    subst (λ (o : Option Violation). IsFirstViolation Risen (is_owned points touched) keys o) is
    (subst (λ (owned : Name → Bool). IsFirstViolation Risen owned keys found) (ap₂ is_owned are same) of)

-- what was made anew is that of the touched mounts of a set
anew : (formats : Formats) (store : Store) (keys : KeyMap) (slice touched : List ℕ) (made renewal : Renewal)
    → slice ≡ touched → made ≡ renewal → IsRenewal formats store keys slice made
    → IsRenewal formats store keys touched renewal
anew formats store keys slice touched made renewal same is of =
    subst (IsRenewal formats store keys touched) is (subst (λ (ms : List ℕ). IsRenewal formats store keys ms made) same of)

-- a set that is a commit brings what was made
brings : (formats : Formats) (store : Store) (keys : KeyMap) (touched : List ℕ) (h : ℕ) (commit : code.Commit)
    (aside : ℕ) (renewed : Option (List FileText)) → AreRenewed formats store keys touched renewed
    → BringsTexts formats store keys touched (unless_full h commit aside renewed)
brings formats store keys touched h commit aside renewed are = by (nat_lt heaviest_history h)
  where
    by : (b : Bool)
        → BringsTexts formats store keys touched (cond b (HistoryFull (saturated h)) (Commits commit aside renewed))
    by true = tt
    by false = are

pub returns-in-Some-clause-late : goal.returns-in-Some-clause-late
returns-in-Some-clause-late g c procs before is =
    let store : Store = store_of c.args.mounted.now procs in
    let set : Prepared = prepared_of c.args.set.now in
    let some : 0 < length set.touched = search rules in
    late-blocked (formats_of g.F.Formats) store c.args.history.now.commits before set c.in-Some.block.mount c.in-Some.block.by some (blocked c.first_block.result (conflict store c.args.history.now.commits set) c.in-Some.block (c.first_block.ensures store (sym c.table-table.ensures.mounts)) c.in-Some.is)

pub renew-requires : goal.renew-requires
renew-requires g c procs =
    let store : Store = store_of c.args.mounted.now procs in
    let free = unblocked c.first_block.result (conflict store c.args.history.now.commits (prepared_of c.args.set.now)) (c.first_block.ensures store (sym c.table-table.ensures.mounts)) c.in_default.is in
    subst (λ (ms : List ℕ). MayRenew (formats_of g.F.Formats) store c.args.keys.now ms) (sym c.as_slice-touched.ensures) (c.requires procs free)

pub returns-in-TooLarge-clause-late : goal.returns-in-TooLarge-clause-late
returns-in-TooLarge-clause-late g c procs before is =
    let formats : Formats = formats_of g.F.Formats in
    let store : Store = store_of c.args.mounted.now procs in
    let set : Prepared = prepared_of c.args.set.now in
    let some : 0 < length set.touched = search rules in
    let free = unblocked c.first_block.result (conflict store c.args.history.now.commits set) (c.first_block.ensures store (sym c.table-table.ensures.mounts)) c.in_default.is in
    let large = anew formats store c.args.keys.now c.as_slice-touched.result.now set.touched c.in_ok-renewed.field-0 (TooLarge c.in-TooLarge.mount c.in-TooLarge.bytes) c.as_slice-touched.ensures c.in-TooLarge.is (c.in_ok-renewed.ensures procs) in
    late-large formats store c.args.history.now.commits before set some free c.args.keys.now is c.in-TooLarge.mount c.in-TooLarge.bytes large

pub returns-in-Some-2-clause-late : goal.returns-in-Some-2-clause-late
returns-in-Some-2-clause-late g c procs before is =
    let formats : Formats = formats_of g.F.Formats in
    let store : Store = store_of c.args.mounted.now procs in
    let set : Prepared = prepared_of c.args.set.now in
    let from : ℕ = g.P.Patterns.refusals c.args.patterns.now in
    let to : ℕ = g.P.Patterns.refusals c.first_violation.new.patterns in
    let some : 0 < length set.touched = search rules in
    let free = unblocked c.first_block.result (conflict store c.args.history.now.commits set) (c.first_block.ensures store (sym c.table-table.ensures.mounts)) c.in_default.is in
    let told = anew formats store c.args.keys.now c.as_slice-touched.result.now set.touched c.in_ok-renewed.field-0 (Texts c.in-Texts.renewed) c.as_slice-touched.ensures c.in-Texts.is (c.in_ok-renewed.ensures procs) in
    let points : c.points.result.now ≡ points_of store = c.points.ensures.points ∙ ap (over (λ (mount : Mount). mount.at)) c.table-table.ensures.mounts in
    let broken = first (HasRisen from to) c.points.result.now (points_of store) c.as_slice-touched.result.now set.touched c.args.keys.now c.in_ok-violation.field-0 (Some c.in-Some-2.violation)
    points c.as_slice-touched.ensures c.in-Some-2.is c.in_ok-violation.ensures.first in
    late-invalid formats store c.args.history.now.commits before set some free c.args.keys.now is told.0 from to c.in-Some-2.violation broken

pub returns-then-weight-gt-HEAVIEST_MAP-clause-late : goal.returns-then-weight-gt-HEAVIEST_MAP-clause-late
returns-then-weight-gt-HEAVIEST_MAP-clause-late g c procs before is =
    let formats : Formats = formats_of g.F.Formats in
    let store : Store = store_of c.args.mounted.now procs in
    let set : Prepared = prepared_of c.args.set.now in
    let from : ℕ = g.P.Patterns.refusals c.args.patterns.now in
    let to : ℕ = g.P.Patterns.refusals c.first_violation.new.patterns in
    let some : 0 < length set.touched = search rules in
    let free = unblocked c.first_block.result (conflict store c.args.history.now.commits set) (c.first_block.ensures store (sym c.table-table.ensures.mounts)) c.in_default.is in
    let told = anew formats store c.args.keys.now c.as_slice-touched.result.now set.touched c.in_ok-renewed.field-0 (Texts c.in-Texts.renewed) c.as_slice-touched.ensures c.in-Texts.is (c.in_ok-renewed.ensures procs) in
    let points : c.points.result.now ≡ points_of store = c.points.ensures.points ∙ ap (over (λ (mount : Mount). mount.at)) c.table-table.ensures.mounts in
    let none = first (HasRisen from to) c.points.result.now (points_of store) c.as_slice-touched.result.now set.touched c.args.keys.now c.in_ok-violation.field-0 None
    points c.as_slice-touched.ensures c.in_default-2.is c.in_ok-violation.ensures.first in
    late-heavy formats store c.args.history.now.commits before set some free c.args.keys.now is told.0 from to none c.weight-weight.result c.weight-weight.ensures c.if-weight-gt-HEAVIEST_MAP.true

pub returns-clause-late : goal.returns-clause-late
returns-clause-late g c procs before is =
    let formats : Formats = formats_of g.F.Formats in
    let store : Store = store_of c.args.mounted.now procs in
    let set : Prepared = prepared_of c.args.set.now in
    let from : ℕ = g.P.Patterns.refusals c.args.patterns.now in
    let to : ℕ = g.P.Patterns.refusals c.first_violation.new.patterns in
    let some : 0 < length set.touched = search rules in
    let free = unblocked c.first_block.result (conflict store c.args.history.now.commits set) (c.first_block.ensures store (sym c.table-table.ensures.mounts)) c.in_default.is in
    let told = anew formats store c.args.keys.now c.as_slice-touched.result.now set.touched c.in_ok-renewed.field-0 (Texts c.in-Texts.renewed) c.as_slice-touched.ensures c.in-Texts.is (c.in_ok-renewed.ensures procs) in
    let points : c.points.result.now ≡ points_of store = c.points.ensures.points ∙ ap (over (λ (mount : Mount). mount.at)) c.table-table.ensures.mounts in
    let none = first (HasRisen from to) c.points.result.now (points_of store) c.as_slice-touched.result.now set.touched c.args.keys.now c.in_ok-violation.field-0 None
    points c.as_slice-touched.ensures c.in_default-2.is c.in_ok-violation.ensures.first in
    let made : Late = unless_full (history_weight (c.args.history.now.commits ++ log.commit_of c.in_ok-commit_of.field-0 ∷ [])) c.in_ok-commit_of.field-0 c.args.set.now.aside c.in-Texts.renewed in
    subst (λ (l : Late). IsLate formats store c.args.history.now.commits before set (late_of (has_risen from to) l)) {x = made} (sym c.unless_full.ensures)
    (late-light formats store c.args.history.now.commits before set some free c.args.keys.now is told.0 from to none c.weight-weight.result c.weight-weight.ensures c.if-weight-gt-HEAVIEST_MAP.false
    c.in_ok-commit_of.field-0 c.in_ok-commit_of.ensures (has_risen from to) c.in-Texts.renewed)

pub returns-clause-renewed : goal.returns-clause-renewed
returns-clause-renewed g c procs =
    let formats : Formats = formats_of g.F.Formats in
    let store : Store = store_of c.args.mounted.now procs in
    let touched : List ℕ = c.args.set.now.touched in
    let told = anew formats store c.args.keys.now c.as_slice-touched.result.now touched c.in_ok-renewed.field-0 (Texts c.in-Texts.renewed) c.as_slice-touched.ensures c.in-Texts.is (c.in_ok-renewed.ensures procs) in
    let h : ℕ = history_weight (c.args.history.now.commits ++ log.commit_of c.in_ok-commit_of.field-0 ∷ []) in
    subst (BringsTexts formats store c.args.keys.now touched) {x = unless_full h c.in_ok-commit_of.field-0 c.args.set.now.aside c.in-Texts.renewed} (sym c.unless_full.ensures)
    (brings formats store c.args.keys.now touched h c.in_ok-commit_of.field-0 c.args.set.now.aside c.in-Texts.renewed told.1)
