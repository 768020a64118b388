-- What the input holds as a file would is asked to replace the keys there, or is refused as a file is.
use Rattle.std.proofs.Common.{◌≡◌, ℕ, List, [], Some, Err, refl, ap, subst, arith}
use Rattle.std.proofs.lemmas.Result.{IfOk-weaker}
use Rattle.all_formats.specs.Laws as laws
use Rattle.all_formats.specs.Meanings as all
use Rattle.mounted_files.proofs.OneOpening.{Holds-not_bad}
use Rattle.mounted_files.specs.Faults.{fault_of}
use Rattle.mounted_files.specs.Files.{IsCause}
use Rattle.mounted_files.specs.Holding.{IsHolding}
use Rattle.mounted_files.specs.declared.holding.Holding.{Holding}
use Rattle.tool_commands.specs.Report.{warned}
use Rattle.tool_words.specs.Request.{Imports}
use Rattle.tool_single.specs.Answers.{Bad, line_of_get}
use Rattle.tool_single.specs.Broken as broken
use Rattle.tool_single.specs.Input.{taken}
use Rattle.tool_single.proofs.EndLemmas.{refused-answered, refused-end}
use Rattle.tool_single.proofs.CarryLemmas.{held-carried, stopped-carried, told-carried}
use Rattle.tool_single.proofs.importing.import.Goals as goal

pub returns-in-Ok-Keys : goal.returns-in-Ok-Keys
returns-in-Ok-Keys g c =
    let name = c.args.name in
    let kind = c.args.kind in
    let read = c.in-Ok-Keys.ensures in
    held-carried g.S.Source g.D.Disk g.P.Patterns c.args.input.now c.take_keys.new.input c.args.disk c.args.patterns c.answer_question.result name kind c.in-Ok-Keys.keys
    (λ bytes is. subst (λ (h : Holding). IsHolding all.Reads all.IsBadAt name kind (taken bytes) h) c.in-Ok-Keys.field-0-is (read.told bytes is)) (λ answered. record { front = read.front; all = λ yes. read.all }) read.later c.answer_question.ensures

pub returns-in-Ok-Bad : goal.returns-in-Ok-Bad
returns-in-Ok-Bad g c =
    let name = c.args.name in
    let kind = c.args.kind in
    let cause = c.in-Ok-Bad.cause in
    let read = c.in-Ok-Bad.ensures in
    let line = line_of_get (fault_of name cause) in
    let is_cause : (bytes : List ℕ) → g.S.Source.left c.args.input.now ≡ Some bytes → IsCause all.Reads all.IsBadAt name kind (taken bytes) cause =
    λ bytes is. subst (λ (h : Holding). IsHolding all.Reads all.IsBadAt name kind (taken bytes) h) c.in-Ok-Bad.field-0-is (read.told bytes is) in
    let ended = c.without_store in
    told-carried g.S.Source g.D.Disk g.P.Patterns c.args.input.now c.take_keys.new.input c.args.disk c.args.patterns ended.result (Imports name kind) ended.ensures.disk ended.ensures.patterns (record { front = read.front; all = λ yes. read.all }) read.later
    c.refuse_input.result (warned 5 line) ended.ensures.answer c.refuse_input.ensures.told (IfOk-weaker c.refuse_input.result _ _ (λ report is. refused-answered 5 report.status (omega arith) is) c.refuse_input.ensures.status) (λ bytes is. Bad cause (is_cause bytes is) refl) (λ line bytes is. broken.Bad cause (is_cause bytes is) refl)
    (λ bytes is asks. Holds-not_bad all.Reads all.IsBadAt laws.Reads-once laws.Reads-not_bad laws.IsBadAt-once name kind (taken bytes) asks.0 cause asks.1 (is_cause bytes is)) (refused-end [] 5 refl)

pub returns-in-Err : goal.returns-in-Err
returns-in-Err g c =
    let read = c.in-Err.ensures in
    stopped-carried g.S.Source g.D.Disk g.P.Patterns c.args.input.now c.take_keys.new.input c.args.disk c.args.patterns _ (Imports c.args.name c.args.kind) refl refl (record { front = read.front; all = λ yes. absurd cc }) read.later
    c.in-Err.stop refl (λ is. read.own (ap Err is)) (λ is. read.read (ap Err is))
