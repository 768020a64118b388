-- What the words ask for is carried out.
use Rattle.std.proofs.Common.{◌≡◌, ℕ, List, refl, sym, ap, subst, ◌∙◌, arith}
use Rattle.std.proofs.lemmas.Result.{IfOk-weaker}
use Rattle.tool_words.specs.Request.{Request, Asks, Imports, Refuses, Bars}
use Rattle.tool_words.specs.RequestView.{IsSeenAs, question_of, status_of, text_of, texts_of}
use Rattle.tool_words.specs.Rows.{request}
use Rattle.tool_words.specs.Lines.{not_writable}
use Rattle.tool_words.specs.declared.requests.Request as code
use Rattle.tool_words.proofs.RowLemmas.{request-names_files}
use Rattle.tool_commands.specs.Report.{Report, warned}
use Rattle.tool_single.specs.Carried.{CarriesOut}
use Rattle.tool_single.specs.declared.answers.Stop.TheVariants as stops
use Rattle.tool_single.proofs.EndLemmas.{refused-answered}
use Rattle.tool_single.proofs.CarryLemmas.{asks-carried, stopped-carried, told-carried}
use Rattle.tool_single.proofs.InputLemmas.{takes_none}
use Rattle.tool_single.proofs.work.carry_out.Goals as goal

-- the request that the words are, as they were lent and read
asked_as : (lent words : List (List ℕ)) (read seen : code.Request) → lent ≡ words → read ≡ seen
    → IsSeenAs read (request lent) → IsSeenAs seen (request words)
asked_as lent words read seen same is told =
    subst (λ ws. IsSeenAs seen (request ws)) same (subst (λ (r : code.Request). IsSeenAs r (request lent)) is told)

pub answer_question-requires : goal.answer_question-requires
answer_question-requires g c =
    request-names_files (texts_of c.deref.result.now) (question_of c.in-Ok-Asks.question) (subst (λ (r : code.Request). IsSeenAs r (request (texts_of c.deref.result.now))) c.in-Ok-Asks.field-0-is c.in-Ok-Asks.ensures)

pub returns-in-Ok-Asks : goal.returns-in-Ok-Asks
returns-in-Ok-Asks g c =
    let asked : request c.args.words.now ≡ Asks (question_of c.in-Ok-Asks.question) = asked_as _ _ _ _ (ap texts_of c.deref.ensures.value ∙ c.in-Ok.ensures) c.in-Ok-Asks.field-0-is c.in-Ok-Asks.ensures in
    let ended = c.answer_question.result in
    subst (λ (r : Request). CarriesOut g.S.Source g.D.Disk g.P.Patterns r c.args.input.now c.args.input.now c.args.disk c.args.patterns ended) (sym asked)
    (asks-carried g.S.Source g.D.Disk g.P.Patterns c.args.input.now c.args.input.now c.args.disk c.args.patterns ended (question_of c.in-Ok-Asks.question) c.answer_question.ensures)

pub returns-in-Ok-Imports : goal.returns-in-Ok-Imports
returns-in-Ok-Imports g c =
    let asked : request c.args.words.now ≡ Imports c.in-Ok-Imports.name c.in-Ok-Imports.kind = asked_as _ _ _ _ (ap texts_of c.deref.ensures.value ∙ c.in-Ok.ensures) c.in-Ok-Imports.field-0-is c.in-Ok-Imports.ensures in
    subst (λ (r : Request). CarriesOut g.S.Source g.D.Disk g.P.Patterns r c.args.input.now c.import.new.input c.args.disk c.args.patterns c.import.result) (sym asked) c.import.ensures

pub returns-in-Ok-Refuses : goal.returns-in-Ok-Refuses
returns-in-Ok-Refuses g c =
    let refusal = c.in-Ok-Refuses.refusal in
    let told = warned (status_of refusal) (text_of refusal) in
    let asked : request c.args.words.now ≡ Refuses (status_of refusal) (text_of refusal) = asked_as _ _ _ _ (ap texts_of c.deref.ensures.value ∙ c.in-Ok.ensures) c.in-Ok-Refuses.field-0-is c.in-Ok-Refuses.ensures in
    let ended = c.without_store in
    subst (λ (r : Request). CarriesOut g.S.Source g.D.Disk g.P.Patterns r c.args.input.now c.args.input.now c.args.disk c.args.patterns ended.result) (sym asked)
    (told-carried g.S.Source g.D.Disk g.P.Patterns c.args.input.now c.args.input.now c.args.disk c.args.patterns ended.result (Refuses (status_of refusal) (text_of refusal)) ended.ensures.disk ended.ensures.patterns refl (omega arith)
    c.warn_of_words.result told ended.ensures.answer c.warn_of_words.ensures.warned c.warn_of_words.ensures.own (λ given fed. refl) (λ line given fed. tt) (λ given fed asks. asks) refl)

pub returns-in-Ok-Bars : goal.returns-in-Ok-Bars
returns-in-Ok-Bars g c =
    let name = c.in-Ok-Bars.name in
    let asked : request c.args.words.now ≡ Bars name = asked_as _ _ _ _ (ap texts_of c.deref.ensures.value ∙ c.in-Ok.ensures) c.in-Ok-Bars.field-0-is c.in-Ok-Bars.ensures in
    let ended = c.without_store-in-Ok-Bars in
    subst (λ (r : Request). CarriesOut g.S.Source g.D.Disk g.P.Patterns r c.args.input.now c.args.input.now c.args.disk c.args.patterns ended.result) (sym asked)
    (told-carried g.S.Source g.D.Disk g.P.Patterns c.args.input.now c.args.input.now c.args.disk c.args.patterns ended.result (Bars name) ended.ensures.disk ended.ensures.patterns refl (omega arith)
    c.warn_of_name.result (warned 2 (not_writable name)) ended.ensures.answer c.warn_of_name.ensures (IfOk-weaker c.warn_of_name.result _ _ (λ report told. refused-answered 2 report.status (omega arith) (ap (λ (r : Report). r.status) told)) c.warn_of_name.ensures) (λ given fed. refl) (λ line given fed. tt) (λ given fed asks. asks) refl)

pub returns-in_default : goal.returns-in_default
returns-in_default g c =
    stopped-carried g.S.Source g.D.Disk g.P.Patterns c.args.input.now c.args.input.now c.args.disk c.args.patterns _ (request c.args.words.now) refl refl (takes_none g.S.Source (request c.args.words.now) _ c.args.input.now (λ answered. absurd cc)) (omega arith)
    stops.Memory refl (λ is. absurd cc) (λ is. absurd cc)

pub returns : goal.returns
returns g c =
    stopped-carried g.S.Source g.D.Disk g.P.Patterns c.args.input.now c.args.input.now c.args.disk c.args.patterns _ (request c.args.words.now) refl refl (takes_none g.S.Source (request c.args.words.now) _ c.args.input.now (λ answered. absurd cc)) (omega arith)
    stops.Memory refl (λ is. absurd cc) (λ is. absurd cc)
