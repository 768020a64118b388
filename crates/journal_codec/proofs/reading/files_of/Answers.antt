use Rattle.std.proofs.Common.{◌≡◌, ◌∷◌, ◌++◌, ◌∙◌, [], List, ℕ, option_map, ap, rules}
use Rattle.std.specs.Prelude.{}
use Rattle.std.proofs.lemmas.Result.{err_from_is_err_and}
use Rattle.journal_codec.specs.declared.files.FileText.{FileText}
use Rattle.journal_codec.specs.Listed.{is_next_of}
use Rattle.journal_codec.specs.Reading.{file_at, files_at}
use Rattle.journal_codec.specs.Stops.{last_name}
use Rattle.journal_codec.proofs.LoopLemmas.{goes_on, ends, is_done}
use Rattle.journal_codec.proofs.reading.files_of.Goals as goal

-- the name of a file
abbrev name_in : FileText → List ℕ
name_in f = f.file

pub returns-in_err-file : goal.returns-in_err-file
returns-in_err-file c =
    let rule = is_next_of (option_map (λ names. names.now) c.args.names) in
    let p = err_from_is_err_and c.from_residual.result c.from_residual.ensures.1 in
    let previous = c.last_name.ensures ∙ ap (last_name name_in) c.deref.ensures.value in
    rw (p.1, p.2) (ends (file_at rule) name_in c.in_err-file.field-0.0 c.loop.files.items c.args.count c.loop.counter c.last_name.result.now c.loop.rest.now (files_at rule c.args.count [] c.args.bytes.now) c.loop-test.true previous c.in_err-file.ensures c.loop.invariant)

pub loop-preserved : goal.loop-preserved
loop-preserved c =
    let rule = is_next_of (option_map (λ names. names.now) c.args.names) in
    let pushed : c.push.new.self.items ≡ c.loop.files.items ++ c.in_ok-file.file ∷ [] = search rules in
    let previous = c.last_name.ensures ∙ ap (last_name name_in) c.deref.ensures.value in
    rw pushed (goes_on (file_at rule) name_in c.loop.files.items c.args.count c.loop.counter c.last_name.result.now c.loop.rest.now c.in_ok-file.file c.in_ok-file.after.now (files_at rule c.args.count [] c.args.bytes.now) c.loop-test.true previous c.in_ok-file.ensures c.loop.invariant)

pub returns : goal.returns
returns c =
    let rule = is_next_of (option_map (λ names. names.now) c.args.names) in
    is_done (file_at rule) name_in c.loop.files.items c.args.count c.loop.counter c.loop.rest.now (files_at rule c.args.count [] c.args.bytes.now) c.loop-test.false c.loop.invariant
