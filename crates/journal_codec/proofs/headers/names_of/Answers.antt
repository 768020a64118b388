use Rattle.std.proofs.Common.{◌≡◌, ◌∷◌, ◌++◌, ◌∙◌, [], List, ℕ, ap, rules}
use Rattle.std.specs.Prelude.{}
use Rattle.std.proofs.lemmas.Result.{err_from_is_err_and}
use Rattle.journal_codec.specs.Header.{name_at, names_at}
use Rattle.journal_codec.specs.Stops.{last_name}
use Rattle.journal_codec.proofs.LoopLemmas.{goes_on, ends, is_done}
use Rattle.journal_codec.proofs.headers.names_of.Goals as goal

-- a name is its own name
abbrev itself : List ℕ → List ℕ
itself name = name

pub returns-in_err-name : goal.returns-in_err-name
returns-in_err-name c =
    let p = err_from_is_err_and c.from_residual.result c.from_residual.ensures.1 in
    let previous = c.last_of.ensures ∙ ap (last_name itself) c.deref.ensures.value in
    rw (p.1, p.2) (ends name_at itself c.in_err-name.field-0.0 c.loop.names.items c.args.count c.loop.counter c.last_of.result.now c.loop.rest.now (names_at c.args.count [] c.args.bytes.now) c.loop-test.true previous c.in_err-name.ensures c.loop.invariant)

pub loop-preserved : goal.loop-preserved
loop-preserved c =
    let pushed : c.push.new.self.items ≡ c.loop.names.items ++ c.in_ok-name.name ∷ [] = search rules in
    let previous = c.last_of.ensures ∙ ap (last_name itself) c.deref.ensures.value in
    rw pushed (goes_on name_at itself c.loop.names.items c.args.count c.loop.counter c.last_of.result.now c.loop.rest.now c.in_ok-name.name c.in_ok-name.after.now (names_at c.args.count [] c.args.bytes.now) c.loop-test.true previous c.in_ok-name.ensures c.loop.invariant)

pub returns : goal.returns
returns c =
    is_done name_at itself c.loop.names.items c.args.count c.loop.counter c.loop.rest.now (names_at c.args.count [] c.args.bytes.now) c.loop-test.false c.loop.invariant
