-- Each turn reads one word more.
use Rattle.std.proofs.Common.{List, ℕ, ◌++◌, ◌∷◌, [], drop, length, subst, sym, ap, ◌∙◌, arith}
use Rattle.std.proofs.lemmas.List.{length-drop, take_rest}
use Rattle.batch_script.specs.Words.{behind_blanks}
use Rattle.batch_script.proofs.WordLemmas.{HasRead, HasRead-all, HasRead-lacks, HasRead-more, HasRead-start, behind-shorter, empty-by, some-by}
use Rattle.batch_script.proofs.words.words_of.Goals as goal

pub loop-rest-init : goal.loop-rest-init
loop-rest-init c =
    let line = c.args.line.now in
    let start = subst (λ (t : List ℕ). HasRead line t []) (sym c.behind_blanks-rest.ensures) (HasRead-start line) in
    subst (λ (ws : List (List ℕ)). HasRead line c.behind_blanks-rest.result.now ws) (sym c.new-words.ensures.items) start

pub returns-in_default : goal.returns-in_default
returns-in_default c words has =
    let rest = c.loop-rest.rest.now in
    let lacks = rw c.in_default.is at c.in_ok-found.ensures in
    HasRead-lacks c.args.line.now rest c.loop-rest.words.items words c.loop-rest.invariant (some-by rest (sym c.is_empty.ensures ∙ c.loop-rest-test.true)) lacks has

pub loop-rest-preserved : goal.loop-rest-preserved
loop-rest-preserved c =
    let line = c.args.line.now in
    let rest = c.loop-rest.rest.now in
    let first = rw c.in-Some.is at c.in_ok-found.ensures in
    let behind = drop c.in-Some.taken rest in
    let more = HasRead-more line rest c.in-Some.word behind c.loop-rest.words.items c.loop-rest.invariant (some-by rest (sym c.is_empty.ensures ∙ c.loop-rest-test.true)) first.2 in
    let at = subst (λ (t : List ℕ). HasRead line t (c.loop-rest.words.items ++ c.in-Some.word ∷ [])) (sym (c.behind_blanks-behind.ensures ∙ ap behind_blanks (take_rest rest c.in-Some.taken))) more in
    subst (λ (ws : List (List ℕ)). HasRead line c.behind_blanks-behind.result.now ws) (sym c.in_ok-push.ensures.items) at

pub loop-rest-smaller : goal.loop-rest-smaller
loop-rest-smaller c =
    let rest = c.loop-rest.rest.now in
    let first = rw c.in-Some.is at c.in_ok-found.ensures in
    let behind = drop c.in-Some.taken rest in
    omega (arith, ap length (c.behind_blanks-behind.ensures ∙ ap behind_blanks (take_rest rest c.in-Some.taken)), behind-shorter behind, length-drop c.in-Some.taken rest, first.0, first.1)

pub returns : goal.returns
returns c =
    let rest = c.loop-rest.rest.now in
    let none = empty-by rest (sym c.loop-rest-test.ensures) in
    HasRead-all c.args.line.now c.loop-rest.words.items (subst (λ (t : List ℕ). HasRead c.args.line.now t c.loop-rest.words.items) none c.loop-rest.invariant)
