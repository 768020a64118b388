-- Each turn adds what changes for one more mount.
use Rattle.std.proofs.Common.{ℕ, ◌∷◌, [], take, ap, sym, ◌∙◌, arith}
use Rattle.std.specs.FinMap as map
use Rattle.std.specs.Option.{option_or}
use Rattle.std.proofs.lemmas.List.{map-append, take_all}
use Rattle.general_words.proofs.Lists.{at_place, take-next}
use Rattle.model_names.specs.Order.{name_cmp}
use Rattle.model_history.specs.Changes.{change_at}
use Rattle.model_maps.specs.KeyMap.{KeyMap}
use Rattle.model_store.specs.Sets.{kept}
use Rattle.set_split.specs.Seen.{numbered}
use Rattle.set_split.specs.declared.parts.Part.{Part}
use Rattle.store_verdict.specs.RecordView.{record_of}
use Rattle.store_verdict.proofs.DifferLemmas.{are-changes, changed_in, changed_in-snoc}
use Rattle.store_verdict.proofs.touching.changes_of.Goals as goal

pub loop-part-init : goal.loop-part-init
loop-part-init c = λ q. ap (λ m. map.get m q) c.new-changes.ensures ∙ map.get-empty name_cmp q

pub loop-part-preserved : goal.loop-part-preserved
loop-part-preserved c = λ q.
    let touched = c.args.touched.now in
    let i : ℕ = c.loop-part.part-index in
    let part : Part = c.part-item.result in
    let before = kept (record_of c.args.rec.now) in
    let pair : Part → ℕ × KeyMap = λ p. (p.mount, p.keys) in
    c.in_ok-add_part.ensures q
    ∙ ap (option_or (change_at (before part.mount) part.keys q)) (c.loop-part.invariant q)
    ∙ sym (ap (λ parts. changed_in before parts q) (ap numbered (take-next touched i part (at_place touched i part c.loop-part-test.true c.part-item.is)) ∙ map-append pair (take i touched) (part ∷ []))
    ∙ changed_in-snoc before (numbered (take i touched)) (part.mount, part.keys) q)

pub returns : goal.returns
returns c = λ mounts wanted are.
    let before = kept (record_of c.args.rec.now) in
    are-changes before wanted mounts _ (λ q. c.loop-part.invariant q ∙ ap (λ parts. changed_in before parts q) (ap numbered (take_all c.loop-part.part-index c.args.touched.now (omega (arith, c.loop-part-test.false))) ∙ are))
