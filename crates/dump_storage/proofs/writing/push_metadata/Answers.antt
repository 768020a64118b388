-- Each turn appends one more.
use Rattle.std.proofs.Common.{◌++◌, ◌≡◌, List, ℕ, ap, ap₂, sym, ◌∙◌, append-nil, append_assoc}
use Rattle.std.specs.List.{flat_map}
use Rattle.model_dump.specs.Record.{spelled_record}
use Rattle.model_dump.specs.Text.{record_of_meta}
use Rattle.dump_storage.proofs.writing.push_metadata.Goals as goal

abbrev spelled : List ℕ × List ℕ → List ℕ
spelled item = spelled_record (record_of_meta item)

pub loop-name-init : goal.loop-name-init
loop-name-init c =
    ap (λ items. c.args.bytes.now.items ++ flat_map spelled items) (c.into_iter-name-iterator.ensures.into_iter_gives ∙ c.iter-name-items.ensures.all)

pub loop-name-preserved : goal.loop-name-preserved
loop-name-preserved c =
    let item : List ℕ × List ℕ = (c.in-Some.name.now, c.in-Some.text.now) in
    let rest = c.next.new.self in
    let before = c.loop-name.bytes.items in
    let own : c.push_record.new.bytes.items ≡ before ++ spelled item =
    c.in_ok-push_record.ensures ∙ ap₂ (λ (name text : List ℕ). before ++ spelled (name, text)) c.as_bytes.ensures.value c.as_bytes-in-loop-name.ensures.value in
    ap (λ bytes. bytes ++ flat_map spelled rest) own
    ∙ append_assoc before (spelled item) (flat_map spelled rest)
    ∙ ap (λ items. before ++ flat_map spelled items) (sym c.in-Some.ensures.steps)
    ∙ c.loop-name.invariant

pub returns : goal.returns
returns c =
    sym (append-nil c.loop-name.bytes.items)
    ∙ ap (λ items. c.loop-name.bytes.items ++ flat_map spelled items) (sym c.in-None.ensures.steps.0)
    ∙ c.loop-name.invariant
