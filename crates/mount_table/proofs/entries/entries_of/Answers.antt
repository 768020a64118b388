-- Each turn notes the entry of one more name, and in the end all are noted.
use Rattle.std.proofs.Common.{sym, ap, ap₂, subst, ◌∙◌}
use Rattle.std.specs.FinMap as map
use Rattle.std.specs.List.{AllByRecursion}
use Rattle.std.specs.Option.{option_or}
use Rattle.general_words.specs.Texts.{text_cmp}
use Rattle.general_words.proofs.Maps.{from_sorted-nil}
use Rattle.model_names.specs.WellFormed.{IsName}
use Rattle.mount_table.proofs.EntryLemmas.{told_of, get-entries_of, noted_next, all_noted}
use Rattle.mount_table.proofs.entries.entries_of.Goals as goal

pub loop-name-init : goal.loop-name-init
loop-name-init c =
    let keys = c.args.keys.now in
    let start = c.into_iter-name-iterator.ensures.into_iter_gives ∙ c.iter-name-items.ensures in
    let none = ap map.from_sorted c.new-entries.ensures ∙ from_sorted-nil text_cmp in
    record {
      names = subst (AllByRecursion (λ key. IsName key.0)) start;
      noted = λ _ text. ap₂ option_or (ap (λ m. map.get m text) none ∙ map.get-empty text_cmp text) (ap (λ rest. told_of keys rest text) start) ∙ sym (get-entries_of keys text);
    }

pub loop-name-preserved : goal.loop-name-preserved
loop-name-preserved c =
    let keys = c.args.keys.now in
    let step = c.in-Some.ensures.steps in
    record {
      names = λ rest. c.loop-name.invariant.names (subst (AllByRecursion (λ key. IsName key.0)) (sym step) (c.note.ensures.well_formed, rest));
      noted = λ are text.
          noted_next (map.get (map.from_sorted c.loop-name.entries) text) _ _ _ _ (c.in_ok-note.ensures.noted are text)
          ∙ ap (λ rest. option_or (map.get (map.from_sorted {R = text_cmp} c.loop-name.entries) text) (told_of keys rest text)) (sym step)
          ∙ c.loop-name.invariant.noted are text;
    }

pub returns : goal.returns
returns c =
    let keys = c.args.keys.now in
    let done = c.in-None.ensures.steps.0 in
    let are = c.loop-name.invariant.names (subst (AllByRecursion (λ key. IsName key.0)) (sym done) tt) in
    all_noted keys (map.from_sorted c.loop-name.entries) (λ text.
    ap (λ rest. option_or (map.get (map.from_sorted {R = text_cmp} c.loop-name.entries) text) (told_of keys rest text)) (sym done) ∙ c.loop-name.invariant.noted are text)
