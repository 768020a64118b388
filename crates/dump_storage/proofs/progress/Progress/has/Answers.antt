-- A name is the present key's, or that of one before it.
use Rattle.std.proofs.Common.{◌≢◌, refl, sym, ◌∙◌, Some, Bor}
use Rattle.std.specs.FinMap as map
use Rattle.std.specs.Option.{option_map}
use Rattle.dump_storage.specs.declared.progress.Present.{Present}
use Rattle.key_set.specs.declared.entries.Entry as code_entry
use Rattle.dump_storage.proofs.StepLemmas.{is_present-found, is_before, is_some-mapped}
use Rattle.key_set.specs.EntryView.{entry_of}
use Rattle.dump_storage.proofs.progress.Progress.has.Goals as goal

pub returns-then-is_present : goal.returns-then-is_present
returns-then-is_present c = (
  λ _. is_present-found c.args.self.now.keys c.args.self.now.present c.args.name.now (c.if-is_present.ensures.0 refl),
  λ _. c.if-is_present.true,
)

pub returns-else-is_present : goal.returns-else-is_present
returns-else-is_present c =
    let self = c.args.self.now in
    let other : option_map (λ (present : Present). present.name) self.present ≢ Some c.args.name.now = λ same. let is = c.if-is_present.ensures.1 same in absurd cc in
    let before = is_before self.keys self.present c.args.name.now other in
    let test = is_some-mapped (λ (entry : Bor code_entry.Entry). entry_of entry.now) c.lookup.result (map.get self.keys c.args.name.now) c.lookup.ensures in (
      λ found none. test.0 (sym c.is_some.ensures ∙ found) (sym before ∙ none),
      λ some. c.is_some.ensures ∙ test.1 (λ none. some (before ∙ none)),
    )
