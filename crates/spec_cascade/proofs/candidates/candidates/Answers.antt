use Rattle.std.proofs.Common.{ap, ◌∙◌, ◌++◌}
use Rattle.std.specs.List.{flat_map}
use Rattle.spec_cascade.specs.Candidates.{names_of, paths_by}
use Rattle.spec_cascade.proofs.CandidateLemmas.{four_kinds}
use Rattle.spec_cascade.proofs.candidates.candidates.Goals as goal

pub returns : goal.returns
returns c =
    four_kinds c.args.path.now.parts c.args.said.now c.in_ok-overrides.overrides c.in_ok-words.words c.in_ok-fallbacks.fallbacks
    c.new-names.result.items _ _ _ _ c.in_ok-overrides.ensures.texts c.in_ok-words.ensures.texts c.in_ok-fallbacks.ensures.texts c.new-names.ensures.items
    (c.in_ok-push_texts.ensures ∙ ap (λ ts. c.new-names.result.items ++ flat_map names_of ts) c.as_slice.ensures)
    (c.in_ok-push_words.ensures ∙ ap (λ ts. c.push_texts.new.names.items ++ paths_by c.args.path.now.parts ts) c.as_slice-2.ensures)
    (c.in_ok-push_texts-2.ensures ∙ ap (λ ts. c.push_words.new.names.items ++ flat_map names_of ts) c.as_slice-3.ensures)
    c.in_ok-push_in.ensures
