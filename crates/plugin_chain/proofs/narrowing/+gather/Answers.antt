-- Each turn goes one part further, as long as the path has one.
use Rattle.std.proofs.Common.{◌≡◌, ℕ, ◌<◌, ◌++◌, List, length, slice_get, Bor, None, sym, ap, ◌∙◌, arith}
use Rattle.std.specs.Option.{option_map}
use Rattle.std.proofs.lemmas.List.Elements.{filter-append}
use Rattle.std.proofs.lemmas.Option.{slice_get_within}
use Rattle.plugin_chain.specs.Globs.{lent, patterns_in}
use Rattle.plugin_chain.proofs.NarrowLemmas.{first_alone}
use Rattle.plugin_chain.proofs.narrowing.+gather.Goals as goal

pub returns-in_default : goal.returns-in_default
returns-in_default t c =
    let path = c.args.path.now.parts in
    let none : slice_get path c.args.depth ≡ None = sym c.part.ensures ∙ ap (option_map (λ (t : Bor (List ℕ)). t.now)) c.in_default.is in
    record {
      ok = ap (patterns_in path) c.in_ok-add_all-2.ensures.ok
          ∙ filter-append _ (lent c.args.found.now.items) _
          ∙ ap (λ globs. patterns_in path (lent c.args.found.now.items) ++ globs) (first_alone path c.args.depth c.args.globs.now c.requires none);
    }

pub gather-requires : goal.gather-requires
gather-requires t c =
    let within : c.args.depth < length c.args.path.now.parts = slice_get_within c.args.path.now.parts c.args.depth c.in-Some.part.now (sym c.part.ensures ∙ ap (option_map (λ (t : Bor (List ℕ)). t.now)) c.in-Some.is) in
    (omega (arith, within), c.narrow-narrowed.ensures.first_deeper)

pub gather-requires-2 : goal.gather-requires-2
gather-requires-2 t c =
    let within : c.args.depth < length c.args.path.now.parts = slice_get_within c.args.path.now.parts c.args.depth c.in-Some.part.now (sym c.part.ensures ∙ ap (option_map (λ (t : Bor (List ℕ)). t.now)) c.in-Some.is) in
    (omega (arith, within), c.narrow-narrowed.ensures.second_deeper)

pub gather-requires-3 : goal.gather-requires-3
gather-requires-3 t c =
    let within : c.args.depth < length c.args.path.now.parts = slice_get_within c.args.path.now.parts c.args.depth c.in-Some.part.now (sym c.part.ensures ∙ ap (option_map (λ (t : Bor (List ℕ)). t.now)) c.in-Some.is) in
    (omega (arith, within), c.narrow-narrowed.ensures.third_deeper)
