-- What is touched and changed is what the definitions say.
use Rattle.std.proofs.Common.{◌≡◌, ℕ, ◌<◌, List, filter, map as over, sym, ap, subst, ◌∙◌, arith}
use Rattle.std.specs.List.{AllByRecursion}
use Rattle.std.proofs.lemmas.List.Elements.{All-from_recursion}
use Rattle.model_maps.specs.KeyMap.{KeyMap}
use Rattle.model_names.specs.Name.{Name}
use Rattle.model_store.specs.Records.{Record}
use Rattle.model_store.specs.Sets.{wants}
use Rattle.set_split.specs.Involved.{involved_in}
use Rattle.set_split.specs.Parts.{parts_of}
use Rattle.set_split.specs.Seen.{numbered}
use Rattle.set_split.specs.declared.parts.Part.{Part}
use Rattle.store_verdict.specs.RecordView.{record_of}
use Rattle.store_verdict.specs.Touching.{differs_at}
use Rattle.store_verdict.specs.Wanting.{touched_at}
use Rattle.store_verdict.proofs.DifferLemmas.{filter-parts}
use Rattle.store_verdict.proofs.SetLemmas.{part-mounts, parts-within, touched-within}
use Rattle.store_verdict.proofs.wanting.wanted_of.Goals as goal

touched-parts : (points : List Name) (rec : Record) (parent : Name) (keys : KeyMap) (all parts : List Part)
    → numbered all ≡ parts_of points parent keys → numbered parts ≡ filter (differs_at rec) (numbered all)
    → numbered parts ≡ over {B = ℕ × KeyMap} (λ m. (m, wants points keys m)) (touched_at points rec parent keys)
touched-parts points rec parent keys all parts split is =
    is ∙ ap (filter (differs_at rec)) split ∙ filter-parts rec (wants points keys) (involved_in points parent)

pub numbers_of-requires : goal.numbers_of-requires
numbers_of-requires c =
    let points = c.args.points.now in
    let rec = record_of c.args.rec.now in
    let keys = c.args.keys.now in
    let parts = c.in_ok-parts.parts.items in
    let are = touched-parts points rec c.args.parent.now keys c.in_ok-split.split.parts parts c.in_ok-split.ensures.parts c.in_ok-parts.ensures in
    All-from_recursion (λ (part : Part). part.mount < 4294967296) c.deref.result.now
    (subst (λ (ps : List Part). AllByRecursion (λ (part : Part). part.mount < 4294967296) ps) (sym c.deref.ensures.value)
    (parts-within 4294967296 (wants points keys) parts (touched_at points rec c.args.parent.now keys) are (touched-within points rec c.args.parent.now keys 4294967296 (omega (arith, c.requires.few)))))

pub returns : goal.returns
returns c =
    let points = c.args.points.now in
    let rec = record_of c.args.rec.now in
    let keys = c.args.keys.now in
    let parts = c.in_ok-parts.parts.items in
    let touched = touched_at points rec c.args.parent.now keys in
    let are = touched-parts points rec c.args.parent.now keys c.in_ok-split.split.parts parts c.in_ok-split.ensures.parts c.in_ok-parts.ensures in
    record {
      touched = c.in_ok-touched.ensures ∙ ap (over (λ (part : Part). part.mount)) c.deref.ensures.value ∙ part-mounts (wants points keys) parts touched are;
      parts = ap numbered c.from_vec.ensures ∙ are;
      changes = c.in_ok-changes.ensures touched (wants points keys) (ap numbered c.deref-2.ensures.value ∙ are);
      aside = c.in_ok-split.ensures.aside;
    }
