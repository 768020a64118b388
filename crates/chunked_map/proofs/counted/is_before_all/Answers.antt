-- A key before the first one of a chunk is before all of that chunk and of those behind it.
use Rattle.std.proofs.Common.{◌≡◌, get_or, sym, ap, ◌∙◌, subst}
use Rattle.std.specs.declared.cmp.Ordering.TheVariants.{Greater}
use Rattle.chunked_map.proofs.SearchLemmas.{home_late, gap_first, late_first}
use Rattle.chunked_map.proofs.counted.is_before_all.Given as given
use Rattle.chunked_map.proofs.counted.is_before_all.Goals as goal

module _ (g : given.Over) (c : goal.In-Greater g) where
  first : c.index-entries-0.result ≡ get_or c.index-chunks-0.result 0 c.index-entries-0.result
  first =
      subst (λ es. c.index-entries-0.result ≡ get_or es 0 c.index-entries-0.result) c.entries.ensures.all c.index-entries-0.is

  before : g.K.Ord.cmp c.index-entries-0.result.0 c.args.key.now ≡ Greater
  before = ap (λ e. g.K.Ord.cmp e.0 c.args.key.now) c.index-entries-0.is ∙ sym c.cmp.ensures ∙ c.in-Greater.is

pub returns-in-Greater-clause-home : goal.returns-in-Greater-clause-home
returns-in-Greater-clause-home g c said =
    let late = late_first g.K.Ord.cmp g.met.K.Ord.total c.args.key.now c.args.chunks.now c.requires.chunks 0 c.requires.some c.index-chunks-0.result c.index-chunks-0.is c.index-entries-0.result (first g c) (before g c) in
    home_late g.K.Ord.cmp g.met.K.Ord.total c.args.key.now c.args.chunks.now c.requires.chunks 0 c.requires.some late tt

pub returns-in-Greater-clause-gap : goal.returns-in-Greater-clause-gap
returns-in-Greater-clause-gap g c said =
    gap_first g.K.Ord.cmp g.met.K.Ord.total c.args.key.now c.args.chunks.now c.requires.chunks 0 c.requires.some c.index-chunks-0.result c.index-chunks-0.is c.index-entries-0.result (first g c) (before g c)
