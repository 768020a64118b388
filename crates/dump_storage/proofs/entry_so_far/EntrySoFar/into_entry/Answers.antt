-- Each turn moves the first item that is left.
use Rattle.std.proofs.Common.{sym, ap, ap₂, subst, ◌∙◌}
use Rattle.std.specs.FinMap as map
use Rattle.model_maps.specs.Entry.{Entry, Meta}
use Rattle.dump_storage.specs.SoFarView.{HaveMetaLengths}
use Rattle.dump_storage.proofs.SoFarLemmas.{none_left, Splits, Splits-start, Splits-more, Splits-end, entry_with}
use Rattle.dump_storage.proofs.entry_so_far.EntrySoFar.into_entry.Goals as goal

pub loop-name-init : goal.loop-name-init
loop-name-init c = record {
  all = subst (λ (whole : Entry). Splits whole.meta c.new-meta.result c.self.inside.items.entries) c.self.view_is (Splits-start c.self.inside.items.entries c.new-meta.result c.new-meta.ensures);
  lengths = c.self.invariant;
}

pub loop-name-preserved : goal.loop-name-preserved
loop-name-preserved c =
    let popped = c.in-Some.ensures in
    let put = c.in_ok-set.ensures.ok ∙ ap₂ (λ name text. map.insert c.loop-name.meta name text) c.as_str.ensures.bytes c.as_str-in-Some.ensures.bytes in
    record {
      all =
          subst (λ (meta : Meta). Splits c.args.self.meta meta c.pop_first.new.self.entries) (sym put)
          (Splits-more c.args.self.meta c.loop-name.meta c.in-Some.name c.in-Some.text c.loop-name.left.entries c.pop_first.new.self.entries popped.removal popped.updates.1 c.loop-name.invariant.all);
      lengths = (subst HaveMetaLengths popped.removal c.loop-name.invariant.lengths).1;
    }

pub returns : goal.returns
returns c =
    let value = c.self.inside.value in
    ap (entry_with value) (Splits-end c.args.self.meta c.loop-name.meta c.loop-name.left.entries (none_left c.loop-name.left.entries c.in_default.ensures.variant.1) c.loop-name.invariant.all)
    ∙ sym (ap (λ (e : Entry). entry_with value e.meta) c.self.view_is)
    ∙ c.self.view_is
