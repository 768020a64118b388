-- One change more is put behind the others.
use Rattle.std.proofs.Common.{◌≤◌, ◌++◌, ◌∷◌, ◌∙◌, [], ap, length, subst, sym}
use Rattle.std.specs.Vec.Iter.{into_iter_items}
use Rattle.circular_buffer.specs.Buffer.{Buffer, keep_last}
use Rattle.watch_feed.specs.declared.news.Changed.{Changed}
use Rattle.watch_feed.proofs.RingLemmas.{keep_last-le, keep_last-next}
use Rattle.watch_feed.proofs.rings.keep.Goals as goal

pub loop-changed-preserved-in-Some : goal.loop-changed-preserved-in-Some
loop-changed-preserved-in-Some c =
    let room = c.args.ring.now.capacity in
    let before = c.loop-changed.ring.items in
    let changed = c.in-Some.changed in
    let pushed = ap (λ (b : Buffer Changed). b.items) c.push_back.ensures.items ∙ ap (λ n. keep_last n (before ++ changed ∷ [])) c.loop-changed.invariant.capacity in
    record {
      last =
          keep_last-next room before changed (into_iter_items c.next.new.self) c.push_back.new.self.items pushed
          ∙ ap (λ rest. keep_last room (before ++ rest)) (sym c.in-Some.ensures.steps.0)
          ∙ c.loop-changed.invariant.last;
      capacity = ap (λ (b : Buffer Changed). b.capacity) c.push_back.ensures.items ∙ c.loop-changed.invariant.capacity;
      within = subst (λ items. length items ≤ room) (sym pushed) (keep_last-le room (before ++ changed ∷ []));
    }

pub loop-changed-preserved : goal.loop-changed-preserved
loop-changed-preserved c =
    let room = c.args.ring.now.capacity in
    let before = c.loop-changed.ring.items in
    let changed = c.in-Some.changed in
    let pushed = ap (λ (b : Buffer Changed). b.items) c.push_back.ensures.items ∙ ap (λ n. keep_last n (before ++ changed ∷ [])) c.loop-changed.invariant.capacity in
    record {
      last =
          keep_last-next room before changed (into_iter_items c.next.new.self) c.push_back.new.self.items pushed
          ∙ ap (λ rest. keep_last room (before ++ rest)) (sym c.in-Some.ensures.steps.0)
          ∙ c.loop-changed.invariant.last;
      capacity = ap (λ (b : Buffer Changed). b.capacity) c.push_back.ensures.items ∙ c.loop-changed.invariant.capacity;
      within = subst (λ items. length items ≤ room) (sym pushed) (keep_last-le room (before ++ changed ∷ []));
    }
