-- No history has more changes than it weighs, so what is counted fits.
use Rattle.std.proofs.Common.{◌≡◌, ◌+◌, ◌-◌, ◌*◌, ◌^◌, ◌<◌, ◌≤◌, ◌++◌, ◌∙◌, ap, length, length-drop, subst, sym}
use Rattle.std.proofs.lemmas.List.{length-map}
use Rattle.circular_buffer.specs.Buffer.{Buffer}
use Rattle.commit_log.specs.CommitView.{commit_of}
use Rattle.model_history.specs.History.{heaviest_history}
use Rattle.watch_feed.specs.News.{news_from}
use Rattle.watch_feed.specs.Watches.{WatchValue}
use Rattle.watch_feed.specs.declared.news.Changed.{Changed}
use Rattle.watch_feed.proofs.CountLemmas.{few_still, missed_fits, numbers_fit}
use Rattle.watch_feed.proofs.watches.Watch.collect.Goals as goal

pub news_behind-requires : goal.news_behind-requires
news_behind-requires c =
    let history = c.args.history.now.commits in
    let within = subst (λ (w : WatchValue). w.front ≤ length history) (sym c.self.view_is) c.requires in
    let long : length c.behind-commits.result.now ≡ length history - c.self.inside.front = sym (length-map c.behind-commits.result.now commit_of) ∙ ap length c.behind-commits.ensures.behind ∙ length-drop c.self.inside.front history in
    numbers_fit history c.self.inside.front (length c.behind-commits.result.now) within c.behind-commits.ensures.light long

pub overflow_add-self : goal.overflow_add-self
overflow_add-self c =
    let history = c.args.history.now.commits in
    let watch = c.self.inside in
    let within = subst (λ (w : WatchValue). w.front ≤ length history) (sym c.self.view_is) c.requires in
    let told = c.in_ok-told.ensures ∙ ap (news_from watch.parent (watch.front + 1)) c.behind-commits.ensures.behind in
    let fits = missed_fits watch.parent history watch.front watch.missed watch.ring.items c.in_ok-told.told.items within c.behind-commits.ensures.light told c.self.invariant watch.ring.capacity in
    record { fits = subst (λ n. watch.missed + n < 2 ^ 64) (sym c.keep.ensures.left_out) fits }

pub invariant_of-self : goal.invariant_of-self
invariant_of-self c =
    let history = c.args.history.now.commits in
    let watch = c.self.inside in
    let room = watch.ring.capacity in
    let all = watch.ring.items ++ c.in_ok-told.told.items in
    let within = subst (λ (w : WatchValue). w.front ≤ length history) (sym c.self.view_is) c.requires in
    let told = c.in_ok-told.ensures ∙ ap (news_from watch.parent (watch.front + 1)) c.behind-commits.ensures.behind in
    let still = few_still watch.parent history watch.front watch.missed watch.ring.items c.in_ok-told.told.items within c.behind-commits.ensures.light told c.self.invariant room in
    let kept = ap (λ (b : Buffer Changed). b.items) c.keep.ensures.ring in
    subst (λ n. watch.missed + c.keep.result + length c.keep.new.ring.items ≤ n * heaviest_history) (sym c.len-self-inside.ensures)
    (subst (λ n. watch.missed + n + length c.keep.new.ring.items ≤ length history * heaviest_history) (sym c.keep.ensures.left_out)
    (subst (λ items. watch.missed + (length all - room) + length items ≤ length history * heaviest_history) (sym kept) still))
