-- What becomes of a watch that looks at a history.
use Rattle.std.proofs.Common.{◌≡◌, ◌+◌, ◌-◌, ◌≤◌, List, ◌++◌, length, sym, ap, subst, ◌∙◌, arith, length-append, append_assoc}
use mathlib.Core.List.{IsPrefix}
use Rattle.circular_buffer.specs.Buffer.{keep_last}
use Rattle.model_history.specs.History.{Commit}
use Rattle.watch_feed.proofs.NewsLemmas.{news-goes_on, news-longer}
use Rattle.watch_feed.proofs.RingLemmas.{keep_last-again, length-keep_last}
use Rattle.watch_feed.specs.News.{news}
use Rattle.watch_feed.specs.Watches.{WatchValue, collected, with_told}
use Rattle.watch_feed.specs.declared.news.Changed.{Changed}

-- what is told twice is told at once
pub with_told-twice : (watch : WatchValue) (first second : List Changed)
    → with_told (with_told watch first) second ≡ with_told watch (first ++ second)
with_told-twice watch first second =
    let room = watch.room in
    let joined = append_assoc watch.ring first second in
    let kept : keep_last room (keep_last room (watch.ring ++ first) ++ second) ≡ keep_last room (watch.ring ++ (first ++ second)) = keep_last-again room (watch.ring ++ first) second ∙ ap (keep_last room) joined in
    let counted : watch.missed + (length (watch.ring ++ first) - room) + (length (keep_last room (watch.ring ++ first) ++ second) - room) ≡ watch.missed + (length (watch.ring ++ (first ++ second)) - room) = omega (
      arith,
      length-keep_last room (watch.ring ++ first),
      length-append (keep_last room (watch.ring ++ first)) second,
      length-append (watch.ring ++ first) second,
      ap length joined,
    ) in
    λ i. record watch { ring = kept i; missed = counted i }

-- a watch that looks at a history twice, as it goes on, is as if it had looked once
pub collected-twice : (watch : WatchValue) (before after : List Commit) → watch.front ≤ length before
    → IsPrefix before after → collected (collected watch before) after ≡ collected watch after
collected-twice watch before after le prefix =
    subst (λ l. collected (collected watch before) l ≡ collected watch l) prefix.1 longer
  where
    longer : collected (collected watch before) (before ++ prefix.0) ≡ collected watch (before ++ prefix.0)
    longer =
        let long = length-append before prefix.0 in
        let joined : news before watch.front (length before) watch.parent ++ news (before ++ prefix.0) (length before) (length (before ++ prefix.0)) watch.parent ≡ news (before ++ prefix.0) watch.front (length (before ++ prefix.0)) watch.parent =
        ap (λ l. l ++ news (before ++ prefix.0) (length before) (length (before ++ prefix.0)) watch.parent) (sym (news-longer watch.parent before prefix.0 watch.front (length before) (omega arith)))
        ∙ sym (news-goes_on watch.parent (before ++ prefix.0) watch.front (length before) (length (before ++ prefix.0)) le (omega (arith, long)) (omega arith)) in
        let told = with_told-twice watch (news before watch.front (length before) watch.parent) (news (before ++ prefix.0) (length before) (length (before ++ prefix.0)) watch.parent)
        ∙ ap (with_told watch) joined in
        ap (λ (w : WatchValue). record w { front = length (before ++ prefix.0) }) told
