-- News of more changes, of more commits, and between fronts.
use Rattle.std.proofs.Common.{◌≡◌, ℕ, ◌+◌, ◌<◌, ◌≤◌, List, [], ◌∷◌, ◌++◌, length, drop, get_or, take, map, sym, ap, ◌∙◌, arith, append_assoc, append-nil, length-drop, length-take, take-append-drop}
use Rattle.std.proofs.lemmas.List.{drop-append-le, drop_all, length-map, map-append, map_more, take-append-le, take-take}
use Rattle.std.proofs.lemmas.List.Elements.{filter-append}
use Rattle.commit_log.specs.CommitView.{change_of, commit_of}
use Rattle.commit_log.specs.declared.commits.Change as code
use Rattle.commit_log.specs.declared.commits.Commit as logged
use Rattle.model_history.specs.Changes.{Change}
use Rattle.model_history.specs.History.{Commit}
use Rattle.model_names.specs.Name.{Name}
use Rattle.model_specified.specs.Violations.{is_within}
use Rattle.watch_feed.specs.News.{news, news_from, news_in, told_of}
use Rattle.watch_feed.specs.declared.news.Changed.{Changed}

module _ (parent : Name) where
  -- ---- one more

  pub news_in-append : (number : ℕ) (xs ys : List Change)
      → news_in parent number (xs ++ ys) ≡ news_in parent number xs ++ news_in parent number ys
  news_in-append number xs ys =
      ap (map (told_of number)) (filter-append (λ change. is_within parent change.0) xs ys)
      ∙ map-append (told_of number) _ _

  pub news_in-next : (number i : ℕ) (cs : List code.Change) (c : code.Change) (told : List Changed) → i < length cs
      → c ≡ get_or cs i c
      → (told ++ news_in parent number (map change_of (take i cs))) ++ news_in parent number (change_of c ∷ [])
      ≡ told ++ news_in parent number (map change_of (take (i + 1) cs))
  news_in-next number i cs c told lt is =
      let more = map_more change_of cs i c lt ∙ ap (λ d. map change_of (take i cs) ++ change_of d ∷ []) (sym is) in
      append_assoc told (news_in parent number (map change_of (take i cs))) (news_in parent number (change_of c ∷ []))
      ∙ ap (λ l. told ++ l) (sym (news_in-append number (map change_of (take i cs)) (change_of c ∷ [])) ∙ ap (news_in parent number) (sym more))

  pub news_from-append : (number : ℕ) (xs ys : List Commit)
      → news_from parent number (xs ++ ys) ≡ news_from parent number xs ++ news_from parent (number + length xs) ys
  news_from-append number [] ys = let same : number ≡ number + 0 = omega arith in ap (λ n. news_from parent n ys) same
  news_from-append number (x ∷ xs) ys =
      let next : number + 1 + length xs ≡ number + length (x ∷ xs) = omega arith in
      ap (λ l. news_in parent number x.changes ++ l) (news_from-append (number + 1) xs ys)
      ∙ sym (append_assoc (news_in parent number x.changes) (news_from parent (number + 1) xs) (news_from parent (number + 1 + length xs) ys))
      ∙ ap (λ n. (news_in parent number x.changes ++ news_from parent (number + 1) xs) ++ news_from parent n ys) next

  pub news_from-next : (front i : ℕ) (cs : List logged.Commit) (c : logged.Commit) → i < length cs → c ≡ get_or cs i c
      → news_from parent (front + 1) (map commit_of (take i cs)) ++ news_in parent (front + i + 1) (map change_of c.changes)
      ≡ news_from parent (front + 1) (map commit_of (take (i + 1) cs))
  news_from-next front i cs c lt is =
      let more = map_more commit_of cs i c lt ∙ ap (λ d. map commit_of (take i cs) ++ commit_of d ∷ []) (sym is) in
      let long = length-map (take i cs) commit_of in
      let here : front + 1 + length (map commit_of (take i cs)) ≡ front + i + 1 = omega (arith, long, length-take i cs, lt) in
      ap (λ l. news_from parent (front + 1) (map commit_of (take i cs)) ++ l) (sym (append-nil (news_in parent (front + i + 1) (map change_of c.changes))))
      ∙ ap (λ n. news_from parent (front + 1) (map commit_of (take i cs)) ++ news_from parent n (commit_of c ∷ [])) (sym here)
      ∙ sym (news_from-append (front + 1) (map commit_of (take i cs)) (commit_of c ∷ []))
      ∙ ap (news_from parent (front + 1)) (sym more)

  -- ---- between fronts

  pub news-none : (history : List Commit) (front : ℕ) → news history front front parent ≡ []
  news-none history front =
      ap (news_from parent (front + 1)) (drop_all front (take front history) (omega (arith, length-take front history)))

  -- what comes behind the second front is none of them
  pub news-longer : (history more : List Commit) (from to : ℕ) → to ≤ length history
      → news (history ++ more) from to parent ≡ news history from to parent
  news-longer history more from to le =
      ap (λ l. news_from parent (from + 1) (drop from l)) (take-append-le to history more le)

  pub news-shorter : (history : List Commit) (from to : ℕ)
      → news (take to history) from to parent ≡ news history from to parent
  news-shorter history from to =
      ap (λ l. news_from parent (from + 1) (drop from l)) (take-take to to history (omega arith))

  pub news-goes_on : (history : List Commit) (from middle to : ℕ) → from ≤ middle → middle ≤ to → to ≤ length history
      → news history from to parent ≡ news history from middle parent ++ news history middle to parent
  news-goes_on history from middle to le next within =
      let short = take-take middle to history next in
      let long : length (take middle history) ≡ middle = omega (arith, length-take middle history) in
      let number : from + 1 + length (drop from (take middle history)) ≡ middle + 1 = omega (arith, long, length-drop from (take middle history)) in
      ap (λ l. news_from parent (from + 1) (drop from l)) (sym (take-append-drop middle (take to history)) ∙ ap (λ l. l ++ drop middle (take to history)) short)
      ∙ ap (news_from parent (from + 1)) (drop-append-le from (take middle history) (drop middle (take to history)) (omega (arith, long)))
      ∙ news_from-append (from + 1) (drop from (take middle history)) (drop middle (take to history))
      ∙ ap (λ n. news_from parent (from + 1) (drop from (take middle history)) ++ news_from parent n (drop middle (take to history))) number
