use Rattle.std.proofs.Common.{◌≡◌, ◌+◌, ◌++◌, ◌-◌, length, map, take, drop, ap, ◌∙◌, arith}
use Rattle.std.proofs.lemmas.List.{length-map}
use Rattle.commit_log.specs.CommitView.{commit_of}
use Rattle.commit_log.specs.Naming.{marks_at, marks_in}
use Rattle.commit_log.proofs.LogLemmas.{rest_whole}
use Rattle.commit_log.proofs.NamingLemmas.{all_named}
use Rattle.commit_log.proofs.histories.History.index_names.Goals as goal

pub invariant_of-self-2 : goal.invariant_of-self-2
invariant_of-self-2 c =
    let all = c.self.inside.commits.items in
    let whole : c.len.result ≡ length (map commit_of all) = omega (arith, c.len.ensures, length-map all commit_of) in (
      c.self.invariant.0,
      c.self.invariant.1,
      c.self.invariant.2,
      all_named (map commit_of all) c.self.inside.names c.note_commits.new.names c.self.inside.named c.len.result c.self.invariant.3 whole (λ name.
          c.in_ok-note_commits.ensures name
          ∙ ap (λ names. marks_at names name ++ marks_in name (c.replace-named.result + 1) (map commit_of (take (length c.deref.result.now - c.replace-named.result) (drop c.replace-named.result c.deref.result.now)))) c.replace-names.ensures.value
          ∙ ap (λ marks. marks_at c.self.inside.names name ++ marks) (ap (marks_in name (c.replace-named.result + 1)) (rest_whole c.replace-named.result c.deref.result.now)
          ∙ ap (λ n. marks_in name (n + 1) (drop n (map commit_of c.deref.result.now))) c.replace-named.ensures.value
          ∙ ap (λ commits. marks_in name (c.self.inside.named + 1) (drop c.self.inside.named (map commit_of commits))) c.deref.ensures.value)),
    )
