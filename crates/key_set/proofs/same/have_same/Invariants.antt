-- The keys to come are the same where all are.
use Rattle.std.proofs.Common.{◌≡◌, ◌&&◌}
use Rattle.std.specs.Cmp.Lexicographic.{pointwise}
use Rattle.model_names.specs.Order.{name_eq}
use Rattle.key_set.specs.EntryView.{entry_of}
use Rattle.key_set.specs.Same.{same_entry}
use Rattle.key_set.proofs.same.have_same.Given as goal

abbrev pub invariant-loop-name : goal.invariant-loop-name
invariant-loop-name l =
    pointwise (λ x y. name_eq x.0 y.0 && same_entry (entry_of x.1) (entry_of y.1)) l.name-iterator l.rest
    ≡ pointwise (λ x y. name_eq x.0 y.0 && same_entry (entry_of x.1) (entry_of y.1)) l.keys l.others
