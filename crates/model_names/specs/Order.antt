-- Names sort by namespace, and then by their unescaped parts: parts compare by bytes, and a list of parts that is a
-- front of another comes first. (Key set order of Elektra's API documentation, in this profile.)
use Rattle.std.specs.Prelude.{Bool, nat_eq}
use Rattle.std.specs.Ordering.{nat_cmp, on, then_cmp, eq_of_both}
use Rattle.std.specs.Cmp.Lexicographic.{slice_cmp, pointwise}
use Rattle.std.specs.declared.cmp.Ordering.{Ordering}
use Rattle.model_names.specs.Name.{Name, Part, rank}

abbrev pub part_cmp : Part → Part → Ordering
part_cmp = slice_cmp nat_cmp

-- the order of names
abbrev pub name_cmp : Name → Name → Ordering
name_cmp = then_cmp (on (λ n. rank n.namespace) nat_cmp) (on (λ n. n.parts) (slice_cmp (slice_cmp nat_cmp)))

-- two names are one
abbrev pub name_eq : Name → Name → Bool
name_eq = eq_of_both (on (λ n. rank n.namespace) nat_eq) (on (λ n. n.parts) (pointwise (pointwise nat_eq)))
