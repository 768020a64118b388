use Rattle.std.proofs.Common.{◌≡◌, ℕ, List, Option, Some, sym, ap, ap₂, ◌∙◌, Bor}
use Rattle.std.specs.Option.{option_map}
use Rattle.model_ini.specs.Line.{Pair}
use Rattle.ini_storage.specs.Plain.{cut_at_byte}
use Rattle.ini_storage.proofs.PlainLemmas.{no_sides, two_sides}
use Rattle.ini_storage.proofs.plain.entry.Goals as goal

seen : Option (Bor (List ℕ) × Bor (List ℕ)) → Option (List ℕ × List ℕ)
seen found = option_map (λ sides. (sides.0.now, sides.1.now)) found

pub returns-in-Some : goal.returns-in-Some
unfolding seen
returns-in-Some c =
    let name = c.in-Some.name.now in
    let value = c.in-Some.value.now in
    let found : cut_at_byte c.args.bytes.now ≡ Some (name, value) = sym c.sides.ensures ∙ ap seen c.in-Some.is in
    ap₂ Pair c.without_blanks.ensures c.without_blanks-in-Some.ensures
    ∙ two_sides c.args.bytes.now c.requires (name, value) found

pub returns-in-None : goal.returns-in-None
unfolding seen
returns-in-None c = no_sides c.args.bytes.now (sym c.sides.ensures ∙ ap seen c.in-None.is)
