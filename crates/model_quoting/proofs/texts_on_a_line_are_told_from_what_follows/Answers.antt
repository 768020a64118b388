use Rattle.std.specs.Prelude.{◌∷◌}
use Rattle.model_quoting.specs.Quoted.{shown_text}
use Rattle.model_quoting.proofs.AlikeLemmas.{shown_text-once}
use Rattle.model_quoting.proofs.CutLemmas.{quoted-cut, shown_text-IsWord, word-cut}
use Rattle.model_quoting.proofs.texts_on_a_line_are_told_from_what_follows.Goals as goal

pub returns : goal.returns
returns c = record {
  in_quotes = quoted-cut;
  shown = λ a b rest other blank end p q e.
      let parts = word-cut (shown_text a) (shown_text b) (blank ∷ rest) (end ∷ other) (shown_text-IsWord a) (shown_text-IsWord b) p q e in
      (shown_text-once a b parts.0, parts.1);
}
