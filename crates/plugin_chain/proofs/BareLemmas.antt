-- A value without metadata keeps all rules.
use Rattle.std.proofs.Common.{◌≡◌, ℕ, List, [], length, codes, None, refl, sym, ap, ◌∙◌, append-nil}
use Rattle.general_words.specs.Texts.{text_cmp}
use Rattle.std.specs.FinMap as finite
use Rattle.std.specs.FinMap.{find, get-entries}
use Rattle.std.proofs.lemmas.List.{nil_from_length}
use Rattle.model_names.specs.Name.{Name}
use Rattle.model_maps.specs.Entry.{Meta}
use Rattle.model_rules.specs.Rules.{BreaksType, BreaksRange, KeepsPattern, UnknownType, WrongType, BadRange, OutOfRange}
use Rattle.model_rules.specs.declared.breaches.Broken.{Broken}
use Rattle.model_specified.specs.declared.violations.Violation.{Violation}
use Rattle.regex_check.specs.Grammar.{Matches}
use Rattle.type_check.proofs.EnumLemmas.{keeps_bare}
use Rattle.plugin_chain.specs.Steps.{Adds}

module _ (value : List ℕ) (meta : Meta) (bare : length (finite.entries meta) ≡ 0) where
  none : (name : List ℕ) → finite.get meta name ≡ None
  none name = get-entries meta name ∙ ap (find text_cmp name) (nil_from_length (finite.entries meta) bare)

  keeps_type : (broken : Broken) → BreaksType value meta broken → ⊥
  keeps_type broken (UnknownType word has unknown is) = let missing = none (codes "type") in absurd (cc (has, missing))
  keeps_type broken (WrongType word kind has known other is) =
      let missing = none (codes "type") in absurd (cc (has, missing))

  keeps_range : (broken : Broken) → BreaksRange value meta broken → ⊥
  keeps_range broken (BadRange text has bad is) = let missing = none (codes "check/range") in absurd (cc (has, missing))
  keeps_range broken (OutOfRange text intervals has range out is) =
      let missing = none (codes "check/range") in absurd (cc (has, missing))

  keeps_pattern : KeepsPattern Matches value meta
  keeps_pattern pattern has = let missing = none (codes "check/validation") in absurd (cc (has, missing))

  pub adds_none : (HasRisen : Type 0) (name : Name) (list : List Violation)
      → Adds HasRisen (name, record { value = value; meta = meta }) list list
  adds_none HasRisen name list = record {
    own = [];
    are = record {
      breaches = [];
      are = record { by_type = None; by_range = None; by_enum = None; by_pattern = None; of_type = keeps_type; of_range = keeps_range; of_enum = λ broken breaks. keeps_bare value meta broken bare breaks; of_pattern = keeps_pattern; all = refl };
      all = refl;
    };
    all = sym (append-nil list);
  }
