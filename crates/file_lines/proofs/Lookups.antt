-- What a look-up tells of a map, by whether something was found.
use Rattle.std.proofs.Common.{◌≡◌, true, false, Option, None, Some, sym, ◌∙◌}
use Rattle.std.specs.Option.{option_map}
use Rattle.std.specs.Prelude.{is_some}
use Rattle.general_words.proofs.Lists.{none_is_no_some}

-- nothing was found
pub new-by_test : {A B : Type 0} (f : A → B) (o : Option A) (found : Option B) → option_map f o ≡ found
    → is_some o ≡ false → found ≡ None
new-by_test f None found e none = sym e
new-by_test f (Some x) found e none = absurd cc

-- something was
pub found-by_test : {A B : Type 0} (f : A → B) (o : Option A) (found : Option B) → option_map f o ≡ found
    → is_some o ≡ true → found ≡ None → ⊥
found-by_test f None found e some none = absurd cc
found-by_test f (Some x) found e some none = none_is_no_some (f x) (sym (e ∙ none))
