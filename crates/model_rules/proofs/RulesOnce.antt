-- A value breaks the rules of one check in one way at most.
use Rattle.std.specs.Prelude.{◌≡◌, ℕ, List}
use Rattle.std.proofs.Common.{sym, ap, subst, ◌∙◌}
use Rattle.general_words.proofs.Lists.{found_once, not_both}
use Rattle.model_maps.specs.Entry.{Meta}
use Rattle.model_rules.specs.Types.{kind_of}
use Rattle.model_rules.specs.Rules.{BreaksType, UnknownType, WrongType, BreaksRange, BadRange, OutOfRange, BreaksEnum, breach}
use Rattle.model_rules.specs.Range.{IsRange}
use Rattle.model_rules.specs.declared.breaches.Broken.{Broken}

pub BreaksType-once : (value : List ℕ) (meta : Meta) (a b : Broken) → BreaksType value meta a → BreaksType value meta b
    → a ≡ b
BreaksType-once value meta a b (UnknownType w f u e) (UnknownType w' f' u' e') =
    e ∙ ap (breach 1) (found_once w w' f f') ∙ sym e'
BreaksType-once value meta a b (UnknownType w f u e) (WrongType w' k f' u' n e') =
    absurd (not_both k (ap kind_of (sym (found_once w w' f f')) ∙ u) u')
BreaksType-once value meta a b (WrongType w' k f' u' n e') (UnknownType w f u e) =
    absurd (not_both k (ap kind_of (sym (found_once w w' f f')) ∙ u) u')
BreaksType-once value meta a b (WrongType w k f u n e) (WrongType w' k' f' u' n' e') = e ∙ sym e'

pub BreaksRange-once : (value : List ℕ) (meta : Meta) (a b : Broken) → BreaksRange value meta a
    → BreaksRange value meta b → a ≡ b
BreaksRange-once value meta a b (BadRange t f n e) (BadRange t' f' n' e') =
    e ∙ ap (breach 3) (found_once t t' f f') ∙ sym e'
BreaksRange-once value meta a b (BadRange t f n e) (OutOfRange t' i f' r n' e') =
    absurd (n i (subst (λ x. IsRange x i) (sym (found_once t t' f f')) r))
BreaksRange-once value meta a b (OutOfRange t' i f' r n' e') (BadRange t f n e) =
    absurd (n i (subst (λ x. IsRange x i) (sym (found_once t t' f f')) r))
BreaksRange-once value meta a b (OutOfRange t i f r n e) (OutOfRange t' i' f' r' n' e') = e ∙ sym e'

pub BreaksEnum-once : (value : List ℕ) (meta : Meta) (a b : Broken) → BreaksEnum value meta a → BreaksEnum value meta b
    → a ≡ b
BreaksEnum-once value meta a b p q = p.is ∙ sym q.is
