-- Texts: the test that two are one, and their order.
use Rattle.std.proofs.Common.{◌≡◌, ◌≢◌, ℕ, true, false, List}
use Rattle.std.specs.Bool.{Decides}
use Rattle.std.specs.Cmp.{IsTotalOrder}
use Rattle.std.specs.FinMap.{IsAntisymmetric, nat_cmp-IsAntisymmetric, slice_cmp-IsAntisymmetric}
use Rattle.std.proofs.lemmas.Bool.{false_from_ne_true}
use Rattle.std.proofs.lemmas.Cmp.{nat_list_cmp_total}
use Rattle.std.proofs.lemmas.Slice.Eq.{bytes_eq-Decides}
use Rattle.general_words.specs.Texts.{is_text, text_cmp}

pub is_text-Decides : (a b : List ℕ) → Decides (is_text a b) (a ≡ b)
is_text-Decides a b = bytes_eq-Decides a b

pub same_text : (a b : List ℕ) → is_text a b ≡ true → a ≡ b
same_text a b e = (bytes_eq-Decides a b).0 e

pub other_text : (a b : List ℕ) → a ≢ b → is_text a b ≡ false
other_text a b h = false_from_ne_true (is_text a b) (λ e. h ((bytes_eq-Decides a b).0 e))

pub text_cmp-total : IsTotalOrder text_cmp
text_cmp-total = nat_list_cmp_total

pub text_cmp-IsAntisymmetric : IsAntisymmetric text_cmp
text_cmp-IsAntisymmetric = slice_cmp-IsAntisymmetric nat_cmp-IsAntisymmetric
