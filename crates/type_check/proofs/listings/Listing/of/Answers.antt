use Rattle.std.proofs.Common.{ap, ◌∙◌}
use Rattle.type_check.specs.Listings.{is_among}
use Rattle.type_check.proofs.listings.Listing.of.Goals as goal

pub returns : goal.returns
returns c =
    λ text. c.in_ok-texts.ensures text ∙ ap (λ texts. is_among texts text) (c.as_slice.ensures ∙ c.in_ok-items.ensures.texts)
