use Rattle.std.proofs.Common.{◌≡◌, true, false, sym, ◌∙◌}
use Rattle.std.proofs.lemmas.List.{nil_from_length}
use Rattle.type_check.proofs.ListingLemmas.{set_none, set_some}
use Rattle.type_check.proofs.listings.Listing.is_empty.Goals as goal

pub returns : goal.returns
returns c = record {
  yes = λ is. set_none c.args.self.now.texts (nil_from_length _ (c.is_empty.ensures.0 is));
  no = λ is. set_some c.args.self.now.texts (λ none. let clash : false ≡ true = sym is ∙ c.is_empty.ensures.1 none in absurd cc);
}
