-- One text more is in the set.
use Rattle.std.proofs.Common.{◌≡◌, ℕ, ◌<◌, ◌≤◌, List, length, get_or, rules, ap, ◌∙◌}
use Rattle.std.specs.String.{string_bytes}
use Rattle.std.proofs.lemmas.List.{take_all}
use Rattle.type_check.specs.Listings.{is_among}
use Rattle.type_check.proofs.ListingLemmas.{set_more, set_none}
use Rattle.type_check.proofs.listings.set_of.Goals as goal

pub loop-item-init : goal.loop-item-init
loop-item-init c = set_none c.new-set.result c.new-set.ensures.empty

pub loop-item-preserved : goal.loop-item-preserved
loop-item-preserved c =
    let items : List (List ℕ) = c.args.items.now in
    let i : ℕ = c.loop-item.item-index in
    let lt : i < length items = search rules in
    let bytes : string_bytes c.in_ok-text.text ≡ get_or items i c.item-item.result = search rules in
    set_more items i c.item-item.result c.loop-item.set c.insert.new.self c.in_ok-text.text lt bytes c.in_ok-insert.ensures.updates c.loop-item.invariant

pub returns : goal.returns
returns c = λ text.
    let all : length c.args.items.now ≤ c.loop-item.item-index = search rules in
    c.loop-item.invariant text ∙ ap (λ ts. is_among ts text) (take_all c.loop-item.item-index c.args.items.now all)
