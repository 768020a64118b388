-- One text more joins those before it.
use Rattle.std.proofs.Common.{◌≡◌, ℕ, ◌+◌, ◌<◌, ◌≤◌, List, [], ◌∷◌, ◌++◌, length, get_or, take, rules, sym, ap, subst, ◌∙◌, arith}
use Rattle.std.specs.FinMap as map
use Rattle.std.proofs.lemmas.List.{take_all, take_more}
use Rattle.model_names.specs.ArrayPart.{last_index}
use Rattle.model_maps.specs.Entry.{longest_meta_name}
use Rattle.model_hosts.specs.Comments.{comment_name, comments_from}
use Rattle.model_hosts.proofs.CommentLemmas.{comment_name-IsMetaName}
use Rattle.hosts_storage.proofs.CommentOrder.{comments_from-more}
use Rattle.hosts_storage.proofs.comments.metadata.Goals as goal

pub set-requires-clause-limit : goal.set-requires-clause-limit
set-requires-clause-limit c =
    let few : c.loop-index.index ≤ last_index = search rules in
    let fits = (comment_name-IsMetaName c.loop-index.index few).limit in
    subst (λ name. length name ≤ longest_meta_name) (sym (c.deref.ensures ∙ c.in_ok-name.ensures)) fits

pub loop-index-init : goal.loop-index-init
loop-index-init c = c.new-meta.ensures

pub loop-index-preserved : goal.loop-index-preserved
loop-index-preserved c =
    let items : List (List ℕ) = c.args.texts.items in
    let i : ℕ = c.loop-index.index in
    let text : List ℕ = c.as_str.result.now in
    let lt : i < length items = search rules in
    let taken : length (take i items) ≡ i = search rules in
    let place : 0 + length (take i items) ≡ i = omega (arith, taken) in
    let few : 0 + length (take i items) ≤ last_index = search rules in
    let name : c.deref.result.now ≡ comment_name (0 + length (take i items)) =
    c.deref.ensures ∙ c.in_ok-name.ensures ∙ ap comment_name (sym place) in
    let item : List ℕ = c.text-item.result in
    let here : text ≡ get_or items i item =
    c.as_str.ensures.bytes
    ∙ c.text-item.is
    ∙ ap (λ (ts : List (List ℕ)). get_or ts i item) c.deref-text-items.ensures.value in
    c.in_ok-set.ensures.ok
    ∙ (λ k. map.insert (c.loop-index.invariant k) (name k) text)
    ∙ sym (comments_from-more 0 (take i items) text few)
    ∙ ap (comments_from 0) (ap (λ t. take i items ++ t ∷ []) here ∙ sym (take_more items i item lt))

pub returns : goal.returns
returns c =
    let items : List (List ℕ) = c.args.texts.items in
    let i : ℕ = c.loop-index.index in
    let all : length items ≤ i = search rules in
    c.loop-index.invariant ∙ ap (comments_from 0) (take_all i items all)
