-- The parts are those of the session and of its key.
use Rattle.std.proofs.Common.{◌≡◌, ◌++◌, ap, ap₂, ◌∙◌, arith}
use Rattle.std.specs.Prelude.{◌%◌, codes}
use Rattle.std.specs.Fmt.{decimal}
use Rattle.kdb_gen.specs.Generated.{keys_of_session}
use Rattle.key_name.specs.Children.{child_of, child_refusal}
use Rattle.kdb_gen.proofs.KeyLemmas.{all_keys, key-fits, session-fits}
use Rattle.kdb_gen.proofs.keys.key_of.Goals as goal

pub child-requires-2 : goal.child-requires-2
child-requires-2 c =
    let all : c.in_ok-all.all ≡ all_keys = c.in_ok-all.ensures ∙ ap (λ name. child_of name (codes "gen")) c.user_root.ensures in
    let part : c.as_str.result.now ≡ codes "s" ++ decimal c.args.session = c.as_str.ensures.value ∙ c.in_ok-own_part.ensures.ok in
    ap₂ child_refusal all part ∙ session-fits c.args.session c.requires.first c.requires.last

pub child-requires-3 : goal.child-requires-3
child-requires-3 c =
    let all : c.in_ok-all.all ≡ all_keys = c.in_ok-all.ensures ∙ ap (λ name. child_of name (codes "gen")) c.user_root.ensures in
    let part : c.as_str.result.now ≡ codes "s" ++ decimal c.args.session = c.as_str.ensures.value ∙ c.in_ok-own_part.ensures.ok in
    let own : c.in_ok-own.own ≡ child_of all_keys (codes "s" ++ decimal c.args.session) = c.in_ok-own.ensures ∙ ap₂ child_of all part in
    let key : c.as_str-2.result.now ≡ codes "k" ++ decimal (c.args.round % keys_of_session) = c.as_str-2.ensures.value ∙ c.in_ok-part.ensures.ok in
    ap₂ child_refusal own key
    ∙ key-fits c.args.session (c.args.round % keys_of_session) c.requires.first c.requires.last (omega arith)
