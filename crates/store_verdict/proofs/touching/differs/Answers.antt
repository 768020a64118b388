-- Where nothing is kept, some keys differ from none.
use Rattle.std.proofs.Common.{◌≡◌, not, nat_eq, List, [], ◌∷◌, length, Option, None, refl, sym, ap, ◌∙◌, arith}
use Rattle.std.proofs.lemmas.Bool.{ne_eqb}
use Rattle.std.specs.Cmp.Lexicographic.{pointwise}
use Rattle.std.specs.FinMap as map
use Rattle.std.specs.Option.{option_copied, unwrap_or}
use Rattle.general_words.proofs.Maps.{entries-empty}
use Rattle.key_set.specs.Same.{same_key, same_keys}
use Rattle.model_names.specs.Name.{Name}
use Rattle.model_names.specs.Order.{name_cmp}
use Rattle.model_maps.specs.Entry.{Entry}
use Rattle.model_maps.specs.KeyMap.{KeyMap, no_keys}
use Rattle.store_verdict.proofs.touching.differs.Goals as goal

no-entries : (es : List (Name × Entry)) → nat_eq (length es) 0 ≡ pointwise same_key es []
no-entries [] = refl
no-entries (e ∷ es) = ne_eqb (length (e ∷ es)) 0 (λ is. omega (arith, is))

pub returns-in-None : goal.returns-in-None
returns-in-None c =
    let keys : KeyMap = c.args.part.now.keys in
    let none : Option KeyMap = None in
    ap not (ap (λ n. nat_eq n 0) c.len.ensures
    ∙ no-entries (map.entries keys)
    ∙ ap (pointwise same_key (map.entries keys)) (sym (entries-empty name_cmp Entry))
    ∙ ap (λ (o : Option KeyMap). same_keys keys (unwrap_or o no_keys)) (sym (ap option_copied c.in-None.is) ∙ c.kept.ensures))
