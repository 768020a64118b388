use Rattle.std.proofs.Common.{◌++◌, ◌∷◌, [], map, ap, ◌∙◌, arith, take_at}
use Rattle.key_name.specs.PartList.{nul_for_slash}
use Rattle.key_name.proofs.part_list.behind_nuls.Goals as goal

pub returns : goal.returns
returns c =
    take_at c.put_nuls_for_slashes.new.bytes _ _ (omega arith)
    ∙ c.put_nuls_for_slashes.ensures
    ∙ ap (map nul_for_slash) (c.deref_mut.ensures.value ∙ c.in_ok-extend_from_slice.ensures.items ∙ ap (λ front. front ++ c.args.path.now) (c.in_ok-push.ensures.items ∙ ap (λ front. front ++ 0 ∷ []) c.in_ok-bytes.ensures.items))
