-- The bytes behind the first NUL, with slashes for the others.
use Rattle.std.proofs.Common.{◌≡◌, ◌++◌, List, ℕ, ◌-◌, drop, length, take, map, string_bytes, sym, ap, ◌∙◌, subst}
use Rattle.std.specs.Result.{OnOk}
use Rattle.key_name.specs.PartList.{behind_slashes, slash_for_nul}
use Rattle.model_names.specs.Name.{Part}
use Rattle.key_name.proofs.SlashLemmas.{behind_first, drop_first, slashes_in}
use Rattle.key_name.proofs.part_list.PartList.push_between_slashes.Goals as goal

pub returns-in-len1-up-clause-ok : goal.returns-in-len1-up-clause-ok
returns-in-len1-up-clause-ok c =
    let text = string_bytes c.self.inside.text in
    let is : map slash_for_nul (take (length c.as_bytes.result.now - 1) (drop 1 c.as_bytes.result.now)) ≡ drop 1 (behind_slashes c.args.self.now) =
    ap (map slash_for_nul) (behind_first c.as_bytes.result.now)
    ∙ ap (λ (t : List ℕ). map slash_for_nul (drop 1 t)) c.as_bytes.ensures.value
    ∙ sym (drop_first text)
    ∙ ap (drop 1) (sym (slashes_in text c.self.invariant))
    ∙ ap (λ (ps : List Part). drop 1 (behind_slashes ps)) c.self.view_is in
    subst (λ (more : List ℕ). OnOk c.push_with_slashes.result (c.push_with_slashes.new.bytes.items ≡ c.args.bytes.now.items ++ more)) is c.push_with_slashes.ensures.ok
