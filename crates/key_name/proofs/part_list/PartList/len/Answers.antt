use Rattle.std.proofs.Common.{◌==◌, length, ℕ, string_bytes, sym, ap, ◌∙◌, arith}
use Rattle.std.specs.List.{count_by}
use Rattle.std.proofs.lemmas.List.{take_all}
use Rattle.key_name.proofs.PartListLemmas.{length-parts_in}
use Rattle.key_name.proofs.part_list.PartList.len.Goals as goal

pub returns : goal.returns
returns c =
    let all = take_all c.loop-b.b-index c.as_bytes-b-items.result.now (omega arith) ∙ c.as_bytes-b-items.ensures.value in
    c.loop-b.invariant ∙ ap (count_by (λ (b : ℕ). b == 0)) all ∙ sym (length-parts_in (string_bytes c.self.inside.text))
    ∙ ap length c.self.view_is
