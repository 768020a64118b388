use Rattle.std.proofs.Common.{List, ℕ, string_bytes, subst, sym}
use Rattle.key_name.specs.PartList.{HasNoNul}
use Rattle.key_name.proofs.PartListLemmas.{no_nul_at}
use Rattle.key_name.proofs.part_list.PartList.from_texts.Goals as goal

pub push-requires : goal.push-requires
push-requires c =
    subst (λ (text : List ℕ). HasNoNul text) (sym c.deref.ensures) (no_nul_at (λ text. string_bytes text) c.args.texts.now c.loop-text.text-index c.text-item.result c.requires c.loop-text-test.true c.text-item.is)
