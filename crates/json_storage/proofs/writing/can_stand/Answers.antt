use Rattle.std.proofs.Common.{sym, ◌∙◌, arith}
use Rattle.key_set.specs.EntryView.{entry_of}
use Rattle.json_storage.proofs.WritingLemmas.{stands-decides, meta-decides}
use Rattle.json_storage.proofs.writing.can_stand.Goals as goal

pub returns-then-len-gt-MOST_PARTS : goal.returns-then-len-gt-MOST_PARTS
returns-then-len-gt-MOST_PARTS c =
    (λ e. absurd cc, λ stands. let few = stands.few_parts in absurd (omega (arith, few, c.len.ensures.parts, c.if-len-gt-MOST_PARTS.true)))

pub returns-in-Some : goal.returns-in-Some
returns-in-Some c =
    stands-decides c.args.name.now (entry_of c.args.entry.now) c.in-Some.part.now c.is_array_like.result c.is_array_like.ensures c.in-Some.ensures
    (omega (arith, c.len.ensures.parts, c.if-len-gt-MOST_PARTS.false)) ((meta-decides (entry_of c.args.entry.now) c.is_empty.result c.is_empty.ensures.empty).0 c.if-not-is_empty.false)

pub returns-then-not-is_empty : goal.returns-then-not-is_empty
returns-then-not-is_empty c =
    (λ e. absurd cc, λ stands. let clash = sym c.if-not-is_empty.true ∙ (meta-decides (entry_of c.args.entry.now) c.is_empty.result c.is_empty.ensures.empty).1 stands.no_meta in absurd cc)
