-- The test of files' names decides.
use Rattle.std.proofs.Common.{◌≡◌, nat_eq, codes, sym, ap, ◌∙◌}
use Rattle.std.specs.List.{starts_with}
use Rattle.std.proofs.lemmas.Result.{IfOk-weaker}
use Rattle.mount_table.specs.Points.{file_of}
use Rattle.mount_table.proofs.FileLemmas.{file_of-other}
use Rattle.mount_table.proofs.points.file_of.Goals as goal

pub returns : goal.returns
returns c =
    IfOk-weaker c.new.result _ (λ found. found ≡ file_of c.args.text.now) (λ found is. file_of-other c.args.text.now found (ap (λ text. starts_with nat_eq text (codes "journal")) (sym c.as_bytes.ensures.value) ∙ sym c.starts_with.ensures.value ∙ c.if-starts_with.false) is) c.new.ensures.found
