-- What is read one after another leads to the mount, or to the first fault.
use Rattle.std.proofs.Common.{Some, None, Err, sym, ap, ◌∙◌}
use Rattle.mount_table.specs.declared.faults.TableFault.TheVariants.{UnknownPlugin}
use Rattle.mount_table.specs.Points.{point_of, file_of}
use Rattle.mount_table.proofs.ReadingLemmas.{no_point, no_path, no_file, by_kind}
use Rattle.mount_table.proofs.reading.mount_of.Goals as goal

pub returns-in_default : goal.returns-in_default
returns-in_default c =
    λ _. no_point c.args.text.now _ c.args.said.now (sym c.in_default.is ∙ c.in_ok-at.ensures ∙ ap point_of c.as_str.ensures.bytes) c.in_ok-copy.ensures.copied

pub returns-in_default-path : goal.returns-in_default-path
returns-in_default-path c = λ _.
    no_path c.args.text.now _ c.args.said.now c.in-Some.at
    (sym c.in-Some.is ∙ c.in_ok-at.ensures ∙ ap point_of c.as_str.ensures.bytes)
    (sym c.in_default-path.is) c.in_ok-copy-2.ensures.copied

pub returns-in_default-2 : goal.returns-in_default-2
returns-in_default-2 c = λ _.
    no_file c.args.text.now _ c.args.said.now c.in-Some.at c.in-Some-path.path
    (sym c.in-Some.is ∙ c.in_ok-at.ensures ∙ ap point_of c.as_str.ensures.bytes)
    (sym c.in-Some-path.is) (sym c.in_default-2.is ∙ c.in_ok-file.ensures ∙ ap file_of c.as_str-2.ensures.bytes) c.in_ok-copy-3.ensures.copied

pub returns-in_default-kind_said : goal.returns-in_default-kind_said
returns-in_default-kind_said c = λ _.
    by_kind c.args.text.now c.args.said.now c.in-Some.at c.in-Some-path.path c.in-Some-2.file None
    (sym c.in-Some.is ∙ c.in_ok-at.ensures ∙ ap point_of c.as_str.ensures.bytes)
    (sym c.in-Some-path.is) (sym c.in-Some-2.is ∙ c.in_ok-file.ensures ∙ ap file_of c.as_str-2.ensures.bytes) c.in_default-kind_said.ensures
    ∙ ap (λ text. Err (UnknownPlugin text)) (sym c.in_ok-copy-4.ensures.copied)

pub returns : goal.returns
returns c =
    by_kind c.args.text.now c.args.said.now c.in-Some.at c.in-Some-path.path c.in-Some-2.file (Some c.in-Some-kind_said.kind)
    (sym c.in-Some.is ∙ c.in_ok-at.ensures ∙ ap point_of c.as_str.ensures.bytes)
    (sym c.in-Some-path.is) (sym c.in-Some-2.is ∙ c.in_ok-file.ensures ∙ ap file_of c.as_str-2.ensures.bytes) c.in-Some-kind_said.ensures
