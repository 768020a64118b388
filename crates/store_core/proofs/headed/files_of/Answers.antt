-- Each turn adds the file of the mount before.
use Rattle.std.proofs.Common.{◌≡◌, ℕ, ◌+◌, ◌-◌, ◌<◌, List, length, drop, sym, ap, ap₂, ◌∙◌, arith}
use Rattle.std.specs.FinMap as map
use Rattle.std.specs.FinMap.Entries.{put}
use Rattle.general_words.specs.Texts.{text_cmp}
use Rattle.general_words.proofs.Lists.{not_both}
use Rattle.general_words.proofs.Places.{there_is}
use Rattle.model_files.specs.Files.{file_names}
use Rattle.store_core.proofs.HeadLemmas.{files-next, files-none}
use Rattle.store_core.proofs.headed.files_of.Goals as goal

pub loop-left-init : goal.loop-left-init
loop-left-init c =
    (omega (arith, c.len-left.ensures.len), c.new-files.ensures ∙ files-none c.args.table.now c.len-left.result c.len-left.ensures.len)

pub unreachable-requires : goal.unreachable-requires
unreachable-requires c =
    let within : c.loop-left.left - 1 < length c.args.table.now = omega (arith, c.loop-left.invariant.0, c.loop-left-test.true) in
    let there = there_is c.args.table.now (c.loop-left.left - 1) within in
    not_both there.0 (sym c.in_default.ensures) there.1

pub loop-left-preserved : goal.loop-left-preserved
loop-left-preserved c =
    let table = c.args.table.now in
    let mount = c.in-Some.mount.now in
    let next : c.loop-left.left ≡ c.loop-left.left - 1 + 1 = omega (arith, c.loop-left-test.true) in (
      omega (arith, c.loop-left.invariant.0),
      c.in_ok-insert.ensures.ok
          ∙ ap₂ (λ (file : List ℕ) (es : List (List ℕ × Unit)). put text_cmp file tt es) c.in_ok-copy.ensures c.loop-left.invariant.1
          ∙ ap (λ n. put text_cmp mount.file tt (map.entries (file_names (drop n table)))) next
          ∙ files-next table (c.loop-left.left - 1) mount (sym c.in-Some.ensures),
    )
