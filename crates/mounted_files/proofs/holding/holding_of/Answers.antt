-- What a format reads is within the limits, so its names can be put behind a mountpoint.
use Rattle.std.proofs.Common.{refl, subst, sym, ◌∙◌, inr}
use Rattle.std.proofs.lemmas.Option.{cond_some}
use Rattle.mounted_files.specs.Holding.{IsHolding}
use Rattle.mounted_files.specs.Short.{AreShort}
use Rattle.mounted_files.specs.Whole.{all_fit, relative, whole}
use Rattle.mounted_files.specs.declared.holding.Holding.{Holding}
use Rattle.model_maps.specs.KeyMap.{KeyMap}
use Rattle.mounted_files.proofs.LimitLemmas.{cascading-limited, short-limited}
use Rattle.mounted_files.proofs.ChangeLemmas.{short-whole}
use Rattle.mounted_files.proofs.WayLemmas.{relative-whole}
use Rattle.key_set.proofs.WholeLemmas.{none_if}
use Rattle.mounted_files.proofs.holding.holding_of.Goals as goal

pub whole-requires : goal.whole-requires
whole-requires g c =
    cascading-limited c.in-Ok.keys (g.F.Formats.read_is_limited c.args.kind c.args.bytes.now c.in-Ok.keys c.in-Ok.ensures)

pub returns-in-Some-clause-is : goal.returns-in-Some-clause-is
returns-in-Some-clause-is g c few =
    let point = c.args.point.now in
    let keys = c.in-Ok.keys in
    let is = cond_some (all_fit point keys) (whole point keys) c.in-Some.keys (sym c.in_ok-keys-in-Ok.ensures ∙ c.in-Some.is) in
    record { keys = keys; reads_as = record { few = few; reads = c.in-Ok.ensures }; fit = is.0; is = sym is.1 }

pub returns-in-Some-clause-short : goal.returns-in-Some-clause-short
returns-in-Some-clause-short g c =
    let point = c.args.point.now in
    let keys = c.in-Ok.keys in
    let is = cond_some (all_fit point keys) (whole point keys) c.in-Some.keys (sym c.in_ok-keys-in-Ok.ensures ∙ c.in-Some.is) in
    let limited = g.F.Formats.read_is_limited c.args.kind c.args.bytes.now keys c.in-Ok.ensures in
    subst (λ (found : KeyMap). AreShort found) is.1 (short-whole point keys (short-limited keys limited))

pub returns-in-None-clause-is : goal.returns-in-None-clause-is
returns-in-None-clause-is g c few =
    let point = c.args.point.now in
    let keys = c.in-Ok.keys in
    let too_long = none_if (all_fit point keys) (whole point keys) (sym c.in-None.is ∙ c.in_ok-keys-in-Ok.ensures) in
    subst (λ (holding : Holding). IsHolding g.F.Formats.reads g.F.Formats.is_bad_at point c.args.kind c.args.bytes.now holding) (sym c.bad_at.ensures)
    (inr (record { keys = keys; reads_as = record { few = few; reads = c.in-Ok.ensures }; too_long = too_long; is = refl }))

-- under the names that lead there they are what was read, which a file can hold
pub returns-in-Some-clause-storable : goal.returns-in-Some-clause-storable
returns-in-Some-clause-storable g c =
    let point = c.args.point.now in
    let keys = c.in-Ok.keys in
    let is = cond_some (all_fit point keys) (whole point keys) c.in-Some.keys (sym c.in_ok-keys-in-Ok.ensures ∙ c.in-Some.is) in
    let limited = g.F.Formats.read_is_limited c.args.kind c.args.bytes.now keys c.in-Ok.ensures in
    let again = relative-whole point keys (cascading-limited keys limited) in
    subst (λ (found : KeyMap). g.F.Formats.is_storable c.args.kind (relative point found)) is.1
    (subst (λ (all : KeyMap). g.F.Formats.is_storable c.args.kind all) (sym again) (g.F.Formats.read_is_storable c.args.kind c.args.bytes.now keys c.in-Ok.ensures))
