-- A key by its parts.
use Rattle.std.proofs.Common.{◌≡◌, Some, length, rules}
use Rattle.std.specs.Prelude.{slice_get}
use Rattle.model_names.specs.declared.namespaces.Namespace.TheVariants.{Cascading}
use Rattle.key_set.specs.EntryView.{entry_of}
use Rattle.hosts_storage.proofs.PartLemmas.{two_parts, three_parts}
use Rattle.hosts_storage.proofs.HoldingTests.{host-decides, alias_key-decides}
use Rattle.hosts_storage.proofs.holding.is_hosts_key.Goals as goal

pub returns-in_ok-is-in-2-Some-Some-None : goal.returns-in_ok-is-in-2-Some-Some-None
returns-in_ok-is-in-2-Some-Some-None c =
    let name = c.args.name.now in
    let found = c.in-2-Some-Some-None in
    let cascading : name.namespace ≡ Cascading = search rules in
    let n : length name.parts ≡ 2 = search rules in
    let a : Some found.of_family.now ≡ slice_get name.parts 0 = search rules in
    let b : Some found.host.now ≡ slice_get name.parts 1 = search rules in
    host-decides c.args.keys.now name found.of_family.now found.host.now (entry_of c.args.entry.now) c.in_ok-is-in-2-Some-Some-None.is' cascading (two_parts name.parts found.of_family.now found.host.now n a b) c.in_ok-is-in-2-Some-Some-None.ensures

pub returns-in_ok-is-in-3-Some-Some-Some : goal.returns-in_ok-is-in-3-Some-Some-Some
returns-in_ok-is-in-3-Some-Some-Some c =
    let name = c.args.name.now in
    let found = c.in-3-Some-Some-Some in
    let cascading : name.namespace ≡ Cascading = search rules in
    let n : length name.parts ≡ 3 = search rules in
    let a : Some found.of_family.now ≡ slice_get name.parts 0 = search rules in
    let b : Some found.host.now ≡ slice_get name.parts 1 = search rules in
    let d : Some found.alias.now ≡ slice_get name.parts 2 = search rules in
    alias_key-decides c.args.keys.now name found.of_family.now found.host.now found.alias.now (entry_of c.args.entry.now) c.in_ok-is-in-3-Some-Some-Some.is' cascading (three_parts name.parts found.of_family.now found.host.now found.alias.now n a b d) c.in_ok-is-in-3-Some-Some-Some.ensures
