-- The entry fits, and so it adds what was put.
use Rattle.std.proofs.Common.{◌≡◌, ◌≤◌, None, length, sym, ap, subst, ◌∙◌}
use Rattle.std.specs.FinMap as map
use Rattle.std.specs.List.{AllByRecursion}
use Rattle.std.specs.Option.{option_map}
use Rattle.key_name.specs.Children.{child_of}
use Rattle.key_set.specs.EntryView.{entry_of}
use Rattle.model_names.specs.ArrayPart.{last_index}
use Rattle.model_names.specs.Name.{Name}
use Rattle.model_names.specs.WellFormed.{IsName}
use Rattle.model_maps.specs.Entry.{Entry, IsValue}
use Rattle.model_hosts.specs.Line.{words}
use Rattle.model_hosts.specs.Keys.{family, host_name}
use Rattle.model_hosts.specs.Hosts.{with_own, host_entry}
use Rattle.file_lines.proofs.Lookups.{new-by_test}
use Rattle.hosts_storage.specs.ProgressView.{progress_of, PutsHost}
use Rattle.hosts_storage.proofs.HostLemmas.{Fits, host-leads}
use Rattle.hosts_storage.proofs.progress.add_host.Goals as goal

pub returns : goal.returns
returns c =
    let before = progress_of c.args.progress.now in
    let address = c.args.line.address.now in
    let host = c.args.line.host.now in
    let aliases = words c.args.line.aliases.now in
    let own = option_map (λ comment. comment.now) c.args.line.own in
    let name = rw c.in-Some.is at c.in_ok-host.ensures in
    let name_is : c.in-Some.host ≡ host_name (family address) host = name.0 ∙ ap (λ (n : Name). child_of n host) c.in_ok-family.ensures in
    let texts = rw c.in-Some-2.is at c.in_ok-texts.ensures in
    let texts_are : c.in-Some-2.texts.items ≡ with_own before.waiting own = texts.0 ∙ ap (λ v. with_own v.items own) c.replace-waiting.ensures.value in
    let entry = rw c.in-Some-3.is at c.in_ok-entry.ensures in
    let entry_is : entry_of c.in-Some-3.entry ≡ host_entry address (with_own before.waiting own) = entry.0 ∙ ap (host_entry address) texts_are in
    let new : map.get before.keys c.in-Some.host ≡ None = new-by_test _ _ _ c.lookup.ensures (sym c.is_some.ensures ∙ c.if-is_some.false) in
    let fits : Fits before address host aliases own = record {
      is_new = subst (λ n. map.get before.keys n ≡ None) name_is new;
      is_name = subst IsName name_is name.1;
      is_value = entry.1;
      no_nul = entry.2;
      are_values = subst (AllByRecursion IsValue) texts_are texts.1;
      few = subst (λ ts. length ts ≤ last_index) texts_are texts.2;
    } in
    host-leads before address host aliases own (record { found = c.put_host.new.found; waiting = c.replace-waiting.new.dest }) c.in_ok-is_put.is_put fits (ap (λ v. v.items) c.replace-waiting.ensures.after ∙ c.new.ensures.items)
    (subst (λ (p : Name × Entry). PutsHost before.keys p.0 p.1 aliases c.put_host.new.found c.in_ok-is_put.is_put) (λ i. (name_is i, entry_is i)) c.in_ok-is_put.ensures)
