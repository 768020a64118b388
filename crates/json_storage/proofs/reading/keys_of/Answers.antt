use Rattle.std.proofs.Common.{subst, []}
use Rattle.model_names.specs.Name.{Name}
use Rattle.serde_json.specs.View.{members_view}
use Rattle.json_storage.specs.Found.{HasAdded}
use Rattle.json_storage.specs.Reading.{MembersAdd}
use Rattle.json_storage.proofs.ReadLemmas.{reads-added, bad-added}
use Rattle.json_storage.proofs.TextLemmas.{nothing-there}
use Rattle.json_storage.proofs.reading.keys_of.Goals as goal

pub returns-then-not-branch : goal.returns-then-not-branch
returns-then-not-branch c =
    let ms = members_view c.args.members.now.entries in
    let step = subst (λ (n : Name). HasAdded (MembersAdd n.parts ms) c.nothing_found-found.result c.add_members.new.found c.in_ok-add_members.field-0) c.root-top.ensures c.in_ok-add_members.ensures in
    let fails = subst (HasAdded (MembersAdd [] ms) c.nothing_found-found.result c.add_members.new.found) c.if-not-branch.true step in
    λ bytes utf8 is. bad-added bytes ms c.nothing_found-found.result c.add_members.new.found is (nothing-there c.nothing_found-found.result.keys c.nothing_found-found.ensures.none) fails

pub returns : goal.returns
returns c =
    let ms = members_view c.args.members.now.entries in
    let step = subst (λ (n : Name). HasAdded (MembersAdd n.parts ms) c.nothing_found-found.result c.add_members.new.found c.in_ok-add_members.field-0) c.root-top.ensures c.in_ok-add_members.ensures in
    let joined = subst (HasAdded (MembersAdd [] ms) c.nothing_found-found.result c.add_members.new.found) c.if-not-branch.false step in
    λ bytes utf8 is. reads-added bytes ms c.nothing_found-found.result c.add_members.new.found utf8 is (nothing-there c.nothing_found-found.result.keys c.nothing_found-found.ensures.none) joined
