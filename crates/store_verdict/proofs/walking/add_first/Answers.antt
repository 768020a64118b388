-- The first name of both walks is passed where it stands, and what changes there is added.
use Rattle.std.proofs.Common.{◌≡◌, ◌∷◌, drop, ap, ap₂, sym, ◌∙◌}
use Rattle.std.specs.FinMap as map
use Rattle.std.specs.Option.{option_or}
use Rattle.std.proofs.lemmas.Result.{on_ok_weaker}
use Rattle.general_words.proofs.Lists.{no_first}
use Rattle.key_set.specs.EntryView.{entry_of}
use Rattle.model_names.specs.Name.{Name}
use Rattle.model_maps.specs.Entry.{Entry}
use Rattle.store_verdict.specs.Walking.{change_between}
use Rattle.store_verdict.proofs.WalkingLemmas.{below_behind, below_both, below_none, changed, entry, first_is, greater-less, removal, tied-same}
use Rattle.store_verdict.proofs.walking.add_first.Goals as goal

pub returns-in-Less-clause-added : goal.returns-in-Less-clause-added
returns-in-Less-clause-added c =
    let had = c.args.had.now in
    let wanted = c.args.wanted.now in
    let first : Name × Entry = (c.in-Some.name.now, entry_of c.in-Some.entry.now) in
    let other : Name × Entry = (c.in-Some-first.wanted_name.now, entry_of c.in-Some-first.wanted_entry.now) in
    let is = first_is had first c.in-Some.ensures in
    let beside = below_both first.0 wanted other (first_is wanted other c.in-Some-first.ensures) c.requires.wanted_sorted (sym c.in-Less.ensures) in
    on_ok_weaker c.add_removal.result (λ made q.
    ap (λ l. option_or (change_between l wanted q) (map.get c.add_removal.new.changes q)) c.pass.ensures
    ∙ removal c.args.changes.now c.add_removal.new.changes q had (drop 1 had) wanted first is (below_behind had first is c.requires.sorted) beside made) c.add_removal.ensures

pub returns-in-Equal-clause-added : goal.returns-in-Equal-clause-added
returns-in-Equal-clause-added c =
    let had = c.args.had.now in
    let wanted = c.args.wanted.now in
    let old = entry_of c.in-Some.entry.now in
    let new = entry_of c.in-Some-first.wanted_entry.now in
    let name = c.in-Some-first.wanted_name.now in
    let same : c.in-Some.name.now ≡ name = tied-same c.in-Some.name.now name (sym c.in-Equal.ensures) in
    let is : had ≡ (name, old) ∷ drop 1 had = first_is had (c.in-Some.name.now, old) c.in-Some.ensures ∙ ap (λ (n : Name). (n, old) ∷ drop 1 had) same in
    let other = first_is wanted (name, new) c.in-Some-first.ensures in
    on_ok_weaker c.add_if_new.result (λ made q.
    ap₂ (λ xs ys. option_or (change_between xs ys q) (map.get c.add_if_new.new.changes q)) c.pass-in-Equal.ensures c.pass-in-Equal-2.ensures
    ∙ changed c.args.changes.now c.add_if_new.new.changes q had (drop 1 had) wanted (drop 1 wanted) name old new is other
    (below_behind had (name, old) is c.requires.sorted) (below_behind wanted (name, new) other c.requires.wanted_sorted) made) c.add_if_new.ensures

pub returns-in-Greater-clause-added : goal.returns-in-Greater-clause-added
returns-in-Greater-clause-added c =
    let had = c.args.had.now in
    let wanted = c.args.wanted.now in
    let first : Name × Entry = (c.in-Some.name.now, entry_of c.in-Some.entry.now) in
    let new : Name × Entry = (c.in-Some-first.wanted_name.now, entry_of c.in-Some-first.wanted_entry.now) in
    let is = first_is wanted new c.in-Some-first.ensures in
    let beside = below_both new.0 had first (first_is had first c.in-Some.ensures) c.requires.sorted (greater-less first.0 new.0 (sym c.in-Greater.ensures)) in
    on_ok_weaker c.add_entry.result (λ made q.
    ap (λ l. option_or (change_between had l q) (map.get c.add_entry.new.changes q)) c.pass-in-Greater.ensures
    ∙ entry c.args.changes.now c.add_entry.new.changes q had wanted (drop 1 wanted) new is (below_behind wanted new is c.requires.wanted_sorted) beside made) c.add_entry.ensures

pub returns-in-None-first-clause-added : goal.returns-in-None-first-clause-added
returns-in-None-first-clause-added c =
    let had = c.args.had.now in
    let wanted = c.args.wanted.now in
    let first : Name × Entry = (c.in-Some.name.now, entry_of c.in-Some.entry.now) in
    let is = first_is had first c.in-Some.ensures in
    on_ok_weaker c.add_removal-in-None-first.result (λ made q.
    ap (λ l. option_or (change_between l wanted q) (map.get c.add_removal-in-None-first.new.changes q)) c.pass-in-None-first.ensures
    ∙ removal c.args.changes.now c.add_removal-in-None-first.new.changes q had (drop 1 had) wanted first is (below_behind had first is c.requires.sorted)
    (below_none first.0 wanted (no_first wanted c.in-None-first.ensures)) made) c.add_removal-in-None-first.ensures

pub returns-in-Some-first-2-clause-added : goal.returns-in-Some-first-2-clause-added
returns-in-Some-first-2-clause-added c =
    let had = c.args.had.now in
    let wanted = c.args.wanted.now in
    let new : Name × Entry = (c.in-Some-first-2.wanted_name.now, entry_of c.in-Some-first-2.wanted_entry.now) in
    let is = first_is wanted new c.in-Some-first-2.ensures in
    on_ok_weaker c.add_entry-in-Some-first-2.result (λ made q.
    ap (λ l. option_or (change_between had l q) (map.get c.add_entry-in-Some-first-2.new.changes q)) c.pass-in-Some-first-2.ensures
    ∙ entry c.args.changes.now c.add_entry-in-Some-first-2.new.changes q had wanted (drop 1 wanted) new is (below_behind wanted new is c.requires.wanted_sorted)
    (below_none new.0 had (no_first had c.in-None.ensures)) made) c.add_entry-in-Some-first-2.ensures
