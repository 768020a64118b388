use Rattle.std.proofs.Common.{◌≡◌, ℕ, List, Bor, Some, sym, ap, ◌∙◌}
use Rattle.std.specs.Prelude.{codes}
use Rattle.std.specs.FinMap as map
use Rattle.std.specs.Option.{option_map}
use Rattle.key_set.specs.EntryView.{entry_of}
use Rattle.plugin_chain.proofs.SetLemmas.{no_default, one_default}
use Rattle.plugin_chain.proofs.defaults.add_default.Goals as goal

pub returns-then-has_glob : goal.returns-then-has_glob
returns-then-has_glob c =
    record {
      ok = no_default (c.args.name.now, entry_of c.args.entry.now) c.args.keys.now c.has_glob.result c.has_glob.ensures c.if-has_glob.true;
    }

pub returns : goal.returns
returns c =
    let got : map.get c.args.entry.now.meta (codes "default") ≡ Some c.in-Some.text.now = sym c.get.ensures ∙ ap (option_map (λ (t : Bor (List ℕ)). t.now)) c.in-Some.is in
    record {
      ok = c.in_ok-append.ensures.ok
          ∙ (λ i. map.insert c.args.keys.now (c.in_ok-with_namespace.ensures i) (record { value = c.in_ok-value.ensures i; meta = c.new-2.ensures i }))
          ∙ one_default (c.args.name.now, entry_of c.args.entry.now) c.args.keys.now c.has_glob.result c.in-Some.text.now c.has_glob.ensures c.if-has_glob.false got;
    }
