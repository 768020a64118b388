-- The keys that are kept of the mount have their entries there.
use Rattle.std.proofs.Common.{sym, ap, ◌∙◌}
use Rattle.std.specs.Option.{option_copied}
use Rattle.std.proofs.lemmas.Result.{on_ok_weaker}
use Rattle.key_set.specs.WithAll.{with_all}
use Rattle.kdb_handle.proofs.RemakeLemmas.{kept-some, kept-none}
use Rattle.model_maps.specs.KeyMap.{KeyMap}
use Rattle.store_verdict.specs.RecordView.{record_of}
use Rattle.kdb_handle.proofs.merging.add_kept.Goals as goal

pub returns-in_ok-copy-in-Some : goal.returns-in_ok-copy-in-Some
returns-in_ok-copy-in-Some c =
    on_ok_weaker c.append_all.result (λ done name.
    kept-some (record_of c.args.rec.now) c.args.mount c.args.keys.now c.in-Some.kept.now c.append_all.new.self (sym c.kept.ensures ∙ ap option_copied c.in-Some.is)
    (done ∙ ap (λ (k : KeyMap). with_all k c.args.keys.now) c.in_ok-copy-in-Some.ensures) name) c.append_all.ensures.ok

pub returns-in-None : goal.returns-in-None
returns-in-None c =
    kept-none (record_of c.args.rec.now) c.args.mount c.args.keys.now (sym c.kept.ensures ∙ ap option_copied c.in-None.is)
