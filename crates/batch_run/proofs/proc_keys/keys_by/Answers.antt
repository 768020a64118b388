-- Each line gives its key, or none.
use Rattle.std.proofs.Common.{◌≡◌, ◌∙◌, ◌+◌, List, ap, arith, drop, get_or, subst, sym}
use Rattle.std.proofs.lemmas.List.{at_drop_more}
use Rattle.batch_script.specs.declared.steps.ProcLine.{ProcLine}
use Rattle.batch_run.proofs.Opened.{no_keys_proc, with_line, with_line_proc}
use Rattle.model_batch.specs.Scripts.{keys_by}
use Rattle.model_names.specs.declared.namespaces.Namespace.TheVariants.{Proc}
use Rattle.store_verdict.specs.ProcKeys.{AreProc}
use Rattle.batch_run.proofs.proc_keys.keys_by.Goals as goal

pub loop-line-init : goal.loop-line-init
loop-line-init c =
    record {
      rest = ap (keys_by c.args.session c.args.lines.now) c.new-keys.ensures;
      proc = subst AreProc (sym c.new-keys.ensures) no_keys_proc;
    }

pub loop-line-preserved : goal.loop-line-preserved
loop-line-preserved c =
    let lines = c.args.lines.now in
    let session = c.args.session in
    let place = c.loop-line.line-index in
    let line = c.line-item.result in
    let was = c.loop-line.invariant in
    let given : c.give_key.new.keys ≡ with_line session line c.loop-line.keys = c.in_ok-give_key.ensures in
    let there : get_or lines place line ≡ line = sym c.line-item.is in
    let one = at_drop_more (λ (rest : List ProcLine). keys_by session rest c.loop-line.keys) lines place line (omega arith) in record {
      rest = ap (keys_by session (drop (place + 1) lines)) (given ∙ ap (λ (l : ProcLine). with_line session l c.loop-line.keys) (sym there)) ∙ sym one ∙ was.rest;
      proc = subst AreProc (sym given) (with_line_proc session line c.loop-line.keys was.proc (subst (λ (l : ProcLine). l.key.namespace ≡ Proc) there (c.requires place line (omega arith))));
    }
