-- Words that are taken have no fault; those that are refused for another cause than want of memory have one.
use Rattle.std.proofs.Common.{◌≡◌, ◌∙◌, true, false, ap, sym, ⊎_elim}
use Rattle.std.proofs.lemmas.Bool.{and_parts}
use Rattle.clap.specs.declared.error.kind.ErrorKind.TheVariants.{OutOfMemory}
use Rattle.clap.specs.Words.{app_of, fault_of, is_simple}
use Rattle.clap.specs.Faults.{is_free_app}
use Rattle.clap.specs.Simple.{built}
use Rattle.tool_words.specs.CommandLines.{has_fault, refuses, values}
use Rattle.tool_words.specs.RequestView.{texts_of}
use Rattle.tool_words.proofs.WordLemmas.{among-some}
use Rattle.kdb_tool.proofs.one_word.values_in.Goals as goal

pub returns-in-Ok : goal.returns-in-Ok
unfolding refuses values
returns-in-Ok c =
    let app = app_of c.args.command in
    let simple = (and_parts (is_simple app) (is_free_app (built app)) c.requires).0 in
    (ap has_fault (c.in-Ok.ensures.kinds c.requires), (c.in-Ok.ensures.matches simple).0)

pub returns : goal.returns
unfolding refuses values
returns c =
    let app = app_of c.args.command in
    ⊎_elim
    (λ memory.
    let kind : c.kind.result ≡ OutOfMemory = c.kind.ensures ∙ memory in
    let no : true ≡ false = sym (rw kind at c.eq.ensures) ∙ c.if-eq.false in
    absurd cc)
    (λ other. among-some _ (fault_of app (texts_of c.args.words.now)) other)
    (c.in-Err.ensures.kinds c.requires)
