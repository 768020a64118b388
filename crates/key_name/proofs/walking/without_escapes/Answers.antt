use Rattle.std.proofs.Common.{◌++◌, [], string_bytes, ap, ◌∙◌}
use Rattle.std.specs.Prelude.{encode_utf8}
use Rattle.std.proofs.lemmas.Iterator.{YieldsList-from_chars}
use Rattle.std.proofs.lemmas.Iterator.Consumers.{YieldsList-end}
use Rattle.std.proofs.lemmas.List.{append-nil}
use Rattle.model_names.specs.Spells.{unescaped}
use Rattle.key_name.proofs.WalkLemmas.{Leads-end, Leads-next, letters_all, letters_push}
use Rattle.key_name.proofs.walking.without_escapes.Goals as goal

pub loop-letter-preserved : goal.loop-letter-preserved
loop-letter-preserved c = λ left part h.
    let letter = c.in-Some.letter in
    Leads-next c.loop-letter.waits c.in_ok-waits.waits (string_bytes c.loop-letter.text) (string_bytes c.push_unescaped.new.text) left part letter c.in_ok-waits.ensures.waits c.in_ok-waits.ensures.text (c.loop-letter.invariant (encode_utf8 letter ++ left) part (ap unescaped (letters_push c.loop-letter.yielded left letter) ∙ h))

pub returns : goal.returns
returns c = λ part h.
    let raw = c.args.raw.now in
    let letters = YieldsList-end (YieldsList-from_chars raw c.utf8.raw cc) c.loop-letter.yielded _ c.loop-letter.yielded_by _ _ c.in-None.is c.next.ensures.steps in
    let all = letters_all raw c.loop-letter.yielded c.utf8.raw letters.0 in
    Leads-end c.loop-letter.waits (string_bytes c.loop-letter.text) part (c.loop-letter.invariant [] part (ap unescaped (append-nil _ ∙ all) ∙ h))
