-- An object that has no reading makes the file bad.
use Rattle.std.proofs.Common.{length, refl, sym, ap, ◌∙◌, Some}
use Rattle.std.proofs.lemmas.Bool.{eqb-false}
use Rattle.serde_json.specs.View.{view, members_view}
use Rattle.json_storage.proofs.ReadLemmas.{object-of, bad-unless}
use Rattle.json_storage.proofs.reading.read.Goals as goal

pub returns : goal.returns
returns c _ =
    let bytes = c.args.bytes.now in
    let filled = eqb-false (length bytes) 0 (sym c.is_empty.ensures ∙ c.if-is_empty.false) in
    let ms = members_view c.in-Some.members.now.entries in
    let is = c.in-Ok.ensures.ok.1 ∙ ap Some (object-of (view c.in-Ok.value) ms (sym c.in-Some.ensures)) in
    bad-unless bytes (λ e. filled (ap length e)) (rw c.in-None.is at (c.in_ok-keys.ensures bytes c.in-Ok.ensures.ok.0 is)) 1 refl
