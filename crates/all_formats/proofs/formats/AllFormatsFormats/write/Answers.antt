-- What the writer of a kind ensures is what that kind means.
use Rattle.std.specs.Prelude.{◌≡◌, MatchResult}
use Rattle.std.proofs.Common.{sym, subst}
use Rattle.storage_api.specs.Formats.{RefusesToWrite}
use Rattle.all_formats.specs.Meanings.{text, IsStorable, BreaksAt}
use Rattle.all_formats.proofs.formats.AllFormatsFormats.write.Goals as goal

pub returns-in-SimpleIni : goal.returns-in-SimpleIni
returns-in-SimpleIni c = record {
  text = subst (λ kind. MatchResult c.write-in-SimpleIni.result (λ bytes. (bytes.items ≡ text kind c.args.keys.now) × IsStorable kind c.args.keys.now) (RefusesToWrite (BreaksAt kind c.args.keys.now))) (sym c.in-SimpleIni.is) c.write-in-SimpleIni.ensures;
}

pub returns-in-Json : goal.returns-in-Json
returns-in-Json c = record {
  text = subst (λ kind. MatchResult c.write-in-Json.result (λ bytes. (bytes.items ≡ text kind c.args.keys.now) × IsStorable kind c.args.keys.now) (RefusesToWrite (BreaksAt kind c.args.keys.now))) (sym c.in-Json.is) c.write-in-Json.ensures.text;
}
