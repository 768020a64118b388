-- What the reader of a kind ensures is what that kind means.
use Rattle.std.specs.Prelude.{MatchResult}
use Rattle.std.proofs.Common.{sym, subst}
use Rattle.storage_api.specs.Formats.{RefusesToRead}
use Rattle.all_formats.specs.Meanings.{Reads, IsBadAt}
use Rattle.all_formats.proofs.formats.AllFormatsFormats.read.Goals as goal

pub returns-in-Dump : goal.returns-in-Dump
returns-in-Dump c =
    subst (λ kind. MatchResult c.read.result (λ keys. Reads kind c.args.bytes.now keys) (RefusesToRead (IsBadAt kind c.args.bytes.now))) (sym c.in-Dump.is) c.read.ensures

pub returns-in-Hosts : goal.returns-in-Hosts
returns-in-Hosts c =
    subst (λ kind. MatchResult c.read-in-Hosts.result (λ keys. Reads kind c.args.bytes.now keys) (RefusesToRead (IsBadAt kind c.args.bytes.now))) (sym c.in-Hosts.is) c.read-in-Hosts.ensures
