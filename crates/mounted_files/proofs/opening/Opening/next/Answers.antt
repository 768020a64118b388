-- The next of the others has its number in the table.
use Rattle.std.proofs.Common.{◌≡◌, length, slice_get, sym, ap, ◌∙◌, arith}
use Rattle.mounted_files.specs.Begun.{Begun, number_of, others}
use Rattle.mounted_files.proofs.BegunLemmas.{slice_get-remove}
use Rattle.mounted_files.proofs.opening.Opening.next.Goals as goal

pub returns : goal.returns
returns c =
    let table = c.self.inside.table in
    let place = c.self.inside.place in
    let files = c.self.inside.files.items in
    let count : c.len.result ≡ length files = omega (arith, c.len.ensures, c.self.inside.files.ok.0) in
    c.mount.ensures
    ∙ (ap (slice_get table) (c.number_of.ensures ∙ ap (number_of place) count)
    ∙ (sym (slice_get-remove table place (length files))
    ∙ ap (λ (b : Begun). slice_get (others b) (length b.files)) c.self.view_is))
