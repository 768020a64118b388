-- Each turn shows one phase more.
use Rattle.std.proofs.Common.{◌≡◌, ◌∙◌, ◌+◌, ◌<◌, [], ◌∷◌, ◌++◌, ap, arith, get_or, length, map as over, sym, take}
use Rattle.std.proofs.lemmas.List.{length-map, length-take-le, length_push, map_push, take_more}
use Rattle.batch_run.specs.Rooms.{row_in}
use Rattle.batch_run.specs.Shown.{shown_row, shown_rows}
use Rattle.batch_run.proofs.Growing.{left-next}
use Rattle.batch_run.proofs.ShownLemmas.{shown-snoc}
use Rattle.batch_run.proofs.showing.show_all.Goals as goal

pub loop-place-preserved : goal.loop-place-preserved
loop-place-preserved c =
    let was = c.loop-place.invariant in
    let phases = c.args.phases.now in
    let rooms = c.args.rooms.now in
    let numbers = c.args.numbers.now in
    let k = c.loop-place.place in
    let phase = c.index-phases-place.result in
    let room = c.index-rooms-place.result in
    let old = was.left k room (omega arith) in
    let row : c.show_phase-row.result ≡ shown_row numbers (row_in (get_or rooms k room)) (get_or phases k phase).sessions =
    c.show_phase-row.ensures ∙ ap (λ r. shown_row numbers (row_in r) c.as_slice.result.now) old ∙ ap (shown_row numbers (row_in (get_or rooms k room))) c.as_slice.ensures in
    let lt : k < length phases = omega arith in
    let lt_r : k < length rooms = omega (arith, c.requires.many) in
    let rows = ap (over row_in) (take_more rooms k room lt_r) ∙ map_push row_in (take k rooms) (get_or rooms k room) in
    let even : length (take k phases) ≡ length (over row_in (take k rooms)) =
    length-take-le k phases (omega arith) ∙ sym (length-map (take k rooms) row_in ∙ length-take-le k rooms (omega arith)) in
    record {
      many = ap length c.push_reserved.ensures.items ∙ length_push c.loop-place.shown.items c.show_phase-row.result ∙ ap (λ n. n + 1) was.many;
      shown = c.push_reserved.ensures.items
          ∙ ap (λ l. l ++ c.show_phase-row.result ∷ []) was.shown
          ∙ ap (λ x. shown_rows numbers (take k phases) (over row_in (take k rooms)) ++ x ∷ []) row
          ∙ sym (ap (λ ps. shown_rows numbers ps (over row_in (take (k + 1) rooms))) (take_more phases k phase lt)
          ∙ ap (shown_rows numbers (take k phases ++ get_or phases k phase ∷ [])) rows
          ∙ shown-snoc numbers (take k phases) (over row_in (take k rooms)) (get_or phases k phase) (row_in (get_or rooms k room)) even);
      left = left-next c.loop-place.rooms rooms k c.show_phase-row.new.rooms was.left;
      room = c.push_reserved.ensures.capacity ∙ was.room;
    }
