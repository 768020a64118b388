-- Each turn shows the replies of one session more, whose number no later one has.
use Rattle.std.proofs.Common.{◌∙◌, [], ◌∷◌, ◌++◌, ap, arith, get_or, map as over, sym, take}
use Rattle.std.proofs.lemmas.List.{get_or_read, map_push, take_more}
use Rattle.batch_script.specs.declared.steps.Steps.{Steps}
use Rattle.batch_run.specs.Rooms.{row_in}
use Rattle.batch_run.specs.Shown.{number_of, told_at}
use Rattle.batch_run.proofs.showing.show_phase.Goals as goal

pub loop-steps-preserved : goal.loop-steps-preserved
loop-steps-preserved c =
    let was = c.loop-steps.invariant in
    let phase = c.args.phase.now in
    let numbers = c.args.numbers.now in
    let k = c.loop-steps.steps-index in
    let it = c.steps-item.result in
    let first = row_in (record { told = c.args.rooms.now.told; shown = c.replace-shown.new.dest }) in
    let f : Steps → _ = λ (steps : Steps). told_at numbers first steps.session in
    let replies = c.take_room-replies.ensures.taken ∙ ap (λ (steps : Steps). told_at numbers (row_in c.loop-steps.rooms) steps.session) c.steps-item.is ∙ was.left k it (omega arith) (omega arith) in
    record {
      shown = c.push_reserved.ensures.items
          ∙ ap (λ l. l ++ c.from_vec.result ∷ []) was.shown
          ∙ ap (λ x. over f (take k phase) ++ x ∷ []) (c.from_vec.ensures ∙ replies)
          ∙ sym (ap (over f) (take_more phase k it (omega arith)) ∙ map_push f (take k phase) (get_or phase k it));
      left = λ j d le lt.
          c.take_room-replies.ensures.others (number_of (get_or phase j d)) (λ same. c.requires.apart k j d (omega arith) lt (ap number_of (sym (get_or_read phase k it (omega arith) c.steps-item.is d)) ∙ sym same)) ∙ was.left j d (omega arith) lt;
      room = c.push_reserved.ensures.capacity ∙ was.room;
    }
