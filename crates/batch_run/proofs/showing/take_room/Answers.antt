-- The room of a number's place is what stands for it, and no other's.
use Rattle.std.proofs.Common.{◌∙◌, ◌<◌, [], ap, arith, length, map as over, sym}
use Rattle.std.proofs.lemmas.List.{get_or-map, length-map, map-set}
use Rattle.batch_run.specs.Rooms.{told_in}
use Rattle.batch_run.specs.Shown.{told_at}
use Rattle.batch_run.proofs.ShownLemmas.{in_row-at, in_row-past, told-first, told-none, told-other}
use Rattle.batch_run.proofs.showing.take_room.Goals as goal
use Rattle.batch_run.proofs.showing.take_room.Goals.{else-place-numbers-via-then-place-numbers+else-place-len, else-place-numbers-via-else-place-numbers}

pub returns-then-place-len-clause-taken : goal.returns-then-place-len-clause-taken
returns-then-place-len-clause-taken c =
    let place = c.place_of-place.result in
    let rooms = c.args.rooms.now.items in
    let within : place < length rooms = omega (arith, c.len.ensures) in
    let told = told-first c.args.numbers.now (over told_in rooms) c.args.number place 0 (omega arith) (c.place_of-place.ensures.there (omega arith)) c.place_of-place.ensures.before in
    let there = in_row-at (over told_in rooms) place [] (omega (arith, length-map rooms told_in)) ∙ get_or-map told_in rooms place c.index_mut.result.now [] within in
    ap told_in (c.replace.ensures.value ∙ c.index_mut.ensures.value) ∙ sym (told ∙ there)

pub returns-then-place-len-clause-others : goal.returns-then-place-len-clause-others
returns-then-place-len-clause-others c = λ other apart.
    let place = c.place_of-place.result in
    let numbers = c.args.numbers.now in
    let rooms = c.args.rooms.now.items in
    let number = c.place_of-place.ensures.there (omega arith) in
    ap (λ row. told_at numbers row other) (map-set told_in rooms place c.replace.new.dest)
    ∙ told-other numbers (over told_in rooms) other place 0 (told_in c.replace.new.dest) (omega arith) (λ same. apart (sym same ∙ number))

pub returns-clause-taken : goal.returns-clause-taken
returns-clause-taken c =
    let place = c.place_of-place.result in
    let numbers = c.args.numbers.now in
    let rooms = c.args.rooms.now.items in
    c.new-2.ensures.items ∙ sym (elim c.else-place-numbers.branch [
      | else-place-numbers-via-then-place-numbers+else-place-len w ↦
          told-first numbers (over told_in rooms) c.args.number place 0 (omega arith) (c.place_of-place.ensures.there (omega arith)) c.place_of-place.ensures.before
          ∙ in_row-past (over told_in rooms) place (omega (arith, length-map rooms told_in, w.len.ensures))
      | else-place-numbers-via-else-place-numbers w ↦ told-none numbers (over told_in rooms) c.args.number 0 (λ k lt. c.place_of-place.ensures.before k (omega arith))
    ])
