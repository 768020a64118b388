-- A part that is refused makes no name.
use Rattle.key_name.proofs.ChildLemmas.{refused-no_name}
use Rattle.json_storage.proofs.names.child.Goals as goal

pub returns-in_ok-hand_on_memory-in-Err : goal.returns-in_ok-hand_on_memory-in-Err
returns-in_ok-hand_on_memory-in-Err c =
    refused-no_name c.args.above.now c.args.part.now c.in-Err.fault c.in-Err.ensures.refused c.in_ok-hand_on_memory-in-Err.ensures.others
