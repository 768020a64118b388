use Rattle.journal_lists.proofs.Bytes.{torn_behind}
use Rattle.journal_lists.proofs.Heads.{head_kept}
use Rattle.journal_lists.proofs.laws.a_write_behind_a_front_leaves_it.Goals as goal

pub returns-clause-torn : goal.returns-clause-torn
returns-clause-torn c before bytes rest now place at placed torn =
    torn_behind before bytes rest now place at placed torn

pub returns-clause-head : goal.returns-clause-head
returns-clause-head c gate bytes now names torn head = head_kept gate bytes now names torn head
