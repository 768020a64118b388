use Rattle.journal_lists.proofs.Heads.{front_is_head}
use Rattle.journal_lists.proofs.Journals.{journal_is, written_opens}
use Rattle.journal_lists.proofs.Rules.{allowed_plain, allowed_listed}
use Rattle.std.proofs.Common.{◌++◌}
use Rattle.journal_lists.specs.Heads.{front}
use Rattle.journal_lists.specs.Lists.{list_bytes}
use Rattle.journal_lists.proofs.laws.what_is_written_is_read_again.Goals as goal

pub returns-clause-former_entry : goal.returns-clause-former_entry
returns-clause-former_entry c entry is = allowed_plain entry is

pub returns-clause-entry : goal.returns-clause-entry
returns-clause-entry c names entry is in_names = allowed_listed names entry is in_names

pub returns-clause-head : goal.returns-clause-head
returns-clause-head c names rest is = front_is_head names is rest

pub returns-clause-list : goal.returns-clause-list
returns-clause-list c names entries rest is fits closed =
    journal_is (front names ++ (list_bytes entries ++ rest)) entries (written_opens names entries rest is fits closed)
