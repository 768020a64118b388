use Rattle.journal_codec.specs.Entry.{journal2_name}
use Rattle.intent_journal.proofs.Sound.{sound_kept}
use Rattle.intent_journal.proofs.journal.Journal.read_file.Goals as goal

pub invariant_of-self : goal.invariant_of-self
invariant_of-self g c =
    sound_kept (g.D.Disk.tells c.self.inside.disk) _ (g.D.Disk.may_leave c.self.inside.disk) _ _ _ _ _ _ _ _ c.self.invariant c.read_file.ensures.reads.tells
    (λ tells. (c.read_file.ensures.reads.images tells journal2_name).no_more)
