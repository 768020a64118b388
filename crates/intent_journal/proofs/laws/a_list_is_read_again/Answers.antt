use Rattle.journal_codec.specs.Entry.{journal2_name}
use Rattle.intent_journal.proofs.WrittenLists.{listed_again}
use Rattle.intent_journal.proofs.laws.a_list_is_read_again.Goals as goal

pub returns : goal.returns
returns g c tells names before entries state =
    listed_again (g.D.Disk.seen c.args.disk.now journal2_name) (g.D.Disk.may_leave c.args.disk.now) names before entries (g.D.Disk.read_is_image c.args.disk.now tells journal2_name) state
