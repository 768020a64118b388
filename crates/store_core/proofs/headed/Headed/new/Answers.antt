-- The files of a table are a header.
use Rattle.std.proofs.Common.{subst, sym, ◌∙◌}
use Rattle.journal_codec.specs.Header.{IsHeader}
use Rattle.store_core.proofs.HeadLemmas.{is_header}
use Rattle.store_core.proofs.headed.Headed.new.Goals as goal

pub encode_header-requires : goal.encode_header-requires
encode_header-requires c =
    subst IsHeader (sym (c.deref.ensures.value ∙ c.in_ok-names.ensures)) (is_header c.table.result.now c.table.ensures.made)
