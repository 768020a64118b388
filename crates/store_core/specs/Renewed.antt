-- A prepared set with the texts that its commit made anew.
use Rattle.std.specs.Prelude.{List, Option, Some, None}
use Rattle.journal_codec.specs.declared.files.FileText.{FileText}
use Rattle.store_verdict.specs.declared.prepared.Prepared.{Prepared}

abbrev pub with_texts : Prepared → Option (List FileText) → Prepared
with_texts set None = set
with_texts set (Some texts) = record set { texts = texts }
