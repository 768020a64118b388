-- A record as the code has it, seen as a dump's record.
use Rattle.model_dump.specs.Record.{RecordKind, KeyKind, MetaKind, CopyKind, Record}
use Rattle.dump_storage.specs.declared.records.Kind.{Kind}
use Rattle.dump_storage.specs.declared.records.Kind.TheVariants as kinds
use Rattle.std.specs.Prelude.{ℕ, List}

abbrev pub kind_of : Kind → RecordKind
kind_of kinds.Key = KeyKind
kind_of kinds.Meta = MetaKind
kind_of kinds.CopyMeta = CopyKind

-- a record of this kind with these texts
abbrev pub record_of : Kind → List ℕ → List ℕ → Record
record_of kind first second = record { kind = kind_of kind; first = first; second = second }
