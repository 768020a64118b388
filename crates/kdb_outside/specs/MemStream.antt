-- Bytes in memory that are reached by counted calls. This project's own.
use Rattle.std.specs.Prelude.{ℕ, List}
use Rattle.kdb_outside.specs.Calls.{Calls, after_call, after_fault}

-- the bytes that a source has left or a sink holds, and the calls so far
pub record MemStream : Type 0 where
  pub bytes : List ℕ
  pub calls : Calls

-- a call left the stream with these bytes
abbrev pub after_move : List ℕ → MemStream → MemStream
after_move bytes stream = record { bytes = bytes; calls = after_call stream.calls }

-- a call failed, and moved nothing
abbrev pub after_failure : MemStream → MemStream
after_failure stream = record stream { calls = after_fault stream.calls }
