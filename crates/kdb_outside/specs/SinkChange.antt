-- What became of a sink while a call went on. (This project's own.)
use Rattle.std.specs.Prelude.{ℕ, List, Option}
use Rattle.kdb_outside.specs.declared.sinks.Sink.{Ghosts}

-- a sink before a call and after it: the bytes that it tells, and its count of faults
pub record SinkChange : Type 0 where
  pub held_before : Option (List ℕ)
  pub held_now : Option (List ℕ)
  pub faults_before : ℕ
  pub faults_now : ℕ

-- the change from one state of a sink to another
abbrev pub change_of : {K : Type 0} → Ghosts K → K → K → SinkChange
change_of g old new =
    record { held_before = g.held old; held_now = g.held new; faults_before = g.faults old; faults_now = g.faults new }
