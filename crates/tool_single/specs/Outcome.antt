-- How a run ends: what out and err have gained, and where a fault came from. (This project's own.)
use Rattle.std.specs.Prelude.{◌≡◌, ◌≢◌, ℕ, List, [], ◌++◌, Option, Some, IfSome}
use Rattle.kdb_outside.specs.Bytes.{HoldsFront}
use Rattle.kdb_outside.specs.Faults.{HasRisen}
use Rattle.kdb_outside.specs.SinkChange.{SinkChange as Change}
use Rattle.tool_commands.specs.Lines.{line, write_fault}
use Rattle.tool_commands.specs.Report.{Report}

-- a sink that tells its bytes has gained these
abbrev pub Gains : Option (List ℕ) → Option (List ℕ) → List ℕ → Type 0
Gains before now bytes = IfSome before (λ held. now ≡ Some (held ++ bytes))

-- a sink that tells its bytes has gained a front of these
abbrev pub GainsFront : Option (List ℕ) → Option (List ℕ) → List ℕ → Type 0
GainsFront before now bytes = IfSome before (λ held. HoldsFront held bytes now)

-- its count of faults has risen
abbrev pub Failed : Change → Type 0
Failed change = HasRisen change.faults_before change.faults_now

-- the run told this: it has the status, and out and err have gained the bytes
pub record Gives (report : Report) (status : ℕ) (out err : Change) : Type 0 where
  pub status_is : status ≡ report.status
  pub out_gains : Gains out.held_before out.held_now report.out
  pub err_gains : Gains err.held_before err.held_now report.err

-- out failed, has gained a front of what it was given, which was something, and err tells so
pub record LosesOut (text : List ℕ) (status : ℕ) (out err : Change) : Type 0 where
  pub some : text ≢ []
  pub out_failed : Failed out
  pub status_is : status ≡ 74
  pub out_front : GainsFront out.held_before out.held_now text
  pub err_gains : Gains err.held_before err.held_now (line write_fault)

-- err failed, and out has gained a front of what it was given
pub record LosesErr (text : List ℕ) (status : ℕ) (out err : Change) : Type 0 where
  pub err_failed : Failed err
  pub status_is : status ≡ 74
  pub out_front : GainsFront out.held_before out.held_now text

-- what became of what a run tells: it was given, or one of the sinks failed
pub data Delivers (report : Report) (status : ℕ) (out err : Change) : Type 0 where
  Whole : Gives report status out err → Delivers report status out err
  OutFails : LosesOut report.out status out err → Delivers report status out err
  ErrFails : LosesErr report.out status out err → Delivers report status out err
