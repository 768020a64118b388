-- Which steps a flusher works for. (This project's own.)
use Rattle.std.specs.Prelude.{Bool, true, false}
use Rattle.batch_script.specs.declared.steps.Step.{Step}
use Rattle.batch_script.specs.declared.steps.Step.TheVariants as step

-- a step that may make a commit
abbrev pub is_storing : Step → Bool
is_storing (step.Get parent) = false
is_storing (step.Put name value) = false
is_storing (step.MetaStep name meta value) = false
is_storing (step.Del name) = false
is_storing (step.Cut name) = false
is_storing (step.Look name) = false
is_storing (step.Set parent) = true
is_storing (step.Merge parent strategy tries) = true
is_storing (step.Watch parent room) = false
is_storing step.Poll = false
is_storing (step.Undo number) = true
