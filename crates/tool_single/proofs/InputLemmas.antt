-- How a call leaves its input.
use Rattle.std.specs.Prelude.{Result, Ok, Err, IsOk, OnOk}
use Rattle.std.proofs.Common.{refl, arith}
use Rattle.tool_words.specs.Request.{Request, Refuses, Bars, Asks, Imports}
use Rattle.kdb_outside.specs.declared.sources.Source.{Ghosts}
use Rattle.tool_single.specs.Input.{LeavesInput}

-- what holds of a good result holds where the result is good
pub on_ok : {A E : Type 0} (r : Result A E) (P : Type 0) → IsOk r → OnOk r P → P
on_ok (Ok made) P is holds = holds
on_ok (Err fault) P is holds = absurd cc

-- how a call that takes nothing more leaves the input
pub leaves_input : {S : Type 0} (g : Ghosts S) (asked : Request) (now_done done : Type 0) (before now : S)
    → (now_done → done) → LeavesInput g asked done before now → LeavesInput g asked now_done before now
leaves_input g (Refuses status text) now_done done before now weaker leaves = leaves
leaves_input g (Bars name) now_done done before now weaker leaves = leaves
leaves_input g (Asks question) now_done done before now weaker leaves = leaves
leaves_input g (Imports name kind) now_done done before now weaker leaves =
    record { front = leaves.front; all = λ answered. leaves.all (weaker answered) }

-- and one that takes nothing and has no answer
pub takes_none : {S : Type 0} (g : Ghosts S) (asked : Request) (answered : Type 0) (source : S) → (answered → ⊥)
    → LeavesInput g asked answered source source
takes_none g (Refuses status text) answered source none = refl
takes_none g (Bars name) answered source none = refl
takes_none g (Asks question) answered source none = refl
takes_none g (Imports name kind) answered source none = record {
  front = λ bytes told. record { count = 0; few = omega arith; is = told };
  all = λ yes. absurd (none yes);
}
