-- The input of a command line: an import takes it, and every other command takes none. (This project's own.)
use Rattle.std.specs.Prelude.{◌≡◌, ℕ, ◌+◌, ◌≤◌, List, [], ◌++◌, take, drop, Option, Some}
use Rattle.backend_files.specs.WholeFile.{longest_file}
use Rattle.kdb_outside.specs.Faults.{HasRisen}
use Rattle.kdb_outside.specs.declared.sources.Source.{Ghosts}
use Rattle.tool_words.specs.Request.{Request, Refuses, Bars, Asks, Imports}

-- the most bytes that an import takes: one more than it may have
abbrev pub most_taken : ℕ
most_taken = longest_file + 1

-- what an import takes of some input
abbrev pub taken : List ℕ → List ℕ
taken input = take most_taken input

-- a command line is given this input: an import the bytes that its source tells. Of one that takes none it is any
abbrev pub IsInput : Request → Option (List ℕ) → List ℕ → Type 0
IsInput (Refuses status text) left input = Unit {0}
IsInput (Bars name) left input = Unit {0}
IsInput (Asks question) left input = Unit {0}
IsInput (Imports name kind) left input = left ≡ Some input

-- a count of faults of the input rose while an import took it
abbrev pub FailsToRead : Request → ℕ → ℕ → Type 0
FailsToRead (Refuses status text) before now = ⊥
FailsToRead (Bars name) before now = ⊥
FailsToRead (Asks question) before now = ⊥
FailsToRead (Imports name kind) before now = HasRisen before now

-- a front of some bytes was taken, no more than so many
pub record TakesFront (most : ℕ) (bytes : List ℕ) (now : Option (List ℕ)) : Type 0 where
  pub count : ℕ
  pub few : count ≤ most
  pub is : now ≡ Some (drop count bytes)

-- a front of what was left was taken behind so many bytes, no more with these than the most
pub record TakesSome (most before : ℕ) (left : List ℕ) (now : Option (List ℕ)) : Type 0 where
  pub count : ℕ
  pub few : before + count ≤ most
  pub is : now ≡ Some (drop count left)

-- a piece of what was left stands behind the bytes so far, and is empty only at the end
pub record TakesPiece (left before after : List ℕ) (n : ℕ) (now : Option (List ℕ)) : Type 0 where
  pub moved : before ++ left ≡ after ++ drop n left
  pub rest : now ≡ Some (drop n left)
  pub ends : n ≡ 0 → left ≡ []

-- so many of some bytes were taken, or all of them where there are no more
abbrev pub TakesAll : ℕ → List ℕ → Option (List ℕ) → Type 0
TakesAll most bytes now = now ≡ Some (drop most bytes)

-- what is taken of a source that tells its bytes: a front, and as many as are taken at most where there is an answer
pub record TakesInput {S : Type 0} (g : Ghosts S) (most : ℕ) (answered : Type 0) (before now : S) : Type 0 where
  pub front : (bytes : List ℕ) → g.left before ≡ Some bytes → TakesFront most bytes (g.left now)
  pub all : answered → (bytes : List ℕ) → g.left before ≡ Some bytes → TakesAll most bytes (g.left now)

-- how a run leaves its input
abbrev pub LeavesInput : {S : Type 0} → Ghosts S → Request → Type 0 → S → S → Type 0
LeavesInput g (Refuses status text) answered before now = now ≡ before
LeavesInput g (Bars name) answered before now = now ≡ before
LeavesInput g (Asks question) answered before now = now ≡ before
LeavesInput g (Imports name kind) answered before now = TakesInput g most_taken answered before now

-- the input failed an import, whose disk and matcher came back as they were
pub record LosesInput {D P : Type 0} (failed : Type 0) (disk end : D) (patterns now : P) : Type 0 where
  pub risen : failed
  pub disk_is : end ≡ disk
  pub patterns_is : now ≡ patterns
