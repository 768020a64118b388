-- A journal that holds one entry of the form without a gate behind it, as an earlier program wrote it, or none. This
-- project's own.
use Rattle.std.specs.Prelude.{◌≡◌, false, ℕ, List, drop}
use Rattle.journal_codec.specs.Forms.{followed}
use Rattle.journal_lists.specs.Grammar.{body_of}

-- no gate stands behind the first body, or behind what is there of it
abbrev pub IsOldForm : List ℕ → Type 0
IsOldForm journal = followed (body_of (drop 1 journal)) ≡ false
