-- The commands, a row each: a word, and what the words behind it ask for by its options, its arguments and the names
-- that it takes. (This project's own.)
use Rattle.std.specs.Prelude.{ℕ, List, [], ◌∷◌, codes, if◌then◌else◌}
use Rattle.general_words.specs.Texts.{is_text}
use Rattle.tool_words.specs.declared.uses.Use.TheVariants.{Looks, Writes}
use Rattle.tool_words.specs.declared.flows.Flow.TheVariants.{Out, In}
use Rattle.tool_words.specs.declared.ways.Way.TheVariants.{Copies, Moves}
use Rattle.tool_words.specs.Lines.{no_command, unknown_command}
use Rattle.tool_words.specs.Request.{Get, Set, Remove, Names, GetMeta, SetMeta, MetaNames, Unmount, Mounts, FileOf, ViolationsOf, On, Request, Refuses, Asks, on_none, on_one, on_two, on_three, on_two_or_three_by_key, on_one_extended, on_two_extended, on_four_by_strategy, on_name, on_name_for, on_meta, asks, asks_to_bring, asks_to_merge, asks_to_mount, asks_to_pass}

-- a command's word, and what the words behind it ask for
pub record Row : Type 0 where
  pub word : List ℕ
  pub asks_for : List (List ℕ) → Request

abbrev row : List ℕ → (List (List ℕ) → Request) → Row
row word asks_for = record { word = word; asks_for = asks_for }

abbrev pub rows : List Row
rows =
    row (codes "get") (on_one (asks Looks Get))
    ∷ row (codes "set") (on_two (λ word value. asks Writes (Set value) word))
    ∷ row (codes "rm") (on_one_extended (λ extent. asks Writes (Remove extent)))
    ∷ row (codes "ls") (on_one (asks Looks Names))
    ∷ row (codes "meta-get") (on_two (λ word meta. on_name_for Looks word (λ name. on_meta meta (Asks (On name (GetMeta meta))))))
    ∷ row (codes "meta-set") (on_three (λ word meta text. on_name_for Writes word (λ name. on_meta meta (Asks (On name (SetMeta meta text))))))
    ∷ row (codes "meta-ls") (on_one (asks Looks MetaNames))
    ∷ row (codes "cp") (on_two_extended (asks_to_bring Copies))
    ∷ row (codes "mv") (on_two_extended (asks_to_bring Moves))
    ∷ row (codes "mount") (on_two_or_three_by_key asks_to_mount)
    ∷ row (codes "umount") (on_one (asks Writes Unmount))
    ∷ row (codes "mounts") (on_none (Asks Mounts))
    ∷ row (codes "file") (on_one (λ word. on_name_for Writes word (λ name. Asks (FileOf name))))
    ∷ row (codes "export") (on_two (asks_to_pass Out))
    ∷ row (codes "import") (on_two (asks_to_pass In))
    ∷ row (codes "validate") (on_one (λ word. on_name word (λ name. Asks (ViolationsOf name))))
    ∷ row (codes "merge") (on_four_by_strategy asks_to_merge)
    ∷ []

-- what the words behind a command's word ask for
abbrev pub asked_by : List Row → List ℕ → List (List ℕ) → Request
asked_by [] word words = Refuses 4 (unknown_command word)
asked_by (row ∷ others) word words = if is_text word row.word then row.asks_for words else asked_by others word words

-- the words of a command line, without the program's name
abbrev pub request : List (List ℕ) → Request
request [] = Refuses 4 no_command
request (word ∷ words) = asked_by rows word words
