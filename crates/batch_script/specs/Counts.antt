-- Words that count. (This project's own.)
use Rattle.std.specs.Prelude.{ℕ, nat_le, not, ◌&&◌, if◌then◌else◌, List, Option, Some, None}
use Rattle.std.specs.Str.Parse.{digits_value}
use Rattle.model_names.specs.ArrayPart.{are_digits, has_leading_zero}

-- a word that counts: from 1 on in decimal, without leading zero, and no more than so much
abbrev pub count_of : ℕ → List ℕ → Option ℕ
count_of most word =
    let number = digits_value 10 word in
    if are_digits word && not (has_leading_zero word) && nat_le 1 number && nat_le number most then Some number else None

-- the most tries of a merge
abbrev pub most_tries : ℕ
most_tries = 100000

-- a word that says how often a merge is tried
abbrev pub tries_of : List ℕ → Option ℕ
tries_of word = count_of most_tries word

-- the most changes that a watch has room for
abbrev pub largest_watch_room : ℕ
largest_watch_room = 4096

-- a word that says how many changes a watch has room for
abbrev pub watch_room_of : List ℕ → Option ℕ
watch_room_of word = count_of largest_watch_room word

-- the largest number of a commit that a script can say
abbrev pub largest_commit_number : ℕ
largest_commit_number = 1000000000

-- a word that numbers a commit
abbrev pub commit_number_of : List ℕ → Option ℕ
commit_number_of word = count_of largest_commit_number word
