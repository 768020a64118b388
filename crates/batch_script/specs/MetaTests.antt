-- Which texts may name metadata.
use Rattle.std.specs.Prelude.{ℕ, nat_lt, nat_le, Bool, ◌&&◌, List, length}
use Rattle.model_maps.specs.Entry.{longest_meta_name}

-- a text that is neither empty nor too long
abbrev pub is_meta : List ℕ → Bool
is_meta word = nat_lt 0 (length word) && nat_le (length word) longest_meta_name
