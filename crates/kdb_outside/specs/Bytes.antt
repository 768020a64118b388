-- What the calls of a source, a sink and a disk do with bytes. This project's own.
use Rattle.std.specs.Prelude.{◌≡◌, ℕ, ◌<◌, ◌≤◌, List, [], ◌++◌, length, take, drop, min, Option, Some}

-- a source that had these bytes left moved a front of them into the buffer, n bytes, and none only at the end
pub record Takes (left before after : List ℕ) (n : ℕ) (now : Option (List ℕ)) : Type 0 where
  pub moved : left ≡ take n after ++ drop n left
  pub rest : now ≡ Some (drop n left)
  pub ends : 0 < length before → n ≡ 0 → left ≡ []

-- a buffer was filled from these bytes as far as both reach; past the n bytes it is as before
pub record Fills (bytes before after : List ℕ) (n : ℕ) : Type 0 where
  pub count : n ≡ min (length before) (length bytes)
  pub front : take n after ≡ take n bytes
  pub back : drop n after ≡ drop n before

-- a sink that held these bytes now holds them and a front of the piece
pub record HoldsFront (before piece : List ℕ) (now : Option (List ℕ)) : Type 0 where
  pub count : ℕ
  pub within : count ≤ length piece
  pub is : now ≡ Some (before ++ take count piece)
