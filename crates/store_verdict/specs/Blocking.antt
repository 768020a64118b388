-- The first of some numbers, of which some may be missing.
use Rattle.std.specs.Prelude.{ℕ, nat_le, if◌then◌else◌, Option, Some, None}

-- the lesser of two
abbrev pub earlier : Option ℕ → Option ℕ → Option ℕ
earlier None other = other
earlier (Some number) None = Some number
earlier (Some number) (Some another) = if nat_le number another then Some number else Some another
