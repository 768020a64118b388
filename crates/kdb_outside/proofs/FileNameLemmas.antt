-- The test of files' names decides which texts are files' names.
use Rattle.std.proofs.Common.{◌≢◌, ℕ, ◌≤◌, not, ◌&&◌, ◌||◌, ◌==◌, nat_le, length, All, slice_index, List, refl}
use Rattle.std.specs.Bool.{Decides}
use Rattle.std.specs.Char.{is_ascii_alphanumeric, IsAsciiAlphanumeric}
use Rattle.std.specs.Int.{is_in_range, IsInRange}
use Rattle.std.specs.List.{list_all}
use Rattle.std.proofs.lemmas.Bool.{leb-true, le-leb}
use Rattle.std.proofs.lemmas.Bool.Decides.{Decides-and, Decides-or, Decides-not, Decides-eqb, Decides-like, Decides-by_and}
use Rattle.kdb_outside.specs.FileName.{IsNameByte, IsFileName, is_name_byte, is_file_name, longest_file_name, dot, underscore, hyphen}

le_decides : (a b : ℕ) → Decides (nat_le a b) (a ≤ b)
le_decides a b = (leb-true a b, le-leb a b)

range_decides : (low high b : ℕ) → Decides (is_in_range low high b) (IsInRange low high b)
range_decides low high b = Decides-and (nat_le low b) (nat_le b high) (le_decides low b) (le_decides b high)

letter_decides : (b : ℕ) → Decides (is_ascii_alphanumeric b) (IsAsciiAlphanumeric b)
letter_decides b =
    Decides-or (is_in_range 48 57 b || is_in_range 65 90 b) (is_in_range 97 122 b)
    (Decides-or (is_in_range 48 57 b) (is_in_range 65 90 b) (range_decides 48 57 b) (range_decides 65 90 b))
    (range_decides 97 122 b)

byte_decides : (b : ℕ) → Decides (is_name_byte b) (IsNameByte b)
byte_decides b =
    Decides-or (is_ascii_alphanumeric b) ((b == dot) || ((b == underscore) || (b == hyphen))) (letter_decides b)
    (Decides-or (b == dot) ((b == underscore) || (b == hyphen)) (Decides-eqb b dot)
    (Decides-or (b == underscore) (b == hyphen) (Decides-eqb b underscore) (Decides-eqb b hyphen)))

bytes_decide : (bytes : List ℕ) → Decides (list_all is_name_byte bytes) (All IsNameByte bytes)
bytes_decide bytes =
    Decides-by_and is_name_byte IsNameByte (list_all is_name_byte) byte_decides refl (λ _ _. refl) bytes

pub is_file_name-Decides : (bytes : List ℕ) → Decides (is_file_name bytes) (IsFileName bytes)
is_file_name-Decides bytes =
    let first = slice_index bytes 0 == dot in
    let plain = list_all is_name_byte bytes in
    let Parts : Type 0 = (1 ≤ length bytes) × ((length bytes ≤ longest_file_name) × (All IsNameByte bytes × (slice_index bytes 0 ≢ dot))) in
    Decides-like {P = Parts} (is_file_name bytes)
    (λ h. record { not_empty = h.0; not_long = h.1.0; plain = h.1.1.0; not_hidden = h.1.1.1 })
    (λ h. (h.not_empty, (h.not_long, (h.plain, h.not_hidden))))
    (Decides-and (nat_le 1 (length bytes)) (nat_le (length bytes) longest_file_name && (plain && not first)) (le_decides 1 (length bytes))
    (Decides-and (nat_le (length bytes) longest_file_name) (plain && not first) (le_decides (length bytes) longest_file_name)
    (Decides-and plain (not first) (bytes_decide bytes) (Decides-not first (Decides-eqb (slice_index bytes 0) dot)))))
