-- What a crash may leave of the files of a disk. (This project's own. After the crash models of journaling file
-- systems: what was written since a file's last good sync may be there whole, in part, or with other bytes.)
use Rattle.std.specs.Prelude.{◌≡◌, ◌≢◌, ◌⊎◌, ℕ, ◌+◌, ◌<◌, ◌≤◌, List, length, take, drop, min, max, slice_get}

-- one content for each file name; a missing file has none
abbrev pub Image : Type 0
Image = List ℕ → List ℕ

-- an image is chosen freely, file by file, from what a crash may leave of each
abbrev pub IsImage : (List ℕ → List ℕ → Type 0) → Image → Type 0
IsImage may_leave image = (file : List ℕ) → may_leave file (image file)

-- a crash leaves these bytes of a file and no others
abbrev pub Only : List ℕ → (List ℕ → Type 0) → Type 0
Only bytes leaves = (c : List ℕ) → leaves c → c ≡ bytes

-- a crash behind a write of these bytes at this place may leave other bytes in its range, and a length between; a byte
-- that was written over with itself stays
pub record IsTornWrite (at : ℕ) (bytes before now : List ℕ) : Type 0 where
  pub front : take at now ≡ take at before
  pub back : drop (at + length bytes) now ≡ drop (at + length bytes) before
  pub no_shorter : length before ≤ length now
  pub no_longer : length now ≤ max (length before) (at + length bytes)
  pub same : (i : ℕ) → i < length bytes → slice_get before (at + i) ≡ slice_get bytes i
      → slice_get now (at + i) ≡ slice_get before (at + i)

-- a crash behind a cut to this length may leave a length between, and other bytes past the cut
pub record IsTornCut (new_length : ℕ) (before now : List ℕ) : Type 0 where
  pub front : take new_length now ≡ take new_length before
  pub no_shorter : min (length before) new_length ≤ length now
  pub no_longer : length now ≤ length before

-- a crash leaves of a file what it might have left before
pub record KeepsImagesOf (file : List ℕ) (old new : List ℕ → List ℕ → Type 0) : Type 0 where
  pub no_more : (c : List ℕ) → new file c → old file c
  pub no_fewer : (c : List ℕ) → old file c → new file c

-- a crash leaves of every file what it might have left before
abbrev pub KeepsImages : (List ℕ → List ℕ → Type 0) → (List ℕ → List ℕ → Type 0) → Type 0
KeepsImages old new = (file : List ℕ) → KeepsImagesOf file old new

-- a crash leaves of each other file what it might have left before
abbrev pub KeepsOtherImages : List ℕ → (List ℕ → List ℕ → Type 0) → (List ℕ → List ℕ → Type 0) → Type 0
KeepsOtherImages file old new = (other : List ℕ) → other ≢ file → KeepsImagesOf other old new

-- what a crash leaves of a file came by this step from what it might have left before, and other files are as before
pub record Touches (file : List ℕ) (Step : List ℕ → List ℕ → Type 0) (old new : List ℕ → List ℕ → Type 0) : Type 0 where
  pub this : (c : List ℕ) → new file c → (former : List ℕ) × old file former × Step former c
  pub others : KeepsOtherImages file old new

-- while a call went on, a crash might have left what it may leave behind the call, and nothing else that is new
pub record Elapses (before : ℕ) (past since : ℕ → Image → Type 0) (may_leave : List ℕ → List ℕ → Type 0) : Type 0 where
  pub nothing_else : (moment : ℕ) (image : Image) → moment ≤ before → since moment image
      → past moment image ⊎ IsImage may_leave image
  pub keeps : (moment : ℕ) (image : Image) → moment ≤ before → past moment image → since moment image
