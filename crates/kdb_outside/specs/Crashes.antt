-- Properties of all that a crash may leave, now or at some moment since an earlier one. (This project's own.)
use Rattle.std.specs.Prelude.{◌≡◌, ℕ, List, Some, slice_get}
use Rattle.kdb_outside.specs.Images.{Image, IsImage}

-- a crash now leaves only images with this property
abbrev pub EveryImage : (List ℕ → List ℕ → Type 0) → (Image → Type 0) → Type 0
EveryImage may_leave Property = (image : Image) → IsImage may_leave image → Property image

-- a crash at any moment since this one might have left only images with this property
abbrev pub EverySince : (ℕ → Image → Type 0) → ℕ → (Image → Type 0) → Type 0
EverySince left_since moment Property = (image : Image) → left_since moment image → Property image

-- each of these contents of a file has this property
abbrev pub EachOf : (List ℕ → Type 0) → (List ℕ → Type 0) → Type 0
EachOf leaves Property = (content : List ℕ) → leaves content → Property content

-- the byte at this place has this value
abbrev pub HasByte : ℕ → ℕ → List ℕ → Type 0
HasByte place value content = slice_get content place ≡ Some value

-- what a crash since this moment might have left is what it may leave now
abbrev pub OnlyNow : (ℕ → Image → Type 0) → ℕ → (List ℕ → List ℕ → Type 0) → Type 0
OnlyNow left_since now may_leave = (image : Image) → left_since now image → IsImage may_leave image
