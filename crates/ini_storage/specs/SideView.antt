-- How a text is written on each side of a line. (This project's own.)
use Rattle.std.specs.Prelude.{ℕ, List}
use Rattle.model_ini.specs.declared.signs.Sign.{Sign}
use Rattle.model_ini.specs.Text.{value_sign, name_sign, value_signs, name_signs, cover_blank, cover_mark}
use Rattle.ini_storage.specs.declared.writing.Side.{Side}
use Rattle.ini_storage.specs.declared.writing.Side.TheVariants.{Name, Value}

-- a byte wherever it stands
abbrev pub sign_at : Side → ℕ → Sign
sign_at Name b = name_sign b
sign_at Value b = value_sign b

-- a sign at the front
abbrev pub first_at : Side → Sign → Sign
first_at Name sign = cover_mark (cover_blank sign)
first_at Value sign = cover_blank sign

-- a whole text
abbrev pub signs_at : Side → List ℕ → List Sign
signs_at Name text = name_signs text
signs_at Value text = value_signs text
