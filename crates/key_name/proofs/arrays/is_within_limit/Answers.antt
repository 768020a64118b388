use Rattle.std.proofs.Common.{sym, arith}
use Rattle.std.specs.Prelude.{Err}
use Rattle.std.specs.Char.{is_ascii_digit}
use Rattle.std.specs.List.{list_all}
use Rattle.std.specs.Str.Parse.{digits_value}
use Rattle.std.proofs.lemmas.Bool.{and_parts, leb-true, ltb-true, false_from_ne_true}
use Rattle.std.proofs.lemmas.Str.Parse.{parse_digits}
use Rattle.model_names.specs.ArrayPart.{last_index}
use Rattle.model_names.proofs.ArrayLemmas.{ascii_digits}
use Rattle.key_name.proofs.arrays.is_within_limit.Goals as goal

pub returns-in-Err : goal.returns-in-Err
returns-in-Err c =
    let digits = c.args.digits.now in
    let parts = and_parts _ (list_all is_ascii_digit digits) c.requires in
    let refused = parse_digits ascii_digits 64 digits (Err c.in-Err.field-0) c.in-Err.ensures.value.0 parts.1 in
    sym (false_from_ne_true _ (λ e. let within = leb-true (digits_value 10 digits) last_index e in refused (ltb-true _ _ parts.0, omega arith)))
