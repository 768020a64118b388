use Rattle.std.specs.Prelude.{◌≡◌, false, [], ◌∷◌, codes}
use lib.Utf8.{encode}
use Rattle.std.specs.Str.{is_utf8, chars}
use Rattle.std.proofs.Common.{refl, lit≤}
use Rattle.model_names.proofs.SpellsLemmas.{Spells-from_tests}
use Rattle.model_maps.specs.KeyMap.{no_keys}
use Rattle.model_maps.proofs.SmallMaps.{name_a, plain_a}
use Rattle.model_lines.proofs.Utf8Lemmas.{not_utf8}
use Rattle.model_ini.proofs.SmallFiles.{adds_a, adds_a-once, adds_no_root, skips, enters}
use Rattle.model_ini.proofs.examples.files_are_bad_at_their_first_bad_line.Goals as goal

pub returns-clause-section : goal.returns-clause-section
returns-clause-section c = record {
  front = [];
  progress = no_keys;
  line = codes "[main]";
  behind = [];
  whole = refl;
  leads = refl;
  has_none = λ after step. step.does;
  number_is = refl;
}

pub returns-clause-no_equals : goal.returns-clause-no_equals
returns-clause-no_equals c = record {
  front = codes "# a" ∷ [] ∷ [];
  progress = no_keys;
  line = codes "b";
  behind = codes "c" ∷ [];
  whole = refl;
  leads = (no_keys, skips (codes "# a") no_keys refl refl, (no_keys, skips [] no_keys refl refl, refl));
  has_none = λ after step. step.does;
  number_is = refl;
}

pub returns-clause-mountpoint : goal.returns-clause-mountpoint
returns-clause-mountpoint c = record {
  front = [];
  progress = no_keys;
  line = codes "= x";
  behind = [];
  whole = refl;
  leads = refl;
  has_none = λ after step. adds_no_root (codes "x") no_keys after step.does;
  number_is = refl;
}

pub returns-clause-name_twice : goal.returns-clause-name_twice
returns-clause-name_twice c =
    let first = Spells-from_tests (codes "/a") name_a (codes "a") refl refl refl (lit≤ tt) in
    let again = Spells-from_tests (codes "/./a") name_a (codes "./a") refl refl refl (lit≤ tt) in
    record {
      front = codes "a = 1" ∷ [];
      progress = plain_a;
      line = codes "./a = 1";
      behind = [];
      whole = refl;
      leads = (plain_a, enters (codes "a = 1") (codes "a") (codes "1") no_keys plain_a refl refl (adds_a (codes "a") first), refl);
      has_none = λ after step. adds_a-once (codes "./a") (codes "1") after again step.does;
      number_is = refl;
    }

no_text : is_utf8 (35 ∷ 255 ∷ []) ≡ false
unfolding is_utf8 chars encode
no_text = refl

pub returns-clause-not_utf8 : goal.returns-clause-not_utf8
returns-clause-not_utf8 c = record {
  front = [];
  progress = no_keys;
  line = 35 ∷ 255 ∷ [];
  behind = [];
  whole = refl;
  leads = refl;
  has_none = λ after step. not_utf8 (35 ∷ 255 ∷ []) no_text step.utf8;
  number_is = refl;
}
