use lib.Utf8.{encode}
use Rattle.std.specs.Prelude.{◌≡◌, false, [], ◌∷◌, ◌++◌, codes, None}
use Rattle.std.specs.Str.{is_utf8, chars}
use Rattle.std.proofs.Common.{refl, arith}
use Rattle.model_maps.specs.KeyMap.{no_keys}
use Rattle.model_lines.proofs.Utf8Lemmas.{not_utf8}
use Rattle.model_hosts.specs.Line.{Skipped, Comment, Gives}
use Rattle.model_hosts.specs.Hosts.{Progress, start}
use Rattle.model_hosts.proofs.SmallFiles.{plain_a, adds_plain_a, plain_a_has, says}
use Rattle.model_hosts.proofs.examples.files_are_bad_at_their_first_bad_line.Goals as goal

abbrev one_waits : Progress
one_waits = record { keys = no_keys; waiting = codes " c" ∷ [] }

abbrev entered : Progress
entered = record { keys = plain_a; waiting = [] }

pub returns-clause-one_word : goal.returns-clause-one_word
returns-clause-one_word c = record {
  front = codes "# c" ∷ [];
  progress = one_waits;
  line = codes "localhost";
  behind = [];
  whole = refl;
  leads = (one_waits, says (codes "# c") (Comment (codes " c")) start one_waits refl refl refl, refl);
  has_none = λ after step. step.does;
  number_is = refl;
}

pub returns-clause-host_twice : goal.returns-clause-host_twice
returns-clause-host_twice c = record {
  front = codes "1 a" ∷ [] ∷ [];
  progress = entered;
  line = codes "2 a b";
  behind = [];
  whole = refl;
  leads = (entered, says (codes "1 a") (Gives (codes "1") (codes "a") [] None) start entered refl refl adds_plain_a, (entered, says [] Skipped entered entered refl refl refl, refl));
  has_none = λ after step. plain_a_has step.does.is_new;
  number_is = refl;
}

pub returns-clause-nul_in_host : goal.returns-clause-nul_in_host
returns-clause-nul_in_host c = record {
  front = [];
  progress = start;
  line = codes "1 a" ++ 0 ∷ [];
  behind = [];
  whole = refl;
  leads = refl;
  has_none = λ after step. let none = step.does.is_name.parts.1.0.no_nul.1.0 in absurd (omega arith);
  number_is = refl;
}

pub returns-clause-nul_in_address : goal.returns-clause-nul_in_address
returns-clause-nul_in_address c = record {
  front = [];
  progress = start;
  line = 49 ∷ 0 ∷ codes " a";
  behind = [];
  whole = refl;
  leads = refl;
  has_none = λ after step. let none = step.does.no_nul.1.0 in absurd (omega arith);
  number_is = refl;
}

pub returns-clause-return_within : goal.returns-clause-return_within
returns-clause-return_within c = record {
  front = [];
  progress = start;
  line = codes "\r ";
  behind = [];
  whole = refl;
  leads = refl;
  has_none = λ after step. step.does;
  number_is = refl;
}

no_text : is_utf8 (35 ∷ 255 ∷ []) ≡ false
unfolding is_utf8 chars encode
no_text = refl

pub returns-clause-not_utf8 : goal.returns-clause-not_utf8
returns-clause-not_utf8 c = record {
  front = [];
  progress = start;
  line = 35 ∷ 255 ∷ [];
  behind = [];
  whole = refl;
  leads = refl;
  has_none = λ after step. not_utf8 (35 ∷ 255 ∷ []) no_text step.utf8;
  number_is = refl;
}
