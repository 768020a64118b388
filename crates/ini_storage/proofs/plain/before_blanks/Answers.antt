-- The last byte is dropped while it is a blank.
use Rattle.std.proofs.Common.{◌≡◌, ℕ, ◌+◌, ◌-◌, ◌<◌, length, take, refl, sym, ap, subst, ◌∙◌, arith}
use Rattle.model_ini.specs.Signs.{without_back}
use Rattle.ini_storage.specs.Plain.{is_blank_byte}
use Rattle.ini_storage.proofs.TrimLemmas.{without_back-shorter, without_back-stays}
use Rattle.ini_storage.proofs.plain.before_blanks.Goals as goal
use Rattle.ini_storage.proofs.plain.before_blanks.Goals.{then-loop-end-test+else-is_blank, else-loop-end-test}

one_less : (n : ℕ) → 0 < n → (n - 1) + 1 ≡ n
one_less n h = omega arith

pub loop-end-preserved : goal.loop-end-preserved
loop-end-preserved c =
    let bytes = c.args.bytes.now in
    let end = c.loop-end.end in
    let within : end - 1 < length bytes = omega (arith, c.loop-end.invariant.within, c.loop-end-test.true) in
    record {
      within = omega arith;
      same = without_back-shorter is_blank_byte bytes (end - 1) _ within (sym c.is_blank.ensures ∙ c.if-is_blank.true) ∙ ap (λ n. without_back is_blank_byte (take n bytes)) (one_less end c.loop-end-test.true) ∙ c.loop-end.invariant.same;
    }

pub returns : goal.returns
returns c =
    let bytes = c.args.bytes.now in
    let end = c.loop-end.end in
    elim c.loop-end-test.branch [
      | then-loop-end-test+else-is_blank w ↦
          let within : end - 1 < length bytes = omega (arith, c.loop-end.invariant.within, w.loop-end-test.true) in
          let stays = without_back-stays is_blank_byte bytes (end - 1) _ within (sym w.is_blank.ensures ∙ w.if-is_blank.false) in
          subst (λ n. take n bytes ≡ without_back is_blank_byte (take n bytes)) (one_less end w.loop-end-test.true) (sym stays)
          ∙ c.loop-end.invariant.same
      | else-loop-end-test w ↦
          let none : end ≡ 0 = omega (arith, w.loop-end-test.false) in
          subst (λ n. take n bytes ≡ without_back is_blank_byte (take n bytes)) (sym none) refl
          ∙ c.loop-end.invariant.same
    ]
