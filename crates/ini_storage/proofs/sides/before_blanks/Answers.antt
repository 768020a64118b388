-- The last sign is dropped while it is a blank.
use Rattle.std.proofs.Common.{◌≡◌, ℕ, ◌+◌, ◌-◌, ◌<◌, length, take, refl, sym, ap, subst, ◌∙◌, arith}
use Rattle.model_ini.specs.Signs.{is_blank, without_back}
use Rattle.ini_storage.proofs.TrimLemmas.{without_back-shorter, without_back-stays}
use Rattle.ini_storage.proofs.sides.before_blanks.Goals as goal
use Rattle.ini_storage.proofs.sides.before_blanks.Goals.{then-loop-end-test+else-stands_blank, else-loop-end-test}

one_less : (n : ℕ) → 0 < n → (n - 1) + 1 ≡ n
one_less n h = omega arith

pub loop-end-preserved : goal.loop-end-preserved
loop-end-preserved c =
    let signs = c.args.signs.now in
    let end = c.loop-end.end in
    let within : end - 1 < length signs = omega (arith, c.loop-end.invariant.within, c.loop-end-test.true) in
    record {
      within = omega arith;
      same = without_back-shorter is_blank signs (end - 1) _ within (sym c.stands_blank.ensures ∙ c.if-stands_blank.true) ∙ ap (λ n. without_back is_blank (take n signs)) (one_less end c.loop-end-test.true) ∙ c.loop-end.invariant.same;
    }

pub returns : goal.returns
returns c =
    let signs = c.args.signs.now in
    let end = c.loop-end.end in
    elim c.loop-end-test.branch [
      | then-loop-end-test+else-stands_blank w ↦
          let within : end - 1 < length signs = omega (arith, c.loop-end.invariant.within, w.loop-end-test.true) in
          let stays = without_back-stays is_blank signs (end - 1) _ within (sym w.stands_blank.ensures ∙ w.if-stands_blank.false) in
          subst (λ n. take n signs ≡ without_back is_blank (take n signs)) (one_less end w.loop-end-test.true) (sym stays)
          ∙ c.loop-end.invariant.same
      | else-loop-end-test w ↦
          let none : end ≡ 0 = omega (arith, w.loop-end-test.false) in
          subst (λ n. take n signs ≡ without_back is_blank (take n signs)) (sym none) refl ∙ c.loop-end.invariant.same
    ]
