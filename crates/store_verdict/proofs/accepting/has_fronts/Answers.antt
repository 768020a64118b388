-- One front that differs is enough.
use Rattle.std.proofs.Common.{◌≡◌, ℕ, zero, suc, nat_eq, Bool, true, false, ◌&&◌, List, [], ◌∷◌, get_or, map as over, slice_get, Some, refl, sym, ap, ◌∙◌}
use Rattle.std.specs.List.{list_all}
use Rattle.std.specs.Option.{option_eq}
use Rattle.std.proofs.lemmas.Option.{slice_get-get_or}
use Rattle.model_store.specs.Sets.{front_in}
use Rattle.store_verdict.specs.PreparedView.{front_of}
use Rattle.store_verdict.specs.RecordView.{record_of}
use Rattle.store_verdict.specs.declared.prepared.Seen.{Seen}
use Rattle.store_verdict.proofs.accepting.has_fronts.Goals as goal
use Rattle.general_words.proofs.Tests.{not_is}

and-false : (b : Bool) → (b && false) ≡ false
and-false true = refl
and-false false = refl

all-fails : (p : ℕ → Bool) (seen : List Seen) (i : ℕ) (one : Seen) → Some one ≡ slice_get seen i → p one.mount ≡ false
    → list_all p (over (λ s. s.mount) seen) ≡ false
all-fails p [] i one there fails = absurd cc
all-fails p (s ∷ seen) zero one there fails =
    let same : s ≡ one = cc in ap (λ b. b && list_all p (over (λ x. x.mount) seen)) (ap (λ (x : Seen). p x.mount) same ∙ fails)
all-fails p (s ∷ seen) (suc i) one there fails =
    ap (λ b. p s.mount && b) (all-fails p seen i one there fails) ∙ and-false (p s.mount)

pub returns-then-ne : goal.returns-then-ne
returns-then-ne c =
    let d : Seen = record { mount = 0; front = 0 } in
    let one : Seen = get_or c.args.seen.now c.loop-one.one-index d in
    let p : ℕ → Bool = λ m. option_eq nat_eq (front_in (record_of c.args.rec.now) m) (front_of c.args.seen.now m) in
    sym (all-fails p c.args.seen.now c.loop-one.one-index one
    (sym (slice_get-get_or c.args.seen.now c.loop-one.one-index d c.loop-one-test.true))
    ((λ i. option_eq nat_eq (sym c.fetched.ensures i) (sym c.front_of.ensures i)) ∙ not_is (option_eq nat_eq c.fetched.result c.front_of.result) (sym c.ne.ensures ∙ c.if-ne.true)))
