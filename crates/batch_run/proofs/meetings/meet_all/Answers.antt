-- The first handle and the others are all handles, and what they heard of each other is what all have seen.
use Rattle.std.proofs.Common.{ℕ, suc, ◌<◌, List, ◌∷◌, ap, arith, get_or, length, subst, sym}
use mathlib.Core.List.{IsPrefix}
use Rattle.batch_run.specs.declared.workers.Worker.{Worker}
use Rattle.batch_run.proofs.Hearing.{all-heard, seen_by}
use Rattle.kdb_handle.specs.Stores.{IsHandle}
use Rattle.kdb_handle.specs.Views.{lock_of, plan_of}
use Rattle.batch_run.proofs.meetings.meet_all.Goals as goal

pub gather-requires-clause-first : goal.gather-requires-clause-first
gather-requires-clause-first g c =
    let Each : List Worker → Type 0 = λ l. (i : ℕ) (d : Worker) → i < length l → IsHandle (lock_of c.args.store.now) (plan_of c.args.store.now) (get_or l i d).session.handle in
    let all = subst Each c.in-Some.ensures.cases.0 c.requires in
    all 0 c.in-Some.first.now (omega arith)

pub gather-requires-clause-others : goal.gather-requires-clause-others
gather-requires-clause-others g c =
    let Each : List Worker → Type 0 = λ l. (i : ℕ) (d : Worker) → i < length l → IsHandle (lock_of c.args.store.now) (plan_of c.args.store.now) (get_or l i d).session.handle in
    let all = subst Each c.in-Some.ensures.cases.0 c.requires in
    λ i d lt. all (suc i) d (omega arith)

pub spread-requires-clause-others : goal.spread-requires-clause-others
spread-requires-clause-others g c =
    let Each : List Worker → Type 0 = λ l. (i : ℕ) (d : Worker) → i < length l → IsHandle (lock_of c.args.store.now) (plan_of c.args.store.now) (get_or l i d).session.handle in
    let all = subst Each c.in-Some.ensures.cases.0 c.requires in
    let others : Each c.in-Some.others.now = λ i d lt. all (suc i) d (omega arith) in
    subst Each (sym c.gather.ensures.others) others

pub returns-in-Some-clause-all : goal.returns-in-Some-clause-all
returns-in-Some-clause-all g c = λ i j d lt lt_j.
    let first = c.in-Some.first.now in
    let others = c.in-Some.others.now in
    let new = c.spread.new.first in
    let own : IsPrefix (seen_by first) (seen_by new) = subst (λ (w : Worker). IsPrefix (seen_by first) (seen_by w)) (sym c.spread.ensures.first) c.gather.ensures.first.seen in
    let all : (k : ℕ) (e : Worker) → k < length others → IsPrefix (seen_by (get_or others k e)) (seen_by new) = λ k e within.
    subst (λ (w : Worker). IsPrefix (seen_by (get_or others k e)) (seen_by w)) (sym c.spread.ensures.first) (c.gather.ensures.all k e within) in
    let many = ap length c.gather.ensures.others in
    let told : (k : ℕ) (e : Worker) → k < length others → IsPrefix (seen_by new) (seen_by (get_or c.spread.new.others k e)) = λ k e within.
    subst (λ (w : Worker). IsPrefix (seen_by w) (seen_by (get_or c.spread.new.others k e))) (sym c.spread.ensures.first) (c.spread.ensures.all k e (omega arith)) in
    let whole = c.in-Some.ensures.cases.0 in
    subst (λ (l : List Worker). IsPrefix (seen_by (get_or l j d)) (seen_by (get_or (new ∷ c.spread.new.others) i d))) (sym whole)
    (all-heard first new others c.spread.new.others (omega arith) own all told i j d (omega (arith, ap length whole)) (omega (arith, ap length whole)))
