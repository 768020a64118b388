-- Each turn seats one session more.
use Rattle.std.proofs.Common.{◌≡◌, ◌∙◌, ℕ, ◌<◌, [], ◌∷◌, ◌++◌, All, ap, get_or, length, map as over, None, refl, subst, sym}
use Rattle.std.proofs.lemmas.List.{map_push}
use Rattle.std.proofs.lemmas.List.Elements.{All-push}
use Rattle.batch_run.specs.Workers.{IsSeated, handle_in, number_in}
use Rattle.batch_run.specs.declared.workers.Worker.{Worker}
use Rattle.batch_run.proofs.Growing.{each-push}
use Rattle.batch_run.proofs.workers.seat_all.Goals as goal

pub loop-handle-preserved : goal.loop-handle-preserved
loop-handle-preserved c =
    let was = c.loop-handle.invariant in
    let workers = c.loop-handle.workers.items in
    let numbers = c.args.numbers.now in
    let items = c.push_reserved.ensures.items in
    let new : Worker = record { session = record { number = get_or numbers c.len-place.result 0; passed = 0; handle = c.in-Some.handle; workspace = record { keys = c.new.result; watch = None } }; told = c.new-in-loop-handle.result } in
    let Named : ℕ → Worker → Type 0 = λ (i : ℕ) (worker : Worker). number_in worker ≡ get_or numbers i 0 in
    let place : c.len-place.result ≡ length workers = c.len-place.ensures ∙ c.loop-handle.workers.ok.0 in
    record {
      handles = ap (over handle_in) items ∙ map_push handle_in workers new ∙ ap (λ l. l ++ c.in-Some.handle ∷ []) was.handles;
      numbers =
          subst (λ ws. (i : ℕ) (d : Worker) → i < length ws → number_in (get_or ws i d) ≡ get_or numbers i 0) (sym items)
          (each-push Named workers new was.numbers (ap (λ k. get_or numbers k 0) place));
      seated = subst (All IsSeated) (sym items) (All-push IsSeated workers new was.seated (record { keys = c.new.ensures; watch = refl; told = c.new-in-loop-handle.ensures.items }));
      room = c.push_reserved.ensures.capacity ∙ was.room;
    }
