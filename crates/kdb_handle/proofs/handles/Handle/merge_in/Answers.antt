-- A get behind a conflict, and what is made of the set that met it.
use Rattle.std.proofs.Common.{◌≡◌, ◌∷◌, [], ◌++◌, List, map as over, inl, inr, refl, ap, subst, ◌∙◌}
use Rattle.std.proofs.lemmas.Result.{err_from_is_err_and}
use Rattle.kdb_handle.specs.Handles.{HandleValue}
use Rattle.kdb_handle.specs.Opened.{store_at}
use Rattle.kdb_handle.specs.declared.merging.Tried.{Tried}
use Rattle.kdb_handle.proofs.MergeLemmas.{idle, kept_as, made_again, made_clash, made_none, present_in, present_kept}
use Rattle.store_verdict.specs.RecordView.{proc_of}
use Rattle.key_merge.specs.Refusing.{RefusesMerge}
use Rattle.model_store.specs.Store.{Formats, points_of, formats_of}
use Rattle.mount_table.specs.declared.mounts.Mount.{Mount}
use Rattle.kdb_handle.proofs.handles.Handle.merge_in.Goals as goal

pub returns-in-Ok-merge3-clause-attempt : goal.returns-in-Ok-merge3-clause-attempt
returns-in-Ok-merge3-clause-attempt g c first numbered stored =
    let formats : Formats = formats_of g.F.Formats in
    let store = c.args.store.now in
    let met = c.args.met in
    let get = c.kdb_get in
    let got = c.in-Ok.got in
    let same_points : c.points-points.result.now ≡ points_of (store_at store.plan.mounted) = c.points-points.ensures.points ∙ ap (λ (mounts : List Mount). over (λ (mount : Mount). mount.at) mounts) c.table.ensures in
    let told = c.push_reserved.ensures.items ∙ ap (λ (l : List Tried). l ++ record { mount = met.mount; by = met.by; front = met.front; again = got.front } ∷ []) c.reserve.ensures.items in
    let base_is = kept_as c.points-points.result.now (points_of (store_at store.plan.mounted)) c.args.parent.now c.self.inside.rec c.args.self.now.rec c.in_ok-base.base same_points (ap (λ (h : HandleValue). h.rec) c.self.view_is) c.in_ok-base.ensures in
    let theirs_is = present_kept formats store.lock store.plan c.args.parent.now c.args.ours.now met.mount met.by met.front c.args.self.now c.requires get.new.self got c.in-Ok.ensures.got c.in_ok-theirs.theirs
    (kept_as c.points-points.result.now (points_of (store_at store.plan.mounted)) c.args.parent.now c.self-2.inside.rec get.new.self.rec c.in_ok-theirs.theirs same_points (ap (λ (h : HandleValue). h.rec) c.self-2.view_is) c.in_ok-theirs.ensures) in
    made_again formats store.lock store.plan c.args.parent.now c.args.ours.now met.mount met.by met.front c.args.self.now c.requires
    get.new.self c.in_ok-base.base c.in_ok-theirs.theirs base_is get.ensures.number get.ensures.proc get.ensures.seen get.ensures.own get.ensures.legal got c.in-Ok.ensures.got
    theirs_is c.args.strategy first numbered stored c.args.tried.now.items c.push_reserved.new.self.items told c.in-Ok-merge3.next c.in-Ok-merge3.ensures.merged

pub returns-in-Err-Conflicts-clause-attempt : goal.returns-in-Err-Conflicts-clause-attempt
returns-in-Err-Conflicts-clause-attempt g c first numbered stored =
    let formats : Formats = formats_of g.F.Formats in
    let store = c.args.store.now in
    let met = c.args.met in
    let get = c.kdb_get in
    let got = c.in-Ok.got in
    let same_points : c.points-points.result.now ≡ points_of (store_at store.plan.mounted) = c.points-points.ensures.points ∙ ap (λ (mounts : List Mount). over (λ (mount : Mount). mount.at) mounts) c.table.ensures in
    let told = c.push_reserved.ensures.items ∙ ap (λ (l : List Tried). l ++ record { mount = met.mount; by = met.by; front = met.front; again = got.front } ∷ []) c.reserve.ensures.items in
    let base_is = kept_as c.points-points.result.now (points_of (store_at store.plan.mounted)) c.args.parent.now c.self.inside.rec c.args.self.now.rec c.in_ok-base.base same_points (ap (λ (h : HandleValue). h.rec) c.self.view_is) c.in_ok-base.ensures in
    let theirs_is = present_kept formats store.lock store.plan c.args.parent.now c.args.ours.now met.mount met.by met.front c.args.self.now c.requires get.new.self got c.in-Ok.ensures.got c.in_ok-theirs.theirs
    (kept_as c.points-points.result.now (points_of (store_at store.plan.mounted)) c.args.parent.now c.self-2.inside.rec get.new.self.rec c.in_ok-theirs.theirs same_points (ap (λ (h : HandleValue). h.rec) c.self-2.view_is) c.in_ok-theirs.ensures) in
    made_clash formats store.lock store.plan c.args.parent.now c.args.ours.now met.mount met.by met.front c.args.self.now c.requires
    get.new.self c.in_ok-base.base c.in_ok-theirs.theirs base_is get.ensures.number get.ensures.proc get.ensures.seen get.ensures.own get.ensures.legal got c.in-Ok.ensures.got
    theirs_is c.args.strategy first numbered stored c.args.tried.now.items c.push_reserved.new.self.items told c.in-Err-Conflicts.names
    (subst (RefusesMerge c.args.strategy c.in_ok-base.base c.args.ours.now c.in_ok-theirs.theirs) c.in-Err-Conflicts.field-0-is c.in-Err-Conflicts.ensures.conflicts)

pub returns-clause-attempt : goal.returns-clause-attempt
returns-clause-attempt g c first numbered stored =
    let formats : Formats = formats_of g.F.Formats in
    let store = c.args.store.now in
    let met = c.args.met in
    let get = c.kdb_get in
    let got = c.in-Ok.got in
    let same_points : c.points-points.result.now ≡ points_of (store_at store.plan.mounted) = c.points-points.ensures.points ∙ ap (λ (mounts : List Mount). over (λ (mount : Mount). mount.at) mounts) c.table.ensures in
    let told = c.push_reserved.ensures.items ∙ ap (λ (l : List Tried). l ++ record { mount = met.mount; by = met.by; front = met.front; again = got.front } ∷ []) c.reserve.ensures.items in
    let base_is = kept_as c.points-points.result.now (points_of (store_at store.plan.mounted)) c.args.parent.now c.self.inside.rec c.args.self.now.rec c.in_ok-base.base same_points (ap (λ (h : HandleValue). h.rec) c.self.view_is) c.in_ok-base.ensures in
    let theirs_is = present_kept formats store.lock store.plan c.args.parent.now c.args.ours.now met.mount met.by met.front c.args.self.now c.requires get.new.self got c.in-Ok.ensures.got c.in_ok-theirs.theirs
    (kept_as c.points-points.result.now (points_of (store_at store.plan.mounted)) c.args.parent.now c.self-2.inside.rec get.new.self.rec c.in_ok-theirs.theirs same_points (ap (λ (h : HandleValue). h.rec) c.self-2.view_is) c.in_ok-theirs.ensures) in
    inr (made_none formats store.lock store.plan c.args.parent.now c.args.ours.now met.mount met.by met.front c.args.self.now c.requires
    get.new.self c.in_ok-base.base c.in_ok-theirs.theirs base_is get.ensures.number get.ensures.proc get.ensures.seen get.ensures.own get.ensures.legal got c.in-Ok.ensures.got
    theirs_is c.args.strategy first numbered stored c.args.tried.now.items c.push_reserved.new.self.items told)

pub returns-in_err-theirs-clause-attempt : goal.returns-in_err-theirs-clause-attempt
returns-in_err-theirs-clause-attempt g c first numbered stored =
    let formats : Formats = formats_of g.F.Formats in
    let store = c.args.store.now in
    let met = c.args.met in
    let get = c.kdb_get in
    let got = c.in-Ok.got in
    let same_points : c.points-points.result.now ≡ points_of (store_at store.plan.mounted) = c.points-points.ensures.points ∙ ap (λ (mounts : List Mount). over (λ (mount : Mount). mount.at) mounts) c.table.ensures in
    let told = c.push_reserved.ensures.items ∙ ap (λ (l : List Tried). l ++ record { mount = met.mount; by = met.by; front = met.front; again = got.front } ∷ []) c.reserve.ensures.items in
    let base_is = kept_as c.points-points.result.now (points_of (store_at store.plan.mounted)) c.args.parent.now c.self.inside.rec c.args.self.now.rec c.in_ok-base.base same_points (ap (λ (h : HandleValue). h.rec) c.self.view_is) c.in_ok-base.ensures in
    let theirs = present_in formats store.lock store.plan c.args.parent.now c.args.ours.now met.mount met.by met.front c.args.self.now c.requires get.new.self in
    let p = err_from_is_err_and c.from_residual-in_err-theirs.result c.from_residual-in_err-theirs.ensures.1 in
    rw (p.1, p.2) (inr (made_none formats store.lock store.plan c.args.parent.now c.args.ours.now met.mount met.by met.front c.args.self.now c.requires
    get.new.self c.in_ok-base.base theirs base_is get.ensures.number get.ensures.proc get.ensures.seen get.ensures.own get.ensures.legal got c.in-Ok.ensures.got
    refl c.args.strategy first numbered stored c.args.tried.now.items c.push_reserved.new.self.items told))

pub returns-in-Err-clause-attempt : goal.returns-in-Err-clause-attempt
returns-in-Err-clause-attempt g c first numbered stored =
    let formats : Formats = formats_of g.F.Formats in
    let store = c.args.store.now in
    let met = c.args.met in
    let get = c.kdb_get in
    inl (
      c.reserve.ensures.items,
      idle formats store.lock store.plan c.args.parent.now c.args.ours.now met.mount met.by met.front c.args.self.now c.requires first get.new.self stored get.ensures.seen get.ensures.own
          (c.in-Err.ensures.got (λ n. proc_of c.args.self.now.rec) refl).1,
    )
