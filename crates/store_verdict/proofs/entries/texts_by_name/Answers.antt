-- One text more stands by its name.
use Rattle.std.proofs.Common.{◌≡◌, ◌∷◌, [], ◌++◌, sym, ap, ◌∙◌, append_assoc}
use Rattle.store_verdict.specs.Filing.{with_written}
use Rattle.store_verdict.proofs.entries.texts_by_name.Goals as goal

pub loop-written-preserved : goal.loop-written-preserved
loop-written-preserved c =
    let left = c.pop.new.self.items in
    let rest = c.loop-written.invariant.0 in
    let written = c.in-Some.written in
    let popped : c.loop-written.left.items ≡ left ++ written ∷ [] = c.in-Some.ensures.items in (
      written ∷ rest,
      sym (append_assoc left (written ∷ []) rest) ∙ ap (λ ws. ws ++ rest) (sym popped) ∙ c.loop-written.invariant.1,
      c.in_ok-add_text.ensures ∙ ap (with_written c.args.table.now written) c.loop-written.invariant.2,
    )
