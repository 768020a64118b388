-- Where the path has no more bytes than the parts, it is the parts, each behind a slash.
use Rattle.std.proofs.Common.{◌≡◌, ◌++◌, List, ℕ, drop, length, sym, ap, ◌∙◌, subst}
use Rattle.std.specs.Result.{OnOk}
use Rattle.model_names.specs.Name.{Name}
use Rattle.model_names.specs.Spelling.{path}
use Rattle.key_name.proofs.SlashLemmas.{path-unescaped}
use Rattle.key_name.proofs.names.KeyName.push_relative.Goals as goal

pub returns-then-bytes-path_bytes-clause-ok : goal.returns-then-bytes-path_bytes-clause-ok
returns-then-bytes-path_bytes-clause-ok c =
    let same = sym c.bytes.ensures ∙ c.if-bytes-path_bytes.true ∙ c.path_bytes.ensures.bytes ∙ ap (λ (n : Name). length (path n)) (sym c.self.view_is) in
    subst (λ (text : List ℕ). OnOk c.push_between_slashes.result (c.push_between_slashes.new.bytes.items ≡ c.args.bytes.now.items ++ drop 1 text))
    (sym (path-unescaped c.self.inside.parts same) ∙ ap path c.self.view_is) c.push_between_slashes.ensures.ok
