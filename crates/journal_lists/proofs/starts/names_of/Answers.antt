use Rattle.std.proofs.Common.{◌≡◌, ℕ, ◌+◌, length, Err, ap, ◌∙◌, arith}
use Rattle.journal_lists.specs.Heads.{head_start}
use Rattle.journal_lists.proofs.Heads.{header_whole, header_cut, header_bad, header_within, header_length}
use Rattle.journal_lists.proofs.starts.names_of.Goals as goal

pub returns-then-there-size-clause-found : goal.returns-then-there-size-clause-found
returns-then-there-size-clause-found c =
    header_whole c.args.size c.args.there.now c.in-Ok.names c.requires c.in-Ok.ensures.found c.if-there-size.true

pub returns-then-there-size-clause-sized : goal.returns-then-there-size-clause-sized
returns-then-there-size-clause-sized c =
    header_length c.args.there.now c.in-Ok.names (λ i. omega (arith, c.type_inv.there i)) c.in-Ok.ensures.found
    ∙ c.if-there-size.true

pub returns-else-there-size-clause-bad : goal.returns-else-there-size-clause-bad
returns-else-there-size-clause-bad c at is =
    let same : length c.args.there.now ≡ at = cc in
    header_cut c.args.size c.args.there.now c.in-Ok.names c.requires c.in-Ok.ensures.found c.if-there-size.false
    ∙ ap (λ (n : ℕ). Err (head_start + n)) same

pub returns-in-Err-clause-bad : goal.returns-in-Err-clause-bad
returns-in-Err-clause-bad c at is = header_bad c.args.size c.args.there.now at c.requires (c.in-Err.ensures.bad at is)

pub returns-in-Err-clause-within : goal.returns-in-Err-clause-within
returns-in-Err-clause-within c at is = header_within c.args.there.now at (c.in-Err.ensures.bad at is)
