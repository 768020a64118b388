-- One more byte is torn.
use Rattle.std.proofs.Common.{◌≡◌, ◌+◌, slice_index_or, get_or, ap, ◌∙◌, arith}
use Rattle.disk_memory.specs.Choices.{drawn, torn_byte}
use Rattle.disk_memory.proofs.ChoiceLemmas.{torn_bytes-more}
use Rattle.disk_memory.proofs.torn.torn_bytes.Goals as goal

pub loop-i-preserved : goal.loop-i-preserved
loop-i-preserved c =
    let choice = c.args.choice in
    let i = c.loop-i.i in
    let byte = get_or c.args.bytes.now i 0 in
    let value : c.torn_byte.result ≡ torn_byte (drawn choice (c.args.place + i)) (slice_index_or c.args.former.now i 0) byte =
    c.torn_byte.ensures ∙ ap (λ n. torn_byte n c.byte_at.result byte) c.at-number.ensures ∙ ap (λ x. torn_byte (drawn choice (c.args.place + i)) x byte) c.byte_at.ensures in
    torn_bytes-more choice c.args.place c.args.former.now c.args.bytes.now c.loop-i.torn.items c.push.new.self.items i c.torn_byte.result (omega arith) c.in_ok-push.ensures.items c.loop-i.invariant value
