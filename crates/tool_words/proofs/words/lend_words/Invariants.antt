use Rattle.std.proofs.Common.{◌≡◌, take}
use Rattle.tool_words.specs.RequestView.{texts_of}
use Rattle.tool_words.proofs.words.lend_words.Given as goal

abbrev pub invariant-loop-word : goal.invariant-loop-word
invariant-loop-word l = texts_of l.lent.items ≡ take l.word-index l.words
