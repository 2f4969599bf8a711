use Rattle.std.proofs.Common.{arith}
use Rattle.bookfile.proofs.Walking.{word_front}
use Rattle.bookfile.proofs.words.take_word.Goals as goal

pub returns : goal.returns
returns c = word_front c.args.bytes.now c.in_ok-word.word.now c.in_ok-word.rest.now _ (λ i. omega (arith, c.type_inv.bytes i)) (omega (arith, c.in_ok-word.ensures.cases.2)) c.in_ok-word.ensures.cases.0 c.in_ok-word.ensures.cases.1 c.from_le_bytes.ensures
