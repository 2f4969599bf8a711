use Rattle.std.proofs.Common.{◌≡◌, length, ◌∙◌, arith}
use Rattle.book.proofs.Books.{entered}
use Rattle.book.proofs.kept.Book.enter.Goals as goal

pub invariant_of-self-2 : goal.invariant_of-self-2
invariant_of-self-2 c =
    let z : length c.args.self.now.places ≡ 2048 = omega arith in
    let told = c.in_ok-add.ensures in
    let kept = entered c.args.self.now c.args.derivation c.add.new.self.keys.now c.len-self.result z told.anywhere.1.0 c.in_ok-check.ensures (c.len-self.ensures ∙ told.len) told.adds in
    record { few = kept.few; rises = kept.rises; proper = kept.proper }
