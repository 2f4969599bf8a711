use Rattle.std.proofs.Common.{◌≡◌, length, ◌∙◌, arith}
use Rattle.book.proofs.Books.{struck_sound}
use Rattle.book.proofs.kept.Book.strike.Goals as goal

pub invariant_of-self-2 : goal.invariant_of-self-2
invariant_of-self-2 c =
    let z : length c.args.self.now.places ≡ 2048 = omega arith in
    let told = c.in_ok-remove.ensures in
    let kept = struck_sound c.args.self.now c.args.derivation c.remove.new.self.keys.now c.len-self.result z (c.len-self.ensures ∙ told.len) told.removes in
    record { few = kept.few; rises = kept.rises; proper = kept.proper }
