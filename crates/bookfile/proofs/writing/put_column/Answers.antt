use Rattle.std.proofs.Common.{◌≡◌, ◌+◌, ◌*◌, arith}
use Rattle.bookfile.proofs.Columns.{column_more}
use Rattle.bookfile.proofs.writing.put_column.Goals as goal

pub loop-derivation-preserved : goal.loop-derivation-preserved
loop-derivation-preserved g c =
    let l = c.loop-derivation in
    let e : l.end ≡ c.args.at + 2 * l.derivation-index = l.invariant.0 in (
      omega (arith, c.put_word-end.ensures.end),
      λ f h. column_more f c.args.out.now l.out c.put_word-end.new.out c.args.at l.end l.derivation-index c.model.result c.args.derivations.now _
          c.loop-derivation-test.true c.requires.room e (l.invariant.1 f h) (h _ _ c.model.ensures) c.put_word-end.ensures.bytes,
    )
