use Rattle.std.proofs.Common.{arith}
use Rattle.bookfile.specs.Checked.{Accepts}
use Rattle.bookfile.proofs.Arrays.{Bytes}
use Rattle.bookfile.proofs.Walking.{sizes_front}
use Rattle.bookfile.proofs.Files.{words_answers, words_accepts, accepts_reads}
use Rattle.bookfile.proofs.checked.checking.check.Goals as goal

pub returns : goal.returns
returns c =
    let xs = c.args.bytes.now in
    let h : Bytes xs = λ i. omega (arith, c.type_inv.bytes i) in
    let k = sizes_front xs c.from_le_bytes-models.result c.from_le_bytes-len.result h c.in-len4-up.len_at_least c.from_le_bytes-models.ensures c.from_le_bytes-len.ensures in
    let a : Accepts xs c.check_sizes.result = words_accepts _ _ _ _ _ h k c.check_sizes.ensures in
    record { table = words_answers _ _ _ _ _ k c.check_sizes.ensures; accepts = a; reads = accepts_reads _ _ a }
