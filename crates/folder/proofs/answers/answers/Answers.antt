use Rattle.std.proofs.Common.{◌≡◌, ℕ, ◌≤◌, length, ap, ◌∙◌, arith, rules}
use Rattle.std.proofs.lemmas.Result.{IfOk-from_err}
use Rattle.orderfile.specs.Days.{printed}
use Rattle.folder.proofs.Buffers.{front_placed}
use Rattle.folder.proofs.answers.answers.Goals as goal

pub returns-in_err-out : goal.returns-in_err-out
returns-in_err-out g c = IfOk-from_err c.from_residual-in_err-out.result _ c.from_residual-in_err-out.ensures.0

pub returns : goal.returns
returns g c =
    let told = c.in-Ok.ensures.prints in
    let full : length c.as_mut_slice.result.now ≡ 32768 = search rules in
    let long : length c.as_mut_slice-2.result.now ≡ c.in_ok-out.out.len = c.as_mut_slice-2.ensures.len in
    let fits = told.2 in
    let low : c.in-Ok.len ≤ c.in_ok-out.out.len = omega arith in
    let text = printed g.I.Index.CAPACITY (length c.as_mut_slice.result.now) c.args.day.book.now c.args.day.orders.now in
    c.truncate.ensures.items
    ∙ front_placed text c.as_mut_slice-2.result.now c.answer_day.new.out _ c.in-Ok.len c.in_ok-out.out.len told.1 low told.3
    ∙ ap (λ (k : ℕ). printed g.I.Index.CAPACITY k c.args.day.book.now c.args.day.orders.now) full
