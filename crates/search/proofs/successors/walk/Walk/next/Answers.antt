use Rattle.std.proofs.Common.{◌≡◌, ℕ, ◌+◌, List, ◌∷◌, length, take, drop, ap, ◌∙◌, arith}
use Rattle.std.proofs.lemmas.List.{drop_all, drop_more, get_or-take, length-take-le}
use Rattle.search.proofs.successors.walk.Walk.next.Goals as goal

pub returns-then-visited-self : goal.returns-then-visited-self
returns-then-visited-self c =
    let s = c.args.self.now in
    let l : length (take s.tail s.found) ≡ s.tail = length-take-le s.tail s.found (omega arith) in
    drop_all c.args.visited (take s.tail s.found) (omega arith)

pub returns : goal.returns
returns c =
    let s = c.args.self.now in
    let n = c.args.visited in
    let row : List ℕ = take s.tail s.found in
    let l : length row ≡ s.tail = length-take-le s.tail s.found (omega arith) in
    (omega arith, drop_more row n 0 (omega arith) ∙ ap (λ (x : ℕ). x ∷ drop (n + 1) row) (get_or-take s.tail s.found n 0 (omega arith)))
