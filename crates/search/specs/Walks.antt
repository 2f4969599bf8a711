-- The models that a walk has found, in the order in which it found them.
use Rattle.std.specs.Prelude.{ℕ, List, take, drop}
use Rattle.search.specs.declared.successors.walk.Walk.{Walk}

abbrev pub found_in : Walk → List ℕ
found_in w = take w.tail w.found

-- those that wait after the first n were visited
abbrev pub waiting : ℕ → Walk → List ℕ
waiting n w = drop n (found_in w)
