-- Whole runs of calls on a newly opened shop.
use Rattle.std.specs.Prelude.{◌≡◌, ℕ, ◌<◌, ◌≤◌, cond, List, [], ◌∷◌, ◌++◌, map, reverse, length, take, drop, Some, None, Option, ◌≢◌, nat_le}
use Rattle.lineage.specs.Lists.{◌∈◌}
use Rattle.index.specs.Meanings.{Meaning}
use Rattle.history.specs.declared.call.Call.{Call}
use Rattle.history.specs.declared.call.Call.TheVariants.{Enter, Strike, Index, Hold, Release, Order}
use Rattle.history.specs.Answers.{Answer, told}
use Rattle.history.specs.Events.{History}
use Rattle.history.specs.Table.{Refuses}
use Rattle.history.specs.Laws.{Law}
use Rattle.history.specs.Theorems.{calls, answers}
use Rattle.shop.specs.declared.running.Shop.{Shop}
use Rattle.shop.specs.Shops.{Keeps}

-- how many numbers of work space a call asks for
abbrev pub asks_for : Call → ℕ
asks_for (Enter d) = 0
asks_for (Strike d) = 0
asks_for (Index work) = work
asks_for (Hold m p) = 0
asks_for (Release m p) = 0
asks_for (Order m) = 0

-- any call, with so much work space lent: none if it asks for more, and then nothing is done
abbrev pub Serves : {X : Type 0} → (X → Meaning) → (X → Refuses) → Shop X → Call → ℕ → Option Answer → Shop X → Type 0
Serves meaning refuses s call lent None t = (lent < asks_for call) × (t ≡ s)
Serves meaning refuses s call lent (Some a) t = (asks_for call ≤ lent) × Keeps meaning refuses s call a t

-- the calls up to the first that asks for more than is lent
abbrev pub fitting : ℕ → List Call → List Call
fitting lent [] = []
fitting lent (c ∷ cs) = cond (nat_le (asks_for c) lent) (c ∷ fitting lent cs) []

-- a run over calls, on a shop of n models whose index has this capacity: k calls are made, as many as fit the work space and find a place among the answers
pub record Ran (capacity n lent : ℕ) (cs : List Call) (was : List Answer) (k : ℕ) (is : List Answer) : Type 0 where
  pub history : History
  pub calls : calls history ≡ reverse (fitting lent (take (length was) cs))
  pub many : length history ≡ k
  -- the answers in their order, and what is behind them as it was
  pub answers : is ≡ reverse (answers history) ++ drop k was
  pub law : Law n capacity history

-- no answer is refusal 8
abbrev pub NoneForSurplus : List Answer → Type 0
NoneForSurplus xs = (a : Answer) → a ∈ xs → (told a).number ≢ Some 8

-- two runs of k calls: if neither has a refusal 8, all answers are the same, as values, and in the number and the values that each stands for
pub record Agree (k : ℕ) (xs ys : List Answer) : Type 0 where
  pub values : NoneForSurplus (take k xs) → NoneForSurplus (take k ys) → take k xs ≡ take k ys
  pub told : NoneForSurplus (take k xs) → NoneForSurplus (take k ys) → map told (take k xs) ≡ map told (take k ys)
