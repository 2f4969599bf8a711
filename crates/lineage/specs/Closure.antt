-- Links i → [j, k), the transitive link table T of any list of links, and the counts in it. Assumes nothing.
use Rattle.std.specs.Prelude.{ℕ, ◌<◌, ◌≤◌, Bool, cond, ◌&&◌, ◌||◌, ltb, List, map, length, Some, None, filter, Option, ◌==◌, nat_le, nat_lt, slice_index, slice_index_or}
use Rattle.std.specs.List.{range_with_len}
use Rattle.lineage.specs.Finite.{those, via}
use Rattle.lineage.specs.Lists.{◌∈◌, gathered, sorted}

-- A link: from i to the interval [j, k), where j is its start and k its end.
pub record Link : Type 0 where
  pub from : ℕ
  pub start : ℕ
  pub end : ℕ

-- i → [j, k)
abbrev pub arrow : ℕ → ℕ → ℕ → Link
arrow i j k = record { from = i; start = j; end = k }

-- y lies in the interval that the link goes to.
abbrev pub covers : Link → ℕ → Bool
covers l y = nat_le l.start y && nat_lt y l.end

-- The order of links: by i, then by j, then by k.
abbrev pub below : Link → Link → Bool
below l m = nat_lt l.from m.from || (l.from == m.from && (nat_lt l.start m.start || (l.start == m.start && nat_lt l.end m.end)))

-- The links f a b for the pairs of numbers below n that pass a test, rising, each once.
abbrev pub listed : ℕ → (ℕ → ℕ → Bool) → (ℕ → ℕ → Link) → List Link
listed n P f = sorted below (gathered (λ a. map (f a) (those n (P a))) (range_with_len 0 n))

-- T of a list of links: the least set that has them and, with i → [j, k) and i' → [j', k') where i' lies in [j, k), also i → [j', k').
pub data InT (L : List Link) : ℕ → ℕ → ℕ → Type 0 where
  linked : {i j k : ℕ} → arrow i j k ∈ L → InT L i j k
  joined : {i j k i' j' k' : ℕ} → InT L i j k → InT L i' j' k' → j ≤ i' → i' < k → InT L i j' k'

module _ (L : List Link) where
  -- the link at a place, from 0
  abbrev pub at : ℕ → Link
  at p = slice_index_or L p (arrow 0 0 0)

  -- the link at p goes on by the link at q: the second comes from the interval that the first goes to
  unfoldable pub onward : ℕ → ℕ → Bool
  onward p q = nat_lt p (length L) && nat_lt q (length L) && covers (at p) (at q).from

  -- the link at p reaches the link at q by going on, itself too
  abbrev pub reaches : ℕ → ℕ → Bool
  reaches p q = via (length L) onward p q

  -- from where the link at p comes to where the link at q goes
  abbrev pub spanned : ℕ → ℕ → Link
  spanned p q = arrow (at p).from (at q).start (at q).end

  -- T, computed
  unfoldable pub T : List Link
  T = listed (length L) reaches spanned

  -- N(x, y): how many members i → [j, k) of T have i ≥ x and y in [j, k)
  unfoldable pub N : ℕ → ℕ → ℕ
  N x y = length (filter (λ l. nat_le x l.from && covers l y) T)

  -- X and Y: the i and the j of the members of T, rising, each once
  unfoldable pub X : List ℕ
  X = sorted ltb (map (λ l. l.from) T)

  unfoldable pub Y : List ℕ
  Y = sorted ltb (map (λ l. l.start) T)

  -- the matrix at the places p of X and q of Y; 0 outside
  unfoldable pub matrix : ℕ → ℕ → ℕ
  matrix p q = cond (nat_lt p (length X) && nat_lt q (length Y)) (N (slice_index X p) (slice_index Y q)) 0

  -- the cell at two places of which either may be missing; 0 where one is
  unfoldable pub cell : Option ℕ → Option ℕ → ℕ
  cell None q = 0
  cell (Some p) None = 0
  cell (Some p) (Some q) = matrix p q
