-- What finding, adding and removing tell, and what the memory holds then.
use Rattle.std.specs.Prelude.{◌≡◌, ℕ, suc, pred, ◌<◌, ◌≤◌, true, false, cond, List, ◌++◌, length, take, drop, is_ok, Some, None, Ok, Err, Option, Result, nat_le, nat_lt}
use Rattle.std.specs.declared.cmp.Ordering.{Ordering}
use Rattle.std.specs.List as list
use Rattle.std.specs.List.{Contains, HoldsAt}
use Rattle.std.specs.Result.{result_ok}
use Rattle.rising.specs.declared.lent.NotAdded.{NotAdded}
use Rattle.rising.specs.declared.lent.NotAdded.TheVariants.{StandsAlready, Full}
use Rattle.rising.specs.declared.lent.NotThere.{NotThere}
use Rattle.rising.specs.Lists.{Sound, stands, insert, delete}
use Rattle.rising.specs.Halving.{halving}

-- how many keys the list has after
abbrev pub longer : Result (Unit {0}) NotAdded → ℕ → ℕ
longer told n = cond (is_ok told) (suc n) n

abbrev pub shorter : Result (Unit {0}) NotThere → ℕ → ℕ
shorter told n = cond (is_ok told) (pred n) n

-- a place is where k stands, and none says that k is not there
abbrev pub Finds : {K : Type 0} → List K → K → Option ℕ → Type 0
Finds xs k (Some i) = (i < length xs) × HoldsAt (λ y. y ≡ k) xs i
Finds xs k None = Contains xs k → ⊥

module _ {K : Type 0} (cmp : K → K → Ordering) where
  -- what adding k to a rising list with room for so many keys tells
  abbrev pub adding : List K → ℕ → K → Result (Unit {0}) NotAdded
  adding xs room k = cond (stands cmp xs k) (Err StandsAlready) (cond (nat_lt (length xs) room) (Ok tt) (Err Full))

  -- what removing k from a rising list tells
  abbrev pub removing : List K → K → Result (Unit {0}) NotThere
  removing xs k = cond (stands cmp xs k) (Ok tt) (Err (record {}))

  -- of a memory whose first n rise: what is told, the list after, and the memory after
  pub record Adds (was : List K) (n : ℕ) (k : K) (told : Result (Unit {0}) NotAdded) (mem : List K) : Type 0 where
    pub tells : told ≡ adding (take n was) (length was) k
    pub list : take (longer told n) mem ≡ cond (is_ok told) (insert cmp (take n was) k) (take n was)
    pub memory : mem ≡ cond (is_ok told) (insert cmp (take n was) k ++ drop (suc n) was) was
    pub sound : Sound cmp mem (longer told n)

  pub record Removes (was : List K) (n : ℕ) (k : K) (told : Result (Unit {0}) NotThere) (mem : List K) : Type 0 where
    pub tells : told ≡ removing (take n was) k
    pub list : take (shorter told n) mem ≡ cond (is_ok told) (delete cmp (take n was) k) (take n was)
    pub memory : mem ≡ cond (is_ok told) (delete cmp (take n was) k ++ drop (pred n) was) was
    pub sound : Sound cmp mem (shorter told n)

  -- where the halving search meets k among the first n of any memory; with n past its end k is not met
  abbrev pub FindsAnywhere : List K → ℕ → K → Option ℕ → Type 0
  FindsAnywhere mem n k found = found ≡ cond (nat_le n (length mem)) (result_ok (halving cmp (take n mem) k)) None

  -- where the search ends among the first n of any memory, if it does not meet k and there is room for k
  abbrev pub Gap : List K → ℕ → K → Result ℕ NotAdded → Type 0
  Gap mem n k (Ok at) = (n < length mem) × (halving cmp (take n mem) k ≡ Err at)
  Gap mem n k (Err StandsAlready) = (n ≤ length mem) × (is_ok (halving cmp (take n mem) k) ≡ true)
  Gap mem n k (Err Full) = (length mem ≤ n) × (n ≡ length mem → is_ok (halving cmp (take n mem) k) ≡ false)

  -- of any memory: k goes where the search ends, or what it meets is taken out, or nothing changes
  abbrev pub AddsAnywhere : List K → ℕ → K → Result (Unit {0}) NotAdded → List K → Type 0
  AddsAnywhere was n k (Ok u) mem = (at : ℕ) × Gap was n k (Ok at) × (mem ≡ list.insert (take n was) at k ++ drop (suc n) was)
  AddsAnywhere was n k (Err e) mem = Gap was n k (Err e) × (mem ≡ was)

  abbrev pub RemovesAnywhere : List K → ℕ → K → Result (Unit {0}) NotThere → List K → Type 0
  RemovesAnywhere was n k (Ok u) mem = (at : ℕ) × FindsAnywhere was n k (Some at) × (mem ≡ list.remove (take n was) at ++ drop (pred n) was)
  RemovesAnywhere was n k (Err e) mem = FindsAnywhere was n k None × (mem ≡ was)
