-- The count of models.
use Rattle.std.specs.Prelude.{◌≡◌, ℕ, cond, ◌||◌, Some, None, Ok, Err, Option, Result, nat_lt}
use Rattle.book.specs.declared.count.Count.{Count}
use Rattle.book.specs.declared.refusal.Refusal.{Refusal}
use Rattle.book.specs.declared.refusal.Refusal.TheVariants.{CountOutOfRange, NoSuchModel}

-- how many models there are
abbrev pub models : Count → ℕ
models c = c.models

-- a shop has from 1 to 1,024 models
abbrev pub count_refusal : ℕ → Option Refusal
count_refusal n = cond (nat_lt n 1 || nat_lt 1024 n) (Some CountOutOfRange) None

-- the models of a count of n are numbered below n
abbrev pub model_refusal : ℕ → ℕ → Option Refusal
model_refusal n m = cond (nat_lt m n) None (Some NoSuchModel)

-- a count is checked: that of n, or else the refusal
abbrev pub Counts : ℕ → Result Count Refusal → Type 0
Counts n (Ok c) = (count_refusal n ≡ None) × (models c ≡ n)
Counts n (Err e) = count_refusal n ≡ Some e
