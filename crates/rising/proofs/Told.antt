-- What finding, adding and removing by the halving search come to where the list rises.
use Rattle.std.proofs.Common.{◌≡◌, ℕ, suc, pred, ◌-◌, ◌<◌, ◌≤◌, Bool, true, false, cond, List, ◌++◌, length, take, drop, is_ok, Some, None, Ok, Err, Option, Result, Ordering, sym, refl, ap, ◌∙◌, subst, arith, length-append, length-drop}
use Rattle.std.specs.List as list
use Rattle.std.specs.Result.{result_ok}
use Rattle.std.proofs.lemmas.List.{take_at, length-take-le}
use Rattle.std.proofs.lemmas.Bool.{lt-ltb, le-ltb, le-leb, both_ways}
use Rattle.std.proofs.lemmas.Grind.{common_steps}
use Rattle.rising.specs.declared.lent.NotAdded.{NotAdded}
use Rattle.rising.specs.declared.lent.NotAdded.TheVariants.{StandsAlready, Full}
use Rattle.rising.specs.declared.lent.NotThere.{NotThere}
use Rattle.rising.specs.Order.{Order}
use Rattle.rising.specs.Lists.{rising, Sound, place, stands, insert, delete, sought}
use Rattle.rising.specs.Halving.{halving}
use Rattle.rising.specs.Outcomes.{Finds, FindsAnywhere, Adds, Removes, AddsAnywhere, RemovesAnywhere}
use Rattle.rising.proofs.Place.{rises_from_rising, rising_from_rises, stands_within}
use Rattle.rising.proofs.Search.{seeks}
use Rattle.rising.proofs.Edits.{insert_inserted, delete_removed, length_insert, length_delete, insert_rises, delete_rises, stands_is}
use Rattle.rising.proofs.Keys.{standing}

-- what the answer of the search says of a list where k stands at p, or would
missing : (b : Bool) (at p : ℕ) → ◌≡◌ {A = Result ℕ ℕ} (cond b (Ok p) (Err p)) (Err at) → (b ≡ false) × (at ≡ p)
missing b at p e = grind (arith, common_steps)

there : (b : Bool) (at p : ℕ) → Some at ≡ result_ok {E = ℕ} (cond b (Ok p) (Err p)) → (b ≡ true) × (at ≡ p)
there b at p e = grind (arith, common_steps)

nowhere : (b : Bool) (p : ℕ) → None ≡ result_ok {E = ℕ} (cond b (Ok p) (Err p)) → b ≡ false
nowhere b p e = grind (arith, common_steps)

is_there : (b : Bool) (p : ℕ) → is_ok {E = ℕ} (cond b (Ok p) (Err p)) ≡ b
is_there b p = grind (arith, common_steps)

-- the search of a part from the start, as a call of it reads
pub of_front : {K : Type 0} (cmp : K → K → Ordering) (mem : List K) (n : ℕ) (k : K) (v : Result ℕ ℕ) → v ≡ halving cmp (take (n - 0) mem) k → halving cmp (take n mem) k ≡ v
of_front cmp mem n k v e = let z : n - 0 ≡ n = omega arith in sym (rw z at e)

module _ {K : Type 0} (cmp : K → K → Ordering) (order : Order cmp) where
  pub halving_seeks : (xs : List K) (k : K) → rising cmp xs ≡ true → halving cmp xs k ≡ sought cmp xs k
  halving_seeks xs k h = seeks cmp order xs k (rises_from_rising cmp order xs h)

  -- the search ends at a key exactly if it stands
  ends_there : (xs : List K) (k : K) → rising cmp xs ≡ true → is_ok (halving cmp xs k) ≡ stands cmp xs k
  ends_there xs k h = ap is_ok (halving_seeks xs k h) ∙ is_there (stands cmp xs k) (place cmp xs k)

  found : (xs : List K) (k : K) (b : Bool) (r : Option ℕ) → rising cmp xs ≡ true → stands cmp xs k ≡ b → r ≡ result_ok {E = ℕ} (cond b (Ok (place cmp xs k)) (Err (place cmp xs k))) → Finds xs k r
  found xs k true r h s e = subst (Finds xs k) (sym e) (stands_within cmp xs k s, λ d. stands_is cmp order xs k d s)
  found xs k false r h s e = subst (Finds xs k) (sym e) (λ m. both_ways (stands cmp xs k) s ((standing cmp order xs k h).1 m))

  pub finds : (xs : List K) (k : K) (r : Option ℕ) → r ≡ result_ok (halving cmp xs k) → rising cmp xs ≡ true → Finds xs k r
  finds xs k r e h = found xs k (stands cmp xs k) r h refl (e ∙ ap result_ok (halving_seeks xs k h))

  -- of a memory whose first n are a list, the search goes over the list
  over_list : (was : List K) (n : ℕ) (k : K) (r : Option ℕ) → Sound cmp was n → FindsAnywhere cmp was n k r → r ≡ result_ok (sought cmp (take n was) k)
  over_list was n k r sound e =
      e
      ∙ ap (λ (b : Bool). cond b (result_ok (halving cmp (take n was) k)) None) (le-leb n (length was) sound.fits)
      ∙ ap result_ok (halving_seeks (take n was) k sound.rises)

  pub finds_front : (was : List K) (n : ℕ) (k : K) (r : Option ℕ) → FindsAnywhere cmp was n k r → Sound cmp was n → Finds (take n was) k r
  finds_front was n k r e sound =
      finds (take n was) k r (over_list was n k r sound e ∙ ap result_ok (sym (halving_seeks (take n was) k sound.rises))) sound.rises

  pub adds : (was : List K) (n : ℕ) (k : K) (told : Result (Unit {0}) NotAdded) (mem : List K) → AddsAnywhere cmp was n k told mem → Sound cmp was n → Adds cmp was n k told mem
  adds was n k (Ok u) mem a sound =
      let xs = take n was in
      let up = rises_from_rising cmp order xs sound.rises in
      let m = missing (stands cmp xs k) a.0 (place cmp xs k) (sym (halving_seeks xs k sound.rises) ∙ a.1.1) in
      let l : length xs ≡ n = length-take-le n was sound.fits in
      let h : n < length was = a.1.0 in
      let w : mem ≡ insert cmp xs k ++ drop (suc n) was = a.2 ∙ ap (λ (i : ℕ). list.insert xs i k ++ drop (suc n) was) m.1 ∙ ap (λ (t : List K). t ++ drop (suc n) was) (sym (insert_inserted cmp xs k m.0)) in
      let t : take (suc n) mem ≡ insert cmp xs k = ap (take (suc n)) w ∙ take_at (insert cmp xs k) (drop (suc n) was) (suc n) (length_insert cmp xs k m.0 ∙ ap suc l) in
      let room : length mem ≡ length was = omega (arith, simp (length-append, length-drop) at (ap length w), length_insert cmp xs k m.0) in
      record {
        tells = rw (m.0, lt-ltb (length xs) (length was) (omega arith)) refl;
        list = t;
        memory = w;
        sound = record { fits = omega arith; rises = ap (rising cmp) t ∙ rising_from_rises cmp (insert cmp xs k) (insert_rises cmp order xs k up) };
      }
  adds was n k (Err StandsAlready) mem a sound =
      let s : stands cmp (take n was) k ≡ true = sym (ends_there (take n was) k sound.rises) ∙ a.0.1 in
      record { tells = rw s refl; list = ap (take n) a.1; memory = a.1; sound = subst (λ (m : List K). Sound cmp m n) (sym a.1) sound }
  adds was n k (Err Full) mem a sound =
      let f : n ≤ length was = sound.fits in
      let g : length was ≤ n = a.0.0 in
      let l : length (take n was) ≡ n = length-take-le n was f in
      let s : stands cmp (take n was) k ≡ false = sym (ends_there (take n was) k sound.rises) ∙ a.0.1 (omega arith) in
      record {
        tells = rw (s, le-ltb (length (take n was)) (length was) (omega arith)) refl;
        list = ap (take n) a.1;
        memory = a.1;
        sound = subst (λ (m : List K). Sound cmp m n) (sym a.1) sound;
      }

  pub removes : (was : List K) (n : ℕ) (k : K) (told : Result (Unit {0}) NotThere) (mem : List K) → RemovesAnywhere cmp was n k told mem → Sound cmp was n → Removes cmp was n k told mem
  removes was n k (Ok u) mem a sound =
      let xs = take n was in
      let up = rises_from_rising cmp order xs sound.rises in
      let m = there (stands cmp xs k) a.0 (place cmp xs k) (over_list was n k (Some a.0) sound a.1) in
      let l : length xs ≡ n = length-take-le n was sound.fits in
      let f : n ≤ length was = sound.fits in
      let w : mem ≡ delete cmp xs k ++ drop (pred n) was = a.2 ∙ ap (λ (i : ℕ). list.remove xs i ++ drop (pred n) was) m.1 ∙ ap (λ (t : List K). t ++ drop (pred n) was) (sym (delete_removed cmp xs k m.0)) in
      let c : length (delete cmp xs k) ≡ pred n = omega (arith, length_delete cmp xs k m.0) in
      let t : take (pred n) mem ≡ delete cmp xs k = ap (take (pred n)) w ∙ take_at (delete cmp xs k) (drop (pred n) was) (pred n) c in
      let some = stands_within cmp xs k m.0 in
      let room : length mem ≡ length was = omega (arith, simp (length-append, length-drop) at (ap length w), c) in
      let fits : pred n ≤ length mem = omega arith in
      record {
        tells = rw m.0 refl;
        list = t;
        memory = w;
        sound = record { fits = fits; rises = ap (rising cmp) t ∙ rising_from_rises cmp (delete cmp xs k) (delete_rises cmp xs k up) };
      }
  removes was n k (Err e) mem a sound =
      let s : stands cmp (take n was) k ≡ false = nowhere (stands cmp (take n was) k) (place cmp (take n was) k) (over_list was n k None sound a.0) in
      record { tells = rw s refl; list = ap (take n) a.1; memory = a.1; sound = subst (λ (m : List K). Sound cmp m n) (sym a.1) sound }
