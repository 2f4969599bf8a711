-- Files that are longer than any that is answered: their fronts meet the same refusal.
use Rattle.std.proofs.Common.{◌≡◌, ℕ, ◌+◌, ◌*◌, ◌<◌, Bool, true, false, cond, List, [], ◌∷◌, length, take, drop, Some, None, Option, nat_lt, ◌==◌, refl, sym, ap, ◌∙◌, inl, inr, arith}
use Rattle.std.proofs.lemmas.Bool.{cases_lt, lt-ltb, ne_eqb}
use Rattle.std.proofs.lemmas.List.{take_all, length-take-le}
use Rattle.std.specs.Option.{option_map}
use Rattle.book.specs.Counts.{count_refusal}
use Rattle.book.specs.Refusals.{first}
use Rattle.bookfile.specs.declared.refusal.FileRefusal.{FileRefusal}
use Rattle.bookfile.specs.declared.refusal.FileRefusal.TheVariants.{Book as OfBook, WrongLength, TooMany}
use Rattle.bookfile.specs.Files.{derivations}
use Rattle.bookfile.specs.Table.{places_refusal, sizes_refusal, file_refusal}
use Rattle.orderfile.specs.declared.day.DayFault.{DayFault}
use Rattle.orderfile.specs.declared.day.DayFault.TheVariants.{Book, OrdersTooLong}
use Rattle.orderfile.specs.Days.{day_fault, day_replies, fault_text, printed, printed_by}
use Rattle.folder.specs.Fronts.{DecidesBook, DecidesOrders}

-- one of two refusals that are never none
told : {E : Type 0} (o : Option E) (b : Bool) (d e : E) → (f : E) × (first o (cond b (Some d) (Some e)) ≡ Some f)
told (Some f) b d e = (f, refl)
told None true d e = (d, refl)
told None false d e = (e, refl)

-- behind the two sizes stand more bytes than any book file has there: the count decides, then the number of derivations, then the length
long_sizes : (n len : ℕ) (rest : List ℕ) → 8192 < length rest
    → sizes_refusal n len rest ≡ first (option_map OfBook (count_refusal n)) (cond (nat_lt 2048 len) (Some TooMany) (Some WrongLength))
long_sizes n len rest h =
    let counted = option_map OfBook (count_refusal n) in
    let places = places_refusal n None (derivations (take (2 * len) rest) (drop (2 * len) rest)) in
    elim (cases_lt 2048 len) [
      | inl many ↦
          ap (λ (b : Bool). first counted (cond b (Some TooMany) (cond (length rest == 4 * len) places (Some WrongLength)))) (lt-ltb 2048 len many)
          ∙ sym (ap (λ (b : Bool). first counted (cond b (Some TooMany) (Some WrongLength))) (lt-ltb 2048 len many))
      | inr few ↦ ap (λ (b : Bool). first counted (cond (nat_lt 2048 len) (Some TooMany) (cond b places (Some WrongLength)))) (ne_eqb (length rest) (4 * len) (λ q. absurd (omega arith)))
    ]

-- a file of more bytes than any book file has is refused, and so is its front
long_refused : (book : List ℕ) → 8197 < length book → (e : FileRefusal) × (file_refusal book ≡ Some e) × (file_refusal (take 8197 book) ≡ Some e)
long_refused [] h = absurd (omega arith)
long_refused (a ∷ []) h = absurd (omega arith)
long_refused (a ∷ (b ∷ [])) h = absurd (omega arith)
long_refused (a ∷ (b ∷ (c ∷ []))) h = absurd (omega arith)
long_refused (a ∷ (b ∷ (c ∷ (d ∷ rest)))) h =
    let n = a + 256 * b in
    let len = c + 256 * d in
    let long : 8193 < length rest = omega arith in
    let front : length (take 8193 rest) ≡ 8193 = length-take-le 8193 rest (omega arith) in
    let t = told (option_map OfBook (count_refusal n)) (nat_lt 2048 len) TooMany WrongLength in
    (t.0, long_sizes n len rest (omega arith) ∙ t.1, long_sizes n len (take 8193 rest) (omega arith) ∙ t.1)

-- a day with a fault prints the fault, whatever the rest of its files is
prints_fault : (capacity work : ℕ) (book orders : List ℕ) (e : DayFault) → day_fault book orders ≡ Some e → printed capacity work book orders ≡ fault_text e
unfolding printed
prints_fault capacity work book orders e h = ap (λ (o : Option DayFault). printed_by o (day_replies capacity work book orders)) h

pub book_decides : DecidesBook 8197
book_decides capacity work book orders =
    elim (cases_lt 8197 (length book)) [
      | inl long ↦
          let r = long_refused book long in
          let late = cond (nat_lt 32768 (length orders)) (Some OrdersTooLong) None in
          prints_fault capacity work (take 8197 book) orders (Book r.0) (ap (λ (o : Option FileRefusal). first (option_map Book o) late) r.2)
          ∙ sym (prints_fault capacity work book orders (Book r.0) (ap (λ (o : Option FileRefusal). first (option_map Book o) late) r.1))
      | inr short ↦ ap (λ (bytes : List ℕ). printed capacity work bytes orders) (take_all 8197 book short)
    ]

-- an order file of more bytes than any that is answered is too long, unless the book is refused
long_orders : (book orders : List ℕ) → 32768 < length orders → day_fault book orders ≡ first (option_map Book (file_refusal book)) (Some OrdersTooLong)
long_orders book orders h = ap (λ (b : Bool). first (option_map Book (file_refusal book)) (cond b (Some OrdersTooLong) None)) (lt-ltb 32768 (length orders) h)

pub orders_decide : DecidesOrders 32769
orders_decide capacity work book orders =
    elim (cases_lt 32769 (length orders)) [
      | inl long ↦
          let front : length (take 32769 orders) ≡ 32769 = length-take-le 32769 orders (omega arith) in
          let t = told (option_map Book (file_refusal book)) true OrdersTooLong OrdersTooLong in
          prints_fault capacity work book (take 32769 orders) t.0 (long_orders book (take 32769 orders) (omega arith) ∙ t.1)
          ∙ sym (prints_fault capacity work book orders t.0 (long_orders book orders (omega arith) ∙ t.1))
      | inr short ↦ ap (λ (bytes : List ℕ). printed capacity work book bytes) (take_all 32769 orders short)
    ]
