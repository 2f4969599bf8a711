-- The last event that passes a test is of the last accepted call that counts as such an event.
use Rattle.std.proofs.Common.{◌≡◌, ℕ, Bool, true, false, eqb, ◌⊎◌, List, [], ◌∷◌, ◌++◌, reverse, is_some as option_is_some, Some, None, Ok, Err, Option, sym, refl, ap, ◌∙◌, subst, inl, inr, arith}
use mathlib.Core.List.{reverse_aux}
use Rattle.std.proofs.lemmas.Bool.{cases_Bool, cond-true, eq-eqb}
use Rattle.lineage.specs.Lists.{◌∈◌}
use Rattle.book.specs.declared.derivation.Derivation.{Derivation}
use Rattle.history.specs.declared.call.Call.{Call}
use Rattle.history.specs.declared.call.Call.TheVariants.{Enter, Strike, Index, Hold, Release, Order}
use Rattle.history.specs.Answers.{Answer, refused}
use Rattle.history.specs.Events.{Event, History, entered, struck, indexed, placed, released, counts_as, events, happened}
use Rattle.history.specs.Standing.{is, of_derivation, of_model, of_index, last, stands, held, holder, current, LastCall}
use Rattle.history.specs.Theorems.{ByTheLastCall}
use Rattle.history.proofs.Last.{itself, is_some, held_holder, last_of, of_last, by_the_last_event}

-- a list and its reverse have the same
in_turned : {A : Type 0} (x : A) (xs ys : List A) → (x ∈ xs) ⊎ (x ∈ ys) → x ∈ reverse_aux xs ys
in_turned x [] ys h = elim h [ inl i ↦ absurd i | inr i ↦ i ]
in_turned x (y ∷ xs) ys h = in_turned x xs (y ∷ ys) (elim h [ inl i ↦ elim i [ inl e ↦ inr (inl e) | inr j ↦ inl j ] | inr i ↦ inr (inr i) ])

turned_in : {A : Type 0} (x : A) (xs ys : List A) → x ∈ reverse_aux xs ys → (x ∈ xs) ⊎ (x ∈ ys)
turned_in x [] ys h = inr h
turned_in x (y ∷ xs) ys h = elim (turned_in x xs (y ∷ ys) h) [ inl i ↦ inl (inr i) | inr i ↦ elim i [ inl e ↦ inl (inl e) | inr j ↦ inr j ] ]

pub in_reverse : {A : Type 0} (x : A) (xs : List A) → x ∈ xs → x ∈ reverse xs
in_reverse x xs i = in_turned x xs [] (inl i)

reverse_in : {A : Type 0} (x : A) (xs : List A) → x ∈ reverse xs → x ∈ xs
reverse_in x xs i = elim (turned_in x xs [] i) [ inl j ↦ j | inr j ↦ absurd j ]

module _ (speaks : Event → Bool) where
  last_in : (xs : List Event) (e : Event) → last speaks xs ≡ Some e → e ∈ xs
  last_in [] e p = cc
  last_in (x ∷ xs) e p =
      elim (cases_Bool (speaks x)) [
        | inl t ↦ inl (let r = cond-true (speaks x) (Some x) (last speaks xs) t in cc)
        | inr t ↦ inr (last_in xs e (rw t at p))
      ]

  -- none passes exactly if the last that passes is none
  last_none : (xs : List Event) → last speaks xs ≡ None → (f : Event) → f ∈ xs → speaks f ≡ false
  last_none [] p f i = absurd i
  last_none (x ∷ xs) p f i =
      elim (cases_Bool (speaks x)) [
        | inl t ↦ let r = cond-true (speaks x) (Some x) (last speaks xs) t in cc
        | inr t ↦ elim i [ inl e ↦ cc | inr j ↦ last_none xs (rw t at p) f j ]
      ]

  -- in two lists joined
  last_left : (xs ys : List Event) (e : Event) → last speaks xs ≡ Some e → last speaks (xs ++ ys) ≡ Some e
  last_left [] ys e p = cc
  last_left (x ∷ xs) ys e p = grind (arith, last_left xs ys e)

  last_right : (xs ys : List Event) → ((f : Event) → f ∈ xs → speaks f ≡ false) → last speaks (xs ++ ys) ≡ last speaks ys
  last_right [] ys s = refl
  last_right (x ∷ xs) ys s = rw (s x (inl refl)) (last_right xs ys (λ f i. s f (inr i)))

  -- a call of which e is the last event that passes, and with which the search ends
  record Found (h : History) (e : Event) : Type 0 where
    pub call : Call
    pub found : last speaks (reverse (counts_as call)) ≡ Some e
    pub newest : LastCall speaks h call

  found_later : (h : History) (e : Event) (made : Call × Answer) → (refused made.1 ≡ None → (f : Event) → f ∈ counts_as made.0 → speaks f ≡ false) → Found h e → Found (made ∷ h) e
  found_later h e made s w = record {
    call = w.call;
    found = w.found;
    newest = record {
      after = made ∷ w.newest.after;
      before = w.newest.before;
      answer = w.newest.answer;
      whole = ap (λ (x : History). made ∷ x) w.newest.whole;
      accepted = w.newest.accepted;
      passes = w.newest.passes;
      silent = λ c a f i r j. elim i [
        | inl q ↦ s (ap (λ (x : Call × Answer). refused x.1) q ∙ r) f (subst (λ (x : Call × Answer). f ∈ counts_as x.0) (sym q) j)
        | inr k ↦ w.newest.silent c a f k r j
      ];
    };
  }

  found_here : (h : History) (e : Event) (call : Call) (a : Answer) → refused a ≡ None → last speaks (reverse (counts_as call)) ≡ Some e → Found ((call, a) ∷ h) e
  found_here h e call a r p = record {
    call = call;
    found = p;
    newest = record {
      after = [];
      before = h;
      answer = a;
      whole = refl;
      accepted = r;
      passes = (e, reverse_in e (counts_as call) (last_in (reverse (counts_as call)) e p), (last_of speaks (reverse (counts_as call)) e p).passes);
      silent = λ c b f i q j. absurd i;
    };
  }

  find_in : (h : History) (e : Event) (call : Call) (a : Answer) (o : Option Event) → refused a ≡ None → last speaks (reverse (counts_as call)) ≡ o
      → last speaks (reverse (counts_as call) ++ happened h) ≡ Some e → (last speaks (happened h) ≡ Some e → Found h e) → Found ((call, a) ∷ h) e
  find_in h e call a None r q p rest =
      let s = last_none (reverse (counts_as call)) q in
      found_later h e (call, a) (λ t f i. s f (in_reverse f (counts_as call) i)) (rest (sym (last_right (reverse (counts_as call)) (happened h) s) ∙ p))
  find_in h e call a (Some x) r q p rest =
      let z : x ≡ e = let y = last_left (reverse (counts_as call)) (happened h) x q in cc in
      found_here h e call a r (q ∙ ap Some z)

  find : (h : History) (e : Event) → last speaks (happened h) ≡ Some e → Found h e
  find [] e p = cc
  find ((call, Ok o) ∷ h) e p = find_in h e call (Ok o) (last speaks (reverse (counts_as call))) refl refl p (find h e)
  find ((call, Err f) ∷ h) e p = found_later h e (call, Err f) (λ t. cc) (find h e p)

  -- and back
  past_silent : (after before : History) → ((c : Call) (a : Answer) (f : Event) → (c, a) ∈ after → refused a ≡ None → f ∈ counts_as c → speaks f ≡ false)
      → last speaks (happened (after ++ before)) ≡ last speaks (happened before)
  past_silent [] before s = refl
  past_silent ((call, Ok o) ∷ after) before s =
      last_right (reverse (counts_as call)) (happened (after ++ before)) (λ f i. s call (Ok o) f (inl refl) refl (reverse_in f (counts_as call) i))
      ∙ past_silent after before (λ c a f i. s c a f (inr i))
  past_silent ((call, Err g) ∷ after) before s = past_silent after before (λ c a f i. s c a f (inr i))

  accepted_events : (call : Call) (a : Answer) → refused a ≡ None → events call a ≡ counts_as call
  accepted_events call (Ok o) e = refl
  accepted_events call (Err f) e = cc

  found_last : (h : History) (e : Event) (call : Call) → last speaks (reverse (counts_as call)) ≡ Some e → LastCall speaks h call → last speaks (happened h) ≡ Some e
  found_last h e call p l =
      ap (λ (x : History). last speaks (happened x)) l.whole
      ∙ past_silent l.after ((call, l.answer) ∷ l.before) l.silent
      ∙ ap (λ (es : List Event). last speaks (reverse es ++ happened l.before)) (accepted_events call l.answer l.accepted)
      ∙ last_left (reverse (counts_as call)) (happened l.before) e p

-- which call counts as an entry, as a hold, as an indexing
apart_from : {A : Type 0} (x y : Event) → (x ∈ (y ∷ [])) → (y ≡ x → A) → A
apart_from x y i f = elim i [ inl e ↦ f e | inr j ↦ absurd j ]

enters : (call : Call) (d : Derivation) → entered d ∈ counts_as call → call ≡ Enter d
enters (Enter c) d i = apart_from (entered d) (entered c) i (λ e. let z : c ≡ d = cc in ap Enter z)
enters (Strike c) d i = apart_from (entered d) (struck c) i (λ e. cc)
enters (Index w) d i = apart_from (entered d) indexed i (λ e. cc)
enters (Hold m p) d i = apart_from (entered d) (placed m p) i (λ e. cc)
enters (Release m p) d i = apart_from (entered d) (released m) i (λ e. cc)
enters (Order m) d i = absurd i

holds : (call : Call) (x q : ℕ) → placed x q ∈ counts_as call → call ≡ Hold x q
holds (Enter c) x q i = apart_from (placed x q) (entered c) i (λ e. cc)
holds (Strike c) x q i = apart_from (placed x q) (struck c) i (λ e. cc)
holds (Index w) x q i = apart_from (placed x q) indexed i (λ e. cc)
holds (Hold m p) x q i = apart_from (placed x q) (placed m p) i (λ e. let y : m ≡ x = cc in let z : p ≡ q = cc in λ j. Hold (y j) (z j))
holds (Release m p) x q i = apart_from (placed x q) (released m) i (λ e. cc)
holds (Order m) x q i = absurd i

indexes : (call : Call) → indexed ∈ counts_as call → (work : ℕ) × (call ≡ Index work)
indexes (Enter c) i = apart_from indexed (entered c) i (λ e. cc)
indexes (Strike c) i = apart_from indexed (struck c) i (λ e. cc)
indexes (Index w) i = (w, refl)
indexes (Hold m p) i = apart_from indexed (placed m p) i (λ e. cc)
indexes (Release m p) i = apart_from indexed (released m) i (λ e. cc)
indexes (Order m) i = absurd i

found_in : (speaks : Event → Bool) (h : History) (e : Event) (w : Found speaks h e) → e ∈ counts_as w.call
found_in speaks h e w = reverse_in e (counts_as w.call) (last_in speaks (reverse (counts_as w.call)) e w.found)

module _ (h : History) where
  stands_call : (u v : ℕ) → stands (happened h) u v ≡ true → LastCall (of_derivation u v) h (Enter (record { from = u; to = v }))
  stands_call u v t =
      let d : Derivation = record { from = u; to = v } in
      let w = find (of_derivation u v) h (entered d) (of_last (of_derivation u v) (happened h) (entered d) ((by_the_last_event.stands (happened h) u v).0 t)) in
      subst (LastCall (of_derivation u v) h) (enters w.call d (found_in (of_derivation u v) h (entered d) w)) w.newest

  call_stands : (u v : ℕ) → LastCall (of_derivation u v) h (Enter (record { from = u; to = v })) → stands (happened h) u v ≡ true
  call_stands u v l =
      let d : Derivation = record { from = u; to = v } in
      (by_the_last_event.stands (happened h) u v).1 (last_of (of_derivation u v) (happened h) (entered d)
      (found_last (of_derivation u v) h (entered d) (Enter d) (cond-true (is d u v) (Some (entered d)) None (itself u v)) l))

  holder_call : (m p : ℕ) → holder (happened h) m ≡ Some p → LastCall (of_model m) h (Hold m p)
  holder_call m p t =
      let w = find (of_model m) h (placed m p) (of_last (of_model m) (happened h) (placed m p) ((by_the_last_event.holder (happened h) m p).0 t)) in
      subst (LastCall (of_model m) h) (holds w.call m p (found_in (of_model m) h (placed m p) w)) w.newest

  call_holder : (m p : ℕ) → LastCall (of_model m) h (Hold m p) → holder (happened h) m ≡ Some p
  call_holder m p l =
      (by_the_last_event.holder (happened h) m p).1 (last_of (of_model m) (happened h) (placed m p)
      (found_last (of_model m) h (placed m p) (Hold m p) (cond-true (eqb m m) (Some (placed m p)) None (eq-eqb m m refl)) l))

  held_call : (m : ℕ) → held (happened h) m ≡ true → (p : ℕ) × LastCall (of_model m) h (Hold m p)
  held_call m t = let o = is_some (holder (happened h) m) (sym (held_holder (happened h) m) ∙ t) in (o.0, holder_call m o.0 o.1)

  call_held : (m : ℕ) → (p : ℕ) × LastCall (of_model m) h (Hold m p) → held (happened h) m ≡ true
  call_held m l = held_holder (happened h) m ∙ ap option_is_some (call_holder m l.0 l.1)

  current_call : current (happened h) ≡ true → (work : ℕ) × LastCall of_index h (Index work)
  current_call t =
      let w = find of_index h indexed (of_last of_index (happened h) indexed ((by_the_last_event.current (happened h)).0 t)) in
      let c = indexes w.call (found_in of_index h indexed w) in
      (c.0, subst (LastCall of_index h) c.1 w.newest)

  call_current : (work : ℕ) × LastCall of_index h (Index work) → current (happened h) ≡ true
  call_current l = (by_the_last_event.current (happened h)).1 (last_of of_index (happened h) indexed (found_last of_index h indexed (Index l.0) refl l.1))

pub by_the_last_call : ByTheLastCall
by_the_last_call = record {
  stands = λ h u v. (stands_call h u v, call_stands h u v);
  held = λ h m. (held_call h m, call_held h m);
  holder = λ h m p. (holder_call h m p, call_holder h m p);
  current = λ h. (current_call h, call_current h);
}
