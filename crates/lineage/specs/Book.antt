-- The notions of a book of n models, where R u v says that v was taken from u. Assumes nothing.
use Rattle.std.specs.Prelude.{ℕ, zero, suc, ◌+◌, ◌-◌, Bool, true, false, not, ◌&&◌, ◌||◌, leb, List, [], ◌∷◌, Some, None, Option, ◌==◌, nat_eq, nat_le, nat_lt}
use Rattle.lineage.specs.Finite.{any, total, count, least, those, via}
use Rattle.lineage.specs.Lists.{gathered, place}
use Rattle.lineage.specs.Closure.{Link, arrow, listed, X, Y, cell}

-- The test that a list of derivations (u, v) is.
abbrev pub among : List (ℕ × ℕ) → ℕ → ℕ → Bool
among [] u v = false
among (d ∷ ds) u v = (d.0 == u && d.1 == v) || among ds u v

module _ (n : ℕ) (R : ℕ → ℕ → Bool) where
  -- u leads to v: there is a chain of derivations from u to v
  unfoldable pub leads : ℕ → ℕ → Bool
  leads u v = via n R u v

  -- the group of u, by its lowest model: the least that u leads to and that leads to u; n where u is no model
  unfoldable pub group : ℕ → ℕ
  group u = least n (λ g. leads u g && leads g u)

  -- g, a model, is the number of a group
  abbrev pub is_group : ℕ → Bool
  is_group g = group g == g

  -- there is an arc from the group a to the group b: some derivation goes from a model of a to one of b, and a is not b
  unfoldable pub arc : ℕ → ℕ → Bool
  arc a b = not (a == b) && any n (λ u. any n (λ v. R u v && group u == a && group v == b))

  -- the number of arcs less the number of groups with an arc coming in
  unfoldable pub surplus : ℕ
  surplus = total n (λ a. count n (arc a)) - count n (λ b. any n (λ a. arc a b))

  -- the tree parent of the group b: the lowest group with an arc into it; n where b is a root
  unfoldable pub parent : ℕ → ℕ
  parent b = least n (λ a. arc a b)

  -- g is the number of a group that is a root
  abbrev pub is_root : ℕ → Bool
  is_root g = is_group g && parent g == n

  -- a is the tree parent of b
  unfoldable pub tree : ℕ → ℕ → Bool
  tree a b = nat_lt a n && parent b == a

  -- a is b or a tree ancestor of b
  unfoldable pub above : ℕ → ℕ → Bool
  above a b = via n tree a b

  -- h comes before g in preorder: it is a tree ancestor of g, or it stands under c and g under d, where c < d have one parent
  unfoldable pub before : ℕ → ℕ → Bool
  before h g = (above h g && not (h == g)) || any n (λ d. above d g && any n (λ c. nat_lt c d && parent c == parent d && above c h))

  -- the start of the group g: how many groups come before it in preorder
  unfoldable pub start : ℕ → ℕ
  start g = count n (λ h. is_group h && before h g)

  -- the end of the group g: its start plus the number of groups in its subtree, itself included
  unfoldable pub end : ℕ → ℕ
  end g = start g + count n (above g)

  -- the preorder listing by recursion: g and then what each of its children gives, children rising; k levels deep
  unfoldable pub walk : ℕ → ℕ → List ℕ
  walk zero g = []
  walk (suc k) g = g ∷ gathered (walk k) (those n (tree g))

  -- the preorder listing of the book: what each root gives, roots rising
  unfoldable pub preorder : List ℕ
  preorder = gathered (walk n) (those n is_root)

  -- the start of b lies in the interval [start, end) of a
  unfoldable pub inside : ℕ → ℕ → Bool
  inside a b = nat_le (start a) (start b) && nat_lt (start b) (end a)

  -- the arc from a to b gives a link: it is no tree arc, and the start of b lies outside the interval of a
  unfoldable pub link : ℕ → ℕ → Bool
  link a b = arc a b && not (parent b == a) && not (inside a b)

  -- the link from the start of a to the interval of b
  abbrev pub toward : ℕ → ℕ → Link
  toward a b = arrow (start a) (start b) (end b)

  -- the links of the book, rising; there are t of them
  unfoldable pub links : List Link
  links = listed n link toward

  -- the group w has an incoming link
  abbrev pub incoming : ℕ → Bool
  incoming w = any n (λ a. link a w)

  -- the nearest of g and its tree ancestors with an incoming link; k groups are looked at
  unfoldable pub nearest : ℕ → ℕ → Option ℕ
  nearest zero g = None
  nearest (suc k) g =
      elim (incoming g) [
        | true ↦ Some g
        | false ↦ elim (nat_lt (parent g) n) [ true ↦ nearest k (parent g) | false ↦ None ]
      ]

  -- the label ⟨x, y, z⟩ of the group g, each part of which may be missing: x is the place in X of the least element from its start on
  unfoldable pub label_x : ℕ → Option ℕ
  label_x g = place (leb (start g)) (X links)

  -- y is the place in X of the least element from its end on
  unfoldable pub label_y : ℕ → Option ℕ
  label_y g = place (leb (end g)) (X links)

  -- z is the place in Y of the start of the nearest of g and its tree ancestors with an incoming link
  unfoldable pub label_z : ℕ → Option ℕ
  label_z g = elim (nearest n g) [ Some w ↦ place (nat_eq (start w)) (Y links) | None ↦ None ]

  -- what the intervals and the cells say: whether the group a leads to the group b
  unfoldable pub group_answer : ℕ → ℕ → Bool
  group_answer a b = inside a b || nat_lt 0 (cell links (label_x a) (label_z b) - cell links (label_y a) (label_z b))

  -- and whether the model u leads to the model v
  unfoldable pub answer : ℕ → ℕ → Bool
  answer u v = group_answer (group u) (group v)
