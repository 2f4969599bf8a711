-- What is proved of every book and of every list of links. Assumes nothing.
use Rattle.std.specs.Prelude.{◌≡◌, ℕ, ◌+◌, ◌*◌, ◌<◌, ◌≤◌, Bool, true, false, ◌⊎◌, ◌↔◌, List, length, Some, None, Option, ◌≢◌, slice_index, slice_index_or}
use Rattle.lineage.specs.Finite.{Chain, Within}
use Rattle.lineage.specs.Lists.{◌∈◌, Distinct}
use Rattle.lineage.specs.Closure.{Link, arrow, below, InT, T, N, X, Y, matrix, cell}
use Rattle.lineage.specs.Book.{among, leads, group, arc, surplus, parent, tree, above, walk, preorder, start, end, link, links, label_x, label_y, label_z, answer}

-- For every count n and every relation on the models below it.
abbrev pub OfEveryBook : ((n : ℕ) → (ℕ → ℕ → Bool) → Type 0) → Type 0
OfEveryBook P = (n : ℕ) (R : ℕ → ℕ → Bool) → Within n R → P n R

-- u leads to v exactly if there is a chain of derivations from u to v.
pub record LeadsIsChain (n : ℕ) (R : ℕ → ℕ → Bool) : Type 0 where
  pub exact : (u v : ℕ) → (leads n R u v ≡ true) ↔ Chain R u v

-- Two models have one group exactly if each leads to the other, and a group goes by the lowest model in it.
pub record GroupsAreMutual (n : ℕ) (R : ℕ → ℕ → Bool) : Type 0 where
  pub same : (u v : ℕ) → u < n → v < n → (group n R u ≡ group n R v) ↔ (Chain R u v × Chain R v u)
  pub in_it : (u : ℕ) → u < n → (group n R u < n) × (group n R (group n R u) ≡ group n R u)
  pub lowest : (u v : ℕ) → u < n → v < n → group n R u ≡ group n R v → group n R u ≤ v

-- An arc goes between the groups of a derivation where they differ, and a tree parent is the lowest group with an arc in.
pub record ArcsAndParents (n : ℕ) (R : ℕ → ℕ → Bool) : Type 0 where
  pub arcs : (a b : ℕ) → (arc n R a b ≡ true) ↔ ((a ≢ b) × ((u : ℕ) × (v : ℕ) × (R u v ≡ true) × (group n R u ≡ a) × (group n R v ≡ b)))
  pub parents : (a b : ℕ) → (tree n R a b ≡ true) ↔ ((arc n R a b ≡ true) × ((c : ℕ) → arc n R c b ≡ true → a ≤ c))
  pub roots : (b : ℕ) → (parent n R b ≡ n) ↔ ((a : ℕ) → arc n R a b ≢ true)
  pub ancestors : (a b : ℕ) → (above n R a b ≡ true) ↔ Chain (tree n R) a b

-- The starts number the groups in the recursive preorder: the k-th of the listing, from 0, has start k. An interval is as long as its subtree.
pub record StartsArePreorder (n : ℕ) (R : ℕ → ℕ → Bool) : Type 0 where
  pub group_at_start : (g : ℕ) → g < n → group n R g ≡ g → (start n R g < length (preorder n R)) × (slice_index (preorder n R) (start n R g) ≡ g)
  pub start_at : (k : ℕ) → k < length (preorder n R) →
      (slice_index (preorder n R) k < n) × (group n R (slice_index (preorder n R) k) ≡ slice_index (preorder n R) k) × (start n R (slice_index (preorder n R) k) ≡ k)
  pub ends : (g : ℕ) → g < n → group n R g ≡ g → end n R g ≡ start n R g + length (walk n R n g)

-- A start lies in the interval of a group exactly if it is the start of that group or of one below it in the tree.
pub record IntervalsTellAncestors (n : ℕ) (R : ℕ → ℕ → Bool) : Type 0 where
  pub exact : (a b : ℕ) → a < n → b < n → group n R a ≡ a → group n R b ≡ b →
      ((start n R a ≤ start n R b) × (start n R b < end n R a)) ↔ Chain (tree n R) a b

-- An arc from a to b that is no tree arc, with the start of b outside the interval of a.
pub record OffTree (n : ℕ) (R : ℕ → ℕ → Bool) (a b : ℕ) : Type 0 where
  pub is_arc : arc n R a b ≡ true
  pub no_tree_arc : tree n R a b ≡ false
  pub outside : start n R a ≤ start n R b → start n R b < end n R a → ⊥

-- The list of links holds exactly the links of the book, and it rises.
pub record LinksAreExact (n : ℕ) (R : ℕ → ℕ → Bool) : Type 0 where
  pub exact : (i j k : ℕ) → (arrow i j k ∈ links n R) ↔ ((a : ℕ) × (b : ℕ) × OffTree n R a b × (i ≡ start n R a) × (j ≡ start n R b) × (k ≡ end n R b))
  pub rises : (p q : ℕ) → p < q → q < length (links n R) → below (slice_index_or (links n R) p (arrow 0 0 0)) (slice_index_or (links n R) q (arrow 0 0 0)) ≡ true

-- T as computed from a list of links holds exactly the members of the least set, rising, and so each once.
pub record TIsLeast (L : List Link) : Type 0 where
  pub exact : (i j k : ℕ) → (arrow i j k ∈ T L) ↔ InT L i j k
  pub rises : (p q : ℕ) → p < q → q < length (T L) → below (slice_index_or (T L) p (arrow 0 0 0)) (slice_index_or (T L) q (arrow 0 0 0)) ≡ true
  pub once : (p q : ℕ) → p < length (T L) → q < length (T L) → slice_index_or (T L) p (arrow 0 0 0) ≡ slice_index_or (T L) q (arrow 0 0 0) → p ≡ q

-- X holds exactly the i and Y exactly the j of the members i → [j, k) of T. Both rise, and neither is longer than the list of links.
pub record XAndYAreExact (L : List Link) : Type 0 where
  pub X_exact : (i : ℕ) → (i ∈ X L) ↔ ((j : ℕ) × (k : ℕ) × InT L i j k)
  pub X_rises : (p q : ℕ) → p < q → q < length (X L) → slice_index (X L) p < slice_index (X L) q
  pub X_few : length (X L) ≤ length L
  pub Y_exact : (j : ℕ) → (j ∈ Y L) ↔ ((i : ℕ) × (k : ℕ) × InT L i j k)
  pub Y_rises : (p q : ℕ) → p < q → q < length (Y L) → slice_index (Y L) p < slice_index (Y L) q
  pub Y_few : length (Y L) ≤ length L

-- N(x, y) is the number of members i → [j, k) of T with i ≥ x and y in [j, k). The cell at places p of X and q of Y is N(X[p], Y[q]), and 0 outside or where one is missing.
pub record CountsAreExact (L : List Link) : Type 0 where
  pub N_exact : (x y : ℕ) (ms : List Link) → Distinct ms → ((i j k : ℕ) → (arrow i j k ∈ ms) ↔ (InT L i j k × (x ≤ i) × (j ≤ y) × (y < k))) → N L x y ≡ length ms
  pub cells : (p q : ℕ) → p < length (X L) → q < length (Y L) → matrix L p q ≡ N L (slice_index (X L) p) (slice_index (Y L) q)
  pub outside : (p q : ℕ) → (length (X L) ≤ p) ⊎ (length (Y L) ≤ q) → matrix L p q ≡ 0
  pub at_places : (p q : ℕ) → cell L (Some p) (Some q) ≡ matrix L p q
  pub missing : (o : Option ℕ) → (cell L None o ≡ 0) × (cell L o None ≡ 0)

-- For every list of links.
abbrev pub OfEveryListOfLinks : (List Link → Type 0) → Type 0
OfEveryListOfLinks P = (L : List Link) → P L

-- p is the place in xs of the least element that is a or more.
pub record LeastFrom (xs : List ℕ) (a p : ℕ) : Type 0 where
  pub stands : p < length xs
  pub from : a ≤ slice_index xs p
  pub least : (q : ℕ) → q < length xs → a ≤ slice_index xs q → slice_index xs p ≤ slice_index xs q

-- No element of xs is a or more.
abbrev pub NoneFrom : List ℕ → ℕ → Type 0
NoneFrom xs a = (q : ℕ) → q < length xs → slice_index xs q < a

-- w is g or a tree ancestor of g, has an incoming link, and is at or below every other such.
pub record Nearest (n : ℕ) (R : ℕ → ℕ → Bool) (g w : ℕ) : Type 0 where
  pub at_or_above : Chain (tree n R) w g
  pub incoming : (a : ℕ) × (link n R a w ≡ true)
  pub nearest : (v a : ℕ) → Chain (tree n R) v g → link n R a v ≡ true → Chain (tree n R) v w

-- The parts of a label are what they are said to be.
pub record LabelIsExact (n : ℕ) (R : ℕ → ℕ → Bool) (g : ℕ) : Type 0 where
  pub x_some : (p : ℕ) → (label_x n R g ≡ Some p) ↔ LeastFrom (X (links n R)) (start n R g) p
  pub x_none : (label_x n R g ≡ None) ↔ NoneFrom (X (links n R)) (start n R g)
  pub y_some : (p : ℕ) → (label_y n R g ≡ Some p) ↔ LeastFrom (X (links n R)) (end n R g) p
  pub y_none : (label_y n R g ≡ None) ↔ NoneFrom (X (links n R)) (end n R g)
  pub z_some : (q : ℕ) → (label_z n R g ≡ Some q) ↔ ((w : ℕ) × Nearest n R g w × (q < length (Y (links n R))) × (slice_index (Y (links n R)) q ≡ start n R w))
  pub z_none : (label_z n R g ≡ None) ↔ ((w a : ℕ) → Chain (tree n R) w g → link n R a w ≢ true)

pub record LabelsAreExact (n : ℕ) (R : ℕ → ℕ → Bool) : Type 0 where
  pub of_group : (g : ℕ) → g < n → group n R g ≡ g → LabelIsExact n R g

-- With t links: t is at most the surplus, T has at most t (t + 1) / 2 members, X and Y have at most t each.
pub record TablesAreSmall (n : ℕ) (R : ℕ → ℕ → Bool) : Type 0 where
  pub links_few : length (links n R) ≤ surplus n R
  pub members_few : 2 * length (T (links n R)) ≤ length (links n R) * (length (links n R) + 1)
  pub rows_few : length (X (links n R)) ≤ length (links n R)
  pub columns_few : length (Y (links n R)) ≤ length (links n R)

-- The answer by intervals and cells is exactly leads-to.
pub record AnswerIsLeads (n : ℕ) (R : ℕ → ℕ → Bool) : Type 0 where
  pub exact : (u v : ℕ) → u < n → v < n → (answer n R u v ≡ true) ↔ Chain R u v

-- The surplus of a book is below the number of its derivations, if it has any. With at most 2,048 derivations it is below 2,048.
pub record SurplusIsBelow (n : ℕ) (ds : List (ℕ × ℕ)) : Type 0 where
  pub below_count : 0 < length ds → surplus n (among ds) < length ds
  pub below_2048 : length ds ≤ 2048 → surplus n (among ds) < 2048

-- For every count n and every list of derivations between models below it.
abbrev pub OfEveryListOfDerivations : ((n : ℕ) → List (ℕ × ℕ) → Type 0) → Type 0
OfEveryListOfDerivations P = (n : ℕ) (ds : List (ℕ × ℕ)) → Within n (among ds) → P n ds
