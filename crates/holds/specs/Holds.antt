-- Lists of holds, oldest first.
use Rattle.std.specs.Prelude.{ℕ, Bool, true, false, cond, not, ◌&&◌, ◌||◌, List, [], ◌∷◌, Some, None, Option, ◌==◌}
use Rattle.holds.specs.declared.sheet.Hold.{Hold}

-- whether a model is on hold
abbrev pub held : List Hold → ℕ → Bool
held [] m = false
held (h ∷ hs) m = h.model == m || held hs m

-- the holder of a model, if it is on hold
abbrev pub holder_of : List Hold → ℕ → Option ℕ
holder_of [] m = None
holder_of (h ∷ hs) m = cond (h.model == m) (Some h.holder) (holder_of hs m)

-- no two holds are on one model
abbrev pub apart : List Hold → Bool
apart [] = true
apart (h ∷ hs) = not (held hs h.model) && apart hs

-- the list without the hold on a model
abbrev pub released : List Hold → ℕ → List Hold
released [] m = []
released (h ∷ hs) m = cond (h.model == m) hs (h ∷ released hs m)
