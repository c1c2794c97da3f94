-- Texts in columns.
--   at_right w t, at_left w t   the text t at the right or the left of a column of w places
use Rattle.std.specs.Prelude.{ℕ, ◌-◌, List, ◌++◌, length, replicate}

-- n spaces.
abbrev pub spaces : ℕ → List ℕ
spaces n = replicate n 32

-- A text in a column, after the spaces that it leaves.
abbrev pub at_right : ℕ → List ℕ → List ℕ
at_right w t = spaces (w - length t) ++ t

-- A text in a column, before the spaces that it leaves.
abbrev pub at_left : ℕ → List ℕ → List ℕ
at_left w t = t ++ spaces (w - length t)
