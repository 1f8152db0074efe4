-- What readers of a text promise of the place that they answer.
use Rattle.std.specs.Prelude.{ℕ, ◌≤◌, min, List, length}

-- a place of the text that is not before the given one, unless that lies past the text's end
pub record Onward (text : List ℕ) (at to : ℕ) : Type 0 where
  pub low : min at (length text) ≤ to
  pub high : to ≤ length text
