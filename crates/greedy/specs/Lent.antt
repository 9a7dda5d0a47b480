-- What laying a plan of single asks of what it was lent: a mark a node, and a word of the scratch a node.
-- Defines LayReady. Assumes nothing.
use Rattle.std.specs.Prelude.{ℕ, ◌≤◌, ◌≡◌, List, length}
use Rattle.model.specs.Table.{node_count}

pub record LayReady (t a s : List ℕ) : Type 0 where
  pub marks_long : length a ≡ node_count t
  pub long : node_count t ≤ length s
