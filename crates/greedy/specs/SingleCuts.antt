-- What the functions that cut children ask and promise.
-- Defines Heaviest, CutReady, CutDone, SettleReady. Assumes nothing.
use Rattle.std.specs.Prelude.{ℕ, ◌+◌, ◌*◌, ◌≤◌, ◌≡◌, List}
use Rattle.model.specs.Table.{max_nodes, max_limit, node_count, limit_of, first_at}
use Rattle.model.specs.Steps.{Member, rest_sum, reduce}
use Rattle.theory.specs.PlanShape.{size}
use Rattle.theory.specs.TableChain.{chain_at}
use Rattle.greedy.specs.Lent.{LayReady}
use Rattle.greedy.specs.Kept.{Outside}
use Rattle.greedy.specs.SingleMembers.{members_at, LaidAt, EarliestAt, largest_at, rest_at}
use Rattle.greedy.specs.SingleSettled.{RemaindersKept, kids_of}

-- the sum of so many remainders at most, so that it fits a word
abbrev pub most_sum : ℕ
most_sum = max_limit * max_nodes

-- of the siblings from v on, h has the largest remainder, the earliest among equals
pub record Heaviest (t s : List ℕ) (v h : ℕ) : Type 0 where
  pub low : 1 ≤ h
  pub high : h ≤ node_count t
  pub earliest : EarliestAt t s (largest_at t s v (chain_at t v)) v (chain_at t v) h

-- the children of node v as members
abbrev pub kid_members : List ℕ → List ℕ → List ℕ → ℕ → List Member
kid_members t s a v = members_at t s a (first_at t v) (kids_of t v)

pub record CutReady (t s a : List ℕ) (v : ℕ) : Type 0 where
  pub lent : LayReady t a s
  pub low : 1 ≤ v
  pub high : v ≤ node_count t
  pub small : rest_at t s (first_at t v) (kids_of t v) ≤ most_sum
  pub laid : LaidAt (limit_of t) t a (first_at t v) (kids_of t v) (kid_members t s a v)

-- the children of node v are reduced to the room, and r is what they weigh
pub record CutDone (t : List ℕ) (v room : ℕ) (s a s' a' : List ℕ) (r : ℕ) : Type 0 where
  pub laid : LaidAt (limit_of t) t a' (first_at t v) (kids_of t v) (reduce room (kid_members t s a v))
  pub sum : r ≡ rest_sum (reduce room (kid_members t s a v))
  pub rests_outside : Outside v (v + size (kids_of t v)) s s'
  pub marks_outside : Outside v (v + size (kids_of t v)) a a'

pub record SettleReady (t s a : List ℕ) (v : ℕ) : Type 0 where
  pub lent : LayReady t a s
  pub low : 1 ≤ v
  pub high : v ≤ node_count t
  pub rests_kept : RemaindersKept t s a (first_at t v) (kids_of t v)
