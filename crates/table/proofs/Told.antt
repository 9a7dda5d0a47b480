-- What the results of the head's checks and of the checks after it tell of a table.
use Rattle.std.specs.Prelude.{ℕ, ◌≤◌, ◌≡◌, refl, Bool, false, not, ◌||◌, List, length, eqb, ltb}
use Rattle.std.proofs.Common.{sym, ap, ◌∙◌}
use Rattle.model.specs.Basics.{pick, when, at_place}
use Rattle.model.specs.Table.{max_nodes, max_limit, node_count, limit_of, table_bytes, walk_place}
use Rattle.model.specs.Refusals.{Answer, refused, accepted, refusal_answer, first_of, head_checks, node_checks, weight_checks}
use Rattle.model.specs.Refusals.{short_table, bad_count, bad_limit, bad_length, asked, no_label, bad_walk, heavy_node}
use Rattle.model.specs.declared.Refusal.{Refusal}
use Rattle.std.specs.declared.option.Option.TheVariants.{None}
use Rattle.theory.specs.JudgeAnswers.{tree_answer, head_answer, node_answer, head_refuses, head_goes_on, head_count, with_facts}
use Rattle.theory.specs.TableFacts.{AcceptedFacts}
use Rattle.theory.specs.Refused.{refusal_number}

-- the head's checks, as they are made
pub head_parts : (t : List ℕ) → first_of (head_checks t) accepted
    ≡ at_place (when (ltb (length t) 4) 0) (refused 1)
    (at_place (when (eqb (node_count t) 0 || ltb max_nodes (node_count t)) (node_count t)) (refused 2)
    (at_place (when (eqb (limit_of t) 0 || ltb max_limit (limit_of t)) (limit_of t)) (refused 3)
    (at_place (when (not (eqb (length t) (table_bytes (node_count t)))) (table_bytes (node_count t))) (refused 4) accepted)))
unfolding first_of head_checks short_table bad_count bad_limit bad_length
head_parts t = refl

-- a refusal of the head is the tree's
pub head_stops : (filed : Bool) (t : List ℕ) (r : Refusal) → refusal_answer r ≡ first_of (head_checks t) accepted
    → refusal_answer r ≡ tree_answer filed t
unfolding head_answer
head_stops filed t r e =
    e ∙ head_refuses filed t (λ z. refusal_number r (ap (λ (a : Answer). a.number) e ∙ z))

module _ (t : List ℕ) (head : accepted ≡ first_of (head_checks t) accepted) where
  head_zero : (head_answer t).number ≡ 0
  unfolding head_answer
  head_zero = ap (λ (a : Answer). a.number) (sym head)

  pub count_fits : node_count t ≤ max_nodes
  count_fits = head_count t head_zero

  -- after a head that is accepted
  pub tree_goes_on : (filed : Bool) → tree_answer filed t
      ≡ at_place (asked filed (no_label t)).place (refused 14)
      (at_place (walk_place t) (refused 6) (at_place (heavy_node t).place (refused 7) accepted))
  unfolding node_answer first_of node_checks weight_checks asked no_label bad_walk heavy_node
  tree_goes_on filed = sym (head_goes_on filed t head_zero)

  -- and where the walk and the weights are found sound too
  pub accepted_found : walk_place t ≡ None → (heavy_node t).place ≡ None → AcceptedFacts t
  unfolding asked pick at_place
  accepted_found walk heavy =
      let all : tree_answer false t ≡ accepted = tree_goes_on false ∙ rw (walk, heavy) in
      with_facts false t (ap (λ (a : Answer). a.number) all)

pub ruleset tree_told = (head_stops, count_fits, tree_goes_on)
