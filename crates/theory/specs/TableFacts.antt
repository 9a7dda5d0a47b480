-- What a table of sound form is but for its labels, as plain facts, and what an accepted one is besides. Labels are
-- apart, since older film tells trees with labels 0.
-- Defines SoundFacts, AcceptedFacts. Proves that they say what the parts of the list of checks say: head_facts,
-- sound_facts, filed_nowhere, nowhere_filed, unfiled_first, walk_is, facts_head, facts_sound, light_passes;
-- accepted_parts, sound_accepted, passed_facts, accepted_facts, accepted_filed, facts_accepted. Assumes nothing.
use Rattle.std.specs.Prelude.{ℕ, ◌+◌, ◌*◌, ◌≤◌, Bool, true, false, not, ◌||◌, ◌≡◌, refl, ◌↔◌, List, [], ◌∷◌, length, eqb, ltb}
use Rattle.std.proofs.Common.{arith, sym, ◌∙◌, ap, eqb-true, eq-eqb, ne_eqb, ltb-false, le-ltb}
use Rattle.std.proofs.lemmas.Bool.{eqb-false, not-false}
use Rattle.model.specs.Basics.{pick}
use Rattle.model.specs.Table.{max_nodes, max_limit, node_count, limit_of, weight_at, label_at, next_at, table_bytes, walk_from}
use Rattle.model.specs.Table.{walk_place}
use Rattle.model.specs.Refusals.{passes, head_checks, node_checks, weight_checks, form_checks, tree_checks}
use Rattle.model.specs.Refusals.{asked, sound_form, accepted_tree}
use Rattle.model.specs.Refusals.{short_table, bad_count, bad_limit, bad_length, no_label, bad_walk, heavy_node}
use Rattle.model.specs.Demand.{Filed, FirstUnfiled}
use Rattle.std.specs.declared.option.Option.TheVariants.{Some, None}
use Rattle.theory.specs.Bools.{both_false}
use Rattle.theory.specs.Ranges.{Upto, pick_true, pick_false, when_false, when_nowhere, at_nowhere, first_to_none}
use Rattle.theory.specs.Ranges.{first_to_nowhere, first_to-first}
use Rattle.theory.specs.Checks.{Pass, pass_all, passes_both, both_pass, asked_none}

pub record SoundFacts (t : List ℕ) : Type 0 where
  pub count_low : 1 ≤ node_count t
  pub count_high : node_count t ≤ max_nodes
  pub limit_low : 1 ≤ limit_of t
  pub limit_high : limit_of t ≤ max_limit
  pub bytes : length t ≡ table_bytes (node_count t)
  pub root_alone : next_at t 1 ≡ 0
  pub walks : walk_from (2 * node_count t + 2) t (node_count t) 0 (1 ∷ []) ≡ None

pub record AcceptedFacts (t : List ℕ) : Type 0 where
  pub sound : SoundFacts t
  pub light : Upto (node_count t) (λ v. weight_at t v ≤ limit_of t)

-- ---- The checks of the form

out_of_range : (n most : ℕ) → (eqb n 0 || ltb most n) ≡ false → (1 ≤ n) × (n ≤ most)
out_of_range n most e =
    let both = both_false (eqb n 0) (ltb most n) e in
    let nonzero : n ≡ 0 → ⊥ = eqb-false n 0 both.0 in
    (omega arith, ltb-false most n both.1)

in_range_lem : (n most : ℕ) → 1 ≤ n → n ≤ most → (eqb n 0 || ltb most n) ≡ false
in_range_lem n most low high = rw (ne_eqb n 0 (λ z. omega arith), le-ltb most n high)

walk_alone : (t : List ℕ) → walk_place t ≡ None → next_at t 1 ≡ 0
unfolding walk_place
walk_alone t e = go (eqb (next_at t 1) 0) refl
  where
    go : (b : Bool) → eqb (next_at t 1) 0 ≡ b → next_at t 1 ≡ 0
    go true q = eqb-true (next_at t 1) 0 q
    go false q =
        absurd
        (at_nowhere 0
        (sym (pick_false (eqb (next_at t 1) 0) (walk_from (2 * node_count t + 2) t (node_count t) 0 (1 ∷ [])) (Some 0) q)
        ∙ e))

pub walk_is : (t : List ℕ) → next_at t 1 ≡ 0 → walk_place t ≡ walk_from (2 * node_count t + 2) t (node_count t) 0 (1 ∷ [])
unfolding walk_place
walk_is t z =
    pick_true (eqb (next_at t 1) 0) (walk_from (2 * node_count t + 2) t (node_count t) 0 (1 ∷ [])) (Some 0)
    (eq-eqb (next_at t 1) 0 z)

pub head_facts : (t : List ℕ) → passes (head_checks t) ≡ true
    → ((1 ≤ node_count t) × (node_count t ≤ max_nodes)) × ((1 ≤ limit_of t) × (limit_of t ≤ max_limit))
    × (length t ≡ table_bytes (node_count t))
unfolding Pass head_checks bad_count bad_limit bad_length
head_facts t e =
    let p = (pass_all (head_checks t)).0 e in (
      out_of_range (node_count t) max_nodes (when_nowhere _ (node_count t) p.1.0),
      out_of_range (limit_of t) max_limit (when_nowhere _ (limit_of t) p.1.1.0),
      eqb-true (length t) (table_bytes (node_count t))
          (not-false _ (when_nowhere _ (table_bytes (node_count t)) p.1.1.1.0)),
    )

form_facts : (filed : Bool) (t : List ℕ) → passes (form_checks filed t) ≡ true → SoundFacts t
unfolding Pass form_checks node_checks bad_walk
form_facts filed t e =
    let parts = passes_both (head_checks t) (node_checks filed t) e in
    let h = head_facts t parts.0 in
    let p = ((pass_all (node_checks filed t)).0 parts.1).1 in
    let alone : next_at t 1 ≡ 0 = walk_alone t p.0 in
    record {
      count_low = h.0.0;
      count_high = h.0.1;
      limit_low = h.1.0;
      limit_high = h.1.1;
      bytes = h.2;
      root_alone = alone;
      walks = sym (walk_is t alone) ∙ p.0;
    }

pub sound_facts : (t : List ℕ) → sound_form t ≡ true → SoundFacts t
unfolding sound_form
sound_facts t e = form_facts true t e

-- 14: no label is 0, or node v is the first
pub filed_nowhere : (t : List ℕ) → Filed t → (no_label t).place ≡ None
unfolding no_label
filed_nowhere t f =
    first_to_none (node_count t) (λ v. eqb (label_at t v) 0)
    (λ v low high. ne_eqb (label_at t v) 0 (λ z. omega (arith, f v low high)))

pub nowhere_filed : (t : List ℕ) → (no_label t).place ≡ None → Filed t
unfolding no_label
nowhere_filed t none v low high =
    let some : label_at t v ≡ 0 → ⊥ =
    eqb-false (label_at t v) 0 (first_to_nowhere (node_count t) (λ u. eqb (label_at t u) 0) none v low high) in
    omega arith

pub unfiled_first : (t : List ℕ) (v : ℕ) → FirstUnfiled t v → (no_label t).place ≡ Some v
unfolding no_label
unfiled_first t v f =
    first_to-first (node_count t) v (λ u. eqb (label_at t u) 0)
    (record {
      low = f.low;
      high = f.high;
      passed = eq-eqb (label_at t v) 0 f.label;
      before = λ u low less. ne_eqb (label_at t u) 0 (λ z. omega (arith, f.before u low less));
    })

pub facts_head : (t : List ℕ) → SoundFacts t → passes (head_checks t) ≡ true
unfolding Pass head_checks short_table bad_count bad_limit bad_length
facts_head t s = (pass_all (head_checks t)).1 (short, (count, (limit, (long, tt))))
  where
    short : (short_table t).place ≡ None
    short = when_false (ltb (length t) 4) 0 (le-ltb (length t) 4 (omega (arith, s.bytes)))

    count : (bad_count t).place ≡ None
    count = when_false _ (node_count t) (in_range_lem (node_count t) max_nodes s.count_low s.count_high)

    limit : (bad_limit t).place ≡ None
    limit = when_false _ (limit_of t) (in_range_lem (limit_of t) max_limit s.limit_low s.limit_high)

    long : (bad_length t).place ≡ None
    long = when_false _ (table_bytes (node_count t)) (ap not (eq-eqb (length t) (table_bytes (node_count t)) s.bytes))

pub facts_sound : (t : List ℕ) → SoundFacts t → Filed t → sound_form t ≡ true
unfolding Pass sound_form form_checks node_checks bad_walk
facts_sound t s f =
    both_pass (head_checks t) (node_checks true t) (facts_head t s)
    ((pass_all (node_checks true t)).1
    (asked_none true (no_label t) (filed_nowhere t f), (walk_is t s.root_alone ∙ s.walks, tt)))

-- ---- Accepted: of sound form, and no node outweighs K

pub light_passes : (t : List ℕ) → (passes (weight_checks t) ≡ true) ↔ Upto (node_count t) (λ v. weight_at t v ≤ limit_of t)
unfolding Pass weight_checks heavy_node
light_passes t = (
  λ e v low high.
      ltb-false (limit_of t) (weight_at t v)
      (first_to_nowhere (node_count t) (λ u. ltb (limit_of t) (weight_at t u)) ((pass_all (weight_checks t)).0 e).0 v low
      high),
  λ h. (pass_all (weight_checks t)).1 (
    first_to_none (node_count t) (λ v. ltb (limit_of t) (weight_at t v))
        (λ v low high. le-ltb (limit_of t) (weight_at t v) (h v low high)),
    tt,
  ),
)

pub accepted_parts : (t : List ℕ) → accepted_tree t ≡ true → (sound_form t ≡ true) × (passes (weight_checks t) ≡ true)
unfolding accepted_tree tree_checks sound_form
accepted_parts t e = passes_both (form_checks true t) (weight_checks t) e

pub sound_accepted : (t : List ℕ) → sound_form t ≡ true → Upto (node_count t) (λ v. weight_at t v ≤ limit_of t)
    → accepted_tree t ≡ true
unfolding accepted_tree tree_checks sound_form
sound_accepted t e h = both_pass (form_checks true t) (weight_checks t) e ((light_passes t).1 h)

-- accepted, or refused with nothing but 14
pub passed_facts : (filed : Bool) (t : List ℕ) → passes (tree_checks filed t) ≡ true → AcceptedFacts t
unfolding tree_checks
passed_facts filed t e =
    let parts = passes_both (form_checks filed t) (weight_checks t) e in
    record { sound = form_facts filed t parts.0; light = (light_passes t).0 parts.1 }

pub accepted_facts : (t : List ℕ) → accepted_tree t ≡ true → AcceptedFacts t
unfolding accepted_tree
accepted_facts t e = passed_facts true t e

-- no label of an accepted tree is 0
pub accepted_filed : (t : List ℕ) → accepted_tree t ≡ true → Filed t
unfolding Pass sound_form form_checks node_checks asked pick
accepted_filed t e =
    let nodes = (passes_both (head_checks t) (node_checks true t) (accepted_parts t e).0).1 in
    nowhere_filed t ((pass_all (node_checks true t)).0 nodes).0

pub facts_accepted : (t : List ℕ) → AcceptedFacts t → Filed t → accepted_tree t ≡ true
facts_accepted t a f = sound_accepted t (facts_sound t a.sound f) a.light
