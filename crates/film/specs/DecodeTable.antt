-- What the reader decodes: parents, links and the rows of the tree's table. What it decodes of an archive is the tree
-- that the archive tells.
-- Defines WrittenBy, Loaded, fitted, tree_row, tree_upto. Assumes nothing.
use Rattle.std.specs.Prelude.{ℕ, ◌+◌, ◌*◌, ◌≤◌, ◌<◌, Bool, true, false, ◌≡◌, refl, List, [], ◌∷◌, length, set, eqb, ltb}
use Rattle.std.proofs.Common.{arith, sym, ◌∙◌, ltb-true, lt-ltb}
use Rattle.std.proofs.Math.Path.{ap}
use Rattle.std.proofs.Math.ListN.{get_or}
use Rattle.model.specs.Basics.{pick, list_to}
use Rattle.model.specs.Table.{bytes_of, node_count, next_at}
use Rattle.model.specs.Plan.{parent_at, page_count, run_last}
use Rattle.model.specs.Archive.{archive_of, nodes_in, limit_in, pages_in, page_field_in, node_field_in, parent_in, first_in}
use Rattle.model.specs.Archive.{next_in}
use Rattle.model.specs.Archive.{table_in, marks_in}
use Rattle.model.specs.Refusals.{is_archive}
use Rattle.model.specs.declared.Edition.{Edition}
use Rattle.theory.specs.Ranges.{Upto, pick_true, pick_false, list_to_cong}
use Rattle.theory.specs.Lists.{get_d_set}
use Rattle.theory.specs.TableLinks.{parent_at_less}
use Rattle.theory.specs.PlanFeasible.{Judged, film_judged}
use Rattle.theory.specs.PagesByNumber.{Page}
use Rattle.theory.specs.Put.{length_records_to}
use Rattle.theory.specs.ArchiveWords.{Described, archive_nodes_lem, archive_pages, archive_parent}
use Rattle.theory.specs.ArchiveBack.{read_write, archive_next, begin_back, end_back}
use Rattle.records.specs.Size.{archive_nodes, film_slots, InRoom}
use Rattle.records.specs.Links.{next_with, Linked, next_with_cong}

-- an archive, and the tree and the plan that write it, within the room
pub record WrittenBy (e : Edition) (a t m : List ℕ) : Type 0 where
  pub plan : Judged t m
  pub few : node_count t ≤ archive_nodes
  pub same : archive_of e t m ≡ a

pub written_by : {e : Edition} → InRoom e → (a : List ℕ) → is_archive e a ≡ true
    → WrittenBy e a (table_in e a) (marks_in e a)
written_by {e} room a y =
    let t : List ℕ = table_in e a in
    let m : List ℕ = marks_in e a in
    let r = read_write e a y in
    record {
      plan = film_judged e t m r.feasible;
      few = omega (arith, r.few, room.most_high, ap (nodes_in e) r.same, archive_nodes_lem room.is t m);
      same = r.same;
    }

module _ {e : Edition} (d : Described e) {a t m : List ℕ} (w : WrittenBy e a t m) where
  pub by_nodes : nodes_in e a ≡ node_count t
  by_nodes = ap (nodes_in e) (sym w.same) ∙ archive_nodes_lem d t m

  pub by_pages : pages_in e a ≡ page_count t m
  by_pages = ap (pages_in e) (sym w.same) ∙ archive_pages d t m

  by_parent_lem : (v : ℕ) → 1 ≤ v → v ≤ node_count t → parent_in e a v ≡ parent_at t v
  by_parent_lem v low high = ap (λ x. parent_in e x v) (sym w.same) ∙ archive_parent d t m v low high

  by_small : (v : ℕ) → 1 ≤ v → v ≤ node_count t → parent_in e a v < film_slots
  by_small v low high = omega (arith, by_parent_lem v low high, parent_at_less t v low, w.few)

  by_next : (v : ℕ) → 1 ≤ v → v ≤ node_count t → next_in e a v ≡ next_at t v
  by_next v low high = ap (λ x. next_in e x v) (sym w.same) ∙ archive_next d w.plan v low high

  pub by_begin : (q b : ℕ) → 1 ≤ q → q ≤ page_count t m → Page t m q b → page_field_in e a q 0 ≡ b
  by_begin q b low high r = ap (λ x. page_field_in e x q 0) (sym w.same) ∙ begin_back d w.plan q b low high r

  pub by_end : (q b : ℕ) → 1 ≤ q → q ≤ page_count t m → Page t m q b → page_field_in e a q 1 ≡ run_last t m b
  by_end q b low high r = ap (λ x. page_field_in e x q 1) (sym w.same) ∙ end_back d w.plan q b low high r

-- ---- Parents and links

-- a number that fits, or 0
unfoldable pub fitted : ℕ → ℕ
fitted x = pick (ltb x film_slots) x 0

pub fitted_small : (x : ℕ) → fitted x < film_slots
unfolding fitted
fitted_small x = go (ltb x film_slots) refl
  where
    go : (b : Bool) → ltb x film_slots ≡ b → pick (ltb x film_slots) x 0 < film_slots
    go true e = omega (arith, pick_true (ltb x film_slots) x 0 e, ltb-true x film_slots e)
    go false e = omega (arith, pick_false (ltb x film_slots) x 0 e)

pub fitted_le : (x : ℕ) → fitted x ≤ x
unfolding fitted
fitted_le x = go (ltb x film_slots) refl
  where
    go : (b : Bool) → ltb x film_slots ≡ b → pick (ltb x film_slots) x 0 ≤ x
    go true e = omega (arith, pick_true (ltb x film_slots) x 0 e)
    go false e = omega (arith, pick_false (ltb x film_slots) x 0 e)

pub fitted_same : (x : ℕ) → x < film_slots → fitted x ≡ x
unfolding fitted
fitted_same x h = pick_true (ltb x film_slots) x 0 (lt-ltb x film_slots h)

-- the parents of the nodes 1 to v, where they fit
abbrev pub Loaded : Edition → List ℕ → ℕ → List ℕ → Type 0
Loaded e a v l = Upto v (λ u. get_or l u 0 ≡ fitted (parent_in e a u))

pub loaded_turn : (e : Edition) (a l : List ℕ) (v x : ℕ) → Loaded e a v l → length l ≡ film_slots → v + 1 < film_slots
    → x ≡ fitted (parent_in e a (v + 1)) → Loaded e a (v + 1) (set l (v + 1) x)
loaded_turn e a l v x h long less is u low high =
    get_d_set l (v + 1) x u (fitted (parent_in e a u))
    (λ same. (omega arith, is ∙ ap (λ j. fitted (parent_in e a j)) (sym same)))
    (λ other. h u low (omega arith))

-- the links of the parents of an archive are its siblings
module _ {e : Edition} (d : Described e) {a t m : List ℕ} (w : WrittenBy e a t m) (parents links : List ℕ)
    (loaded : Loaded e a (nodes_in e a) parents) (linked : Linked parents (nodes_in e a) links) where
  pub links_in : (v : ℕ) → 1 ≤ v → v ≤ nodes_in e a → pick (eqb v 1) 0 (get_or links v 0) ≡ next_in e a v
  unfolding next_in next_with
  links_in v low high =
      ap (pick (eqb v 1) 0)
      (linked v low high
      ∙ next_with_cong (λ u. get_or parents u 0) (parent_in e a) (nodes_in e a) v (get_or parents v 0) is
      ∙ ap (next_with (parent_in e a) (nodes_in e a) v) (is v low high))
    where
      is : (u : ℕ) → 1 ≤ u → u ≤ nodes_in e a → get_or parents u 0 ≡ parent_in e a u
      is u one le = loaded u one le ∙ fitted_same (parent_in e a u) (by_small d w u one (omega (arith, by_nodes d w)))

  pub links_at : (v : ℕ) → 1 ≤ v → v ≤ nodes_in e a → pick (eqb v 1) 0 (get_or links v 0) ≡ next_at t v
  links_at v low high = links_in v low high ∙ by_next d w v low (omega (arith, by_nodes d w))

-- ---- The table

unfoldable pub tree_row : Edition → List ℕ → List ℕ → ℕ → List ℕ
tree_row e a links v =
    node_field_in e a v 0 ∷ node_field_in e a v 1 ∷ first_in e a v ∷ pick (eqb v 1) 0 (get_or links v 0) ∷ []

pub tree_wide : (e : Edition) (a l : List ℕ) (v : ℕ) → length (tree_row e a l v) ≡ 4
unfolding tree_row
tree_wide e a l v = refl

-- a record as it is put
pub tree_row_lem : (e : Edition) (a l : List ℕ) (v weight label first next : ℕ) → weight ≡ node_field_in e a v 0
    → label ≡ node_field_in e a v 1 → first ≡ first_in e a v → next ≡ pick (eqb v 1) 0 (get_or l v 0)
    → tree_row e a l v ≡ weight ∷ label ∷ first ∷ next ∷ []
unfolding tree_row
tree_row_lem e a l v weight label first next p q r s = rw (p, q, r, s)

-- the head and the records of the nodes 1 to v
unfoldable pub tree_upto : Edition → List ℕ → List ℕ → ℕ → List ℕ
tree_upto e a links v = nodes_in e a ∷ limit_in e a ∷ list_to v (tree_row e a links)

pub length-tree_upto : (e : Edition) (a l : List ℕ) (v : ℕ) → length (tree_upto e a l v) ≡ 2 + 4 * v
unfolding tree_upto
length-tree_upto e a l v = omega (arith, length_records_to (tree_row e a l) 4 (tree_wide e a l) v)

pub tree_decoded : (e : Edition) (a l : List ℕ)
    → Upto (nodes_in e a) (λ v. pick (eqb v 1) 0 (get_or l v 0) ≡ next_in e a v)
    → bytes_of (tree_upto e a l (nodes_in e a)) ≡ table_in e a
unfolding tree_upto tree_row table_in
tree_decoded e a l h =
    ap (λ (r : List ℕ). bytes_of (nodes_in e a ∷ limit_in e a ∷ r))
    (list_to_cong (nodes_in e a) (tree_row e a l) _
    (λ v low high. ap (λ n. node_field_in e a v 0 ∷ node_field_in e a v 1 ∷ first_in e a v ∷ n ∷ []) (h v low high)))
