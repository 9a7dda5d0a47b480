-- Document 01, 'The archive', and document 02, Six: the bytes of a tree and a plan, and the tree and the plan that an
-- archive's bytes tell. The layout is a description of the edition, which writing and reading share: document 01 has
-- the first edition, and document 02 the second.
use Rattle.std.specs.Prelude.{ℕ, ◌+◌, ◌-◌, ◌*◌, Bool, true, false, ◌&&◌, List, [], ◌∷◌, ◌++◌, take, drop, eqb, ltb, leb}
use Rattle.model.specs.Basics.{pick, at_place, count_to, first_to, list_to}
use Rattle.model.specs.Table.{word_at, bytes_of, node_count, limit_of, weight_at, label_at}
use Rattle.model.specs.Plan.{stays, begins, continues, parent_at, page_of, page_count, page_weight, page_nodes}
use Rattle.model.specs.Runs.{page_run}
use Rattle.model.specs.declared.Edition.{Edition}

-- the archive of document 01: N, K, P; four words a page; at most 1,024 nodes, by which film decks size their memory;
-- film written before document 02, One, may have labels 0
abbrev pub first_edition : Edition
first_edition = record { head = 3; page = 4; most = 1024; filed = false }

-- that of document 02, Six: 8,194, N, K, P; five words a page; at most 2,048 nodes; no label 0
abbrev pub second_edition : Edition
second_edition = record { head = 4; page = 5; most = 2048; filed = true }

-- ---- Writing

-- the word that tells the second edition, which is above the N of every archive of the first
abbrev pub edition_word : ℕ
edition_word = 8194

-- the head: of the edition's word, N, K and P (page count), as many of the last as the edition has
unfoldable pub head_words : Edition → List ℕ → List ℕ → List ℕ
head_words e t m = drop (4 - e.head) (edition_word ∷ node_count t ∷ limit_of t ∷ page_count t m ∷ [])

-- p + 1, or zero after the last
unfoldable pub next_page : ℕ → ℕ → ℕ
next_page p pages = pick (ltb p pages) (p + 1) 0

-- a page record: of first node, last sibling of the run, weight, next page and number of nodes, as many of the first as
-- the edition has
unfoldable pub page_record : Edition → List ℕ → List ℕ → ℕ → List ℕ
page_record e t m p =
    take e.page
    ((page_run t m p).first ∷ (page_run t m p).last ∷ page_weight t m p ∷ next_page p (page_count t m) ∷ page_nodes t m p ∷ [])

-- the next node of the same page in rising order, or zero
unfoldable pub next_on_page : List ℕ → List ℕ → ℕ → ℕ
next_on_page t m v = at_place (first_to (node_count t) (λ u. ltb v u && eqb (page_of t m u) (page_of t m v))) (λ u. u) 0

-- a node record: weight, label, parent, next node of the same page
unfoldable pub node_record : List ℕ → List ℕ → ℕ → List ℕ
node_record t m v = weight_at t v ∷ label_at t v ∷ parent_at t v ∷ next_on_page t m v ∷ []

unfoldable pub archive_of : Edition → List ℕ → List ℕ → List ℕ
archive_of e t m =
    bytes_of (head_words e t m ++ list_to (page_count t m) (page_record e t m) ++ list_to (node_count t) (node_record t m))

-- 6 + 8 × P + 8 × N for the first edition, 8 + 10 × P + 8 × N for the second
abbrev pub archive_bytes : Edition → ℕ → ℕ → ℕ
archive_bytes e pages nodes = 2 * e.head + 2 * e.page * pages + 8 * nodes

-- ---- Reading: N, K, P, and word f of page q's and node v's record

unfoldable pub nodes_in : Edition → List ℕ → ℕ
nodes_in e a = word_at a (e.head - 3)

unfoldable pub limit_in : Edition → List ℕ → ℕ
limit_in e a = word_at a (e.head - 2)

unfoldable pub pages_in : Edition → List ℕ → ℕ
pages_in e a = word_at a (e.head - 1)

unfoldable pub page_field_in : Edition → List ℕ → ℕ → ℕ → ℕ
page_field_in e a q f = word_at a (e.head + e.page * (q - 1) + f)

unfoldable pub node_field_in : Edition → List ℕ → ℕ → ℕ → ℕ
node_field_in e a v f = word_at a (e.head + e.page * pages_in e a + 4 * (v - 1) + f)

unfoldable pub parent_in : Edition → List ℕ → ℕ → ℕ
parent_in e a v = node_field_in e a v 2

-- node v's first child is the node after it, if that has v for its parent
unfoldable pub first_in : Edition → List ℕ → ℕ → ℕ
first_in e a v = pick (ltb v (nodes_in e a) && eqb (parent_in e a (v + 1)) v) (v + 1) 0

-- its next sibling is the next node with its parent; node 1 has none
unfoldable pub next_in : Edition → List ℕ → ℕ → ℕ
next_in e a v =
    pick (eqb v 1) 0
    (at_place (first_to (nodes_in e a) (λ u. ltb v u && eqb (parent_in e a u) (parent_in e a v))) (λ u. u) 0)

-- the tree's table
unfoldable pub table_in : Edition → List ℕ → List ℕ
table_in e a =
    bytes_of (nodes_in e a ∷ limit_in e a
    ∷ list_to (nodes_in e a) (λ v. node_field_in e a v 0 ∷ node_field_in e a v 1 ∷ first_in e a v ∷ next_in e a v ∷ []))

-- node v begins page q's run, or it is a sibling of that run's first node between it and the run's last
unfoldable pub begins_in : Edition → List ℕ → ℕ → ℕ → Bool
begins_in e a v q = eqb (page_field_in e a q 0) v

unfoldable pub continues_in : Edition → List ℕ → ℕ → ℕ → Bool
continues_in e a v q =
    ltb (page_field_in e a q 0) v && leb v (page_field_in e a q 1)
    && eqb (parent_in e a v) (parent_in e a (page_field_in e a q 0))

unfoldable pub mark_in : Edition → List ℕ → ℕ → ℕ
mark_in e a v =
    pick (ltb 0 (count_to (pages_in e a) (begins_in e a v))) begins
    (pick (ltb 0 (count_to (pages_in e a) (continues_in e a v))) continues stays)

-- the plan's marks
unfoldable pub marks_in : Edition → List ℕ → List ℕ
marks_in e a = list_to (nodes_in e a) (λ v. mark_in e a v ∷ [])
