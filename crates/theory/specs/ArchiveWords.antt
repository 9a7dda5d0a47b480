-- The words of an archive of an edition: its length, its head, and the fields of its page and node records, read back
-- as they were written. They hold of any table and marks. What the laws take of an edition is said once, in Described,
-- and holds of both.
-- Defines Described. Proves first_described, second_described; length_archive and archive_nodes_lem to archive_parent;
-- second_word. Assumes nothing.
use Prim.Native.Nat.{ℕ, suc, ◌+◌, ◌-◌, ◌*◌, ◌≤◌, ◌<◌}
use native.Mathlib.Omega.{arith}
use Rattle.std.proofs.Math.Nat.{mul-le-mul_left}
use Rattle.std.specs.Prelude.{◌≡◌, refl, List, [], ◌∷◌, ◌++◌, length, drop}
use Rattle.std.proofs.Common.{◌∙◌, length-drop, length-take-le, get_or-take, get_or-drop}
use Rattle.std.proofs.Math.Path.{ap}
use Rattle.std.proofs.Math.ListN.{get_or, length-append, get_or-append}
use Rattle.std.proofs.Math.Seq.{get_or-append-add}
use Rattle.model.specs.Basics.{list_to}
use Rattle.model.specs.Table.{word_at, node_count, limit_of, weight_at, label_at}
use Rattle.model.specs.Plan.{parent_at, page_count, page_weight}
use Rattle.model.specs.Runs.{page_run}
use Rattle.model.specs.Archive.{first_edition, second_edition, edition_word, head_words, page_record, next_on_page, node_record}
use Rattle.model.specs.Archive.{archive_of, archive_bytes}
use Rattle.model.specs.Archive.{nodes_in, limit_in, pages_in, page_field_in, node_field_in, parent_in}
use Rattle.model.specs.declared.Edition.{Edition}
use Rattle.theory.specs.Words.{length_bytes_of, word_at_bytes_of}
use Rattle.theory.specs.Put.{length_records_to, get_d_records_to}

-- ---- What the laws take of an edition

-- its head has as many words as it says, and N, K and P are the last three of them; a page record has as many words as
-- it says, of which there are four at least, and the first three are first node, last sibling and weight
pub record Described (e : Edition) : Type 0 where
  pub head_low : 3 ≤ e.head
  pub head : (t m : List ℕ) → length (head_words e t m) ≡ e.head
  pub nodes_at : (t m : List ℕ) → get_or (head_words e t m) (e.head - 3) 0 ≡ node_count t
  pub limit_at : (t m : List ℕ) → get_or (head_words e t m) (e.head - 2) 0 ≡ limit_of t
  pub pages_at : (t m : List ℕ) → get_or (head_words e t m) (e.head - 1) 0 ≡ page_count t m
  pub page_low : 4 ≤ e.page
  pub page : (t m : List ℕ) (p : ℕ) → length (page_record e t m p) ≡ e.page
  pub first_at_lem : (t m : List ℕ) (p : ℕ) → get_or (page_record e t m p) 0 0 ≡ (page_run t m p).first
  pub last_at_lem : (t m : List ℕ) (p : ℕ) → get_or (page_record e t m p) 1 0 ≡ (page_run t m p).last
  pub weight_at_lem : (t m : List ℕ) (p : ℕ) → get_or (page_record e t m p) 2 0 ≡ page_weight t m p

-- a head with all its words
abbrev whole_head : List ℕ → List ℕ → List ℕ
whole_head t m = edition_word ∷ node_count t ∷ limit_of t ∷ page_count t m ∷ []

-- so it is with three or four words of head, and four or five a page record
described : (e : Edition) → 3 ≤ e.head → e.head ≤ 4 → 4 ≤ e.page → e.page ≤ 5 → Described e
unfolding head_words page_record
described e head_low head_high page_low page_high =
    record {
      head_low = head_low;
      head = λ t m. length-drop (4 - e.head) (whole_head t m) ∙ omega arith;
      nodes_at = λ t m. in_head t m (e.head - 3) 1 (omega arith);
      limit_at = λ t m. in_head t m (e.head - 2) 2 (omega arith);
      pages_at = λ t m. in_head t m (e.head - 1) 3 (omega arith);
      page_low = page_low;
      page = λ t m p. length-take-le e.page _ page_high;
      first_at_lem = λ t m p. get_or-take e.page _ 0 0 (omega arith);
      last_at_lem = λ t m p. get_or-take e.page _ 1 0 (omega arith);
      weight_at_lem = λ t m p. get_or-take e.page _ 2 0 (omega arith);
    }
  where
    in_head : (t m : List ℕ) (i j : ℕ) → 4 - e.head + i ≡ j
        → get_or (drop (4 - e.head) (whole_head t m)) i 0 ≡ get_or (whole_head t m) j 0
    in_head t m i j at = get_or-drop (4 - e.head) (whole_head t m) i 0 ∙ ap (λ k. get_or (whole_head t m) k 0) at

pub first_described : Described first_edition
first_described = described first_edition (omega arith) (omega arith) (omega arith) (omega arith)

pub second_described : Described second_edition
second_described = described second_edition (omega arith) (omega arith) (omega arith) (omega arith)

-- ---- The archive

pub length-node_record : (t m : List ℕ) (v : ℕ) → length (node_record t m v) ≡ 4
unfolding node_record
length-node_record t m v = refl

module _ {e : Edition} (d : Described e) (t m : List ℕ) where
  abbrev pages : List ℕ
  pages = list_to (page_count t m) (page_record e t m)

  abbrev front : List ℕ
  front = head_words e t m ++ pages

  abbrev nodes : List ℕ
  nodes = list_to (node_count t) (node_record t m)

  length-pages : length pages ≡ e.page * page_count t m
  length-pages = length_records_to (page_record e t m) e.page (d.page t m) (page_count t m)

  length_front : length front ≡ e.head + e.page * page_count t m
  length_front = omega (arith, length-append (head_words e t m) pages, d.head t m, length-pages)

  length-nodes : length nodes ≡ 4 * node_count t
  length-nodes = length_records_to (node_record t m) 4 (length-node_record t m) (node_count t)

  pub length_archive : length (archive_of e t m) ≡ archive_bytes e (page_count t m) (node_count t)
  unfolding archive_of
  length_archive =
      omega (arith, length_bytes_of (front ++ nodes), length-append front nodes, length_front, length-nodes)

  archive_word : (i : ℕ) → word_at (archive_of e t m) i ≡ get_or (front ++ nodes) i 0
  unfolding archive_of
  archive_word i = word_at_bytes_of (front ++ nodes) i

  -- a word of the head and the page records
  archive_front : (i : ℕ) → i < e.head + e.page * page_count t m → word_at (archive_of e t m) i ≡ get_or front i 0
  archive_front i less = archive_word i ∙ get_or-append front nodes 0 i (omega (arith, length_front))

  archive_head : (i : ℕ) → i < e.head → word_at (archive_of e t m) i ≡ get_or (head_words e t m) i 0
  archive_head i less =
      archive_front i (omega arith) ∙ get_or-append (head_words e t m) pages 0 i (omega (arith, d.head t m))

  pub archive_nodes_lem : nodes_in e (archive_of e t m) ≡ node_count t
  unfolding nodes_in
  archive_nodes_lem = archive_head (e.head - 3) (omega (arith, d.head_low)) ∙ d.nodes_at t m

  pub archive_limit : limit_in e (archive_of e t m) ≡ limit_of t
  unfolding limit_in
  archive_limit = archive_head (e.head - 2) (omega (arith, d.head_low)) ∙ d.limit_at t m

  pub archive_pages : pages_in e (archive_of e t m) ≡ page_count t m
  unfolding pages_in
  archive_pages = archive_head (e.head - 1) (omega (arith, d.head_low)) ∙ d.pages_at t m

  -- word f of page q's record
  archive_page : (q f : ℕ) → 1 ≤ q → q ≤ page_count t m → f < e.page
      → page_field_in e (archive_of e t m) q f ≡ get_or (page_record e t m q) f 0
  unfolding page_field_in
  archive_page q f low high less =
      let here : ℕ = e.page * (q - 1) + f in
      let next : suc (q - 1) ≤ page_count t m = omega arith in
      archive_front (e.head + e.page * (q - 1) + f) (omega (arith, mul-le-mul_left e.page next))
      ∙ ap (λ i. get_or front i 0) (omega (arith, d.head t m))
      ∙ get_or-append-add (head_words e t m) pages here 0
      ∙ get_d_records_to (page_record e t m) e.page (d.page t m) (page_count t m) q f low high less

  module _ (q : ℕ) (low : 1 ≤ q) (high : q ≤ page_count t m) where
    pub archive_begin : page_field_in e (archive_of e t m) q 0 ≡ (page_run t m q).first
    archive_begin = archive_page q 0 low high (omega (arith, d.page_low)) ∙ d.first_at_lem t m q

    pub archive_end : page_field_in e (archive_of e t m) q 1 ≡ (page_run t m q).last
    archive_end = archive_page q 1 low high (omega (arith, d.page_low)) ∙ d.last_at_lem t m q

    pub archive_weight : page_field_in e (archive_of e t m) q 2 ≡ page_weight t m q
    archive_weight = archive_page q 2 low high (omega (arith, d.page_low)) ∙ d.weight_at_lem t m q

  -- word f of node v's record
  pub archive_node : (v f : ℕ) → 1 ≤ v → v ≤ node_count t → f < 4
      → node_field_in e (archive_of e t m) v f
      ≡ get_or (weight_at t v ∷ label_at t v ∷ parent_at t v ∷ next_on_page t m v ∷ []) f 0
  unfolding node_field_in node_record
  archive_node v f low high less =
      archive_word (e.head + e.page * pages_in e (archive_of e t m) + 4 * (v - 1) + f)
      ∙ ap (λ i. get_or (front ++ nodes) i 0)
      (ap (λ k. e.head + e.page * k + 4 * (v - 1) + f) archive_pages ∙ omega (arith, length_front))
      ∙ get_or-append-add front nodes (4 * (v - 1) + f) 0
      ∙ get_d_records_to (node_record t m) 4 (length-node_record t m) (node_count t) v f low high less

  pub archive_parent : (v : ℕ) → 1 ≤ v → v ≤ node_count t → parent_in e (archive_of e t m) v ≡ parent_at t v
  unfolding parent_in
  archive_parent v low high = archive_node v 2 low high (omega arith)

-- where the first edition has N, the second has its word
pub second_word : (t m : List ℕ) → nodes_in first_edition (archive_of second_edition t m) ≡ edition_word
unfolding nodes_in head_words
second_word t m = archive_head second_described t m 0 (omega arith)
