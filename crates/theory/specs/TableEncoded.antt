-- The table of a limit and a tree by shape. Of a tree with one root, within the bounds of a table, it is accepted and
-- has that tree.
-- Defines Fits, Encodable. Proves encoded_count, encoded_limit, encoded_tree, encoded_sound (sound form, whatever the
-- weights and the labels), encoded_accepted; and tree_fits: the nodes of an accepted tree are within those bounds. They
-- serve a late leaf, and stand ready for request Fourteen (the table of a load). Assumes nothing.
use Rattle.std.specs.Prelude.{ℕ, suc, ◌+◌, ◌-◌, ◌*◌, ◌≤◌, ◌<◌, true, ◌≡◌, List, ◌∷◌, ◌++◌, length}
use Rattle.std.proofs.Common.{arith, add-zero, zero-add, ◌∙◌, ap, length-append}
use Rattle.std.proofs.Math.Path.{refl}
use Rattle.model.specs.Table.{Bytes, max_nodes, max_limit, word_at, bytes_of, node_count, limit_of, field_at, weight_at}
use Rattle.model.specs.Table.{label_at, first_at, next_at, table_bytes, Chain, end, node, tree_of, size}
unfoldable pub use Rattle.model.specs.Table.{link_to, records, encoded}
use Rattle.model.specs.Refusals.{accepted_tree}
use Rattle.model.specs.Demand.{Filed}
use Rattle.theory.specs.Words.{Words, word_small, words_nil, words_cons, words_append, words_bytes}
use Rattle.theory.specs.Words.{length_bytes_of, word_at_bytes_of, Holds, holds_bytes_of, holds_append}
use Rattle.theory.specs.TableFacts.{SoundFacts, AcceptedFacts, facts_accepted}
use Rattle.theory.specs.TableNumbered.{Numbered, none, some, size_node, numbered_size, numbered_walk}
use Rattle.theory.specs.TableNumbered.{numbered_chain, sound_tree, EachNode, numbered_each, each_numbered}

-- ---- The records of a chain

length-records : (m : ℕ) (c : Chain) → length (records m c) ≡ 4 * size c
unfolding records size
length-records m end = refl
length-records m (node w l kids next) =
    omega (
      arith,
      length-append (records (suc m) kids) (records (suc m + size kids) next),
      length-records (suc m) kids,
      length-records (suc m + size kids) next,
    )

-- word f of node m + 1
field_word : (t : List ℕ) (m f i : ℕ) → i ≡ 2 + 4 * m + f → field_at t (suc m) f ≡ word_at t i
unfolding field_at
field_word t m f i place = ap (word_at t) (omega arith)

numbered_by : {t : List ℕ} {m a b w l e₁ e₂ e : ℕ} {kids next : Chain} → weight_at t (suc m) ≡ w → label_at t (suc m) ≡ l
    → first_at t (suc m) ≡ a → next_at t (suc m) ≡ b → e₂ ≡ e → Numbered t (suc m) a kids e₁ → Numbered t e₁ b next e₂
    → Numbered t m (suc m) (node w l kids next) e
numbered_by {t} {m} {kids = kids} {next = next} weight label first after last k s =
    rw (← weight, ← label, ← last) (some (rw (← first) at k) (rw (← after) at s))

-- a chain whose records stand in the table is numbered
holds_numbered : (t : List ℕ) (c : Chain) (m i : ℕ) → i ≡ 2 + 4 * m → Holds t i (records m c)
    → Numbered t m (link_to m c) c (m + size c)
unfolding Holds records link_to size
holds_numbered t end m i place h = rw (add-zero m) none
holds_numbered t (node w l kids next) m i place h =
    let rest : ℕ = suc (suc (suc (suc i))) in
    let long = length-records (suc m) kids in
    let both = holds_append t rest (records (suc m) kids) (records (suc m + size kids) next) h.1.1.1.1 in
    numbered_by
    (field_word t m 0 i (omega arith) ∙ h.0)
    (field_word t m 1 (suc i) (omega arith) ∙ h.1.0)
    (field_word t m 2 (suc (suc i)) (omega arith) ∙ h.1.1.0)
    (field_word t m 3 (suc (suc (suc i))) (omega arith) ∙ h.1.1.1.0)
    (omega arith)
    (holds_numbered t kids (suc m) rest (omega arith) both.0)
    (holds_numbered t next (suc m + size kids) (rest + length (records (suc m) kids)) (omega arith) both.1)

-- ---- What a table can have

-- the weight and the label of a node
abbrev pub Fits : ℕ → ℕ → ℕ → Type 0
Fits K w l = (w ≤ K) × (1 ≤ l) × (l < 65536)

pub record Encodable (K : ℕ) (c : Chain) : Type 0 where
  pub limit_low : 1 ≤ K
  pub limit_high : K ≤ max_limit
  pub few : size c ≤ max_nodes
  pub nodes : EachNode (Fits K) c

pub tree_fits : {t : List ℕ} → AcceptedFacts t → Filed t → Bytes t → EachNode (Fits (limit_of t)) (tree_of t)
unfolding field_at
tree_fits {t} a f h =
    numbered_each (Fits (limit_of t)) (sound_tree a.sound)
    (λ u low high. (a.light u low high, f u low high, word_small t (2 + 4 * (u - 1) + 1) h))

pub link_to_le : (m : ℕ) (c : Chain) → link_to m c ≤ m + size c
unfolding link_to size
link_to_le m end = omega arith
link_to_le m (node w l kids next) = omega arith

records_words : (K m : ℕ) (c : Chain) → EachNode (Fits K) c → K ≤ max_limit → m + size c ≤ max_nodes → Words (records m c)
unfolding records EachNode size
records_words K m end h high few = words_nil
records_words K m (node w l kids next) h high few =
    let last : ℕ = suc m + size kids in
    let a : ℕ = link_to (suc m) kids in
    let b : ℕ = link_to last next in
    let rest : List ℕ = records (suc m) kids ++ records last next in
    words_cons w (l ∷ a ∷ b ∷ rest) (omega (arith, h.0.0))
    (words_cons l (a ∷ b ∷ rest) h.0.2
    (words_cons a (b ∷ rest) (omega (arith, link_to_le (suc m) kids))
    (words_cons b rest (omega (arith, link_to_le last next))
    (words_append (records (suc m) kids) (records last next)
    (records_words K (suc m) kids h.1 high (omega arith)) (records_words K last next h.2 high (omega arith))))))

-- ---- The table of a limit and a tree

module _ (K : ℕ) (c : Chain) where
  pub encoded_count : node_count (encoded K c) ≡ size c
  unfolding encoded
  encoded_count = word_at_bytes_of (size c ∷ K ∷ records 0 c) 0

  pub encoded_limit : limit_of (encoded K c) ≡ K
  unfolding encoded
  encoded_limit = word_at_bytes_of (size c ∷ K ∷ records 0 c) 1

  encoded_length : length (encoded K c) ≡ table_bytes (size c)
  unfolding encoded
  encoded_length = omega (arith, length_bytes_of (size c ∷ K ∷ records 0 c), length-records 0 c)

  encoded_numbered : Numbered (encoded K c) 0 (link_to 0 c) c (size c)
  unfolding encoded Holds
  encoded_numbered =
      rw (zero-add (size c)) at
      (holds_numbered (bytes_of (size c ∷ K ∷ records 0 c)) c 0 2 refl (holds_bytes_of (size c ∷ K ∷ records 0 c)).1.1)

  encoded_bytes : Encodable K c → Bytes (encoded K c)
  unfolding encoded
  encoded_bytes h =
      words_bytes (size c ∷ K ∷ records 0 c)
      (words_cons (size c) (K ∷ records 0 c) (omega (arith, h.few))
      (words_cons K (records 0 c) (omega (arith, h.limit_high))
      (records_words K 0 c h.nodes h.limit_high (omega (arith, h.few)))))

module _ (K w l : ℕ) (kids : Chain) where
  abbrev tree : Chain
  tree = node w l kids end

  encoded_root : Numbered (encoded K tree) 0 1 tree (node_count (encoded K tree))
  unfolding link_to
  encoded_root = rw (encoded_count K tree) (encoded_numbered K tree)

  pub encoded_tree : tree_of (encoded K tree) ≡ tree
  unfolding tree_of
  encoded_tree = numbered_chain encoded_root (node_count (encoded K tree)) (omega (arith, numbered_size encoded_root))

  encoded_alone : next_at (encoded K tree) 1 ≡ 0
  unfolding encoded records link_to
  encoded_alone = field_word (encoded K tree) 0 3 5 refl ∙ word_at_bytes_of (size tree ∷ K ∷ records 0 tree) 5

  encoded_fits : Encodable K tree → (v : ℕ) → 1 ≤ v → v ≤ node_count (encoded K tree)
      → Fits K (weight_at (encoded K tree) v) (label_at (encoded K tree) v)
  encoded_fits h = each_numbered (Fits K) encoded_root h.nodes

  -- whatever the weights and the labels
  pub encoded_sound : 1 ≤ K → K ≤ max_limit → size tree ≤ max_nodes → SoundFacts (encoded K tree)
  encoded_sound low high few =
      record {
        count_low = omega (arith, encoded_count K tree, size_node w l kids end);
        count_high = omega (arith, encoded_count K tree);
        limit_low = omega (arith, encoded_limit K tree);
        limit_high = omega (arith, encoded_limit K tree);
        bytes = omega (arith, encoded_length K tree, encoded_count K tree);
        root_alone = encoded_alone;
        walks = numbered_walk encoded_root;
      }

  encoded_facts : Encodable K tree → AcceptedFacts (encoded K tree)
  encoded_facts h =
      record {
        sound = encoded_sound h.limit_low h.limit_high h.few;
        light = λ v low high. rw (encoded_limit K tree) (encoded_fits h v low high).0;
      }

  pub encoded_accepted : Encodable K tree
      → (accepted_tree (encoded K tree) ≡ true) × (tree_of (encoded K tree) ≡ tree) × Bytes (encoded K tree)
  encoded_accepted h = (
    facts_accepted (encoded K tree) (encoded_facts h) (λ v low high. (encoded_fits h v low high).1),
    encoded_tree,
    encoded_bytes K tree h,
  )
