-- Document 01, 'The tree table': words, records, the walk, the tree by shape, and the table of such a tree.
use Rattle.std.specs.Prelude.{ℕ, zero, suc, ◌+◌, ◌-◌, ◌*◌, ◌/◌, ◌%◌, ◌<◌, not, ◌&&◌, List, [], ◌∷◌, ◌++◌, get_or, eqb, ltb}
use Rattle.model.specs.Basics.{pick, when}
use Rattle.std.specs.declared.option.Option.{Option}
use Rattle.std.specs.declared.option.Option.TheVariants.{Some}

-- the most nodes that a table has
abbrev pub max_nodes : ℕ
max_nodes = 2048

-- the highest page limit
abbrev pub max_limit : ℕ
max_limit = 1024

-- a place for each node or page by number, and one for 0
abbrev pub slots : ℕ
slots = max_nodes + 1

-- every element is a byte
abbrev pub Bytes : List ℕ → Type 0
Bytes t = (i : ℕ) → get_or t i 0 < 256

-- word i of a string of bytes, from 0: 16 bits, high byte first
unfoldable pub word_at : List ℕ → ℕ → ℕ
word_at bs i = get_or bs (2 * i) 0 * 256 + get_or bs (2 * i + 1) 0

-- the bytes of a list of words
unfoldable pub bytes_of : List ℕ → List ℕ
bytes_of [] = []
bytes_of (w ∷ ws) = w / 256 ∷ w % 256 ∷ bytes_of ws

-- word 0 is N, the number of nodes, and word 1 is K, the page limit
abbrev pub node_count : List ℕ → ℕ
node_count t = word_at t 0

abbrev pub limit_of : List ℕ → ℕ
limit_of t = word_at t 1

-- N records of four words follow, for the nodes 1 to N: weight, label, first child, next sibling
unfoldable pub field_at : List ℕ → ℕ → ℕ → ℕ
field_at t v f = word_at t (2 + 4 * (v - 1) + f)

abbrev pub weight_at : List ℕ → ℕ → ℕ
weight_at t v = field_at t v 0

abbrev pub label_at : List ℕ → ℕ → ℕ
label_at t v = field_at t v 1

abbrev pub first_at : List ℕ → ℕ → ℕ
first_at t v = field_at t v 2

abbrev pub next_at : List ℕ → ℕ → ℕ
next_at t v = field_at t v 3

-- how many bytes the table of n nodes has
abbrev pub table_bytes : ℕ → ℕ
table_bytes n = 4 + 8 * n

-- The walk of the chains, child before sibling: where it fails, at the number of nodes met in order before that. The
-- list is what is still to be visited; 0 is the end of a chain. Each node met puts two numbers in the place of one.
unfoldable pub walk_from : ℕ → List ℕ → ℕ → ℕ → List ℕ → Option ℕ
walk_from zero t n met pending = Some met
walk_from (suc f) t n met [] = when (not (eqb met n)) met
walk_from (suc f) t n met (zero ∷ pending) = walk_from f t n met pending
walk_from (suc f) t n met (suc v ∷ pending) =
    pick (eqb v met && ltb met n) (walk_from f t n (suc met) (first_at t (suc v) ∷ next_at t (suc v) ∷ pending)) (Some met)

-- where the walk from node 1 fails: 0 if node 1 has a sibling, else as many nodes as it met in order
unfoldable pub walk_place : List ℕ → Option ℕ
walk_place t = pick (eqb (next_at t 1) 0) (walk_from (2 * node_count t + 2) t (node_count t) 0 (1 ∷ [])) (Some 0)

-- A chain of siblings by shape: each with its weight, its label, the chain of its children and the siblings after it.
pub data Chain : Type 0 where
  end : Chain
  node : (weight label : ℕ) (kids next : Chain) → Chain

-- the chain that starts at node v; f bounds how deep the links are followed
unfoldable pub chain_from : ℕ → List ℕ → ℕ → Chain
chain_from zero t v = end
chain_from (suc f) t zero = end
chain_from (suc f) t (suc v) =
    node (weight_at t (suc v)) (label_at t (suc v)) (chain_from f t (first_at t (suc v))) (chain_from f t (next_at t (suc v)))

-- the tree of a table, as the chain that starts at node 1
unfoldable pub tree_of : List ℕ → Chain
tree_of t = chain_from (node_count t) t 1

-- how many nodes a chain and all below it have
unfoldable pub size : Chain → ℕ
size end = 0
size (node w l kids next) = suc (size kids + size next)

-- ---- The table of a tree by shape

-- the link to a chain whose nodes are numbered from m + 1
unfoldable pub link_to : ℕ → Chain → ℕ
link_to m end = 0
link_to m (node w l kids next) = suc m

-- the words of the records of a chain whose nodes are numbered from m + 1
unfoldable pub records : ℕ → Chain → List ℕ
records m end = []
records m (node w l kids next) =
    w ∷ l ∷ link_to (suc m) kids ∷ link_to (suc m + size kids) next ∷
    (records (suc m) kids ++ records (suc m + size kids) next)

-- the table of a limit and a tree
unfoldable pub encoded : ℕ → Chain → List ℕ
encoded K c = bytes_of (size c ∷ K ∷ records 0 c)
