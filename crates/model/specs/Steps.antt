-- Document 01, 'Planner steps', and the two quick planners of document 02: all six on a tree by shape. Marks are laid
-- in node order.
use Rattle.std.specs.Prelude.{ℕ, zero, suc, ◌+◌, ◌-◌, max, Bool, true, false, not, ◌&&◌, ◌||◌, List, [], ◌∷◌, ◌++◌, map, reverse, length, eqb, ltb, leb}
use Rattle.model.specs.Basics.{pick}
use Rattle.model.specs.Table.{Chain, end, node}
use Rattle.model.specs.Plan.{stays, begins, continues}

-- ---- What best, level, single and pair share: from siblings, or sides, the largest is taken off first, until their
-- sum has room

-- what one of them weighs now, what can still be taken off it, and whether it was
pub record Member : Type 0 where
  pub rest : ℕ
  pub gain : ℕ
  pub taken : Bool

unfoldable pub rest_sum : List Member → ℕ
rest_sum [] = 0
rest_sum (m ∷ ms) = m.rest + rest_sum ms

unfoldable pub gain_sum : List Member → ℕ
gain_sum [] = 0
gain_sum (m ∷ ms) = m.gain + gain_sum ms

unfoldable pub taken_count : List Member → ℕ
taken_count [] = 0
taken_count (m ∷ ms) = pick m.taken 1 0 + taken_count ms

unfoldable pub largest_gain : List Member → ℕ
largest_gain [] = 0
largest_gain (m ∷ ms) = max m.gain (largest_gain ms)

-- the gain g is taken off the earliest member that has it
unfoldable pub take_earliest : ℕ → List Member → List Member
take_earliest g [] = []
take_earliest g (m ∷ ms) =
    pick (eqb m.gain g) (record { rest = m.rest - g; gain = 0; taken = true } ∷ ms) (m ∷ take_earliest g ms)

-- Gains above 0 are taken, the largest first and the earlier among equals, until the sum is at most the room or none
-- is left. A gain that was taken is 0, so as many turns as there are members are enough.
unfoldable pub reduce_from : ℕ → ℕ → List Member → List Member
reduce_from zero room ms = ms
reduce_from (suc f) room ms =
    pick (leb (rest_sum ms) room || eqb (largest_gain ms) 0) ms (reduce_from f room (take_earliest (largest_gain ms) ms))

unfoldable pub reduce : ℕ → List Member → List Member
reduce room ms = reduce_from (length ms) room ms

-- ---- What planners share that weigh children before parents and lay marks from the root down

-- What each of a chain of siblings comes to: f makes it of the node's weight and of what its children come to. They are
-- put before what the siblings before the chain come to, so that the last comes first.
unfoldable pub siblings_by : {A : Type 0} → (ℕ → List A → A) → Chain → List A → List A
siblings_by f end before = before
siblings_by f (node w l kids next) before = siblings_by f next (f w (siblings_by f kids []) ∷ before)

-- The marks of a chain of siblings, where cs is what becomes of these: it tells a node's mark, and with the node's
-- weight and children what becomes of the children, the first of them first.
unfoldable pub lay_down : {A : Type 0} → (A → ℕ) → (ℕ → Chain → A → List A) → Chain → List A → List ℕ
lay_down mark below end cs = []
lay_down mark below (node w l kids next) [] = []
lay_down mark below (node w l kids next) (c ∷ cs) =
    mark c ∷ lay_down mark below kids (below w kids c) ++ lay_down mark below next cs

-- ---- Best (the report's DHW), and level (GHDW): the same with every gain 0

-- a child as its parent sees it: its rest weight under its best plan, and its gain, what its second plan takes off
pub record Child : Type 0 where
  pub rest : ℕ
  pub gain : ℕ

-- what becomes of a child: its mark, and whether it follows its second plan
pub record Choice : Type 0 where
  pub mark : ℕ
  pub second : Bool

-- an entry at a start, after some of the children: a count, a rest, and what becomes of them, the last child first
pub record Entry : Type 0 where
  pub count : ℕ
  pub rest : ℕ
  pub choices : List Choice

-- a later candidate wins only with a smaller count, or the same count and a smaller rest
unfoldable pub better : Entry → Entry → Entry
better e c = pick (ltb c.count e.count || (eqb c.count e.count && ltb c.rest e.rest)) c e

-- the candidates in order, the first against each later one; s stands where there is none
unfoldable pub least_of : Entry → List Entry → Entry
least_of e [] = e
least_of e (c ∷ cs) = least_of (better e c) cs

unfoldable pub winner : ℕ → List Entry → Entry
winner s [] = record { count = 0; rest = s; choices = [] }
winner s (c ∷ cs) = least_of c cs

-- the last child stays, where start and rest are at most K: the entry e at start s + a, before it
unfoldable pub staying : ℕ → ℕ → Child → Entry → List Entry
staying K s k e =
    pick (leb (s + k.rest) K)
    (record { count = e.count; rest = e.rest; choices = record { mark = stays; second = false } ∷ e.choices } ∷ [])
    []

-- the members of a run, the earliest first, before any second plan is taken
unfoldable pub as_member : Child → Member
as_member k = record { rest = k.rest; gain = k.gain; taken = false }

-- what becomes of a run's members: the first begins the run, the others continue it
unfoldable pub run_choices : ℕ → List Member → List Choice
run_choices mark [] = []
run_choices mark (m ∷ ms) = record { mark = mark; second = m.taken } ∷ run_choices continues ms

-- A run whose members are reduced to ms, after the entry e before it: a candidate where their sum is at most K. Its
-- count is that entry's, plus 1, plus the second plans taken; its rest is that entry's.
unfoldable pub running : ℕ → List Member → Entry → List Entry
running K ms e =
    pick (leb (rest_sum ms) K)
    (record {
      count = e.count + 1 + taken_count ms;
      rest = e.rest;
      choices = reverse (run_choices begins ms) ++ e.choices;
    } ∷ [])
    []

unfoldable pub run_of : ℕ → List Child → List Member
run_of K run = reduce K (map as_member run)

-- the lightest total of a run: the sum of its rests less the sum of its gains
unfoldable pub lightest : List Child → ℕ
lightest run = rest_sum (map as_member run) - gain_sum (map as_member run)

-- stretching left stops only once the lightest total passes K: that run is no candidate, and no longer one is
unfoldable pub stops_at : ℕ → List Child → Bool
stops_at K run = ltb K (lightest run)

-- The entry at start s after the children of the list, the last child first; and the candidates whose run goes on to
-- the left of a run already tried, the earliest child first.
unfoldable mutual
  pub entry_at : ℕ → List Child → ℕ → Entry
  entry_at K [] s = record { count = 0; rest = s; choices = [] }
  entry_at K (k ∷ ks) s =
      winner s
      (staying K s k (entry_at K ks (s + k.rest))
      ++ (running K (run_of K (k ∷ [])) (entry_at K ks s) ++ stretched K s (k ∷ []) ks))

  pub stretched : ℕ → ℕ → List Child → List Child → List Entry
  stretched K s run [] = []
  stretched K s run (k ∷ ks) =
      pick (stops_at K run) [] (running K (run_of K (k ∷ run)) (entry_at K ks s) ++ stretched K s (k ∷ run) ks)

-- the start of a second plan, where the best plan's rest is W
unfoldable pub second_start : ℕ → ℕ → ℕ → ℕ
second_start K w W = w + (K - W) + 1

-- W less the true rest of the second plan, which is its entry's rest less K - W + 1; 0 where there is no second plan
unfoldable pub gain_of : ℕ → ℕ → ℕ → Entry → ℕ
gain_of K w W e = pick (leb (second_start K w W) K) (W - (e.rest - (K - W + 1))) 0

-- the figures of a node of weight w, from its children's, the last first; without gains for level
unfoldable pub child_of : Bool → ℕ → ℕ → List Child → Child
child_of gains K w ks =
    let W : ℕ = (entry_at K ks w).rest in
    record { rest = W; gain = pick gains (gain_of K w W (entry_at K ks (second_start K w W))) 0 }

-- the figures of a chain of siblings, before those of the siblings before it
abbrev pub children_from : Bool → ℕ → Chain → List Child → List Child
children_from gains K = siblings_by (child_of gains K)

unfoldable pub children_of : Bool → ℕ → Chain → List Child
children_of gains K c = children_from gains K c []

-- what becomes of the children of a node under its best plan, or its second, the first child first
unfoldable pub choices_of : Bool → ℕ → ℕ → Chain → Bool → List Choice
choices_of gains K w kids second =
    let ks : List Child = children_of gains K kids in
    reverse (entry_at K ks (pick second (second_start K w (entry_at K ks w).rest) w)).choices

-- marks are laid from the root down: a child follows its second plan where a chosen run took it, else its best plan
abbrev pub lay_marks : Bool → ℕ → Chain → List Choice → List ℕ
lay_marks gains K = lay_down (λ (c : Choice). c.mark) (λ w kids c. choices_of gains K w kids c.second)

abbrev pub root_choice : List Choice
root_choice = record { mark = begins; second = false } ∷ []

unfoldable pub best_marks : ℕ → Chain → List ℕ
best_marks K c = lay_marks true K c root_choice

unfoldable pub level_marks : ℕ → Chain → List ℕ
level_marks K c = lay_marks false K c root_choice

-- ---- Single (KM)

-- a child's remainder, which can be taken off whole: that cuts the child
unfoldable pub whole : ℕ → Member
whole r = record { rest = r; gain = r; taken = false }

-- While a node of weight w and its uncut remainder exceed K, the child with the heaviest remainder is cut, the
-- earliest among equals.
unfoldable pub cut_down : ℕ → ℕ → List Member → List Member
cut_down K w ms = reduce (K - w) ms

-- the remainders of a chain of siblings
unfoldable pub remainders : ℕ → Chain → List Member
remainders K end = []
remainders K (node w l kids next) = whole (w + rest_sum (cut_down K w (remainders K kids))) ∷ remainders K next

-- a cut child is a run by itself
abbrev pub lay_single : ℕ → Chain → List Member → List ℕ
lay_single K = lay_down (λ (m : Member). pick m.taken begins stays) (λ w kids m. cut_down K w (remainders K kids))

unfoldable pub single_marks : ℕ → Chain → List ℕ
single_marks K c = lay_single K c (record { rest = 0; gain = 0; taken = true } ∷ [])

-- ---- Pair (EKM): single on the two-way tree, in which left is the first child and right the next sibling

-- the remainders of both sides; of equal sides the left is cut
unfoldable pub sides : ℕ → ℕ → ℕ → ℕ → List Member
sides K w left right = cut_down K w (whole left ∷ whole right ∷ [])

unfoldable pub remainder : ℕ → Chain → ℕ
remainder K end = 0
remainder K (node w l kids next) = w + rest_sum (sides K w (remainder K kids) (remainder K next))

unfoldable pub taken_at : ℕ → List Member → Bool
taken_at i [] = false
taken_at zero (m ∷ ms) = m.taken
taken_at (suc i) (m ∷ ms) = taken_at i ms

-- A cut node gets mark 1. An uncut first child gets 0. Another uncut node gets 0 if its previous sibling has 0, else 2.
unfoldable pub lay_pair : ℕ → Chain → Bool → ℕ → List ℕ
lay_pair K end cut uncut = []
lay_pair K (node w l kids next) cut uncut =
    let mark : ℕ = pick cut begins uncut in
    let ms : List Member = sides K w (remainder K kids) (remainder K next) in
    mark ∷ lay_pair K kids (taken_at 0 ms) stays ++ lay_pair K next (taken_at 1 ms) (pick (eqb mark stays) stays continues)

unfoldable pub pair_marks : ℕ → Chain → List ℕ
pair_marks K c = lay_pair K c true stays

-- ---- Rightmost (the report's RS): the children of a node by their remainders, the last child first

unfoldable pub total : List ℕ → ℕ
total [] = 0
total (r ∷ rs) = r + total rs

-- a choice for the uncut children rs of a node of weight w: while the node's weight and its uncut remainder exceed K
-- they are cut, and else kept
unfoldable pub while_over : ℕ → ℕ → List ℕ → List ℕ → List ℕ → List ℕ
while_over K w rs cut kept = pick (leb (w + total rs) K) kept cut

-- The marks of the uncut children, where a run starts at the last of them; and the marks from a run's last member so far
-- on, where `sum` is what the run weighs with it: the run takes left neighbours while the sum of their remainders stays
-- within K, and the leftmost of the run gets 1, the others 2.
unfoldable mutual
  pub cut_runs : ℕ → ℕ → List ℕ → List ℕ
  cut_runs K w [] = []
  cut_runs K w (r ∷ rs) = while_over K w (r ∷ rs) (run_left K w r rs) (stays ∷ cut_runs K w rs)

  pub run_left : ℕ → ℕ → ℕ → List ℕ → List ℕ
  run_left K w sum [] = begins ∷ []
  run_left K w sum (r ∷ rs) =
      pick (leb (sum + r) K) (continues ∷ run_left K w (sum + r) rs)
      (begins ∷ while_over K w (r ∷ rs) (run_left K w r rs) (stays ∷ cut_runs K w rs))

-- the remainders that stay, by their marks
unfoldable pub stayed : List ℕ → List ℕ → ℕ
stayed [] ms = 0
stayed (r ∷ rs) [] = 0
stayed (r ∷ rs) (m ∷ ms) = pick (eqb m stays) r 0 + stayed rs ms

-- a node's remainder: its weight, and what stays of its children
unfoldable pub right_rest : ℕ → ℕ → List ℕ → ℕ
right_rest K w rs = w + stayed rs (cut_runs K w rs)

-- children first: the remainders of a chain of siblings
unfoldable pub right_rests : ℕ → Chain → List ℕ
right_rests K c = siblings_by (right_rest K) c []

-- a child has the mark that the cuts of its node's children give it
abbrev pub lay_rightmost : ℕ → Chain → List ℕ → List ℕ
lay_rightmost K = lay_down (λ (m : ℕ). m) (λ w kids m. reverse (cut_runs K w (right_rests K kids)))

unfoldable pub rightmost_marks : ℕ → Chain → List ℕ
rightmost_marks K c = lay_rightmost K c (begins ∷ [])

-- ---- Depth-first (the report's DFS)

-- the current page, which is the one begun last: its number, 0 where there is none yet, and its weight so far
pub record Page : Type 0 where
  pub number : ℕ
  pub weight : ℕ

-- A node of weight w joins the current page if the page's weight and its own are at most K, and its parent or its
-- previous sibling is in that page; `up` and `back` are the pages of these two, 0 where there is none.
unfoldable pub joins : ℕ → ℕ → ℕ → ℕ → Page → Bool
joins K w up back p =
    not (eqb p.number 0) && leb (p.weight + w) K && (eqb up p.number || eqb back p.number)

-- it has mark 0 if the parent is there, else 2; otherwise it begins a page
unfoldable pub page_mark : ℕ → ℕ → ℕ → ℕ → Page → ℕ
page_mark K w up back p = pick (joins K w up back p) (pick (eqb up p.number) stays continues) begins

-- the current page with the node
unfoldable pub page_with : ℕ → ℕ → ℕ → ℕ → Page → Page
page_with K w up back p =
    pick (joins K w up back p) (record { number = p.number; weight = p.weight + w })
    (record { number = suc p.number; weight = w })

-- the current page after a chain of siblings and all below them
unfoldable pub page_after : ℕ → Chain → ℕ → ℕ → Page → Page
page_after K end up back p = p
page_after K (node w l kids next) up back p =
    let q : Page = page_with K w up back p in
    page_after K next up q.number (page_after K kids q.number 0 q)

-- the marks of a chain of siblings in node order, under a parent on page `up` and after a sibling on page `back`
unfoldable pub lay_depth_first : ℕ → Chain → ℕ → ℕ → Page → List ℕ
lay_depth_first K end up back p = []
lay_depth_first K (node w l kids next) up back p =
    let q : Page = page_with K w up back p in
    page_mark K w up back p ∷ lay_depth_first K kids q.number 0 q
    ++ lay_depth_first K next up q.number (page_after K kids q.number 0 q)

-- node 1 has neither parent nor sibling, and there is no page yet
unfoldable pub depth_first_marks : ℕ → Chain → List ℕ
depth_first_marks K c = lay_depth_first K c 0 0 (record { number = 0; weight = 0 })
