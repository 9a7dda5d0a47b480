-- The entries of a node's children without their lists of choices: a cell has the count and the rest in one word,
-- and the length of the run that won, 0 where the last child stays. A smaller word is a smaller count, or the same
-- count and a smaller rest.
-- Defines page_word, word_of, no_word; Cell, lower, run_word, try_run, stay_cell, cell_at, longer_runs; last_children,
-- stay_choice, rebuilt; Within; GoodChild, GoodChildren, LengthFits, Agrees.
-- Proves word_order, entry_within (bounds of an entry) and cell_entry: a cell has its entry's word, and the entry's
-- choices are rebuilt from the run's length. Assumes nothing.
use Rattle.std.specs.Prelude.{ℕ, zero, suc, ◌+◌, ◌*◌, ◌≤◌, ◌<◌, ◌≡◌, Bool, true, false, ◌&&◌, ◌||◌, length, drop, eqb, ltb, leb}
use Rattle.std.proofs.Math.Path.{refl}
use Rattle.std.proofs.Common.{◌∙◌, ap, inl, length-drop}
use mathlib.Core.List.{List, [], ◌∷◌, ◌++◌, map, reverse}
use native.Mathlib.Omega.{arith}
use Rattle.std.proofs.lemmas.List.{length-map}
use borrow.Author.Tests.{ltb-true, ltb-false, leb-true, eqb-true, eqb-false, lt-ltb, le-ltb, le-leb}
use Rattle.model.specs.Basics.{pick}
use Rattle.model.specs.Table.{max_nodes}
use Rattle.model.specs.Plan.{stays, begins}
use Rattle.model.specs.Steps.{Member, Child, Choice, Entry, rest_sum, taken_count, better, least_of, winner, staying}
use Rattle.model.specs.Steps.{as_member, run_choices, running, run_of, stops_at, entry_at, stretched}
use Rattle.theory.specs.Reduce.{reduce_length}
use Rattle.theory.specs.ReduceCount.{reduce_stop}
use Rattle.theory.specs.BestCandidates.{AllOf, all_append, least_all, stayed, ran, staying_all, running_all}

-- ---- Words

-- what one page counts in a word
abbrev pub page_word : ℕ
page_word = 65536

-- a count and a rest in one word
abbrev pub word_of : Entry → ℕ
word_of e = e.count * page_word + e.rest

-- above every word
abbrev pub no_word : ℕ
no_word = 4294967295

-- the order of words, where rests are below a page
pub word_order : (c d x y : ℕ) → x < page_word → y < page_word
    → ltb (c * page_word + x) (d * page_word + y) ≡ (ltb c d || (eqb c d && ltb x y))
word_order c d x y p q = go (ltb c d) (eqb c d) refl refl
  where
    go : (a b : Bool) → ltb c d ≡ a → eqb c d ≡ b → ltb (c * page_word + x) (d * page_word + y) ≡ (a || (b && ltb x y))
    go true b e f =
        let l : c < d = ltb-true c d e in
        let m : c * page_word + x < d * page_word + y = omega arith in
        lt-ltb (c * page_word + x) (d * page_word + y) m
    go false true e f = let same : c ≡ d = eqb-true c d f in last (ltb x y) refl same
      where
        last : (t : Bool) → ltb x y ≡ t → c ≡ d → ltb (c * page_word + x) (d * page_word + y) ≡ t
        last true g s =
            let l : x < y = ltb-true x y g in
            let m : c * page_word + x < d * page_word + y = omega arith in
            lt-ltb (c * page_word + x) (d * page_word + y) m
        last false g s =
            let l : y ≤ x = ltb-false x y g in
            let m : d * page_word + y ≤ c * page_word + x = omega arith in
            le-ltb (c * page_word + x) (d * page_word + y) m
    go false false e f =
        let l : d ≤ c = ltb-false c d e in
        let n : c ≡ d → ⊥ = eqb-false c d f in
        let m : d * page_word + y ≤ c * page_word + x = omega arith in
        le-ltb (c * page_word + x) (d * page_word + y) m

-- ---- Cells

pub record Cell : Type 0 where
  pub word : ℕ
  pub run : ℕ

-- a candidate wins only with a smaller word
unfoldable pub lower : ℕ → ℕ → Cell → Cell
lower word len c = pick (ltb word c.word) (record { word = word; run = len }) c

-- the word of a run that is reduced to ms, where `before` is the word before it
abbrev pub run_word : List Member → ℕ → ℕ
run_word ms before = before + (1 + taken_count ms) * page_word

-- a run of so many members, which are reduced to ms, against the candidates before it
unfoldable pub try_run : ℕ → List Member → ℕ → ℕ → Cell → Cell
try_run K ms len before c = pick (leb (rest_sum ms) K) (lower (run_word ms before) len c) c

-- the last child stays, where start and rest are at most K
unfoldable pub stay_cell : ℕ → ℕ → ℕ → ℕ → Cell
stay_cell K s a before = record { word = pick (leb (s + a) K) before no_word; run = 0 }

-- The cell at start s after the children of the list, the last child first; and what the longer runs make of a cell,
-- where the run of so many was already tried.
unfoldable mutual
  pub cell_at : ℕ → List Child → ℕ → Cell
  cell_at K [] s = record { word = s; run = 0 }
  cell_at K (k ∷ ks) s =
      longer_runs K s (k ∷ []) 1 ks
      (try_run K (run_of K (k ∷ [])) 1 (cell_at K ks s).word (stay_cell K s k.rest (cell_at K ks (s + k.rest)).word))

  pub longer_runs : ℕ → ℕ → List Child → ℕ → List Child → Cell → Cell
  longer_runs K s run len [] c = c
  longer_runs K s run len (k ∷ ks) c =
      pick (stops_at K run) c
      (longer_runs K s (k ∷ run) (suc len) ks (try_run K (run_of K (k ∷ run)) (suc len) (cell_at K ks s).word c))

-- the last r of the children, the earliest first, before those of `run`
unfoldable pub last_children : ℕ → List Child → List Child → List Child
last_children zero run ks = run
last_children (suc r) run [] = run
last_children (suc r) run (k ∷ ks) = last_children r (k ∷ run) ks

abbrev pub stay_choice : Choice
stay_choice = record { mark = stays; second = false }

-- the choices of an entry from the length of the run that won
unfoldable pub rebuilt : ℕ → ℕ → List Child → ℕ → List Choice
rebuilt K zero [] s = []
rebuilt K zero (k ∷ ks) s = stay_choice ∷ (entry_at K ks (s + k.rest)).choices
rebuilt K (suc r) [] s = []
rebuilt K (suc r) (k ∷ ks) s =
    reverse (run_choices begins (run_of K (last_children r (k ∷ []) ks))) ++ (entry_at K (drop r ks) s).choices

-- ---- Bounds of an entry

-- a rest at most K, and at most two pages a child
pub record Within (K n : ℕ) (e : Entry) : Type 0 where
  pub rest_high : e.rest ≤ K
  pub count_high : e.count ≤ 2 * n

winner_keeps : (P : Entry → Type 0) (s : ℕ) (es : List Entry) → P (record { count = 0; rest = s; choices = [] })
    → AllOf P es → P (winner s es)
unfolding winner
winner_keeps P s [] p q = p
winner_keeps P s (e ∷ es) p q = least_all P e es q.0 q.1

taken_le_length : (ms : List Member) → taken_count ms ≤ length ms
unfolding taken_count pick
taken_le_length [] = omega arith
taken_le_length (m ∷ ms) = go m.taken (taken_le_length ms)
  where
    go : (b : Bool) → taken_count ms ≤ length ms → pick b 1 0 + taken_count ms ≤ length (m ∷ ms)
    go true h = omega arith
    go false h = omega arith

-- a run takes at most as many second plans as it has members
pub run_taken : (K : ℕ) (run : List Child) → taken_count (run_of K run) ≤ length run
unfolding run_of
run_taken K run =
    omega (arith, taken_le_length (run_of K run), reduce_length K (map as_member run), length-map run as_member)

staying_within : (K s : ℕ) (k : Child) (ks : List Child)
    → (s + k.rest ≤ K → Within K (length ks) (entry_at K ks (s + k.rest)))
    → AllOf (Within K (suc (length ks))) (staying K s k (entry_at K ks (s + k.rest)))
staying_within K s k ks h =
    staying_all (Within K (suc (length ks))) K s k (entry_at K ks (s + k.rest))
    (λ l. let w = h l in record { rest_high = w.rest_high; count_high = omega (arith, w.count_high) })

running_within : (K n : ℕ) (run : List Child) (e : Entry) → Within K n e → 1 ≤ length run
    → AllOf (Within K (length run + n)) (running K (run_of K run) e)
running_within K n run e w low =
    running_all (Within K (length run + n)) K (run_of K run) e
    (λ l. record { rest_high = w.rest_high; count_high = omega (arith, w.count_high, run_taken K run) })

abbrev EntriesWithin : ℕ → List Child → Type 0
EntriesWithin K ks = (s : ℕ) → s ≤ K → Within K (length ks) (entry_at K ks s)

abbrev StretchesWithin : ℕ → List Child → Type 0
StretchesWithin K ks =
    (s : ℕ) (k : Child) (run : List Child) → s ≤ K
    → AllOf (Within K (length (k ∷ run) + length ks)) (stretched K s (k ∷ run) ks)

within_at : (K n m : ℕ) (es : List Entry) → n ≡ m → AllOf (Within K n) es → AllOf (Within K m) es
within_at K n m es q h = rw q at h

both_within : (K : ℕ) (ks : List Child) → EntriesWithin K ks × StretchesWithin K ks
unfolding entry_at stretched pick
both_within K [] = (λ s h. record { rest_high = h; count_high = omega arith }, λ s k run h. tt)
both_within K (j ∷ ks) = (entries (both_within K ks), stretches (both_within K ks))
  where
    entries : EntriesWithin K ks × StretchesWithin K ks → EntriesWithin K (j ∷ ks)
    entries ih s h =
        let one : List Entry = running K (run_of K (j ∷ [])) (entry_at K ks s) in
        let more : List Entry = stretched K s (j ∷ []) ks in
        let stay : List Entry = staying K s j (entry_at K ks (s + j.rest)) in
        let n : ℕ = suc (length ks) in
        winner_keeps (Within K n) s (stay ++ (one ++ more)) (record { rest_high = h; count_high = omega arith })
        (all_append (Within K n) stay (one ++ more) (staying_within K s j ks (λ l. ih.0 (s + j.rest) l))
        (all_append (Within K n) one more
        (within_at K (1 + length ks) n one (omega arith)
        (running_within K (length ks) (j ∷ []) (entry_at K ks s) (ih.0 s h) (omega arith)))
        (within_at K (1 + length ks) n more (omega arith) (ih.1 s j [] h))))

    stretches : EntriesWithin K ks × StretchesWithin K ks → StretchesWithin K (j ∷ ks)
    stretches ih s k run h = go (stops_at K (k ∷ run)) refl
      where
        go : (b : Bool) → stops_at K (k ∷ run) ≡ b
            → AllOf (Within K (length (k ∷ run) + length (j ∷ ks))) (stretched K s (k ∷ run) (j ∷ ks))
        go true q = rw q tt
        go false q =
            let one : List Entry = running K (run_of K (j ∷ k ∷ run)) (entry_at K ks s) in
            let more : List Entry = stretched K s (j ∷ k ∷ run) ks in
            let n : ℕ = length (k ∷ run) + length (j ∷ ks) in
            let n' : ℕ = length (j ∷ k ∷ run) + length ks in
            rw q
            (all_append (Within K n) one more
            (within_at K n' n one (omega arith)
            (running_within K (length ks) (j ∷ k ∷ run) (entry_at K ks s) (ih.0 s h) (omega arith)))
            (within_at K n' n more (omega arith) (ih.1 s j (k ∷ run) h)))

pub entry_within : (K : ℕ) (ks : List Child) (s : ℕ) → s ≤ K → Within K (length ks) (entry_at K ks s)
entry_within K ks = (both_within K ks).0

-- ---- A cell and its entry

-- a child as its parent may find it: it weighs at most K, and gains no more than it weighs
pub record GoodChild (K : ℕ) (k : Child) : Type 0 where
  pub light : k.rest ≤ K
  pub fits : k.gain ≤ k.rest

unfoldable pub GoodChildren : ℕ → List Child → Type 0
GoodChildren K [] = Unit {0}
GoodChildren K (k ∷ ks) = GoodChild K k × GoodChildren K ks

-- a child that stays has room, and a run that won is within the children
unfoldable pub LengthFits : ℕ → ℕ → List Child → ℕ → Type 0
LengthFits K s [] r = r ≡ 0
LengthFits K s (k ∷ ks) zero = s + k.rest ≤ K
LengthFits K s (k ∷ ks) (suc r) = r ≤ length ks

-- the cell c has the word of the entry e at start s, after the children `all`, and the length of the run that e chose
pub record Agrees (K s : ℕ) (all : List Child) (e : Entry) (c : Cell) : Type 0 where
  pub word : c.word ≡ word_of e
  pub choices : e.choices ≡ rebuilt K c.run all s
  pub high : e.rest ≤ K
  pub length_fits : LengthFits K s all c.run

least_of-append : (e : Entry) (es ds : List Entry) → least_of e (es ++ ds) ≡ least_of (least_of e es) ds
unfolding least_of
least_of-append e [] ds = refl
least_of-append e (d ∷ es) ds = least_of-append (better e d) es ds

pick_agrees : (K s : ℕ) (all : List Child) (e d : Entry) (c : Cell) (len : ℕ) → Agrees K s all e c
    → d.choices ≡ rebuilt K len all s → d.rest ≤ K → LengthFits K s all len → (b : Bool)
    → Agrees K s all (pick b d e) (pick b (record { word = word_of d; run = len }) c)
unfolding pick
pick_agrees K s all e d c len a q h n true = record { word = refl; choices = q; high = h; length_fits = n }
pick_agrees K s all e d c len a q h n false = a

lower_agrees : (K s : ℕ) (all : List Child) (e d : Entry) (c : Cell) (len : ℕ) → K < page_word → Agrees K s all e c
    → d.choices ≡ rebuilt K len all s → d.rest ≤ K → LengthFits K s all len
    → Agrees K s all (better e d) (lower (word_of d) len c)
unfolding better lower
lower_agrees K s all e d c len small a q h n =
    let same : ltb (word_of d) c.word
    ≡ (ltb d.count e.count || (eqb d.count e.count && ltb d.rest e.rest)) =
    rw a.word (word_order d.count e.count d.rest e.rest (omega arith) (omega (arith, a.high))) in
    rw same (pick_agrees K s all e d c len a q h n _)

-- a run of len members ms, after the entry f before it
module _ (K s : ℕ) (all : List Child) (ms : List Member) (len : ℕ) (f : Entry) (before : ℕ)
    (small : K < page_word) (is : before ≡ word_of f) (high : f.rest ≤ K)
    (chosen : reverse (run_choices begins ms) ++ f.choices ≡ rebuilt K len all s) (within : LengthFits K s all len)
  where
    run_word_lem : run_word ms before ≡ (f.count + 1 + taken_count ms) * page_word + f.rest
    run_word_lem = omega arith

    run_agrees : (e : Entry) (c : Cell) → Agrees K s all e c
        → Agrees K s all (least_of e (running K ms f)) (try_run K ms len before c)
    unfolding least_of running try_run pick
    run_agrees e c a = go (leb (rest_sum ms) K) refl
      where
        d : Entry
        d = record {
          count = f.count + 1 + taken_count ms;
          rest = f.rest;
          choices = reverse (run_choices begins ms) ++ f.choices;
        }

        go : (b : Bool) → leb (rest_sum ms) K ≡ b
            → Agrees K s all (least_of e (running K ms f)) (try_run K ms len before c)
        go true q = rw (q, run_word_lem) (lower_agrees K s all e d c len small a chosen high within)
        go false q = rw q a

-- ---- The children of a run

-- the run is the last r + 1 of the children, and ks those before it
record RunOfLast (first : Child) (before : List Child) (r : ℕ) (run ks : List Child) : Type 0 where
  run_is : last_children r (first ∷ []) before ≡ run
  left : drop r before ≡ ks

pub last_children_one : (r : ℕ) (run js : List Child) (k : Child) (ks : List Child) → drop r js ≡ k ∷ ks
    → (last_children (suc r) run js ≡ k ∷ last_children r run js) × (drop (suc r) js ≡ ks)
unfolding last_children
last_children_one zero run [] k ks e = absurd (let z : ◌≡◌ {A = ℕ} 0 1 = cc in omega arith)
last_children_one zero run (j ∷ js) k ks e = (cc, cc)
last_children_one (suc r) run [] k ks e = absurd (let z : ◌≡◌ {A = ℕ} 0 1 = cc in omega arith)
last_children_one (suc r) run (j ∷ js) k ks e = last_children_one r (j ∷ run) js k ks e

run_of_last_more : {first : Child} {before : List Child} {r : ℕ} {run : List Child} {k : Child} {ks : List Child}
    → RunOfLast first before r run (k ∷ ks) → RunOfLast first before (suc r) (k ∷ run) ks
run_of_last_more {first} {before} {r} {run} {k} {ks} p =
    let two = last_children_one r (first ∷ []) before k ks p.left in
    record { run_is = two.0 ∙ ap (λ l. k ∷ l) p.run_is; left = two.1 }

last_children_within : (r : ℕ) (js : List Child) (k : Child) (ks : List Child) → drop r js ≡ k ∷ ks → suc r ≤ length js
last_children_within r js k ks e = omega (arith, ap length e, length-drop r js)

-- ---- The cell of an entry

abbrev CellEntry : ℕ → List Child → Type 0
CellEntry K ks = (s : ℕ) → s ≤ K → GoodChildren K ks → length ks ≤ max_nodes
    → Agrees K s ks (entry_at K ks s) (cell_at K ks s)

abbrev LongerEntry : ℕ → List Child → Type 0
LongerEntry K ks =
    (s : ℕ) → s ≤ K → GoodChildren K ks → length ks ≤ max_nodes
    → (first : Child) (before : List Child) (r : ℕ) (run : List Child) (e : Entry) (c : Cell)
    → RunOfLast first before r run ks → Agrees K s (first ∷ before) e c
    → Agrees K s (first ∷ before) (least_of e (stretched K s run ks)) (longer_runs K s run (suc r) ks c)

-- a child by itself has room
run_alone : (K : ℕ) (k : Child) → k.rest ≤ K → run_of K (k ∷ []) ≡ as_member k ∷ []
unfolding run_of rest_sum as_member
run_alone K k h = reduce_stop K (as_member k ∷ []) (inl (omega arith))

alone_fits : (K : ℕ) (k : Child) → k.rest ≤ K → leb (rest_sum (run_of K (k ∷ []))) K ≡ true
unfolding rest_sum as_member
alone_fits K k h = rw (run_alone K k h) (le-leb (k.rest + 0) K (omega arith))

chosen_run : (K s r : ℕ) (first : Child) (before run ks : List Child) → RunOfLast first before r run ks
    → reverse (run_choices begins (run_of K run)) ++ (entry_at K ks s).choices ≡ rebuilt K (suc r) (first ∷ before) s
unfolding rebuilt
chosen_run K s r first before run ks p = rw (← p.run_is, ← p.left)

-- the candidates of an entry up to the run of the last child alone, and what the longer runs are weighed against
abbrev first_cell : ℕ → Child → List Child → ℕ → Cell
first_cell K k ks s =
    try_run K (run_of K (k ∷ [])) 1 (cell_at K ks s).word (stay_cell K s k.rest (cell_at K ks (s + k.rest)).word)

record FirstCandidates (K s : ℕ) (k : Child) (ks : List Child) : Type 0 where
  entry : Entry
  agrees : Agrees K s (k ∷ ks) entry (first_cell K k ks s)
  then : entry_at K (k ∷ ks) s ≡ least_of entry (stretched K s (k ∷ []) ks)

module _ (K : ℕ) (small : K < page_word) (k : Child) (ks : List Child) (s : ℕ) (high : s ≤ K) (light : k.rest ≤ K)
    (short : length (k ∷ ks) ≤ max_nodes) where
  run_of_one : RunOfLast k ks 0 (k ∷ []) ks
  unfolding last_children
  run_of_one = record { run_is = refl; left = refl }

  one : LengthFits K s (k ∷ ks) 1
  unfolding LengthFits
  one = omega arith

  stay_first : leb (s + k.rest) K ≡ true
      → Agrees K (s + k.rest) ks (entry_at K ks (s + k.rest)) (cell_at K ks (s + k.rest))
      → Agrees K s ks (entry_at K ks s) (cell_at K ks s) → FirstCandidates K s k ks
  unfolding entry_at winner staying stay_cell rebuilt LengthFits pick
  stay_first q f g =
      record {
        entry = least_of (stayed (entry_at K ks (s + k.rest))) (running K (run_of K (k ∷ [])) (entry_at K ks s));
        agrees =
            run_agrees K s (k ∷ ks) (run_of K (k ∷ [])) 1 (entry_at K ks s) (cell_at K ks s).word small g.word
            g.high
            (chosen_run K s 0 k ks (k ∷ []) ks run_of_one)
            one
            (stayed (entry_at K ks (s + k.rest)))
            (stay_cell K s k.rest (cell_at K ks (s + k.rest)).word)
            (record {
              word = rw q f.word;
              choices = refl;
              high = f.high;
              length_fits = leb-true (s + k.rest) K q;
            });
        then = rw q
            (least_of-append (stayed (entry_at K ks (s + k.rest))) (running K (run_of K (k ∷ [])) (entry_at K ks s))
            (stretched K s (k ∷ []) ks));
      }

  run_first : leb (s + k.rest) K ≡ false → Agrees K s ks (entry_at K ks s) (cell_at K ks s) → FirstCandidates K s k ks
  unfolding entry_at winner staying running stay_cell try_run lower pick
  run_first q g =
      let ms : List Member = run_of K (k ∷ []) in
      let f : Entry = entry_at K ks s in
      let is : (cell_at K ks s).word + (1 + taken_count ms) * page_word
      ≡ (f.count + 1 + taken_count ms) * page_word + f.rest = omega (arith, g.word) in
      let less : (f.count + 1 + taken_count ms) * page_word + f.rest < no_word =
      omega (arith, (entry_within K ks s high).count_high, g.high, run_taken K (k ∷ [])) in
      let first-choices = chosen_run K s 0 k ks (k ∷ []) ks run_of_one in
      let agreed : Agrees K s (k ∷ ks) (ran ms f) (record { word = word_of (ran ms f); run = 1 }) =
      record { word = refl; choices = first-choices; high = g.high; length_fits = one } in
      record {
        entry = ran ms f;
        agrees = rw (q, alone_fits K k light, is, lt-ltb _ _ less) agreed;
        then = rw (q, alone_fits K k light);
      }

  cell_first : CellEntry K ks → GoodChildren K ks → FirstCandidates K s k ks
  cell_first ih g = go (leb (s + k.rest) K) refl
    where
      base : Agrees K s ks (entry_at K ks s) (cell_at K ks s)
      base = ih s high g (omega arith)

      go : (b : Bool) → leb (s + k.rest) K ≡ b → FirstCandidates K s k ks
      go true q = stay_first q (ih (s + k.rest) (leb-true (s + k.rest) K q) g (omega arith)) base
      go false q = run_first q base

module _ (K : ℕ) (small : K < page_word) where
  both_cells : (ks : List Child) → CellEntry K ks × LongerEntry K ks
  unfolding entry_at stretched cell_at longer_runs rebuilt least_of GoodChildren LengthFits last_children pick
  both_cells [] = (
    λ s h g l. record { word = omega arith; choices = refl; high = h; length_fits = refl },
    λ s h g l first before r run e c p a. a,
  )
  both_cells (k ∷ ks) = (entries (both_cells ks), longer (both_cells ks))
    where
      entries : CellEntry K ks × LongerEntry K ks → CellEntry K (k ∷ ks)
      entries ih s h g l =
          let first = cell_first K small k ks s h g.0.light l ih.0 g.1 in
          rw first.then
          (ih.1 s h g.1 (omega arith) k ks 0 (k ∷ []) first.entry _ (record { run_is = refl; left = refl })
          first.agrees)

      longer : CellEntry K ks × LongerEntry K ks → LongerEntry K (k ∷ ks)
      longer ih s h g l first before r run e c p a = go (stops_at K run) refl
        where
          next : RunOfLast first before (suc r) (k ∷ run) ks
          next = run_of_last_more p

          base : Agrees K s ks (entry_at K ks s) (cell_at K ks s)
          base = ih.0 s h g.1 (omega arith)

          go : (b : Bool) → stops_at K run ≡ b
              → Agrees K s (first ∷ before) (least_of e (stretched K s run (k ∷ ks)))
              (longer_runs K s run (suc r) (k ∷ ks) c)
          go true q = rw q a
          go false q =
              rw (q, least_of-append e (running K (run_of K (k ∷ run)) (entry_at K ks s)) (stretched K s (k ∷ run) ks))
              (ih.1 s h g.1 (omega arith) first before (suc r) (k ∷ run) _ _ next
              (run_agrees K s (first ∷ before) (run_of K (k ∷ run)) (suc (suc r)) (entry_at K ks s)
              (cell_at K ks s).word small base.word base.high
              (chosen_run K s (suc r) first before (k ∷ run) ks next)
              (last_children_within r before k ks p.left) e c a))

pub cell_entry : (K : ℕ) → K < page_word → (ks : List Child) (s : ℕ) → s ≤ K → GoodChildren K ks → length ks ≤ max_nodes
    → Agrees K s ks (entry_at K ks s) (cell_at K ks s)
cell_entry K small ks = (both_cells K small ks).0
