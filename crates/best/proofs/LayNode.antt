-- The marks of a node's children, from the last back: a child that stays, or a run, each turn. Defines Walking, Found.
-- Proves walk_from, walk_reads, walk_stay, walk_ready, walk_run, walk_less and walk_end. Assumes nothing.
use Prim.Native.Nat.{ℕ, zero, suc, ◌+◌, ◌-◌, ◌*◌, ◌≤◌, ◌<◌}
use mathlib.Core.Path.{◌≡◌, refl, sym, ◌∙◌, ap, ap₂}
use mathlib.Core.Bool.{Bool, true, false, false≢true}
use mathlib.Core.List.{List, [], ◌∷◌, ◌++◌, append_assoc, append-nil}
use mathlib.Core.Logic.{inl, inr}
use native.Mathlib.Omega.{arith}
use native.Mathlib.Nat.{mul-le-mul}
use lib.ListN.{length, get_or, set, drop, length-drop, length-set}
use Rattle.model.specs.Basics.{pick}
use Rattle.model.specs.Table.{max_nodes, max_limit, slots, node_count, limit_of, weight_at}
use Rattle.model.specs.Plan.{parent_at}
use Rattle.model.specs.Steps.{Child, Choice, entry_at, second_start}
use Rattle.theory.specs.SiblingsBack.{ChildOrNone, child_high, SiblingsBefore}
use Rattle.theory.specs.LaidByNumber.{siblings_back, siblings_back_none, siblings_back_cons}
use Rattle.columns.specs.Cells.{last_children, rebuilt, LengthFits, Agrees, stay_choice, cell_at, cell_entry}
use Rattle.columns.specs.CellsArrays.{child_in, children_in, children_none, children_cons, children_length}
use Rattle.columns.specs.CellsArrays.{children_good}
use Rattle.columns.specs.CellsRun.{nth_prev, nth_prev_shift, nth_prev_le, block_at, block_apart}
use Rattle.columns.specs.CellsNode.{child-nth_prev}
use Rattle.best.specs.LayChosen.{chosen_in, choices_for, LaidRun}
use Rattle.best.specs.LayContracts.{run_choices_back, SecondsGain, RunReady, RunDone, start_of, NodeReady, NodeDone}
use Rattle.best.proofs.LayRuns.{children-nth_prev, children_nodes, nth_prev_add, AllNodes, laid_none, laid_one}
use Rattle.best.proofs.LayRuns.{laid_then, seconds_gain_set}
use Rattle.columns.specs.declared.nodes.Nodes.{Nodes}

-- ---- An entry's choices from the length of the run that won

rebuilt_stay : (K s : ℕ) (k : Child) (ks : List Child)
    → rebuilt K 0 (k ∷ ks) s ≡ stay_choice ∷ (entry_at K ks (s + k.rest)).choices
unfolding rebuilt
rebuilt_stay K s k ks = refl

stay_within : (K s : ℕ) (k : Child) (ks : List Child) → LengthFits K s (k ∷ ks) 0 → s + k.rest ≤ K
unfolding LengthFits
stay_within K s k ks h = h

length_within : (K s r : ℕ) (ks : List Child) → LengthFits K s ks r → (r ≡ 0 → ⊥) → r ≤ length ks
unfolding LengthFits
length_within K s r [] h d = absurd (d h)
length_within K s zero (k ∷ ks) h d = absurd (d refl)
length_within K s (suc r) (k ∷ ks) h d = omega (arith, h)

rebuilt_run : (K s r : ℕ) (ks : List Child) → r ≤ length ks → (r ≡ 0 → ⊥)
    → rebuilt K r ks s ≡ run_choices_back K r ks ++ (entry_at K (drop r ks) s).choices
unfolding rebuilt last_children
rebuilt_run K s zero ks h d = absurd (d refl)
rebuilt_run K s (suc r) [] h d = absurd (omega arith)
rebuilt_run K s (suc r) (k ∷ ks) h d = refl

no_choices : (K s : ℕ) → (entry_at K [] s).choices ≡ []
unfolding entry_at
no_choices K s = refl

-- ---- All siblings

choices_all : (t prevs : List ℕ) (ch : ℕ → Choice) (v : ℕ) → SiblingsBefore t prevs → get_or prevs 0 0 ≡ 0 → (n u : ℕ)
    → ChildOrNone t v u → nth_prev prevs n u ≡ 0
    → AllNodes prevs n u → choices_for prevs ch n u ≡ siblings_back t ch u
unfolding choices_for nth_prev
choices_all t prevs ch v before none zero u k e are_nodes = sym (ap (siblings_back t ch) e ∙ siblings_back_none t ch)
choices_all t prevs ch v before none (suc n) u (inl z) e are_nodes = absurd (omega (arith, are_nodes 0 (omega arith)))
choices_all t prevs ch v before none (suc n) u (inr q) e are_nodes =
    ap (λ cs. ch u ∷ cs)
    (choices_all t prevs ch v before none n (get_or prevs u 0)
    (child-nth_prev t prevs before none v 1 u (inr q))
    (sym (nth_prev_shift prevs n u) ∙ e)
    (λ j l. rw (nth_prev_shift prevs j u) at (are_nodes (suc j) (omega arith))))
    ∙ ap (λ w. ch u ∷ siblings_back t ch w) (before u q.0 q.1)
    ∙ sym (siblings_back_cons t ch u q.0)

-- ---- One child or one run a turn

-- the start of node v's plan
abbrev node_start : List ℕ → ℕ → Nodes → List Bool → ℕ
node_start t v nodes seconds = start_of (limit_of t) (weight_at t v) (get_or nodes.rests v 0) (get_or seconds v false)

-- `child` comes before those that were walked; what is left is chosen from the start on
pub record Walking (t : List ℕ) (v : ℕ) (nodes : Nodes) (marks : List ℕ) (seconds : List Bool) (marks' : List ℕ)
    (seconds' : List Bool) (start child : ℕ) : Type 0 where
  pub walked : ℕ
  pub choices : List Choice
  pub at : child ≡ nth_prev nodes.prevs walked (get_or nodes.lasts v 0)
  pub within : walked ≤ length (children_in nodes (get_or nodes.lasts v 0))
  pub laid : LaidRun nodes.prevs walked (get_or nodes.lasts v 0) choices marks seconds marks' seconds'
  pub rest : choices ++ (entry_at (limit_of t) (children_in nodes child) start).choices
      ≡ (entry_at (limit_of t) (children_in nodes (get_or nodes.lasts v 0)) (node_start t v nodes seconds)).choices
  pub low : weight_at t v ≤ start
  pub high : start ≤ limit_of t
  pub seconds_gain : SecondsGain nodes.gains seconds'
  pub wide : length seconds' ≡ slots

-- there is a child, and len is the length of the run that won at the start, 0 where the child stays
pub record Found (t xs : List ℕ) (K start child len : ℕ) : Type 0 where
  pub limit_is : K ≡ limit_of t
  pub some : child ≡ 0 → ⊥
  pub run_is : len ≡ get_or xs (block_at K child + (K + 1) + start) 0

module _ {t : List ℕ} {v : ℕ} {nodes : Nodes} {xs marks : List ℕ} {seconds : List Bool}
    (node : NodeReady t v nodes xs marks seconds) where
  abbrev children : ℕ → List Child
  children u = children_in nodes u

  abbrev limit : ℕ
  limit = limit_of t

  -- v's last child
  abbrev last : ℕ
  last = get_or nodes.lasts v 0

  pub limit_small : limit ≤ max_limit
  limit_small = node.ready.accepted.sound.limit_high

  pub nodes_small : node_count t ≤ max_nodes
  nodes_small = node.ready.accepted.sound.count_high

  start_within : (b : Bool) → get_or seconds v false ≡ b
      → (weight_at t v ≤ start_of limit (weight_at t v) (get_or nodes.rests v 0) b)
      × (start_of limit (weight_at t v) (get_or nodes.rests v 0) b ≤ limit)
  unfolding pick second_start
  start_within true e =
      let s = node.second (node.seconds_gain v e) in
      (omega arith, s)
  start_within false e = (omega arith, node.ready.accepted.light v node.low node.high)

  walk_start : Walking t v nodes marks seconds marks seconds (node_start t v nodes seconds) last
  unfolding nth_prev
  walk_start =
      let s = start_within (get_or seconds v false) refl in
      record {
        walked = 0;
        choices = [];
        at = refl;
        within = omega arith;
        laid = laid_none nodes.prevs last marks seconds;
        rest = refl;
        low = s.0;
        high = s.1;
        seconds_gain = node.seconds_gain;
        wide = node.wide;
      }

  -- from the start as it is found
  pub walk_from : (K start : ℕ) → K ≡ limit
      → start ≡ start_of K (weight_at t v) (get_or nodes.rests v 0) (get_or seconds v false)
      → Walking t v nodes marks seconds marks seconds start last
  walk_from K start e f = rw (f, e) walk_start

  module _ {marks' : List ℕ} {seconds' : List Bool} {start child : ℕ}
      (w : Walking t v nodes marks seconds marks' seconds' start child) where
    walk_child : ChildOrNone t v child
    walk_child = rw w.at (child-nth_prev t nodes.prevs node.ready.before node.ready.none v w.walked last
        node.last_child)

    pub walk_high : child ≤ node_count t
    walk_high = child_high t v child walk_child

    -- the length of the run is within the words
    pub walk_reads : (K block : ℕ) → K ≡ limit → block ≡ block_at K child → block + (K + 1) + start < length xs
    walk_reads K block e f =
        let here : block ≡ block_at limit child = f ∙ ap (λ k. block_at k child) e in
        let apart = block_apart limit child (node_count t + 1) (omega (arith, walk_high)) in
        omega (arith, apart, node.ready.room, w.high, here, e)

    pub block_small : (K block : ℕ) → K ≡ limit → block ≡ block_at K child
        → block + (K + 1) + start < block_at max_limit slots
    block_small K block e f =
        let here : block ≡ block_at limit child = f ∙ ap (λ k. block_at k child) e in
        let most : child * (2 * (limit + 1)) ≤ max_nodes * (2 * (max_limit + 1)) =
        mul-le-mul {n₁ = child} {m₁ = 2 * (limit + 1)} {n₂ = max_nodes} {m₂ = 2 * (max_limit + 1)}
        (omega (arith, walk_high, nodes_small)) (omega (arith, limit_small)) in
        omega (arith, here, e, most, w.high, limit_small)

    are_nodes : (k : ℕ) → w.walked + k ≤ length (children last) → AllNodes nodes.prevs (w.walked + k) last
    are_nodes k h j l = children_nodes nodes node.ready.earlier j last (omega arith)

    left_long : length (children child) + w.walked ≡ length (children last)
    left_long =
        let e : children child ≡ drop w.walked (children last) =
        ap children w.at ∙ children-nth_prev nodes node.ready.earlier w.walked last w.within in
        omega (arith, ap length e, length-drop w.walked (children last), w.within)

    module _ {K len : ℕ} (found : Found t xs K start child len) where
      len_read : len ≡ get_or xs (block_at limit child + (limit + 1) + start) 0
      len_read = found.run_is ∙ ap (λ k. get_or xs (block_at k child + (k + 1) + start) 0) found.limit_is

      one : 1 ≤ child
      one = omega (arith, found.some)

      agrees : Agrees limit start (children child) (entry_at limit (children child) start)
          (cell_at limit (children child) start)
      agrees =
          cell_entry limit (omega (arith, limit_small)) (children child) start w.high
          (children_good limit nodes node.ready.good child)
          (omega (arith, children_length nodes node.ready.earlier child, walk_high, nodes_small))

      len_is : (cell_at limit (children child) start).run ≡ len
      len_is =
          sym
          (len_read
          ∙ ap (λ u. get_or xs (block_at limit u + (limit + 1) + start) 0) w.at
          ∙ ap (λ c. c.run) (node.columns w.walked start w.low w.high)
          ∙ ap (λ u. (cell_at limit (children u) start).run) (sym w.at))

      chosen : (entry_at limit (children child) start).choices ≡ rebuilt limit len (children child) start
      chosen = agrees.choices ∙ ap (λ r. rebuilt limit r (children child) start) len_is

      length_fits : LengthFits limit start (children child) len
      length_fits = rw len_is at agrees.length_fits

      shape : children child ≡ child_in nodes child ∷ children (get_or nodes.prevs child 0)
      shape = children_cons nodes node.ready.earlier child one

      pub prev_less : get_or nodes.prevs child 0 < child
      prev_less = node.ready.earlier child one

      module _ (zeroed : len ≡ 0) where
        pub stay_fits : start + get_or nodes.rests child 0 ≤ limit
        stay_fits =
            stay_within limit start (child_in nodes child) (children (get_or nodes.prevs child 0))
            (rw (zeroed, shape) at length_fits)

        pub walk_stay : (mark : ℕ) → mark ≡ 0
            → Walking t v nodes marks seconds (set marks' (child - 1) mark)
            (set seconds' child false) (start + get_or nodes.rests child 0) (get_or nodes.prevs child 0)
        unfolding nth_prev
        walk_stay mark e =
            let more : w.walked + 1 ≡ suc w.walked = omega arith in
            let X : List Choice = (entry_at limit (children (get_or nodes.prevs child 0)) (start + get_or nodes.rests child 0)).choices in
            let here : stay_choice ∷ X ≡ (entry_at limit (children child) start).choices =
            sym
            (chosen
            ∙ ap₂ (λ r ks. rebuilt limit r ks start) zeroed shape
            ∙ rebuilt_stay limit start (child_in nodes child) (children (get_or nodes.prevs child 0))) in
            let short : child < length seconds' = omega (arith, walk_high, nodes_small, w.wide) in
            let fits : w.walked + 1 ≤ length (children last) = omega (arith, left_long, ap length shape) in
            rw e
            record {
              walked = w.walked + 1;
              choices = w.choices ++ (stay_choice ∷ []);
              at = ap (λ u. get_or nodes.prevs u 0) w.at ∙ sym (ap (λ k. nth_prev nodes.prevs k last) more);
              within = fits;
              laid =
                  laid_then node.ready.earlier (are_nodes 1 fits) w.at w.laid
                  (laid_one nodes.prevs child marks' seconds' 0 false one
                  (omega (arith, walk_high, node.long, w.laid.long)) short);
              rest = append_assoc w.choices (stay_choice ∷ []) X ∙ ap (λ l. w.choices ++ l) here ∙ w.rest;
              low = omega (arith, w.low);
              high = stay_fits;
              seconds_gain = seconds_gain_set nodes.gains seconds' child false short w.seconds_gain
                  (λ e. absurd (false≢true e));
              wide = simp length-set w.wide;
            }

      module _ (run : len ≡ 0 → ⊥) where
        run_within : len ≤ length (children child)
        run_within = length_within limit start len (children child) length_fits run

        pub walk_ready : RunReady K child len nodes marks' seconds'
        walk_ready =
            rw found.limit_is
            record {
              limit_high = limit_small;
              high = omega (arith, walk_high, node.long, w.laid.long);
              short = omega (arith, nodes_small, node.long, w.laid.long);
              wide = w.wide;
              earlier = node.ready.earlier;
              none = node.ready.none;
              good = node.ready.good;
              within = run_within;
              seconds_gain = w.seconds_gain;
            }

        module _ {marks'' : List ℕ} {seconds'' : List Bool} {r : ℕ}
            (given : RunDone K child len nodes marks' seconds' marks'' seconds'' r) where
          done : RunDone limit child len nodes marks' seconds' marks'' seconds'' r
          done = rw found.limit_is at given

          pub walk_less : r < child
          walk_less =
              let e : len ≡ suc (len - 1) = omega arith in
              let l : nth_prev nodes.prevs (len - 1) (get_or nodes.prevs child 0) ≤ get_or nodes.prevs child 0 =
              nth_prev_le nodes.prevs node.ready.earlier node.ready.none (len - 1) (get_or nodes.prevs child 0) in
              let r-is = done.next ∙ ap (λ k. nth_prev nodes.prevs k child) e ∙ nth_prev_shift nodes.prevs (len - 1) child in
              omega (arith, r-is, l, prev_less)

          pub walk_run : Walking t v nodes marks seconds marks'' seconds'' start r
          walk_run =
              let X : List Choice = (entry_at limit (children r) start).choices in
              let before : drop len (children child) ≡ children r =
              sym
              (ap children done.next
              ∙ children-nth_prev nodes node.ready.earlier len child run_within) in
              let here : run_choices_back limit len (children child) ++ X
              ≡ (entry_at limit (children child) start).choices =
              sym
              (chosen
              ∙ rebuilt_run limit start len (children child) run_within run
              ∙ ap (λ ks. run_choices_back limit len (children child) ++ (entry_at limit ks start).choices) before) in
              let fits : w.walked + len ≤ length (children last) = omega (arith, left_long, run_within) in
              record {
                walked = w.walked + len;
                choices = w.choices ++ run_choices_back limit len (children child);
                at = done.next ∙ ap (nth_prev nodes.prevs len) w.at ∙ nth_prev_add nodes.prevs w.walked len last;
                within = fits;
                laid = laid_then node.ready.earlier (are_nodes len fits) w.at w.laid done.laid;
                rest = append_assoc w.choices (run_choices_back limit len (children child)) X
                    ∙ ap (λ l. w.choices ++ l) here ∙ w.rest;
                low = w.low;
                high = w.high;
                seconds_gain = done.seconds_gain;
                wide = done.wide;
              }

    pub walk_end : child ≡ 0 → NodeDone t v nodes marks seconds marks' seconds'
    walk_end z =
        let none : (entry_at limit (children child) start).choices ≡ [] =
        ap (λ ks. (entry_at limit ks start).choices)
        (ap children z ∙ children_none nodes node.ready.earlier)
        ∙ no_choices limit start in
        let all : choices_for nodes.prevs (chosen_in marks' seconds') w.walked last
        ≡ siblings_back t (chosen_in marks' seconds') last =
        choices_all t nodes.prevs (chosen_in marks' seconds') v node.ready.before node.ready.none w.walked last
        node.last_child (sym w.at ∙ z)
        (λ j l. children_nodes nodes node.ready.earlier j last (omega (arith, w.within))) in
        record {
          long = w.laid.long;
          wide = w.wide;
          seconds_gain = w.seconds_gain;
          chosen = sym all ∙ w.laid.chosen ∙ sym (append-nil w.choices) ∙ ap (λ l. w.choices ++ l) (sym none)
              ∙ w.rest;
          others = λ u low h. w.laid.others u low
              (λ i l e. h (parent u low i (child-nth_prev t nodes.prevs node.ready.before node.ready.none v i last
              node.last_child) e));
        }
      where
        parent : (u : ℕ) → 1 ≤ u → (i : ℕ) → ChildOrNone t v (nth_prev nodes.prevs i last) → u ≡ nth_prev nodes.prevs i last
            → parent_at t u ≡ v
        parent u low i (inl y) e = absurd (omega arith)
        parent u low i (inr q) e = rw e q.2
